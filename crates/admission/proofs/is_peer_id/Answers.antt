-- `admission::is_peer_id` meets its contract.
use Rattle.std.specs.Prelude.{Option, Some, None, true, ◌≡◌, refl}
use Rattle.std.specs.Option.{is_some}
use Rattle.std.proofs.Common.{ap, ◌∙◌}
use Rattle.peer_id.specs.declared.PeerId.{PeerId}
use Rattle.peer_id.specs.declared.PeerId.TheVariants as who
use Rattle.peer_id.specs.PeerId.{from_bytes}
use Rattle.admission.specs.Admission.{by_hash, is_peer_id}
use Rattle.admission.proofs.is_peer_id.Goals as goal

either_hash : (r : Option PeerId) → is_some r ≡ by_hash r true true
either_hash (Some who.Identity) = refl
either_hash (Some who.Sha256) = refl
either_hash None = refl

pub returns : goal.returns
unfolding is_peer_id
returns c = c.is_some.ensures ∙ ap is_some c.from_bytes.ensures ∙ either_hash (from_bytes c.args.sender.now)
