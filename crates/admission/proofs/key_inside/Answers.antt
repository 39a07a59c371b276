-- `admission::key_inside` meets its contract.
use Rattle.std.specs.Prelude.{◌≡◌, Some}
use Rattle.std.proofs.Common.{sym, ap, ◌∙◌, rules}
use Rattle.peer_id.specs.PeerId.{from_bytes}
use Rattle.peer_id.specs.declared.PeerId.TheVariants as who
use Rattle.admission.specs.Admission.{is_key}
use Rattle.admission.proofs.Turns.{has-digest, inside_case, digest-part}
use Rattle.admission.proofs.key_inside.Goals.{In-Some-Identity}
use Rattle.admission.proofs.key_inside.Goals as goal

identity : (c : In-Some-Identity) → Some who.Identity ≡ from_bytes c.args.sender.now
identity c = ap Some (sym c.in-Some-Identity.field-0-is) ∙ c.in-Some-Identity.ensures

pub slice_bounds-is_key-count : goal.slice_bounds-is_key-count
slice_bounds-is_key-count c = has-digest _ (identity c)

pub slice_bounds-is_key-start : goal.slice_bounds-is_key-start
slice_bounds-is_key-start c = let h = has-digest _ (identity c) in search rules

pub returns-in-Some-Identity : goal.returns-in-Some-Identity
returns-in-Some-Identity c =
    c.is_key.ensures ∙ ap is_key (digest-part c.args.sender.now)
    ∙ inside_case _ _ (identity (goal.at.returns-in-Some-Identity c).In-Some-Identity)

pub returns-in-Some-Sha256 : goal.returns-in-Some-Sha256
returns-in-Some-Sha256 c = inside_case _ _ (ap Some (sym c.in-Some-Sha256.field-0-is) ∙ c.in-Some-Sha256.ensures)

pub returns-in-None : goal.returns-in-None
returns-in-None c = inside_case _ _ c.in-None.ensures
