-- `inspect::senders::put_peer_id` meets its contract: the case says what is put.
use mathlib.Core.Path.{◌≡◌, sym, ap, ◌∙◌}
use native.Mathlib.Omega.{arith}
use Rattle.std.specs.Prelude.{Option, Some, ℕ, List}
use Rattle.text.specs.Laws.{puts_as}
use Rattle.lines.specs.Laws.{wrote_puts}
use Rattle.peer_id.specs.declared.PeerId.{PeerId}
use Rattle.peer_id.specs.Told.{peer_id_told}
use Rattle.inspect.specs.Senders.{peer_id_text}
use Rattle.inspect.proofs.senders.put_peer_id.Goals as goal

text_of : (s : List ℕ) (p : Option PeerId) {a b : PeerId} → p ≡ Some a → a ≡ b → peer_id_text s (Some b) ≡ peer_id_text s p
text_of s p e f = rw (e, f)

pub returns-in-Some-Identity : goal.returns-in-Some-Identity
unfolding peer_id_text
returns-in-Some-Identity c =
    puts_as (text_of c.args.s.now _ c.in-Some-Identity.is (rw c.in-Some-Identity.is at c.in-Some-Identity.field-0-is)) (omega arith) c.put_digest.ensures

pub returns-in-Some-Sha256 : goal.returns-in-Some-Sha256
unfolding peer_id_text
returns-in-Some-Sha256 c =
    puts_as (text_of c.args.s.now _ c.in-Some-Sha256.is (rw c.in-Some-Sha256.is at c.in-Some-Sha256.field-0-is)) (omega arith) c.put_digest-in-Some-Sha256.ensures

pub returns-in-None : goal.returns-in-None
unfolding peer_id_text
returns-in-None c =
    let e = c.in-None.is in
    puts_as (ap (peer_id_text c.args.s.now) (sym e)) (omega arith)
    (rw (c.told_peer_id.ensures ∙ ap peer_id_told e) at (wrote_puts (omega arith) c.put_refusal.ensures))
