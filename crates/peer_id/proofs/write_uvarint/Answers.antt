-- `peer_id::write_uvarint` meets its contract: measured, then written where it fits.
use Prim.Native.Nat.{ℕ, ◌≤◌, ◌<◌}
use mathlib.Core.Path.{sym, ap, ◌∙◌}
use native.Mathlib.Omega.{arith}
use lib.ListN.{length}
use Rattle.std.specs.Prelude.{Ok, Err}
use Rattle.basis.specs.Writing.{no_room}
use Rattle.basis.specs.Lists.{answer-fits, answer-short, written-fits, written-short}
use Rattle.peer_id.specs.Uvarint.{uvarint}
use Rattle.peer_id.proofs.write_uvarint.Goals as goal

pub returns-then-out-len : goal.returns-then-out-len
returns-then-out-len c =
    let a = c.args in
    let h : length a.out.now < length (uvarint a.value) = omega (arith, c.uvarint_len-len.ensures) in
    record { answer = ap (λ (n : ℕ). Err (no_room n)) c.uvarint_len-len.ensures ∙ sym (answer-short _ _ h); lent = sym (written-short _ _ h) }

pub returns : goal.returns
returns c =
    let a = c.args in
    let h : length (uvarint a.value) ≤ length a.out.now = omega (arith, c.uvarint_len-len.ensures) in
    let e = c.spell_uvarint.ensures in
    record { answer = ap Ok (omega (arith, e.value)) ∙ sym (answer-fits _ _ h); lent = e.out_after ∙ sym (written-fits _ _ h) }
