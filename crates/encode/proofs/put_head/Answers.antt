-- `encode::put_head` meets its contract: both varints are measured, and written where they fit.
use Prim.Native.Nat.{ℕ, ◌+◌, ◌*◌}
use mathlib.Core.Path.{ap}
use mathlib.Core.Logic.{inl, inr}
use native.Mathlib.Omega.{arith}
use Rattle.peer_id.specs.Laws.{at_most_ten}
use Rattle.encode.proofs.Heads.{no_field, no_place, head-short, head-put}
use Rattle.encode.proofs.put_head.Goals as goal

pub returns-then-n-gt-MAX_FIELD_NUMBER : goal.returns-then-n-gt-MAX_FIELD_NUMBER
returns-then-n-gt-MAX_FIELD_NUMBER c =
    let a = c.args in
    elim c.then-n-gt-MAX_FIELD_NUMBER.either [ inl h ↦ no_field a.n a.len a.at a.out.now h | inr h ↦ no_place a.n a.len a.at a.out.now (omega arith) (omega arith) ]

pub overflow_add-i : goal.overflow_add-i
overflow_add-i c =
    let a = c.args in
    omega (arith, c.uvarint_len.ensures, at_most_ten (a.n * 8 + 2) (omega arith))

pub overflow_add-end : goal.overflow_add-end
overflow_add-end c =
    let a = c.args in
    omega (
      arith,
      c.uvarint_len.ensures,
      c.uvarint_len-2.ensures,
      at_most_ten (a.n * 8 + 2) (omega arith),
      at_most_ten a.len
          (omega arith),
    )

pub returns-then-out-end : goal.returns-then-out-end
returns-then-out-end c =
    let a = c.args in
    head-short a.n a.len a.at a.out.now (omega arith) (omega arith) _ _ (ap (λ (k : ℕ). a.at + k)
    c.uvarint_len.ensures) (ap (λ (k : ℕ). (a.at + c.uvarint_len.result) + k)
    c.uvarint_len-2.ensures) (omega arith)

pub returns : goal.returns
returns c =
    let a = c.args in
    head-put a.n a.len a.at a.out.now (omega arith) (omega arith) _ _ (ap (λ (k : ℕ). a.at + k)
    c.uvarint_len.ensures) (ap (λ (k : ℕ).
    (a.at + c.uvarint_len.result) + k)
    c.uvarint_len-2.ensures) _ _ (omega arith)
    c.put_uvarint.ensures.lent c.put_uvarint-2.ensures.lent
