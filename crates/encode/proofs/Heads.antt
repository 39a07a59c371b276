-- What `put_head` answers and leaves, over plain variables: nothing to write, no room, and both varints written.
use Prim.Native.Nat.{ℕ, ◌+◌, ◌*◌, ◌≤◌, ◌<◌}
use mathlib.Core.Path.{◌≡◌, sym, ap, ◌∙◌}
use mathlib.Core.List.{List, [], ◌++◌}
use native.Mathlib.Omega.{arith}
use lib.ListN.{length, length-append}
use lib.Seq.{sets, length-sets}
use lib.Dec.{leb}
use borrow.Author.Tests.{lt-ltb, le-ltb, lt-leb}
use Rattle.basis.specs.Cases.{either}
use Rattle.basis.specs.Writing.{set_in}
use Rattle.basis.specs.Unique.{Leaves}
use Rattle.basis.specs.Lists.{sets-append, set-fits, set-short}
use Rattle.peer_id.specs.Uvarint.{uvarint}
use Rattle.protobuf.specs.Encode.{tag}
use Rattle.encode.specs.Puts.{head_at}

-- no bytes: the place and the buffer as they were
pub nothing_put : (at : ℕ) (out : List ℕ) → Leaves (at + length {A = ℕ} []) (set_in (length {A = ℕ} []) at [] out) at out
unfolding set_in
nothing_put at out =
    record { answer = omega arith; lent = either (leb (at + 0) (length out)) (λ t. rw t) (λ t. rw t) }

pub no_field : (n len at : ℕ) (out : List ℕ) → 536870911 < n
    → Leaves (at + length (head_at n len at)) (set_in (length (head_at n len at)) at (head_at n len at) out) at out
unfolding head_at
no_field n len at out h = rw (lt-ltb 536870911 n h) (nothing_put at out)

pub no_place : (n len at : ℕ) (out : List ℕ) → n ≤ 536870911 → 4611686018427387904 < at
    → Leaves (at + length (head_at n len at)) (set_in (length (head_at n len at)) at (head_at n len at) out) at out
unfolding head_at
no_place n len at out h g = rw (le-ltb 536870911 n h, lt-ltb 4611686018427387904 at g) (nothing_put at out)

module _ (n len at : ℕ) (out : List ℕ) (small : n ≤ 536870911) (near : at ≤ 4611686018427387904) (i end : ℕ)
    (first : i ≡ at + length (uvarint (n * 8 + 2))) (second : end ≡ i + length (uvarint len)) where
  head : head_at n len at ≡ uvarint (n * 8 + 2) ++ uvarint len
  unfolding head_at tag
  head = rw (le-ltb 536870911 n small, le-ltb 4611686018427387904 at near)

  ends : end ≡ at + length (uvarint (n * 8 + 2) ++ uvarint len)
  ends = rw (length-append (uvarint (n * 8 + 2)) (uvarint len)) (omega arith)

  pub head-short : length out < end
      → Leaves (at + length (head_at n len at)) (set_in (length (head_at n len at)) at (head_at n len at) out) end out
  head-short h =
      let l : at + length (uvarint (n * 8 + 2) ++ uvarint len) ≡ end = sym ends in
      rw head
      (record {
        answer = ends;
        lent = sym (set-short (length (uvarint (n * 8 + 2) ++ uvarint len)) at (uvarint (n * 8 + 2) ++ uvarint len) out
            (lt-leb (at + length (uvarint (n * 8 + 2) ++ uvarint len)) (length out) (omega arith)));
      })

  pub head-put : (mid after : List ℕ) → end ≤ length out → mid ≡ set_in (length (uvarint (n * 8 + 2))) at (uvarint (n * 8 + 2)) out
      → after ≡ set_in (length (uvarint len)) i (uvarint len) mid
      → Leaves (at + length (head_at n len at)) (set_in (length (head_at n len at)) at (head_at n len at) out) end after
  head-put mid after h p q =
      let t = uvarint (n * 8 + 2) in
      let l = uvarint len in
      let m : mid ≡ sets out at t = p ∙ set-fits (length t) at t out (omega arith) in
      let k : length mid ≡ length out = ap length m ∙ length-sets out at t in
      let a : after ≡ sets mid i l = q ∙ set-fits (length l) i l mid (omega arith) in
      let b : sets mid i l ≡ sets out at (t ++ l) = rw (m, first) (sym (sets-append out at t l)) in
      let e : at + length (t ++ l) ≡ end = sym ends in
      rw head (record { answer = ends; lent = a ∙ b ∙ sym (set-fits (length (t ++ l)) at (t ++ l) out (omega arith)) })
