-- The loop of read_uvarint: what it has read so far, and what is left to read.
use Prim.Native.Nat.{ℕ, ◌+◌, ◌*◌, ◌%◌, ◌^◌, ◌<◌, ◌≤◌}
use mathlib.Core.List.{List}
use mathlib.Core.Logic.{◌≢◌}
use mathlib.Core.Path.{◌≡◌, refl}
use native.Mathlib.Numerals.{add-one}
use native.Mathlib.Omega.{arith}
use native.Mathlib.Nat.{mul-add, mul_assoc, mul-le-mul_left, pow-le-pow_right, pow-suc}
use lib.ListN.{length, drop, get_or, drop_of_length-le}
use lib.Seq.{drop-cons}
use lib.Dec.{eqb}
use borrow.Author.Tests.{eqb-true, eqb-false}
use Rattle.std.specs.Prelude.{Result, Ok, Err}
use Rattle.basis.specs.Cases.{either, ok-two}
use Rattle.peer_id.specs.declared.VarintError.TheVariants.{BufferTooShort}
use Rattle.peer_id.specs.declared.Group.{Group}
use Rattle.peer_id.specs.declared.Group.TheVariants as group
use Rattle.peer_id.specs.declared.VarintError.{VarintError}
use Rattle.peer_id.specs.Uvarint.{below, on_group, group_of, read_from, read_uvarint}
use Rattle.peer_id.specs.Laws.{group-last, group-more}

-- v of k bytes, and above it, times w, what the rest gives
abbrev pub shift : ℕ → ℕ → ℕ → Result (ℕ × ℕ) VarintError → Result (ℕ × ℕ) VarintError
shift v w k (Ok (x, n)) = Ok (v + w * x, k + n)
shift v w k (Err why) = Err why

shift_none : (r : Result (ℕ × ℕ) VarintError) → r ≡ shift 0 1 0 r
shift_none (Ok (x, n)) = ok-two (omega arith) (omega arith)
shift_none (Err why) = refl

pub start : (s : List ℕ) → read_uvarint s ≡ shift 0 1 0 (read_from 0 s)
unfolding read_uvarint
start s = shift_none (read_from 0 s)

pub shift-below : (v w k b : ℕ) (r : Result (ℕ × ℕ) VarintError)
    → shift v w k (below b r) ≡ shift (v + w * (b % 128)) (w * 128) (k + 1) r
shift-below v w k b (Ok (x, n)) = ok-two (omega (arith, mul-add w (b % 128) (128 * x), mul_assoc w 128 x)) (omega arith)
shift-below v w k b (Err why) = refl

-- one turn: the byte at k, and what it says
pub turn : (s : List ℕ) (k v w : ℕ) (g : Result Group VarintError) → k < length s → g ≡ group_of k (get_or s k 0)
    → shift v w k (read_from k (drop k s)) ≡ shift v w k (on_group g (get_or s k 0) (read_from (k + 1) (drop (k + 1) s)))
unfolding read_from
turn s k v w g h e = rw (drop-cons s k 0 h, e, add-one k)

-- past the end
pub ended : (s : List ℕ) (k v w : ℕ) → length s ≤ k → shift v w k (read_from k (drop k s)) ≡ Err BufferTooShort
unfolding read_from
ended s k v w h = rw (drop_of_length-le s h)

-- the weight of byte k, at most that of byte n
room : (k n w : ℕ) → w ≡ 128 ^ k → k ≤ n → w ≤ 128 ^ n
room k n w e h = rw e (pow-le-pow_right (omega arith) h)

pub record Fit (v w b : ℕ) : Type 0 where
  pub product : w * b < 2 ^ 64
  pub sum : v + w * b < 2 ^ 64

-- a last byte fits
pub last_fits : (k v w b : ℕ) → k ≤ 9 → w ≡ 128 ^ k → v < w → Ok group.Last ≡ group_of k b → Fit v w b
last_fits k v w b h e l s =
    either (eqb k 9)
    (λ t. let p0 : b < 2 = (group-last k b s).1 (eqb-true k 9 t) in
    let p : b ≤ 1 = omega arith in let q = mul-le-mul_left w p in let r = room k 9 w e h in record { product = omega arith; sum = omega arith })
    (λ t. let p0 : b < 128 = (group-last k b s).0 in let n : k ≢ 9 = eqb-false k 9 t in
    let p : b ≤ 127 = omega arith in let q = mul-le-mul_left w p in let r = room k 8 w e (omega arith) in record { product = omega arith; sum = omega arith })

pub record Grows (k v w b : ℕ) : Type 0 where
  pub under : k < 9
  pub fits : w * (b % 128) < 2 ^ 64
  pub sum : v + w * (b % 128) < w * 128
  pub next : w * 128 ≤ 2 ^ 63
  pub power : w * 128 ≡ 128 ^ (k + 1)

-- a further byte leaves room for the next
pub more-fits : (k v w b : ℕ) → k ≤ 9 → w ≡ 128 ^ k → v < w → Ok group.More ≡ group_of k b → Grows k v w b
more-fits k v w b h e l s =
    let n : k ≢ 9 = (group-more k b s).0 in
    let p : b % 128 ≤ 127 = omega arith in
    let q = mul-le-mul_left w p in
    let r = room k 8 w e (omega arith) in
    record { under = omega arith; fits = omega arith; sum = omega arith; next = omega arith; power = rw (add-one k, pow-suc 128 k, e) }
