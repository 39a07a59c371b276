-- What the pieces of the lines of a body make together.
use Prim.Native.Nat.{ℕ, ◌≤◌, ◌<◌}
use mathlib.Core.Path.{◌≡◌}
use mathlib.Core.List.{List, [], ◌∷◌, ◌++◌}
use mathlib.Core.Logic.{◌≢◌}
use lib.ListN.{length}
use borrow.Author.Tests.{lt-ltb, le-ltb, eq-eqb, ne_eqb}
use Rattle.basis.specs.declared.Told.{Told}
use Rattle.text.specs.Line.{number}
use Rattle.protobuf.specs.Walk.{between}
use Rattle.schema.specs.declared.Place.{Place}
use Rattle.schema.specs.declared.Place.TheVariants as place
use Rattle.schema.specs.declared.Number.{Number}
use Rattle.schema.specs.declared.Number.TheVariants as num
use Rattle.message.specs.declared.Record.{Record}
use Rattle.inspect.specs.Records.{bytes_text, place_text, flag_text, record_text, record_line, decoded_text}

-- ---- a field
pub place-turned : (s : List ℕ) (p : Place) (a e : ℕ) → p ≡ place.Present a e → e < a → 32 ∷ 45 ∷ [] ≡ place_text s p
unfolding place_text
place-turned s p a e q h = rw q (simp (lt-ltb _ _ h))

pub place-past : (s : List ℕ) (p : Place) (a e : ℕ) → p ≡ place.Present a e → a ≤ e → length s < e → 32 ∷ 45 ∷ [] ≡ place_text s p
unfolding place_text
place-past s p a e q h l = rw q (simp (le-ltb _ _ h, lt-ltb _ _ l))

pub place-there : (s : List ℕ) (p : Place) (a e : ℕ) → p ≡ place.Present a e → a ≤ e → e ≤ length s → bytes_text (between s a e) ≡ place_text s p
unfolding place_text
place-there s p a e q h l = rw q (simp (le-ltb _ _ h, le-ltb _ _ l))

pub flag-zero : (x : Number) (v : ℕ) → x ≡ num.Present v → v ≡ 0 → 32 ∷ 48 ∷ [] ≡ flag_text x
unfolding flag_text
flag-zero x v q h = rw q (simp (eq-eqb _ _ h))

pub flag_one : (x : Number) (v : ℕ) → x ≡ num.Present v → v ≢ 0 → 32 ∷ 49 ∷ [] ≡ flag_text x
unfolding flag_text
flag_one x v q h = rw q (simp (ne_eqb _ _ h))

-- ---- a record
pub record_turned : (b : List ℕ) (r : Record) → r.end < r.start → [] ≡ record_line b r
unfolding record_line
record_turned b r h = simp (lt-ltb _ _ h)

pub record_past : (b : List ℕ) (r : Record) → r.start ≤ r.end → length b < r.end → [] ≡ record_line b r
unfolding record_line
record_past b r h l = simp (le-ltb _ _ h, lt-ltb _ _ l)

pub record_there : (b : List ℕ) (r : Record) → r.start ≤ r.end → r.end ≤ length b → record_text r.kind (between b r.start r.end) r.slots ++ (10 ∷ []) ≡ record_line b r
unfolding record_line
record_there b r h l = simp (le-ltb _ _ h, le-ltb _ _ l)

-- ---- what decode told
pub with-control : (t : Told) → t.second ≡ 1
    → (32 ∷ 100 ∷ 101 ∷ 99 ∷ 111 ∷ 100 ∷ 101 ∷ 32 ∷ 111 ∷ 107 ∷ []) ++ (number t.first ++ (32 ∷ 99 ∷ 111 ∷ 110 ∷ 116 ∷ 114 ∷ 111 ∷ 108 ∷ [])) ≡ decoded_text t
unfolding decoded_text
with-control t e = simp (eq-eqb _ _ e)

pub without-control : (t : Told) → t.second ≢ 1
    → (32 ∷ 100 ∷ 101 ∷ 99 ∷ 111 ∷ 100 ∷ 101 ∷ 32 ∷ 111 ∷ 107 ∷ []) ++ (number t.first ++ (32 ∷ 112 ∷ 108 ∷ 97 ∷ 105 ∷ 110 ∷ [])) ≡ decoded_text t
unfolding decoded_text
without-control t e = simp (ne_eqb _ _ e)
