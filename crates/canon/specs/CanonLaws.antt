-- Laws of the canonical bytes: a message's are those of its fields, and of its submessages in the same way; and what
-- its slots hold stands in it.
use Rattle.std.specs.Prelude.{ℕ, zero, suc, ◌+◌, ◌≡◌, refl, cond, List, [], ◌++◌, eqb, length}
use Rattle.std.proofs.Common.{ap, ap₂}
use Rattle.basis.specs.declared.Mode.{Mode}
use Rattle.basis.specs.Cases.{either}
use Rattle.protobuf.specs.Walk.{Fields, end, refused, ◌then◌, fields_of, is_bytes, value_in}
use Rattle.protobuf.specs.Encode.{bytes_field}
use Rattle.schema.specs.declared.Kind.{Kind}
use Rattle.schema.specs.declared.Held.{Held}
use Rattle.schema.specs.declared.Held.TheVariants as held
use Rattle.schema.specs.declared.Slots.{Slots}
use Rattle.schema.specs.Schema.{table, row_of, held_of}
use Rattle.schema.specs.SchemaLaws.{held-rank}
use Rattle.schema.specs.Kinds.{unfolds}
use Rattle.schema.specs.Slots.{slots_of}
use Rattle.schema.specs.SlotsLaws.{PlaceInside, SlotsInside}
use Rattle.canon.specs.Canon.{in_order, all_fields, slot_in, own_part, each_along, held_part, part_with}
use Rattle.canon.specs.Canon.{canon_step, canon}

-- ---- a message's canonical bytes are those of its fields
pub same-order : (f g : ℕ → List ℕ) → ((n : ℕ) → f n ≡ g n) → (n c : ℕ) → in_order f n c ≡ in_order g n c
same-order f g h n zero = refl
same-order f g h n (suc c) = ap₂ (λ (x y : List ℕ). x ++ y) (h n) (same-order f g h (n + 1) c)

pub same-each : (g h : List ℕ → List ℕ) (n : ℕ) (s : List ℕ) (w : Fields) → ((p : List ℕ) → g p ≡ h p)
    → each_along g n s w ≡ each_along h n s w
same-each g h n s end e = refl
same-each g h n s (refused why) e = refl
same-each g h n s (f then w) e = ap₂ (λ (x y : List ℕ). cond (is_bytes n f) x [] ++ y) (e (value_in s f))
    (same-each g h n s w e)

same-held : (mode : Mode) (f g : Kind → List ℕ → List ℕ) (n : ℕ) (s : List ℕ) (h : Held)
    → ((j : Kind) (p : List ℕ) → h ≡ held.Anew j → f j p ≡ g j p) → held_part mode f n s h ≡ held_part mode g n s h
unfolding held_part
same-held mode f g n s held.Nothing e = refl
same-held mode f g n s held.Whole e = refl
same-held mode f g n s (held.Anew j) e =
    same-each (λ p. bytes_field n (f j p)) (λ p. bytes_field n (g j p)) n s (fields_of mode s)
    (λ p. ap (bytes_field n) (e j p refl))
same-held mode f g n s (held.Merged j) e = refl

pub canon-fields : (mode : Mode) (k : Kind) (s : List ℕ) → canon mode k s ≡ all_fields k (part_with mode (canon mode) k s)
unfolding canon
canon-fields mode k s =
    unfolds (canon_step mode) []
    (λ f g j p h. same-order (part_with mode f j p) (part_with mode g j p)
    (λ n. ap (λ (x : List ℕ). own_part (slots_of mode j p) n p (row_of j n) ++ x)
    (same-held mode f g n p (held_of (row_of j n))
    (λ i q e. h i q (held-rank j i n e)))) 1 (length (table j)))
    k s

-- ---- a slot's place lies within the message
pub slot_inside : (s : List ℕ) (t : Slots) (slot : ℕ) → SlotsInside s t → PlaceInside s (slot_in slot t)
unfolding slot_in
slot_inside s t slot g =
    either (eqb slot 1) (λ a. simp a g.first)
    (λ a. either (eqb slot 2) (λ b. simp (a, b) g.second)
    (λ b. either (eqb slot 3) (λ c. simp (a, b, c) g.third)
    (λ c. either (eqb slot 4) (λ d. simp (a, b, c, d) g.fourth)
    (λ d. simp (a, b, c, d) g.fifth))))
