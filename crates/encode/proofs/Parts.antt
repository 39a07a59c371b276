-- The canonical bytes by cases, as the writers go: what a number, a place, a field, a row of the table and a step of the walk stand for.
use Prim.Native.Nat.{ℕ, suc, ◌+◌, ◌-◌, ◌*◌, ◌≤◌, ◌<◌}
use mathlib.Core.Path.{◌≡◌, refl, sym, ap, ◌∙◌}
use mathlib.Core.List.{List, [], ◌++◌, append_assoc}
use mathlib.Core.Bool.{true, false, cond}
use native.Mathlib.Omega.{arith}
use native.Mathlib.Nat.{zero-add}
use lib.ListN.{length, length-append}
use Rattle.std.specs.Prelude.{Some, None, Ok, Err}
use Rattle.basis.specs.declared.Mode.{Mode}
use Rattle.basis.specs.declared.Mode.TheVariants.{Groups}
use Rattle.basis.specs.declared.Edition.{Edition}
use Rattle.basis.specs.declared.Edition.TheVariants.{V11, V12}
use Rattle.basis.specs.Writing.{answer, written}
use Rattle.basis.specs.Lists.{answer-fits, answer-short, written-fits, written-short}
use Rattle.peer_id.specs.Uvarint.{uvarint}
use Rattle.protobuf.specs.declared.Field.{Field}
use Rattle.protobuf.specs.declared.WireError.{WireError}
use Rattle.protobuf.specs.Field.{read_field}
use Rattle.protobuf.specs.Laws.{field-stands}
use Rattle.protobuf.specs.Walk.{walk_at, between, is_bytes, value_in}
use Rattle.protobuf.specs.WalkLaws.{between-length, walk_on}
use Rattle.protobuf.specs.Encode.{tag, varint_field, bytes_field}
use Rattle.protobuf.specs.EncodeLaws.{tag-varint, field-holds}
use Rattle.schema.specs.declared.Kind.{Kind}
use Rattle.schema.specs.declared.Kind.TheVariants as kind
use Rattle.schema.specs.declared.Figure.{Figure}
use Rattle.schema.specs.declared.Held.{Held}
use Rattle.schema.specs.declared.Held.TheVariants as held
use Rattle.schema.specs.declared.Place.{Place}
use Rattle.schema.specs.declared.Place.TheVariants as place
use Rattle.schema.specs.declared.Number.{Number as Num}
use Rattle.schema.specs.declared.Number.TheVariants as number
use Rattle.schema.specs.Schema.{added_in, table, row_of, held_of, rank}
use Rattle.schema.specs.SchemaLaws.{held-rank}
use Rattle.schema.specs.declared.Role.{Role}
use Rattle.schema.specs.declared.Slots.{Slots}
use Rattle.basis.specs.Writing.{no_room}
use Rattle.schema.specs.Slots.{slots_of}
use Rattle.schema.specs.Count.{FieldWithin}
use Rattle.canon.specs.Canon.{in_order, placed, figured, numbered, own_part, each_along, held_part, part_with, canon}
use Rattle.encode.specs.Puts.{Puts, Fits, Going, going-none, going-fits, going-part, puts_none, puts_short, puts_same, puts_append, fits-same, fits-first, fits_next}

-- ---- one field
pub number-none : (figure : Figure) (n : ℕ) (x : Num) → x ≡ number.Absent → numbered figure n x ≡ []
unfolding numbered
number-none figure n x e = rw e

pub number_is : (figure : Figure) (n v w : ℕ) (x : Num) → x ≡ number.Present v → w ≡ figured figure v → numbered figure n x ≡ uvarint (n * 8) ++ uvarint w
unfolding numbered varint_field
number_is figure n v w x e h = rw (e, h) (ap (λ (t : List ℕ). t ++ uvarint (figured figure v)) (tag-varint n))

pub field_is : (n len : ℕ) (d : List ℕ) → len ≡ length d → bytes_field n d ≡ (tag n 2 ++ uvarint len) ++ d
unfolding bytes_field
field_is n len d e = rw e (sym (append_assoc (tag n 2) (uvarint (length d)) d))

-- a field of s that is written as it stands
pub whole_is : (n : ℕ) (s : List ℕ) (f : Field) → is_bytes n f ≡ true
    → cond (is_bytes n f) (bytes_field n (value_in s f)) [] ≡ (tag n 2 ++ uvarint (length (value_in s f))) ++ value_in s f
whole_is n s f t = simp t (field_is n (length (value_in s f)) (value_in s f) refl)

pub place_none : (n : ℕ) (s : List ℕ) (p : Place) → p ≡ place.Absent → placed n s p ≡ []
unfolding placed
place_none n s p e = rw e

pub part-is : (n a e : ℕ) (s : List ℕ) → a ≤ e → e ≤ length s → bytes_field n (between s a e) ≡ (tag n 2 ++ uvarint (e - a)) ++ between s a e
part-is n a e s h l =
    field_is n (e - a) (between s a e) (sym (between-length s a e l))

pub place_is : (n a e : ℕ) (s : List ℕ) (p : Place) → p ≡ place.Present a e → a ≤ e → e ≤ length s → placed n s p ≡ (tag n 2 ++ uvarint (e - a)) ++ between s a e
unfolding placed
place_is n a e s p q h l = rw q (part-is n a e s h l)

-- a field that is length-delimited and has the number n, and those that are not
module _ (n : ℕ) (f : Field) (xs : List ℕ) where
  pub field-yes : is_bytes n f ≡ true → cond (is_bytes n f) xs [] ≡ xs
  field-yes t = simp t

  pub field-no : is_bytes n f ≡ false → (out : List ℕ) (at : ℕ) → Puts out at (cond (is_bytes n f) xs []) out at
  field-no t out at = simp t (puts_none out at)

-- ---- the rows of the table
-- an edition adds at most one, and a message has at most six
added-few : (e : Edition) → length (added_in e) ≤ 1
added-few V11 = omega arith
added-few V12 = omega arith

pub few-rows : (k : Kind) → length (table k) ≤ 6
few-rows (kind.Rpc e) = omega arith
few-rows kind.SubOpts = omega arith
few-rows kind.RawMessage = omega arith
few-rows kind.Topic = omega arith
few-rows (kind.ControlMessage e) = omega (arith, added-few e)
few-rows kind.ControlIHave = omega arith
few-rows kind.ControlIWant = omega arith
few-rows kind.MessageId = omega arith
few-rows kind.ControlGraft = omega arith
few-rows kind.ControlPrune = omega arith
few-rows kind.PeerInfo = omega arith
few-rows kind.ControlIDontWant = omega arith

-- the parts of a message from the part n on
abbrev pub rows_from : (ℕ → List ℕ) → Kind → ℕ → List ℕ
rows_from part k n = in_order part n (length (table k) + 1 - n)

rows_step : (part : ℕ → List ℕ) (k : Kind) (n : ℕ) → n ≤ length (table k) → rows_from part k n ≡ part n ++ rows_from part k (n + 1)
rows_step part k n h =
    let e : length (table k) + 1 - n ≡ suc (length (table k) + 1 - (n + 1)) = omega arith in
    ap (in_order part n) e

rows_end : (part : ℕ → List ℕ) (k : Kind) (n : ℕ) → length (table k) < n → rows_from part k n ≡ []
rows_end part k n h = let e : length (table k) + 1 - n ≡ 0 = omega arith in ap (in_order part n) e

pub rows_all : (part : ℕ → List ℕ) (k : Kind) → in_order part 1 (length (table k)) ≡ rows_from part k 1
rows_all part k = let e : length (table k) ≡ length (table k) + 1 - 1 = omega arith in ap (in_order part 1) e

-- one turn of a loop over the parts
module _ (part : ℕ → List ℕ) (k : Kind) (out₀ all out : List ℕ) (at end n : ℕ) (w : Going out₀ at all out end (rows_from part k n)) where
  pub rows-done : length (table k) < n → Puts out₀ at all out end
  rows-done h = going-none _ _ _ _ _ _ w (rows_end part k n h)

  module _ (h : n ≤ length (table k)) where
    pub rows-fits : Fits end (part n)
    rows-fits = going-fits _ _ _ _ _ _ w _ _ (rows_step part k n h)

    pub rows-turn : (mid : List ℕ) (j : ℕ) → Puts out end (part n) mid j → Going out₀ at all mid j (rows_from part k (n + 1))
    rows-turn mid j p = going-part _ _ _ _ _ _ w _ _ (rows_step part k n h) mid j p

-- how deep entries are looked into: less deep than the message that they stand in
abbrev pub depth : Held → ℕ
depth held.Nothing = 0
depth held.Whole = 0
depth (held.Anew j) = 5 * rank j + 4
depth (held.Merged j) = 0

depth-of : (k : Kind) (n : ℕ) (h : Held) → held_of (row_of k n) ≡ h → depth h < 5 * rank k + 1
depth-of k n held.Nothing e = omega arith
depth-of k n held.Whole e = omega arith
depth-of k n (held.Anew j) e = let l = held-rank k j n e in omega arith
depth-of k n (held.Merged j) e = omega arith

pub depth-rank : (k : Kind) (n : ℕ) (h : Held) → h ≡ held_of (row_of k n) → depth h < 5 * rank k + 1
depth-rank k n h e = depth-of k n h (sym e)

-- what is written of entries, by how they are written
pub held-is : (mode : Mode) (n : ℕ) (s : List ℕ) (h x : Held) → h ≡ x → held_part mode (canon mode) n s h ≡ held_part mode (canon mode) n s x
held-is mode n s h x e = ap (held_part mode (canon mode) n s) e

-- a row: its singular field, and where that ends its entries; t are the slots, r the role and h how entries are written
module _ (mode : Mode) (t : Slots) (k : Kind) (s : List ℕ) (n : ℕ) (r : Role) (q : t ≡ slots_of mode k s) (e : r ≡ row_of k n) where
  own_same : own_part (slots_of mode k s) n s (row_of k n) ≡ own_part t n s r
  own_same = rw (q, e)

  pub own-fits : (at : ℕ) → Fits at (own_part (slots_of mode k s) n s (row_of k n)) → Fits at (own_part t n s r)
  own-fits at f = fits-same at _ _ own_same f

  module _ (h : Held) (x : h ≡ held_of (row_of k n)) {out mid : List ℕ} {at i : ℕ} (p : Puts out at (own_part t n s r) mid i) where
    own_puts : Puts out at (own_part (slots_of mode k s) n s (row_of k n)) mid i
    own_puts = puts_same out at _ _ mid i (sym own_same) p

    pub held_fits : Fits at (part_with mode (canon mode) k s n) → Fits i (held_part mode (canon mode) n s h)
    held_fits f = fits-same i _ _ (ap (held_part mode (canon mode) n s) (sym x)) (fits_next out mid at i _ _ own_puts f)

    pub row_puts : {after : List ℕ} {end : ℕ} → Puts mid i (held_part mode (canon mode) n s h) after end → Puts out at (part_with mode (canon mode) k s n) after end
    row_puts {after} {end} z = puts_append out mid after at i end _ _ own_puts (puts_same mid i _ _ after end (ap (held_part mode (canon mode) n s) x) z)

-- ---- a step of the walk
module _ (g : List ℕ → List ℕ) (n : ℕ) (s out₀ all out : List ℕ) (at end i : ℕ) (w : Going out₀ at all out end (each_along g n s (walk_at Groups s i))) where
  pub walk-end : Ok None ≡ read_field Groups s i → Puts out₀ at all out end
  walk-end e = going-none _ _ _ _ _ _ w (ap (each_along g n s) (walk_on Groups s i (Ok None) e))

  pub walk-refused : (why : WireError) → Err why ≡ read_field Groups s i → Puts out₀ at all out end
  walk-refused why e = going-none _ _ _ _ _ _ w (ap (each_along g n s) (walk_on Groups s i (Err why) e))

  module _ (f : Field) (e : Ok (Some f) ≡ read_field Groups s i) where
    each-field : each_along g n s (walk_at Groups s i) ≡ cond (is_bytes n f) (g (value_in s f)) [] ++ each_along g n s (walk_at Groups s f.next)
    each-field = ap (each_along g n s) (walk_on Groups s i (Ok (Some f)) e)

    pub walk-within : FieldWithin s f
    walk-within = let m = field-stands Groups s i f e in record { order = m.ends; fits = m.within }

    pub walk-moves : length s - f.next < length s - i
    walk-moves = let m = field-stands Groups s i f e in omega (arith, m.ends, m.within)

    pub walk-fits : Fits end (cond (is_bytes n f) (g (value_in s f)) [])
    walk-fits = going-fits _ _ _ _ _ _ w _ _ each-field

    pub walk-turn : (mid : List ℕ) (j : ℕ) → Puts out end (cond (is_bytes n f) (g (value_in s f)) []) mid j
        → Going out₀ at all mid j (each_along g n s (walk_at Groups s f.next))
    walk-turn mid j p = going-part _ _ _ _ _ _ w _ _ each-field mid j p

-- ---- a field n that holds d, whose length was measured: a head, and d where it ends
module _ (n : ℕ) (xs d : List ℕ) (at : ℕ) (y : xs ≡ bytes_field n d) (h : Fits at xs) where
  pub measure_fits : Fits 0 d
  measure_fits = let w = fits-same at _ _ y h in let l = field-holds n d in omega arith

  module _ (none after : List ℕ) (len : ℕ) (m : Puts none 0 d after len) where
    made_is : xs ≡ (tag n 2 ++ uvarint len) ++ d
    made_is = y ∙ field_is n len d (m.ends ∙ zero-add (length d))

    whole-fits : Fits at ((tag n 2 ++ uvarint len) ++ d)
    whole-fits = fits-same at _ _ made_is h

    pub head-fits : Fits at (tag n 2 ++ uvarint len)
    head-fits = fits-first at (tag n 2 ++ uvarint len) d whole-fits

    module _ (out mid : List ℕ) (i : ℕ) (g : Puts out at (tag n 2 ++ uvarint len) mid i) where
      pub value-fits : Fits i d
      value-fits = fits_next out mid at i (tag n 2 ++ uvarint len) d g whole-fits

      pub sum_fits : i + len ≤ 4611686018427387904
      sum_fits = let v = value-fits in omega (arith, m.ends)

      pub field_puts : (end : ℕ) (last : List ℕ) → Puts mid i d last end → Puts out at xs last end
      field_puts end last v = puts_same out at _ _ last end (sym made_is) (puts_append out mid last at i end (tag n 2 ++ uvarint len) d g v)

      pub field-short : length mid ≡ length out → length mid < i + len → Puts out at xs mid (i + len)
      field-short k z =
          puts_same out at _ _ mid (i + len) (sym made_is)
          (puts_short out at ((tag n 2 ++ uvarint len) ++ d) mid (i + len) (omega (arith, m.ends, g.ends, length-append (tag n 2 ++ uvarint len) d)) (omega arith))

-- ---- bytes xs that were measured: there is no room for them, or they were put at the front
module _ (xs out : List ℕ) (needed : ℕ) (e : needed ≡ length xs) where
  pub too_short : length out < needed → (Err (no_room needed) ≡ answer xs out) × (out ≡ written xs out)
  too_short h =
      let k : length out < length xs = omega arith in
      (ap (λ (k : ℕ). Err (no_room k)) e ∙ sym (answer-short xs out k), sym (written-short xs out k))

  pub all-put : needed ≤ length out → (after : List ℕ) (end : ℕ) → Puts out 0 xs after end → (Ok needed ≡ answer xs out) × (after ≡ written xs out)
  all-put h after end r =
      let k : length xs ≤ length out = omega arith in
      (ap Ok e ∙ sym (answer-fits xs out k), r.holds (omega arith) ∙ sym (written-fits xs out k))

pub measured : (xs out after : List ℕ) (end : ℕ) → Puts out 0 xs after end → end ≡ length xs
measured xs out after end r = r.ends ∙ zero-add (length xs)
