-- What a refusal with a place tells; which numbers a refusal can have, 1 to 16; which of them reading a field can give, 1
-- to 6, and 14 to 16 where groups are passed over; and that their place lies within the bytes that are read.
use Rattle.std.specs.Prelude.{Result, Ok, Err, Option, Some, None, ℕ, zero, suc, ◌-◌, ◌/◌, ◌≤◌, ◌<◌, ◌≡◌, refl, List, [], ◌∷◌, length, drop, ltb, leb, eqb}
use Rattle.std.proofs.Common.{arith, leb-false}
use Rattle.basis.specs.declared.Mode.{Mode}
use Rattle.basis.specs.declared.Mode.TheVariants.{Plain, Groups}
use Rattle.basis.specs.Cases.{either, clash}
use Rattle.basis.specs.declared.Spot.{Spot}
use Rattle.basis.specs.Spot.{Within}
use Rattle.basis.specs.Told.{values_of}
use Rattle.peer_id.specs.declared.VarintError.{VarintError}
use Rattle.peer_id.specs.declared.VarintError.TheVariants.{BufferTooShort, Overflow, NonCanonical}
use Rattle.peer_id.specs.Uvarint.{read_uvarint}
use Rattle.peer_id.specs.Told.{varint_told}
use Rattle.protobuf.specs.declared.WireError.{WireError}
use Rattle.protobuf.specs.declared.WireError.TheVariants.{Varint, FieldOverflow, UnsupportedWireType}
use Rattle.protobuf.specs.declared.WireError.TheVariants.{InvalidFieldNumber, InvalidUtf8, TooLarge, TooManyRecords}
use Rattle.protobuf.specs.declared.WireError.TheVariants.{EndGroup, GroupDepth, GroupOpen}
use Rattle.protobuf.specs.declared.Refusal.{Refusal}
use Rattle.protobuf.specs.Refusal.{spot_of, placed_as}
use Rattle.protobuf.specs.Told.{refusal_number, refusal_values, refusal_told}
use Rattle.protobuf.specs.Grammar.{max_groups}
use Rattle.protobuf.specs.Laws.{varint_moves, tag_moves, Moves, passed_moves, from_moves, group_moves}
use Rattle.protobuf.specs.Field.{located, and_then, tag_of, read_tag, part_of, read_len, read_varint, skip_fixed, past_value}
use Rattle.protobuf.specs.Field.{skip_value, opened, passed, and_on, in_group, skip_from, skip_group}
use Rattle.protobuf.specs.Field.{skip_field, of_value, of_part, of_skip, read_value, of_tag, read_field}

-- what is told of a refusal: its reason's number and values, whatever its place, and the place
pub told-beside : (r : Refusal) → ((refusal_told r).number ≡ refusal_number r.why)
    × (values_of (refusal_told r) ≡ refusal_values r.why) × ((refusal_told r).spot ≡ r.spot)
told-beside r = (refl, refl, refl)

-- the values of 1 to 7, as they were before there were places
pub values_same : (error : VarintError) (offset size remaining type field : ℕ)
    → (refusal_values (Varint error offset) ≡ [])
    × (refusal_values (FieldOverflow offset size remaining) ≡ offset ∷ size ∷ remaining ∷ [])
    × (refusal_values (UnsupportedWireType type offset) ≡ type ∷ offset ∷ [])
    × (refusal_values (InvalidFieldNumber field offset) ≡ field ∷ offset ∷ [])
    × (refusal_values (InvalidUtf8 offset) ≡ offset ∷ [])
values_same BufferTooShort offset size remaining type field = (refl, refl, refl, refl, refl)
values_same Overflow offset size remaining type field = (refl, refl, refl, refl, refl)
values_same NonCanonical offset size remaining type field = (refl, refl, refl, refl, refl)

pub wire_range : (why : WireError) → (0 < refusal_number why) × (refusal_number why ≤ 16)
wire_range (Varint BufferTooShort offset) = (omega arith, omega arith)
wire_range (Varint Overflow offset) = (omega arith, omega arith)
wire_range (Varint NonCanonical offset) = (omega arith, omega arith)
wire_range (FieldOverflow offset size remaining) = (omega arith, omega arith)
wire_range (UnsupportedWireType type offset) = (omega arith, omega arith)
wire_range (InvalidFieldNumber field offset) = (omega arith, omega arith)
wire_range (InvalidUtf8 offset) = (omega arith, omega arith)
wire_range EndGroup = (omega arith, omega arith)
wire_range GroupDepth = (omega arith, omega arith)
wire_range GroupOpen = (omega arith, omega arith)
wire_range (TooLarge len) = (omega arith, omega arith)
wire_range (TooManyRecords records) = (omega arith, omega arith)

-- 1 to 7 have a place
pub told-place : (why : WireError) (x : Option Spot) → refusal_number why ≤ 7 → placed_as (spot_of why) x ≡ x
told-place (Varint error offset) x h = refl
told-place (FieldOverflow offset size remaining) x h = refl
told-place (UnsupportedWireType type offset) x h = refl
told-place (InvalidFieldNumber field offset) x h = refl
told-place (InvalidUtf8 offset) x h = refl
told-place EndGroup x h = absurd (omega arith)
told-place GroupDepth x h = absurd (omega arith)
told-place GroupOpen x h = absurd (omega arith)
told-place (TooLarge len) x h = absurd (omega arith)
told-place (TooManyRecords records) x h = absurd (omega arith)

-- and 14 to 16 have none
pub told-nowhere : (why : WireError) (x : Option Spot) → 14 ≤ refusal_number why → placed_as (spot_of why) x ≡ None
told-nowhere (Varint BufferTooShort offset) x h = absurd (omega arith)
told-nowhere (Varint Overflow offset) x h = absurd (omega arith)
told-nowhere (Varint NonCanonical offset) x h = absurd (omega arith)
told-nowhere (FieldOverflow offset size remaining) x h = absurd (omega arith)
told-nowhere (UnsupportedWireType type offset) x h = absurd (omega arith)
told-nowhere (InvalidFieldNumber field offset) x h = absurd (omega arith)
told-nowhere (InvalidUtf8 offset) x h = absurd (omega arith)
told-nowhere EndGroup x h = refl
told-nowhere GroupDepth x h = refl
told-nowhere GroupOpen x h = refl
told-nowhere (TooLarge len) x h = refl
told-nowhere (TooManyRecords records) x h = refl

-- the numbers by which a mode refuses a field
pub data OfField : Mode → ℕ → Type 0 where
  low : {mode : Mode} {n : ℕ} → n ≤ 6 → OfField mode n
  of-group : {n : ℕ} → 14 ≤ n → n ≤ 16 → OfField Groups n

varint-small : (v : VarintError) → (varint_told v).number ≤ 6
varint-small BufferTooShort = omega arith
varint-small Overflow = omega arith
varint-small NonCanonical = omega arith

-- the refusals of each reader of so many bytes
record Early (total : ℕ) (why : WireError) : Type 0 where
  small : refusal_number why ≤ 6
  within : Within total (spot_of why)

varint-early : (total at : ℕ) (v : VarintError) → at ≤ total → Early total (Varint v at)
varint-early total at v l = record { small = varint-small v; within = l }

value_after : (total at : ℕ) (r : Result (ℕ × ℕ) VarintError) (why : WireError) → at ≤ total
    → Err why ≡ located at r → Early total why
value_after total at (Err v) why l h = let e : why ≡ Varint v at = cc in rw e (varint-early total at v l)
value_after total at (Ok (x, n)) why l h = clash (cc)

value-early : (s : List ℕ) (at : ℕ) (why : WireError) → at ≤ length s → Err why ≡ read_varint s at
    → Early (length s) why
unfolding read_varint
value-early s at why l h = value_after (length s) at (read_uvarint (drop at s)) why l h

tag-after : (total at : ℕ) (r : Result (ℕ × ℕ) VarintError) (why : WireError) → at ≤ total
    → Err why ≡ and_then (tag_of at) (located at r) → Early total why
tag-after total at (Err v) why l h = let e : why ≡ Varint v at = cc in rw e (varint-early total at v l)
tag-after total at (Ok (x, n)) why l h =
    either (eqb (x / 8) 0) (λ t. let k = simp t at h in let e : why ≡ InvalidFieldNumber (x / 8) at = cc in
    rw e (record { small = omega arith; within = l }))
    (λ t. either (ltb 536870911 (x / 8))
    (λ w. let k = simp (t, w) at h in let e : why ≡ InvalidFieldNumber (x / 8) at = cc in
    rw e (record { small = omega arith; within = l }))
    (λ w. clash (let k = simp (t, w) at h in cc)))

tag-early : (s : List ℕ) (at : ℕ) (why : WireError) → Err why ≡ read_tag s at → Early (length s) why
unfolding read_tag read_varint
tag-early s at why h =
    either (leb (length s) at) (λ t. clash (let k = simp t at h in cc))
    (λ t. let l = leb-false (length s) at t in
    tag-after (length s) at (read_uvarint (drop at s)) why (omega (arith, l)) (simp t at h))

part-after : (s : List ℕ) (at : ℕ) (r : Result (ℕ × ℕ) WireError) (why : WireError) → at ≤ length s
    → r ≡ read_varint s at → Err why ≡ and_then (part_of (length s)) r → Early (length s) why
part-after s at (Err w) why l q h = let e : why ≡ w = cc in rw e (value-early s at w l q)
part-after s at (Ok (x, to)) why l q h =
    let u = varint_moves s at x to q in
    either (ltb (length s - to) x)
    (λ t. let k = simp t at h in let e : why ≡ FieldOverflow to x (length s - to) = cc in
    rw e (record { small = omega arith; within = u.1 }))
    (λ t. clash (let k = simp t at h in cc))

part-early : (s : List ℕ) (at : ℕ) (why : WireError) → at ≤ length s → Err why ≡ read_len s at
    → Early (length s) why
unfolding read_len
part-early s at why l h = part-after s at (read_varint s at) why l refl h

fixed_early : (total at n : ℕ) (why : WireError) → at ≤ total → Err why ≡ skip_fixed total at n
    → Early total why
unfolding skip_fixed
fixed_early total at n why l h =
    either (ltb (total - at) n) (λ t. let k = simp t at h in let e : why ≡ FieldOverflow at n (total - at) = cc in
    rw e (record { small = omega arith; within = l }))
    (λ t. clash (let k = simp t at h in cc))

past_value_lem : (total : ℕ) (r : Result (ℕ × ℕ) WireError) (why : WireError) → (Err why ≡ r → Early total why)
    → Err why ≡ past_value r → Early total why
past_value_lem total (Ok (x, e)) why early h = clash (cc)
past_value_lem total (Err w) why early h = early (cc)

past-early : (s : List ℕ) (at type : ℕ) (why : WireError) → at ≤ length s → Err why ≡ skip_value s at type
    → Early (length s) why
unfolding skip_value
past-early s at type why l h =
    either (eqb type 0) (λ t0. past_value_lem (length s) (read_varint s at) why (value-early s at why l) (simp t0 at h))
    (λ t0. either (eqb type 2)
    (λ t2. past_value_lem (length s) (read_len s at) why (part-early s at why l) (simp (t0, t2) at h))
    (λ t2. either (eqb type 5) (λ t5. fixed_early (length s) at 4 why l (simp (t0, t2, t5) at h))
    (λ t5. either (eqb type 1) (λ t1. fixed_early (length s) at 8 why l (simp (t0, t2, t5, t1) at h))
    (λ t1. let k = simp (t0, t2, t5, t1) at h in let e : why ≡ UnsupportedWireType type at = cc in
    rw e (record { small = omega arith; within = l })))))

-- and of groups
record Given (mode : Mode) (total : ℕ) (why : WireError) : Type 0 where
  number_of : OfField mode (refusal_number why)
  place_in : Within total (spot_of why)

is-early : {total : ℕ} {why : WireError} (mode : Mode) → Early total why → Given mode total why
is-early mode e = record { number_of = low e.small; place_in = e.within }

by_end : (total : ℕ) → Given Groups total EndGroup
by_end total = record { number_of = of-group {n = 14} (omega arith) (omega arith); place_in = tt }

by-depth : (total : ℕ) → Given Groups total GroupDepth
by-depth total = record { number_of = of-group {n = 15} (omega arith) (omega arith); place_in = tt }

by_open : (total : ℕ) → Given Groups total GroupOpen
by_open total = record { number_of = of-group {n = 16} (omega arith) (omega arith); place_in = tt }

module _ (s : List ℕ) (go : ℕ → ℕ → ℕ → Result ℕ WireError) (goes : (l at n : ℕ) (why : WireError) → at ≤ length s
    → Err why ≡ go l at n → Given Groups (length s) why) (moves : Moves s go) where
  opened-given : (l at n : ℕ) (why : WireError) → at ≤ length s → Err why ≡ opened go l at n
      → Given Groups (length s) why
  opened-given zero at n why h q = let e : why ≡ GroupDepth = cc in rw e (by-depth (length s))
  opened-given (suc l) at n why h q = goes l at n why h q

  passed-given : (l at n type : ℕ) (why : WireError) → at ≤ length s → Err why ≡ passed go l s at n type
      → Given Groups (length s) why
  unfolding passed
  passed-given l at n type why h q =
      either (eqb type 3) (λ t3. opened-given l at n why h (simp t3 at q))
      (λ t3. either (eqb type 4)
      (λ t4. let k = simp (t3, t4) at q in let e : why ≡ EndGroup = cc in rw e (by_end (length s)))
      (λ t4. is-early Groups (past-early s at type why h (simp (t3, t4) at q))))

  on_given : (l n : ℕ) (why : WireError) (r : Result ℕ WireError)
      → ((e : ℕ) → Ok e ≡ r → e ≤ length s) → ((w : WireError) → Err w ≡ r → Given Groups (length s) w)
      → Err why ≡ and_on (λ e. go l e n) r → Given Groups (length s) why
  on_given l n why (Ok e) p g q = goes l e n why (p e refl) q
  on_given l n why (Err w) p g q = let e : why ≡ w = cc in rw e (g w refl)

  in_given : (l at n : ℕ) (why : WireError) (r : Result (Option (ℕ × ℕ × ℕ)) WireError) → r ≡ read_tag s at
      → Err why ≡ in_group go l s n r → Given Groups (length s) why
  in_given l at n why (Ok None) q h = let e : why ≡ GroupOpen = cc in rw e (by_open (length s))
  in_given l at n why (Err w) q h = let e : why ≡ w = cc in rw e (is-early Groups (tag-early s at w q))
  in_given l at n why (Ok (Some (m, type, to))) q h =
      let t = tag_moves s at m type to q in
      either (eqb type 4)
      (λ t4. either (eqb m n) (λ u. clash (let k = simp (t4, u) at h in cc))
      (λ u. let k = simp (t4, u) at h in let e : why ≡ EndGroup = cc in rw e (by_end (length s))))
      (λ t4. on_given l n why (passed go l s to m type) (λ e p. (passed_moves s go moves l to m type e p).1)
      (λ w p. passed-given l to m type w t.1 p) (simp t4 at h))

from-given : (k : ℕ) (s : List ℕ) (l at n : ℕ) (why : WireError) → at ≤ length s
    → Err why ≡ skip_from k s l at n
    → Given Groups (length s) why
unfolding skip_from
from-given zero s l at n why h q = let e : why ≡ GroupOpen = cc in rw e (by_open (length s))
from-given (suc k) s l at n why h q =
    in_given s (skip_from k s) (from-given k s) (from_moves k s) l at n why (read_tag s at) refl q

group-given : (s : List ℕ) (l at n : ℕ) (why : WireError) → at ≤ length s → Err why ≡ skip_group l s at n
    → Given Groups (length s) why
unfolding skip_group
group-given s l at n why h q = from-given (suc (length s - at)) s l at n why h q

skip_given : (mode : Mode) (l : ℕ) (s : List ℕ) (at n type : ℕ) (why : WireError) → at ≤ length s
    → Err why ≡ skip_field mode l s at n type → Given mode (length s) why
unfolding skip_field
skip_given Plain l s at n type why h q = is-early Plain (past-early s at type why h q)
skip_given Groups l s at n type why h q =
    passed-given s (λ j. skip_group j s) (group-given s) (group_moves s) l at n type why h q

of_value_lem : (mode : Mode) (s : List ℕ) (n type at : ℕ) (r : Result (ℕ × ℕ) WireError) (why : WireError)
    → at ≤ length s → r ≡ read_varint s at → Err why ≡ of_value n type at r → Given mode (length s) why
of_value_lem mode s n type at (Ok (x, e)) why l q h = clash (cc)
of_value_lem mode s n type at (Err w) why l q h =
    let e : why ≡ w = cc in rw e (is-early mode (value-early s at w l q))

of_part_lem : (mode : Mode) (s : List ℕ) (n type at : ℕ) (r : Result (ℕ × ℕ) WireError) (why : WireError)
    → at ≤ length s → r ≡ read_len s at → Err why ≡ of_part n type at r → Given mode (length s) why
of_part_lem mode s n type at (Ok (a, e)) why l q h = clash (cc)
of_part_lem mode s n type at (Err w) why l q h =
    let e : why ≡ w = cc in rw e (is-early mode (part-early s at w l q))

of_skip_lem : (mode : Mode) (s : List ℕ) (n type at : ℕ) (r : Result ℕ WireError) (why : WireError) → at ≤ length s
    → r ≡ skip_field mode max_groups s at n type → Err why ≡ of_skip n type at r → Given mode (length s) why
of_skip_lem mode s n type at (Ok e) why l q h = clash (cc)
of_skip_lem mode s n type at (Err w) why l q h =
    let e : why ≡ w = cc in rw e (skip_given mode max_groups s at n type w l q)

read-given : (mode : Mode) (s : List ℕ) (n type at : ℕ) (why : WireError) → at ≤ length s
    → Err why ≡ read_value mode s n type at → Given mode (length s) why
unfolding read_value
read-given mode s n type at why l h =
    either (eqb type 0) (λ t0. of_value_lem mode s n type at (read_varint s at) why l refl (simp t0 at h))
    (λ t0. either (eqb type 2) (λ t2. of_part_lem mode s n type at (read_len s at) why l refl (simp (t0, t2) at h))
    (λ t2. of_skip_lem mode s n type at (skip_field mode max_groups s at n type) why l refl (simp (t0, t2) at h)))

of_tag_lem : (mode : Mode) (s : List ℕ) (at : ℕ) (r : Result (Option (ℕ × ℕ × ℕ)) WireError) (why : WireError)
    → r ≡ read_tag s at → Err why ≡ of_tag mode s r → Given mode (length s) why
of_tag_lem mode s at (Ok None) why q h = clash (cc)
of_tag_lem mode s at (Err w) why q h = let e : why ≡ w = cc in rw e (is-early mode (tag-early s at w q))
of_tag_lem mode s at (Ok (Some (n, type, to))) why q h =
    read-given mode s n type to why (tag_moves s at n type to q).1 h

given : (mode : Mode) (s : List ℕ) (at : ℕ) (why : WireError) → Err why ≡ read_field mode s at
    → Given mode (length s) why
unfolding read_field
given mode s at why h = of_tag_lem mode s at (read_tag s at) why refl h

-- a field is refused by one of 1 to 6; where groups are passed over, also by 14 to 16
pub field-early : (mode : Mode) (s : List ℕ) (at : ℕ) (why : WireError) → Err why ≡ read_field mode s at
    → OfField mode (refusal_number why)
field-early mode s at why h = (given mode s at why h).number_of

-- and at a place within the bytes
pub field-within : (mode : Mode) (s : List ℕ) (at : ℕ) (why : WireError) → Err why ≡ read_field mode s at
    → Within (length s) (spot_of why)
field-within mode s at why h = (given mode s at why h).place_in
