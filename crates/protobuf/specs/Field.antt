-- Reading the fields of a body, with every refusal of the scope's table and its values, in the Rust's reading order. A
-- place past the end answers as the end does. specs/Grammar.antt has the Protocol Buffers document's own words, and
-- specs/Exactly.antt joins the two.
use Rattle.std.specs.Prelude.{Result, Ok, Err, Option, Some, None, ℕ, zero, suc, ◌+◌, ◌-◌, ◌/◌, ◌%◌, List, cond, length, take, drop, ltb, leb, eqb}
use Rattle.basis.specs.declared.Mode.{Mode}
use Rattle.basis.specs.declared.Mode.TheVariants.{Plain, Groups}
use Rattle.peer_id.specs.Uvarint.{read_uvarint}
use Rattle.utf8.specs.Utf8.{is_utf8}
use Rattle.protobuf.specs.declared.WireError.{WireError}
use Rattle.protobuf.specs.declared.WireError.TheVariants.{Varint, FieldOverflow, UnsupportedWireType}
use Rattle.protobuf.specs.declared.WireError.TheVariants.{InvalidFieldNumber, InvalidUtf8, TooLarge}
use Rattle.protobuf.specs.declared.WireError.TheVariants.{EndGroup, GroupDepth, GroupOpen}
use Rattle.peer_id.specs.declared.VarintError.{VarintError}
use Rattle.protobuf.specs.declared.Field.{Field}
use Rattle.protobuf.specs.declared.Refusal.{Refusal}
use Rattle.protobuf.specs.declared.Walked.{Walked}
use Rattle.protobuf.specs.Refusal.{here, nowhere}
use Rattle.protobuf.specs.Grammar.{max_groups}

-- a varint at a place: its value and the place after it; its refusal points at the place
abbrev pub located : ℕ → Result (ℕ × ℕ) VarintError → Result (ℕ × ℕ) WireError
located at (Ok (x, n)) = Ok (x, at + n)
located at (Err error) = Err (Varint error at)

unfoldable pub read_varint : List ℕ → ℕ → Result (ℕ × ℕ) WireError
read_varint s at = located at (read_uvarint (drop at s))

-- what f makes of the two numbers that were read
abbrev pub and_then : {A : Type 0} → (ℕ → ℕ → Result A WireError) → Result (ℕ × ℕ) WireError → Result A WireError
and_then f (Ok (x, y)) = f x y
and_then f (Err why) = Err why

-- a tag's low three bits are the wire type, the rest is the field number, 1 to 536870911; 6 points at the tag
abbrev pub tag_of : ℕ → ℕ → ℕ → Result (Option (ℕ × ℕ × ℕ)) WireError
tag_of at x next =
    cond (eqb (x / 8) 0) (Err (InvalidFieldNumber (x / 8) at))
    (cond (ltb 536870911 (x / 8)) (Err (InvalidFieldNumber (x / 8) at)) (Ok (Some (x / 8, x % 8, next))))

unfoldable pub read_tag : List ℕ → ℕ → Result (Option (ℕ × ℕ × ℕ)) WireError
read_tag s at = cond (leb (length s) at) (Ok None) (and_then (tag_of at) (read_varint s at))

-- a length that ends at `start`, of `total` bytes in all; 4 points after the length
abbrev pub part_of : ℕ → ℕ → ℕ → Result (ℕ × ℕ) WireError
part_of total size start = cond (ltb (total - start) size) (Err (FieldOverflow start size (total - start)))
    (Ok (start, start + size))

unfoldable pub read_len : List ℕ → ℕ → Result (ℕ × ℕ) WireError
read_len s at = and_then (part_of (length s)) (read_varint s at)

-- bytes that must be UTF-8; 7 points at the length
abbrev pub string_of : List ℕ → ℕ → Result (ℕ × ℕ) WireError → Result (ℕ × ℕ) WireError
string_of s at (Ok (a, e)) = cond (is_utf8 (take (e - a) (drop a s))) (Ok (a, e)) (Err (InvalidUtf8 at))
string_of s at (Err why) = Err why

unfoldable pub read_string : List ℕ → ℕ → Result (ℕ × ℕ) WireError
read_string s at = string_of s at (read_len s at)

-- n bytes at a place; 4 points at it
unfoldable pub skip_fixed : ℕ → ℕ → ℕ → Result ℕ WireError
skip_fixed total at n = cond (ltb (total - at) n) (Err (FieldOverflow at n (total - at))) (Ok (at + n))

-- the second of them: the place after a value, or after a part
abbrev pub past_value : Result (ℕ × ℕ) WireError → Result ℕ WireError
past_value (Ok (x, next)) = Ok next
past_value (Err why) = Err why

-- past a value that is no group; 5 points after the tag
unfoldable pub skip_value : List ℕ → ℕ → ℕ → Result ℕ WireError
skip_value s at type =
    cond (eqb type 0) (past_value (read_varint s at))
    (cond (eqb type 2) (past_value (read_len s at))
    (cond (eqb type 5) (skip_fixed (length s) at 4)
    (cond (eqb type 1) (skip_fixed (length s) at 8)
    (Err (UnsupportedWireType type at)))))

-- ---- groups. `go l at n` passes the fields of a group n from `at`, and its end tag, where l groups more may open
-- a start tag: 15 where no group more may open
abbrev pub opened : (ℕ → ℕ → ℕ → Result ℕ WireError) → ℕ → ℕ → ℕ → Result ℕ WireError
opened go zero at n = Err GroupDepth
opened go (suc l) at n = go l at n

-- past the value of a field n, a group or not: 14 at an end tag, as no group is open here that it could end
unfoldable pub passed : (ℕ → ℕ → ℕ → Result ℕ WireError) → ℕ → List ℕ → ℕ → ℕ → ℕ → Result ℕ WireError
passed go l s at n type =
    cond (eqb type 3) (opened go l at n) (cond (eqb type 4) (Err EndGroup) (skip_value s at type))

-- and then on, where it is passed
abbrev pub and_on : (ℕ → Result ℕ WireError) → Result ℕ WireError → Result ℕ WireError
and_on go (Ok e) = go e
and_on go (Err why) = Err why

-- in a group n, from a tag on: 16 at the end, 14 at an end tag of another number
abbrev pub in_group : (ℕ → ℕ → ℕ → Result ℕ WireError) → ℕ → List ℕ → ℕ → Result (Option (ℕ × ℕ × ℕ)) WireError
    → Result ℕ WireError
in_group go l s n (Ok None) = Err GroupOpen
in_group go l s n (Err why) = Err why
in_group go l s n (Ok (Some (m, type, to))) =
    cond (eqb type 4) (cond (eqb m n) (Ok to) (Err EndGroup))
    (and_on (λ e. go l e n) (passed go l s to m type))

-- the first number only bounds the recursion: each tag takes a byte, so one more than the bytes left is always enough
unfoldable pub skip_from : ℕ → List ℕ → ℕ → ℕ → ℕ → Result ℕ WireError
skip_from zero s l at n = Err GroupOpen
skip_from (suc k) s l at n = in_group (skip_from k s) l s n (read_tag s at)

unfoldable pub skip_group : ℕ → List ℕ → ℕ → ℕ → Result ℕ WireError
skip_group l s at n = skip_from (suc (length s - at)) s l at n

-- past the value of a field n, where l groups more may open
unfoldable pub skip_field : Mode → ℕ → List ℕ → ℕ → ℕ → ℕ → Result ℕ WireError
skip_field Plain l s at n type = skip_value s at type
skip_field Groups l s at n type = passed (λ j. skip_group j s) l s at n type

-- ---- a field, with its value
abbrev pub of_value : ℕ → ℕ → ℕ → Result (ℕ × ℕ) WireError → Result (Option Field) WireError
of_value n type at (Ok (x, next)) =
    Ok (Some (record { field = n; wire_type = type; tag_end = at; value = x; start = next; next = next }))
of_value n type at (Err why) = Err why

abbrev pub of_part : ℕ → ℕ → ℕ → Result (ℕ × ℕ) WireError → Result (Option Field) WireError
of_part n type at (Ok (a, e)) =
    Ok (Some (record { field = n; wire_type = type; tag_end = at; value = e - a; start = a; next = e }))
of_part n type at (Err why) = Err why

abbrev pub of_skip : ℕ → ℕ → ℕ → Result ℕ WireError → Result (Option Field) WireError
of_skip n type at (Ok e) =
    Ok (Some (record { field = n; wire_type = type; tag_end = at; value = 0; start = at; next = e }))
of_skip n type at (Err why) = Err why

unfoldable pub read_value : Mode → List ℕ → ℕ → ℕ → ℕ → Result (Option Field) WireError
read_value mode s n type at =
    cond (eqb type 0) (of_value n type at (read_varint s at))
    (cond (eqb type 2) (of_part n type at (read_len s at)) (of_skip n type at (skip_field mode max_groups s at n type)))

abbrev pub of_tag : Mode → List ℕ → Result (Option (ℕ × ℕ × ℕ)) WireError → Result (Option Field) WireError
of_tag mode s (Ok None) = Ok None
of_tag mode s (Err why) = Err why
of_tag mode s (Ok (Some (n, type, at))) = read_value mode s n type at

unfoldable pub read_field : Mode → List ℕ → ℕ → Result (Option Field) WireError
read_field mode s at = of_tag mode s (read_tag s at)

-- ---- the host's walk: a tag and what it skips, of a body of at most 65,536 bytes
abbrev pub walk_skip : ℕ → ℕ → ℕ → Result ℕ WireError → Result (Option Walked) Refusal
walk_skip n type at (Ok e) = Ok (Some (record { field = n; wire_type = type; tag_end = at; next = record { at = e } }))
walk_skip n type at (Err why) = Err (here why)

abbrev pub walk_tag : Mode → List ℕ → Result (Option (ℕ × ℕ × ℕ)) WireError → Result (Option Walked) Refusal
walk_tag mode s (Ok None) = Ok None
walk_tag mode s (Err why) = Err (here why)
walk_tag mode s (Ok (Some (n, type, at))) = walk_skip n type at (skip_field mode max_groups s at n type)

unfoldable pub walk_step : Mode → List ℕ → ℕ → Result (Option Walked) Refusal
walk_step mode s at = cond (ltb 65536 (length s)) (Err (nowhere (TooLarge (length s))))
    (walk_tag mode s (read_tag s at))
