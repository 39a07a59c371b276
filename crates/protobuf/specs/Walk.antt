-- The walk of a body: its fields one after the other, up to the end or to what refuses the body. It is written once
-- over the step, and every submessage's decoder goes along it.
use Rattle.std.specs.Prelude.{Result, Ok, Err, Option, Some, None, ℕ, zero, suc, ◌+◌, ◌-◌, ◌*◌, List, [], ◌∷◌, Bool, cond, ◌&&◌, length, take, drop, eqb}
use Rattle.basis.specs.declared.Mode.{Mode}
use Rattle.peer_id.specs.Uvarint.{uvarint}
use Rattle.protobuf.specs.declared.WireError.{WireError}
use Rattle.protobuf.specs.declared.Field.{Field}
use Rattle.protobuf.specs.Field.{read_field}
use Rattle.protobuf.specs.Grammar.{Payload, number, eight, bytes, group, four, Entry}

infixr 20 ◌then◌
pub data Fields : Type 0 where
  end : Fields
  refused : WireError → Fields
  ◌then◌ : Field → Fields → Fields

-- a step, and the walk from the next place
abbrev pub on_step : (ℕ → Fields) → Result (Option Field) WireError → Fields
on_step go (Ok None) = end
on_step go (Err why) = refused why
on_step go (Ok (Some f)) = f then go f.next

-- the first number only bounds the recursion: each field takes a byte, so one more than the bytes left is always enough
unfoldable pub walk_from : ℕ → Mode → List ℕ → ℕ → Fields
walk_from zero mode s at = end
walk_from (suc n) mode s at = on_step (walk_from n mode s) (read_field mode s at)

unfoldable pub walk_at : Mode → List ℕ → ℕ → Fields
walk_at mode s at = walk_from (suc (length s - at)) mode s at

abbrev pub fields_of : Mode → List ℕ → Fields
fields_of mode s = walk_at mode s 0

-- fields and then the end
abbrev pub whole : List Field → Fields
whole [] = end
whole (f ∷ fs) = f then whole fs

-- the bytes of s from a up to e
abbrev pub between : List ℕ → ℕ → ℕ → List ℕ
between s a e = take (e - a) (drop a s)

-- where the fields of a group end: before its end tag
abbrev pub group_end : Field → ℕ
group_end f = f.next - length (uvarint (f.field * 8 + 4))

-- what a field of s holds
unfoldable pub payload_of : List ℕ → Field → Payload
payload_of s f =
    cond (eqb f.wire_type 0) (number f.value)
    (cond (eqb f.wire_type 2) (bytes (between s f.start f.next))
    (cond (eqb f.wire_type 3) (group (between s f.start (group_end f)))
    (cond (eqb f.wire_type 5) (four (between s f.start f.next))
    (eight (between s f.start f.next)))))

unfoldable pub entry_of : List ℕ → Field → Entry
entry_of s f = record { field = f.field; payload = payload_of s f }

abbrev pub entries_of : List ℕ → List Field → List Entry
entries_of s [] = []
entries_of s (f ∷ fs) = entry_of s f ∷ entries_of s fs

-- a field is length-delimited and has the number m; or it is a varint with that number
abbrev pub is_bytes : ℕ → Field → Bool
is_bytes m f = eqb f.wire_type 2 && eqb f.field m

abbrev pub is_number : ℕ → Field → Bool
is_number m f = eqb f.wire_type 0 && eqb f.field m

-- the bytes of a length-delimited field
abbrev pub value_in : List ℕ → Field → List ℕ
value_in s f = between s f.start f.next
