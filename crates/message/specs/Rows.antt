-- The records of a message, in the order in which its bytes have them, each before what stands inside it; and how a
-- record stands in the lent table: twenty words. What is absent is zeros; a place that is present is 1, its start and
-- its end, and a number 1 and its value.
use Rattle.std.specs.Prelude.{Option, Some, None, ℕ, ◌+◌, ◌*◌, ◌/◌, List, [], ◌∷◌, ◌++◌, cond, length, get_or, eqb, leb}
use Rattle.basis.specs.declared.Mode.{Mode}
use Rattle.basis.specs.declared.Edition.TheVariants.{V11}
use Rattle.protobuf.specs.declared.Field.{Field}
use Rattle.protobuf.specs.Walk.{Fields, end, refused, ◌then◌, fields_of, between}
use Rattle.schema.specs.declared.Kind.{Kind}
use Rattle.schema.specs.declared.Kind.TheVariants as kind
use Rattle.schema.specs.declared.Role.{Role}
use Rattle.schema.specs.declared.Role.TheVariants.{Skip, Number, Text, Bytes, Unsigned, Topic, MessageId, Sub}
use Rattle.schema.specs.declared.Place.{Place}
use Rattle.schema.specs.declared.Place.TheVariants as place
use Rattle.schema.specs.declared.Number.{Number as Num}
use Rattle.schema.specs.declared.Number.TheVariants as number
use Rattle.schema.specs.declared.Slots.{Slots}
use Rattle.message.specs.declared.Record.{Record}
use Rattle.schema.specs.Schema.{role_of, own_of}
use Rattle.schema.specs.Kinds.{over_kinds}
use Rattle.schema.specs.Slots.{no_slots, slots_of}
use Rattle.schema.specs.Made.{number_from, place_from}

-- ---- the records
-- a topic or a message id: only its place
abbrev pub bare_row : Kind → ℕ → ℕ → Record
bare_row k a e = record { kind = k; start = a; end = e; slots = no_slots }

abbrev pub leaf_row : Kind → ℕ → Field → Record
leaf_row k base f = bare_row k (base + f.start) (base + f.next)

-- one field of a message whose bytes begin at base; `sub` gives the records of a submessage
abbrev pub role_rows : (Kind → ℕ → List ℕ → List Record) → ℕ → List ℕ → Field → Role → List Record
role_rows sub base s f Skip = []
role_rows sub base s f (Number figure) = []
role_rows sub base s f (Text slot) = []
role_rows sub base s f (Bytes slot) = []
role_rows sub base s f (Unsigned slot) = []
role_rows sub base s f Topic = leaf_row kind.Topic base f ∷ []
role_rows sub base s f MessageId = leaf_row kind.MessageId base f ∷ []
role_rows sub base s f (Sub k form) = sub k (base + f.start) (between s f.start f.next)

abbrev pub rows_along : (Kind → ℕ → List ℕ → List Record) → Kind → ℕ → List ℕ → Fields → List Record
rows_along sub k base s end = []
rows_along sub k base s (refused why) = []
rows_along sub k base s (f then w) = role_rows sub base s f (role_of k f.field f.wire_type)
    ++ rows_along sub k base s w

-- the message's own record, where its kind has one
unfoldable pub own_rows : Mode → Kind → ℕ → List ℕ → List Record
own_rows mode k base s =
    cond (eqb (own_of k) 0) [] (record { kind = k; start = base; end = base + length s; slots = slots_of mode k s } ∷ [])

-- a message that stands at a base, with what stands inside it
abbrev pub rows_step : Mode → (Kind → ℕ × List ℕ → List Record) → Kind → ℕ × List ℕ → List Record
rows_step mode sub k x = own_rows mode k x.0 x.1
    ++ rows_along (λ j b p. sub j (b, p)) k x.0 x.1 (fields_of mode x.1)

unfoldable pub rows_of : Mode → Kind → ℕ → List ℕ → List Record
rows_of mode k base s = over_kinds (rows_step mode) [] k (base, s)

-- one field of a message of kind k
unfoldable pub field_rows : Mode → Kind → ℕ → List ℕ → Field → List Record
field_rows mode k base s f = role_rows (rows_of mode) base s f (role_of k f.field f.wire_type)

-- ---- a record in the table
unfoldable pub kind_code : Kind → ℕ
kind_code (kind.Rpc e) = 0
kind_code kind.SubOpts = 1
kind_code kind.RawMessage = 2
kind_code kind.Topic = 3
kind_code (kind.ControlMessage e) = 4
kind_code kind.ControlIHave = 5
kind_code kind.ControlIWant = 6
kind_code kind.MessageId = 7
kind_code kind.ControlGraft = 8
kind_code kind.ControlPrune = 9
kind_code kind.PeerInfo = 10
kind_code kind.ControlIDontWant = 11

unfoldable pub number_words : Num → List ℕ
number_words number.Absent = 0 ∷ 0 ∷ []
number_words (number.Present v) = 1 ∷ v ∷ []

unfoldable pub place_words : Place → List ℕ
place_words place.Absent = 0 ∷ 0 ∷ 0 ∷ []
place_words (place.Present a e) = 1 ∷ a ∷ e ∷ []

unfoldable pub places_words : Slots → List ℕ
places_words t =
    place_words t.first
    ++ (place_words t.second ++ (place_words t.third ++ (place_words t.fourth ++ place_words t.fifth)))

unfoldable pub words_of : Record → List ℕ
words_of r = (kind_code r.kind ∷ r.start ∷ r.end ∷ []) ++ (number_words r.slots.number ++ places_words r.slots)

abbrev pub words_of_all : List Record → List ℕ
words_of_all [] = []
words_of_all (r ∷ rs) = words_of r ++ words_of_all rs

-- ---- and read back: no record has the codes 0 and 4, and for these it is the first edition
unfoldable pub kind_from : ℕ → Kind
kind_from c =
    cond (eqb c 1) kind.SubOpts
    (cond (eqb c 2) kind.RawMessage
    (cond (eqb c 3) kind.Topic
    (cond (eqb c 4) (kind.ControlMessage V11)
    (cond (eqb c 5) kind.ControlIHave
    (cond (eqb c 6) kind.ControlIWant
    (cond (eqb c 7) kind.MessageId
    (cond (eqb c 8) kind.ControlGraft
    (cond (eqb c 9) kind.ControlPrune
    (cond (eqb c 10) kind.PeerInfo
    (cond (eqb c 11) kind.ControlIDontWant (kind.Rpc V11)))))))))))

-- the record that stands in a table from word i on
unfoldable pub record_from : List ℕ → ℕ → Record
record_from t i =
    record {
      kind = kind_from (get_or t i 0);
      start = get_or t (i + 1) 0;
      end = get_or t (i + 2) 0;
      slots =
          record {
            number = number_from (get_or t (i + 3) 0) (get_or t (i + 4) 0);
            first = place_from (get_or t (i + 5) 0) (get_or t (i + 6) 0) (get_or t (i + 7) 0);
            second = place_from (get_or t (i + 8) 0) (get_or t (i + 9) 0) (get_or t (i + 10) 0);
            third = place_from (get_or t (i + 11) 0) (get_or t (i + 12) 0) (get_or t (i + 13) 0);
            fourth = place_from (get_or t (i + 14) 0) (get_or t (i + 15) 0) (get_or t (i + 16) 0);
            fifth = place_from (get_or t (i + 17) 0) (get_or t (i + 18) 0) (get_or t (i + 19) 0);
          };
    }

-- the record at a row; a table holds only whole rows
unfoldable pub record_at : List ℕ → ℕ → Option Record
record_at t row = cond (leb (length t / 20) row) None (Some (record_from t (row * 20)))
