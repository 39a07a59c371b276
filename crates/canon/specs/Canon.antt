-- The canonical bytes of a message, as the writer makes them from its body: the fields of the table in the order of
-- their numbers, of a singular one the last, of repeated ones each, submessages in the same way. specs of rpc say what
-- these bytes are for the RPC that a body means (`canon-written`).
use Rattle.std.specs.Prelude.{ℕ, zero, suc, ◌+◌, cond, List, [], ◌++◌, eqb, length}
use Rattle.basis.specs.declared.Mode.{Mode}
use Rattle.basis.specs.declared.Dialect.{Dialect}
use Rattle.protobuf.specs.Walk.{Fields, end, refused, ◌then◌, fields_of, between, is_bytes, value_in}
use Rattle.protobuf.specs.Encode.{varint_field, bytes_field}
use Rattle.schema.specs.declared.Kind.{Kind}
use Rattle.schema.specs.declared.Kind.TheVariants as kind
use Rattle.schema.specs.declared.Figure.{Figure}
use Rattle.schema.specs.declared.Figure.TheVariants.{Exact, Flag}
use Rattle.schema.specs.declared.Role.{Role}
use Rattle.schema.specs.declared.Role.TheVariants.{Skip, Number, Text, Bytes, Unsigned, Topic, MessageId, Sub}
use Rattle.schema.specs.declared.Held.{Held}
use Rattle.schema.specs.declared.Held.TheVariants as held
use Rattle.schema.specs.declared.Place.{Place}
use Rattle.schema.specs.declared.Place.TheVariants as place
use Rattle.schema.specs.declared.Number.{Number as Num}
use Rattle.schema.specs.declared.Number.TheVariants as number
use Rattle.schema.specs.declared.Slots.{Slots}
use Rattle.schema.specs.Schema.{table, row_of, held_of}
use Rattle.schema.specs.Slots.{slots_of, has_field}
use Rattle.schema.specs.Kinds.{over_kinds}
use Rattle.rpc.specs.Encode.{sign_prefix}

-- ---- all fields of a message, in the order of their numbers
-- so many parts, from the part n on
abbrev pub in_order : (ℕ → List ℕ) → ℕ → ℕ → List ℕ
in_order part n zero = []
in_order part n (suc c) = part n ++ in_order part (n + 1) c

abbrev pub all_fields : Kind → (ℕ → List ℕ) → List ℕ
all_fields k part = in_order part 1 (length (table k))

-- ---- a singular field
unfoldable pub placed : ℕ → List ℕ → Place → List ℕ
placed n s place.Absent = []
placed n s (place.Present a e) = bytes_field n (between s a e)

unfoldable pub slot_in : ℕ → Slots → Place
slot_in i t = cond (eqb i 1) t.first
    (cond (eqb i 2) t.second (cond (eqb i 3) t.third (cond (eqb i 4) t.fourth t.fifth)))

-- of a flag only whether it is zero is written
abbrev pub figured : Figure → ℕ → ℕ
figured Exact v = v
figured Flag v = cond (eqb v 0) 0 1

unfoldable pub numbered : Figure → ℕ → Num → List ℕ
numbered figure n number.Absent = []
numbered figure n (number.Present v) = varint_field n (figured figure v)

-- what is written of the singular field n
unfoldable pub own_part : Slots → ℕ → List ℕ → Role → List ℕ
own_part t n s Skip = []
own_part t n s (Number figure) = numbered figure n t.number
own_part t n s (Text slot) = placed n s (slot_in slot t)
own_part t n s (Bytes slot) = placed n s (slot_in slot t)
own_part t n s (Unsigned slot) = []
own_part t n s Topic = []
own_part t n s MessageId = []
own_part t n s (Sub k form) = []

-- ---- a repeated field
-- what g makes of each length-delimited field n, one after the other
abbrev pub each_along : (List ℕ → List ℕ) → ℕ → List ℕ → Fields → List ℕ
each_along g n s end = []
each_along g n s (refused why) = []
each_along g n s (f then w) = cond (is_bytes n f) (g (value_in s f)) [] ++ each_along g n s w

abbrev pub each_of : Mode → (List ℕ → List ℕ) → ℕ → List ℕ → List ℕ
each_of mode g n s = each_along g n s (fields_of mode s)

-- what is written of the entries of the field n; `sub` gives the canonical bytes of a submessage
unfoldable pub held_part : Mode → (Kind → List ℕ → List ℕ) → ℕ → List ℕ → Held → List ℕ
held_part mode sub n s held.Nothing = []
held_part mode sub n s held.Whole = each_of mode (bytes_field n) n s
held_part mode sub n s (held.Anew j) = each_of mode (λ p. bytes_field n (sub j p)) n s
held_part mode sub n s (held.Merged j) = []

-- ---- a message
abbrev pub part_with : Mode → (Kind → List ℕ → List ℕ) → Kind → List ℕ → ℕ → List ℕ
part_with mode sub k s n = own_part (slots_of mode k s) n s (row_of k n) ++ held_part mode sub n s (held_of (row_of k n))

abbrev pub canon_step : Mode → (Kind → List ℕ → List ℕ) → Kind → List ℕ → List ℕ
canon_step mode sub k s = all_fields k (part_with mode sub k s)

unfoldable pub canon : Mode → Kind → List ℕ → List ℕ
canon mode k s = over_kinds (canon_step mode) [] k s

-- ---- a body: as a message, and submessages that are merged are one, be it empty
-- the entries m of each submessage n, one submessage after the other
unfoldable pub entries_of : Mode → Kind → ℕ → List ℕ → ℕ → List ℕ
entries_of mode j n s m = each_of mode (λ p. held_part mode (canon mode) m p (held_of (row_of j m))) n s

unfoldable pub merged_of : Mode → Kind → ℕ → List ℕ → List ℕ
merged_of mode j n s = all_fields j (entries_of mode j n s)

unfoldable pub body_part : Mode → List ℕ → ℕ → Held → List ℕ
body_part mode s n held.Nothing = []
body_part mode s n held.Whole = held_part mode (canon mode) n s held.Whole
body_part mode s n (held.Anew j) = held_part mode (canon mode) n s (held.Anew j)
body_part mode s n (held.Merged j) = cond (has_field mode n s) (bytes_field n (merged_of mode j n s)) []

unfoldable pub canon_body : Dialect → List ℕ → List ℕ
canon_body d s =
    all_fields (kind.Rpc d.edition) (λ n. body_part d.mode s n (held_of (row_of (kind.Rpc d.edition) n)))

-- ---- the bytes that are signed, of a message: `libp2p-pubsub:`, then from, data, seqno and every topic
unfoldable pub sign_of : Mode → List ℕ → List ℕ
sign_of mode p = sign_prefix ++ canon mode kind.RawMessage p
