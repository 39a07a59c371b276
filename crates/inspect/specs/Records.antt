-- The lines that answer a body, in ASCII: one for the call, and one for each record. Absent is ` -`; bytes are ` =` and
-- their hex.
use Rattle.std.specs.Prelude.{Option, Some, None, ℕ, List, [], ◌∷◌, ◌++◌, map, true, cond, length, ltb, eqb}
use Rattle.basis.specs.declared.Dialect.{Dialect}
use Rattle.basis.specs.declared.Told.{Told}
use Rattle.text.specs.Line.{decimal, number, hex}
use Rattle.protobuf.specs.Walk.{between}
use Rattle.schema.specs.declared.Kind.{Kind}
use Rattle.schema.specs.declared.Kind.TheVariants as kind
use Rattle.schema.specs.declared.Place.{Place}
use Rattle.schema.specs.declared.Place.TheVariants as place
use Rattle.schema.specs.declared.Number.{Number}
use Rattle.schema.specs.declared.Number.TheVariants as num
use Rattle.schema.specs.declared.Slots.{Slots}
use Rattle.message.specs.declared.Record.{Record}
use Rattle.message.specs.Rows.{rows_of}
use Rattle.lines.specs.Lines.{refusal_line}

-- ---- the fields of a record whose bytes are s
unfoldable pub bytes_text : List ℕ → List ℕ
bytes_text s = 32 ∷ 61 ∷ hex s

-- a place that does not lie within s, which decode never leaves, is as absent
unfoldable pub place_text : List ℕ → Place → List ℕ
place_text s place.Absent = 32 ∷ 45 ∷ []
place_text s (place.Present a e) =
    cond (ltb e a) (32 ∷ 45 ∷ []) (cond (ltb (length s) e) (32 ∷ 45 ∷ []) (bytes_text (between s a e)))

unfoldable pub count_text : Number → List ℕ
count_text num.Absent = 32 ∷ 45 ∷ []
count_text (num.Present v) = number v

-- ` 0`, and for each other value ` 1`
unfoldable pub flag_text : Number → List ℕ
flag_text num.Absent = 32 ∷ 45 ∷ []
flag_text (num.Present v) = cond (eqb v 0) (32 ∷ 48 ∷ []) (32 ∷ 49 ∷ [])

-- ---- a record: two blanks, its word, its fields
-- `  sub`, whether it subscribes, the topic
unfoldable pub sub_text : List ℕ → Slots → List ℕ
sub_text s t = (32 ∷ 32 ∷ 115 ∷ 117 ∷ 98 ∷ []) ++ (flag_text t.number ++ place_text s t.first)

-- `  message`, the whole of it, from, data, seqno, signature, key
unfoldable pub message_text : List ℕ → Slots → List ℕ
message_text s t =
    ((32 ∷ 32 ∷ 109 ∷ 101 ∷ 115 ∷ 115 ∷ 97 ∷ 103 ∷ 101 ∷ []) ++ bytes_text s)
    ++ (place_text s t.first
    ++ (place_text s t.second ++ (place_text s t.third ++ (place_text s t.fourth ++ place_text s t.fifth))))

-- `  prune`, the topic, the backoff
unfoldable pub prune_text : List ℕ → Slots → List ℕ
prune_text s t = ((32 ∷ 32 ∷ 112 ∷ 114 ∷ 117 ∷ 110 ∷ 101 ∷ []) ++ place_text s t.first) ++ count_text t.number

-- `  peer`, the peer's id, its record
unfoldable pub peer_text : List ℕ → Slots → List ℕ
peer_text s t = ((32 ∷ 32 ∷ 112 ∷ 101 ∷ 101 ∷ 114 ∷ []) ++ place_text s t.first) ++ place_text s t.second

-- a topic and a message id: the whole of it. No record is an RPC or a control.
unfoldable pub record_text : Kind → List ℕ → Slots → List ℕ
record_text (kind.Rpc e) s t = 32 ∷ 32 ∷ 114 ∷ 112 ∷ 99 ∷ []
record_text kind.SubOpts s t = sub_text s t
record_text kind.RawMessage s t = message_text s t
record_text kind.Topic s t = (32 ∷ 32 ∷ 116 ∷ 111 ∷ 112 ∷ 105 ∷ 99 ∷ []) ++ bytes_text s
record_text (kind.ControlMessage e) s t = 32 ∷ 32 ∷ 99 ∷ 111 ∷ 110 ∷ 116 ∷ 114 ∷ 111 ∷ 108 ∷ []
record_text kind.ControlIHave s t = (32 ∷ 32 ∷ 105 ∷ 104 ∷ 97 ∷ 118 ∷ 101 ∷ []) ++ place_text s t.first
record_text kind.ControlIWant s t = 32 ∷ 32 ∷ 105 ∷ 119 ∷ 97 ∷ 110 ∷ 116 ∷ []
record_text kind.MessageId s t = (32 ∷ 32 ∷ 105 ∷ 100 ∷ []) ++ bytes_text s
record_text kind.ControlGraft s t = (32 ∷ 32 ∷ 103 ∷ 114 ∷ 97 ∷ 102 ∷ 116 ∷ []) ++ place_text s t.first
record_text kind.ControlPrune s t = prune_text s t
record_text kind.PeerInfo s t = peer_text s t
record_text kind.ControlIDontWant s t = 32 ∷ 32 ∷ 105 ∷ 100 ∷ 111 ∷ 110 ∷ 116 ∷ 119 ∷ 97 ∷ 110 ∷ 116 ∷ []

-- ---- lines
-- a record of a body; nothing where it does not lie within the body, which each does after decode
unfoldable pub record_line : List ℕ → Record → List ℕ
record_line b r =
    cond (ltb r.end r.start) []
    (cond (ltb (length b) r.end) []
    (record_text r.kind (between b r.start r.end) r.slots ++ (10 ∷ [])))

unfoldable pub row_line : List ℕ → Option Record → List ℕ
row_line b None = []
row_line b (Some r) = record_line b r

-- the lines of the records of a body that decode takes
unfoldable pub lines_of : Dialect → List ℕ → List (List ℕ)
lines_of d b = map (record_line b) (rows_of d.mode (kind.Rpc d.edition) 0 b)

-- ` decode ok`, the number of records and ` control` or ` plain`
unfoldable pub decoded_text : Told → List ℕ
decoded_text t =
    (32 ∷ 100 ∷ 101 ∷ 99 ∷ 111 ∷ 100 ∷ 101 ∷ 32 ∷ 111 ∷ 107 ∷ [])
    ++ (number t.first
    ++ cond (eqb t.second 1) (32 ∷ 99 ∷ 111 ∷ 110 ∷ 116 ∷ 114 ∷ 111 ∷ 108 ∷ [])
    (32 ∷ 112 ∷ 108 ∷ 97 ∷ 105 ∷ 110 ∷ []))

-- the line of the input's record n; or ` decode` and a refusal; where the table is short, refusal 12
unfoldable pub decode_line : ℕ → Told → List ℕ
decode_line n t =
    cond (eqb t.number 0) (decimal n ++ (decoded_text t ++ (10 ∷ [])))
    (refusal_line n (32 ∷ 100 ∷ 101 ∷ 99 ∷ 111 ∷ 100 ∷ 101 ∷ []) true t)

-- how many lines of records follow it
unfoldable pub records_in : Told → ℕ
records_in t = cond (eqb t.number 0) t.first 0
