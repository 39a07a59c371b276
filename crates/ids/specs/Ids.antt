-- One message of a body, and its id: what `message_id` answers and leaves. Refusals come in the order of the scope's
-- table: 10, 1 to 7 and 14 to 16, 11, 20, 21, 22, 23, 12.
use Rattle.std.specs.Prelude.{Result, Ok, Err, ℕ, ◌+◌, ◌-◌, List, ◌++◌, Bool, true, false, cond, ◌||◌, ltb, eqb}
use Rattle.basis.specs.declared.Mode.{Mode}
use Rattle.basis.specs.declared.Dialect.{Dialect}
use Rattle.protobuf.specs.Walk.{Fields, end, refused, ◌then◌, fields_of, between, is_bytes}
use Rattle.schema.specs.declared.Kind.TheVariants as kind
use Rattle.schema.specs.declared.Place.{Place}
use Rattle.schema.specs.declared.Place.TheVariants as place
use Rattle.basis.specs.Writing.{answer, written}
use Rattle.basis.specs.declared.ShortRoom.{ShortRoom}
use Rattle.ids.specs.declared.IdError.TheVariants as noid
use Rattle.ids.specs.declared.IdError.{IdError}
use Rattle.ids.specs.declared.MessageError.TheVariants as mess
use Rattle.ids.specs.declared.MessageError.{MessageError}
use Rattle.protobuf.specs.declared.Refusal.{Refusal}
use Rattle.schema.specs.Accept.{accept_of}
use Rattle.schema.specs.Slots.{slots_of}

-- ---- the message at an index: length-delimited fields 2, counted from 0; or how many there are
abbrev pub message_along : ℕ → ℕ → Fields → Result (ℕ × ℕ) ℕ
message_along i n end = Err n
message_along i n (refused why) = Err n
message_along i n (f then w) = cond (is_bytes 2 f) (cond (eqb n i) (Ok (f.start, f.next)) (message_along i (n + 1) w))
    (message_along i n w)

unfoldable pub message_at : Mode → List ℕ → ℕ → Result (ℕ × ℕ) ℕ
message_at mode s i = message_along i 0 (fields_of mode s)

-- ---- an id: from and seqno, of 1 to 64 bytes each
abbrev pub on_seqno : ℕ → ℕ → Place → Result ((ℕ × ℕ) × (ℕ × ℕ)) IdError
on_seqno a e place.Absent = Err noid.InvalidSeqno
on_seqno a e (place.Present b f) = cond (eqb (f - b) 0 || ltb 64 (f - b)) (Err noid.InvalidSeqno) (Ok ((a, e), (b, f)))

abbrev pub on_from : Place → Place → Result ((ℕ × ℕ) × (ℕ × ℕ)) IdError
on_from place.Absent q = Err noid.MissingFrom
on_from (place.Present a e) q = cond (eqb (e - a) 0 || ltb 64 (e - a)) (Err (noid.InvalidFrom (e - a))) (on_seqno a e q)

-- where from and seqno stand in a message, or why it has no id
unfoldable pub id_parts : Mode → List ℕ → Result ((ℕ × ℕ) × (ℕ × ℕ)) IdError
id_parts mode p = on_from (slots_of mode kind.RawMessage p).first (slots_of mode kind.RawMessage p).third

-- ---- what is answered and left
abbrev pub of_written : Result ℕ ShortRoom → Result ℕ MessageError
of_written (Ok n) = Ok n
of_written (Err short) = Err (mess.Room short.needed)

-- why a message without an id is refused
abbrev pub without_id : IdError → MessageError
without_id noid.MissingFrom = mess.MissingFrom
without_id (noid.InvalidFrom n) = mess.InvalidFrom n
without_id noid.InvalidSeqno = mess.InvalidSeqno

-- the id's bytes, of a message p
abbrev pub id_bytes : List ℕ → ℕ → ℕ → ℕ → ℕ → List ℕ
id_bytes p a e b f = between p a e ++ between p b f

-- the id after some bytes: none, or the mark byte under which it is seen
abbrev pub answer_id : List ℕ → List ℕ → List ℕ → Result ((ℕ × ℕ) × (ℕ × ℕ)) IdError → Result ℕ MessageError
answer_id pre p out (Err why) = Err (without_id why)
answer_id pre p out (Ok ((a, e), (b, f))) = of_written (answer (pre ++ id_bytes p a e b f) out)

abbrev pub left_id : List ℕ → List ℕ → List ℕ → Result ((ℕ × ℕ) × (ℕ × ℕ)) IdError → List ℕ
left_id pre p out (Err why) = out
left_id pre p out (Ok ((a, e), (b, f))) = written (pre ++ id_bytes p a e b f) out

abbrev pub answer_at : Mode → List ℕ → List ℕ → List ℕ → Result (ℕ × ℕ) ℕ → Result ℕ MessageError
answer_at mode pre s out (Err n) = Err (mess.NoMessage n)
answer_at mode pre s out (Ok (a, e)) = answer_id pre (between s a e) out (id_parts mode (between s a e))

abbrev pub left_at : Mode → List ℕ → List ℕ → List ℕ → Result (ℕ × ℕ) ℕ → List ℕ
left_at mode pre s out (Err n) = out
left_at mode pre s out (Ok (a, e)) = left_id pre (between s a e) out (id_parts mode (between s a e))

abbrev pub answer_checked : Mode → List ℕ → List ℕ → ℕ → List ℕ → Result (Unit {0}) Refusal → Result ℕ MessageError
answer_checked mode pre s i out (Err why) = Err (mess.Refused why)
answer_checked mode pre s i out (Ok tt) = answer_at mode pre s out (message_at mode s i)

abbrev pub left_checked : Mode → List ℕ → List ℕ → ℕ → List ℕ → Result (Unit {0}) Refusal → List ℕ
left_checked mode pre s i out (Err why) = out
left_checked mode pre s i out (Ok tt) = left_at mode pre s out (message_at mode s i)

unfoldable pub id_answer : List ℕ → Dialect → List ℕ → ℕ → List ℕ → Result ℕ MessageError
id_answer pre d s i out = answer_checked d.mode pre s i out (accept_of d s)

unfoldable pub id_left : List ℕ → Dialect → List ℕ → ℕ → List ℕ → List ℕ
id_left pre d s i out = left_checked d.mode pre s i out (accept_of d s)

-- the mark byte: 1 for a signed message, 0 for one that is not
abbrev pub mark : Bool → ℕ
mark true = 1
mark false = 0
