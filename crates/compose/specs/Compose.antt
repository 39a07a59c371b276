-- What `write_rpc` and `sign_fields` answer and leave, from the scope: the bytes stand at the front of the lent buffer, or nothing changes. Refusals of
-- write_rpc in their order: 40, flags that are not known; 42; 7, the first in the order of the rows, with where the topic begins in the lent bytes; 11, the number
-- of rows; then message by message; 13; 12. sign_fields meets 42, 7, 11, 20 and 12.
use Rattle.std.specs.Prelude.{Result, Ok, Err, ℕ, ◌+◌, ◌/◌, cond, List, [], ◌∷◌, length, drop, ltb, leb}
use Rattle.basis.specs.Writing.{written}
use Rattle.utf8.specs.Utf8.{is_utf8}
use Rattle.protobuf.specs.Walk.{between}
use Rattle.schema.specs.declared.Kind.{Kind}
use Rattle.schema.specs.declared.Kind.TheVariants as kind
use Rattle.schema.specs.declared.Place.{Place}
use Rattle.schema.specs.declared.Place.TheVariants as place
use Rattle.message.specs.declared.Record.{Record}
use Rattle.rpc.specs.Rpc.{RawMessage}
use Rattle.rpc.specs.Encode.{encode_rpc, sign_bytes}
use Rattle.admission.specs.Flags.{known_flags}
use Rattle.compose.specs.declared.Wrong.TheVariants.{BadSetting, NotLent, InvalidUtf8, TooManyRecords, TooLong, NoMessage}
use Rattle.compose.specs.declared.ComposeError.TheVariants as compose
use Rattle.compose.specs.declared.ComposeError.{ComposeError}
use Rattle.compose.specs.declared.Wrong.{Wrong}
use Rattle.compose.specs.Lent.{lent_rows, lent_well}
use Rattle.compose.specs.Said.{messages_in, said}
use Rattle.compose.specs.Weighed.{capped, and_then, first_unfit}

-- ---- 7: topics that are not UTF-8
-- where the topic of a row that begins at `at` stands in the lent bytes
abbrev pub moved : ℕ → Place → Place
moved at place.Absent = place.Absent
moved at (place.Present a e) = place.Present (at + a) (at + e)

abbrev pub text_in : Kind → Record → Place
text_in (kind.Rpc d) r = place.Absent
text_in kind.SubOpts r = moved r.start r.slots.first
text_in kind.RawMessage r = place.Absent
text_in kind.Topic r = place.Present r.start r.end
text_in (kind.ControlMessage d) r = place.Absent
text_in kind.ControlIHave r = place.Absent
text_in kind.ControlIWant r = place.Absent
text_in kind.MessageId r = place.Absent
text_in kind.ControlGraft r = moved r.start r.slots.first
text_in kind.ControlPrune r = moved r.start r.slots.first
text_in kind.PeerInfo r = place.Absent
text_in kind.ControlIDontWant r = place.Absent

unfoldable pub text_of : Record → Place
text_of r = text_in r.kind r

unfoldable pub text_fine : List ℕ → Place → Result (Unit {0}) Wrong
text_fine b place.Absent = Ok tt
text_fine b (place.Present a e) = cond (is_utf8 (between b a e)) (Ok tt) (Err (InvalidUtf8 a))

-- the first one, in the order of the rows
abbrev pub texts_fine : List ℕ → List Record → Result (Unit {0}) Wrong
texts_fine b [] = Ok tt
texts_fine b (r ∷ rs) = and_then (text_fine b (text_of r)) (texts_fine b rs)

-- ---- 42, 7, 11: what both calls test
unfoldable pub count_fine : ℕ → Result (Unit {0}) Wrong
count_fine n = cond (ltb 512 n) (Err (TooManyRecords n)) (Ok tt)

unfoldable pub lists_of : List ℕ → List ℕ → Result (Unit {0}) Wrong
lists_of t b =
    cond (lent_well t b) (and_then (texts_fine b (lent_rows t)) (count_fine (length t / 20))) (Err NotLent)

-- ---- what a writer of the bytes xs answers; the room that is told stops at 2^64 - 1
unfoldable pub put_answer : List ℕ → List ℕ → Result ℕ ComposeError
put_answer xs out = cond (leb (length xs) (length out)) (Ok (length xs)) (Err (compose.Room (capped (length xs))))

-- where nothing was refused before
abbrev pub answering : Result ℕ ComposeError → Result (Unit {0}) Wrong → Result ℕ ComposeError
answering r (Ok tt) = r
answering r (Err why) = Err (compose.Refused why)

abbrev pub leaving : List ℕ → List ℕ → Result (Unit {0}) Wrong → List ℕ
leaving out l (Ok tt) = l
leaving out l (Err why) = out

-- ---- write_rpc
-- 13
unfoldable pub length_fine : List ℕ → Result (Unit {0}) Wrong
length_fine xs = cond (ltb 65536 (length xs)) (Err (TooLong (capped (length xs)))) (Ok tt)

-- 40
unfoldable pub flags_fine : ℕ → Result (Unit {0}) Wrong
flags_fine flags = cond (known_flags flags) (Ok tt) (Err BadSetting)

-- every test but the room's
unfoldable pub write_tested : ℕ → List ℕ → List ℕ → Result (Unit {0}) Wrong
write_tested flags t b =
    and_then (flags_fine flags)
    (and_then (lists_of t b)
    (and_then (first_unfit flags (messages_in b (lent_rows t))) (length_fine (encode_rpc (said b (lent_rows t))))))

unfoldable pub write_answer : ℕ → List ℕ → List ℕ → List ℕ → Result ℕ ComposeError
write_answer flags t b out = answering (put_answer (encode_rpc (said b (lent_rows t))) out) (write_tested flags t b)

unfoldable pub write_left : ℕ → List ℕ → List ℕ → List ℕ → List ℕ
write_left flags t b out = leaving out (written (encode_rpc (said b (lent_rows t))) out) (write_tested flags t b)

-- ---- sign_fields: the messages from the index on, of so many
abbrev pub sign_at : ℕ → List RawMessage → List ℕ → Result ℕ ComposeError
sign_at n [] out = Err (compose.Refused (NoMessage n))
sign_at n (m ∷ ms) out = put_answer (sign_bytes m) out

abbrev pub signed_at : List RawMessage → List ℕ → List ℕ
signed_at [] out = out
signed_at (m ∷ ms) out = written (sign_bytes m) out

unfoldable pub sign_answer : List ℕ → List ℕ → ℕ → List ℕ → Result ℕ ComposeError
sign_answer t b i out =
    answering (sign_at (length (messages_in b (lent_rows t))) (drop i (messages_in b (lent_rows t))) out) (lists_of t b)

unfoldable pub sign_left : List ℕ → List ℕ → ℕ → List ℕ → List ℕ
sign_left t b i out = leaving out (signed_at (drop i (messages_in b (lent_rows t))) out) (lists_of t b)
