-- Writing fields, from the Protocol Buffers encoding document, "Message Structure": a tag is the field number with
-- three bits of wire type below it, as a varint; then comes a varint, or a length and so many bytes.
use Rattle.std.specs.Prelude.{Result, Ok, Err, ℕ, ◌+◌, ◌*◌, List, ◌++◌, cond, length, ltb, eqb}
use Rattle.basis.specs.Writing.{answer, written}
use Rattle.peer_id.specs.Uvarint.{uvarint}
use Rattle.protobuf.specs.declared.WireError.TheVariants.{UnsupportedWireType, InvalidFieldNumber}
use Rattle.basis.specs.declared.ShortRoom.{ShortRoom}
use Rattle.protobuf.specs.declared.EncodeError.TheVariants as enc
use Rattle.protobuf.specs.declared.EncodeError.{EncodeError}
use Rattle.protobuf.specs.declared.Refusal.{Refusal}
use Rattle.protobuf.specs.Refusal.{nowhere}

unfoldable pub tag : ℕ → ℕ → List ℕ
tag n type = uvarint (n * 8 + type)

unfoldable pub varint_field : ℕ → ℕ → List ℕ
varint_field n v = tag n 0 ++ uvarint v

unfoldable pub bytes_field : ℕ → List ℕ → List ℕ
bytes_field n d = tag n 2 ++ (uvarint (length d) ++ d)

-- a tag that cannot be written: its number is not 1 to 536870911, or its wire type has more than three bits
unfoldable pub tag_refused : ℕ → ℕ → Result (Unit {0}) Refusal
tag_refused n type =
    cond (eqb n 0) (Err (nowhere (InvalidFieldNumber n 0)))
    (cond (ltb 536870911 n) (Err (nowhere (InvalidFieldNumber n 0)))
    (cond (ltb 7 type) (Err (nowhere (UnsupportedWireType type 0))) (Ok tt)))

-- what a writer answers that has the bytes xs for a field n of that type, and what it leaves
abbrev pub of_written : Result ℕ ShortRoom → Result ℕ EncodeError
of_written (Ok n) = Ok n
of_written (Err short) = Err (enc.Room short.needed)

abbrev pub answer_of : List ℕ → List ℕ → Result (Unit {0}) Refusal → Result ℕ EncodeError
answer_of xs out (Ok tt) = of_written (answer xs out)
answer_of xs out (Err r) = Err (enc.Refused r)

abbrev pub left_of : List ℕ → List ℕ → Result (Unit {0}) Refusal → List ℕ
left_of xs out (Ok tt) = written xs out
left_of xs out (Err r) = out

unfoldable pub encoded : ℕ → ℕ → List ℕ → List ℕ → Result ℕ EncodeError
encoded n type xs out = answer_of xs out (tag_refused n type)

unfoldable pub left : ℕ → ℕ → List ℕ → List ℕ → List ℕ
left n type xs out = left_of xs out (tag_refused n type)
