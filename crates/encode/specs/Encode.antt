-- Re-encoding a body: what `encode` answers and what it leaves. Refusals come in the order of the scope's table: 10, 1
-- to 7 and 14 to 16, 11, 12.
use Rattle.std.specs.Prelude.{Result, Ok, Err, ℕ, List}
use Rattle.basis.specs.declared.Dialect.{Dialect}
use Rattle.protobuf.specs.declared.EncodeError.TheVariants as enc
use Rattle.protobuf.specs.declared.EncodeError.{EncodeError}
use Rattle.protobuf.specs.declared.Refusal.{Refusal}
use Rattle.basis.specs.Writing.{answer, written}
use Rattle.protobuf.specs.Encode.{of_written}
use Rattle.schema.specs.Accept.{accept_of}
use Rattle.canon.specs.Canon.{canon_body}

abbrev pub encode_checked : Dialect → List ℕ → List ℕ → Result (Unit {0}) Refusal → Result ℕ EncodeError
encode_checked d s out (Err why) = Err (enc.Refused why)
encode_checked d s out (Ok tt) = of_written (answer (canon_body d s) out)

unfoldable pub encode_answer : Dialect → List ℕ → List ℕ → Result ℕ EncodeError
encode_answer d s out = encode_checked d s out (accept_of d s)

abbrev pub encoded_checked : Dialect → List ℕ → List ℕ → Result (Unit {0}) Refusal → List ℕ
encoded_checked d s out (Err why) = out
encoded_checked d s out (Ok tt) = written (canon_body d s) out

unfoldable pub encode_left : Dialect → List ℕ → List ℕ → List ℕ
encode_left d s out = encoded_checked d s out (accept_of d s)
