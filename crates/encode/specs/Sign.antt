-- The bytes of one message of a body that are signed: what `sign_bytes` answers and leaves. Refusals come in the order
-- of the scope's table: 10, 1 to 7 and 14 to 16, 11, 20, 12.
use Rattle.std.specs.Prelude.{Result, Ok, Err, ℕ, List}
use Rattle.basis.specs.declared.Mode.{Mode}
use Rattle.basis.specs.declared.Dialect.{Dialect}
use Rattle.ids.specs.declared.MessageError.TheVariants as mess
use Rattle.ids.specs.declared.MessageError.{MessageError}
use Rattle.protobuf.specs.declared.Refusal.{Refusal}
use Rattle.basis.specs.Writing.{answer, written}
use Rattle.protobuf.specs.Walk.{between}
use Rattle.schema.specs.Accept.{accept_of}
use Rattle.ids.specs.Ids.{message_at, of_written}
use Rattle.canon.specs.Canon.{sign_of}

abbrev pub sign_at : Mode → List ℕ → List ℕ → Result (ℕ × ℕ) ℕ → Result ℕ MessageError
sign_at mode s out (Err n) = Err (mess.NoMessage n)
sign_at mode s out (Ok (a, e)) = of_written (answer (sign_of mode (between s a e)) out)

abbrev pub sign_checked : Mode → List ℕ → ℕ → List ℕ → Result (Unit {0}) Refusal → Result ℕ MessageError
sign_checked mode s i out (Err why) = Err (mess.Refused why)
sign_checked mode s i out (Ok tt) = sign_at mode s out (message_at mode s i)

unfoldable pub sign_answer : Dialect → List ℕ → ℕ → List ℕ → Result ℕ MessageError
sign_answer d s i out = sign_checked d.mode s i out (accept_of d s)

abbrev pub signed_at : Mode → List ℕ → List ℕ → Result (ℕ × ℕ) ℕ → List ℕ
signed_at mode s out (Err n) = out
signed_at mode s out (Ok (a, e)) = written (sign_of mode (between s a e)) out

abbrev pub signed_checked : Mode → List ℕ → ℕ → List ℕ → Result (Unit {0}) Refusal → List ℕ
signed_checked mode s i out (Err why) = out
signed_checked mode s i out (Ok tt) = signed_at mode s out (message_at mode s i)

unfoldable pub sign_left : Dialect → List ℕ → ℕ → List ℕ → List ℕ
sign_left d s i out = signed_checked d.mode s i out (accept_of d s)
