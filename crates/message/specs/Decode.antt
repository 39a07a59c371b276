-- Reading a body: what decode answers and what it leaves in the lent table. Refusals come in the order of the scope's
-- table: 10, 1 to 7 and 14 to 16, 11, 12.
use Rattle.std.specs.Prelude.{Result, Ok, Err, ℕ, ◌/◌, List, Bool, cond, length, ltb}
use Rattle.std.proofs.lemmas.List.Edits.{sets}
use Rattle.basis.specs.declared.Mode.{Mode}
use Rattle.basis.specs.declared.Dialect.{Dialect}
use Rattle.schema.specs.declared.Kind.TheVariants as kind
use Rattle.message.specs.declared.DecodeError.TheVariants as dec
use Rattle.message.specs.declared.DecodeError.{DecodeError}
use Rattle.protobuf.specs.declared.Refusal.{Refusal}
use Rattle.schema.specs.Accept.{body_records}
use Rattle.schema.specs.Slots.{has_field}
use Rattle.message.specs.Rows.{rows_of, words_of_all}

-- a length-delimited field 3 is there, so the body has a control
unfoldable pub has_control : Mode → List ℕ → Bool
has_control mode s = has_field mode 3 s

-- with room for so many records
abbrev pub on_count : ℕ → Bool → Result ℕ Refusal → Result (ℕ × Bool) DecodeError
on_count room c (Err r) = Err (dec.Refused r)
on_count room c (Ok n) = cond (ltb room n) (Err (dec.Room n)) (Ok (n, c))

unfoldable pub decode_answer : Dialect → List ℕ → ℕ → Result (ℕ × Bool) DecodeError
decode_answer d s words = on_count (words / 20) (has_control d.mode s) (body_records d s)

-- the records stand at the front of the table; a refusal changes nothing
abbrev pub leaves : Dialect → List ℕ → List ℕ → Result (ℕ × Bool) DecodeError → List ℕ
leaves d s t (Ok (n, c)) = sets t 0 (words_of_all (rows_of d.mode (kind.Rpc d.edition) 0 s))
leaves d s t (Err (dec.Refused r)) = t
leaves d s t (Err (dec.Room n)) = t

unfoldable pub decode_table : Dialect → List ℕ → List ℕ → List ℕ
decode_table d s t = leaves d s t (decode_answer d s (length t))
