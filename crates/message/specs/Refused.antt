-- A refused decode leaves the lent table as it was.
use Rattle.std.specs.Prelude.{Result, Ok, Err, ℕ, ◌≡◌, refl, Bool, List, length}
use Rattle.basis.specs.declared.Dialect.{Dialect}
use Rattle.message.specs.declared.DecodeError.TheVariants as dec
use Rattle.message.specs.declared.DecodeError.{DecodeError}
use Rattle.message.specs.Told.{decoded_told}
use Rattle.message.specs.Decode.{decode_answer, leaves, decode_table}

decode_by : (d : Dialect) (s t : List ℕ) (r : Result (ℕ × Bool) DecodeError) → ((decoded_told r).number ≡ 0 → ⊥)
    → leaves d s t r ≡ t
decode_by d s t (Ok (n, c)) h = absurd (h refl)
decode_by d s t (Err (dec.Refused why)) h = refl
decode_by d s t (Err (dec.Room n)) h = refl

pub refused_decode : (d : Dialect) (s t : List ℕ) → ((decoded_told (decode_answer d s (length t))).number ≡ 0 → ⊥)
    → decode_table d s t ≡ t
unfolding decode_table
refused_decode d s t h = decode_by d s t (decode_answer d s (length t)) h
