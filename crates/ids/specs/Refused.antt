-- A refused writer of an id leaves the lent bytes as they were; pre is what stands before the id.
use Rattle.std.specs.Prelude.{Result, Ok, Err, ℕ, ◌≡◌, refl, Bool, List, [], ◌∷◌, ◌++◌}
use Rattle.basis.specs.declared.Mode.{Mode}
use Rattle.basis.specs.declared.Dialect.{Dialect}
use Rattle.basis.specs.declared.ShortRoom.{ShortRoom}
use Rattle.ids.specs.declared.IdError.{IdError}
use Rattle.protobuf.specs.declared.Refusal.{Refusal}
use Rattle.basis.specs.Writing.{answer, written}
use Rattle.basis.specs.Lists.{refused_write}
use Rattle.protobuf.specs.Walk.{between}
use Rattle.schema.specs.Accept.{accept_of}
use Rattle.ids.specs.Told.{message_told}
use Rattle.ids.specs.Ids.{message_at, id_parts, of_written, id_bytes, answer_id, left_id, answer_at, left_at}
use Rattle.ids.specs.Ids.{answer_checked, left_checked, id_answer, id_left, mark}

-- the same for every writer of one message's bytes
pub refused-bytes : (xs out : List ℕ) → ((message_told (of_written (answer xs out))).number ≡ 0 → ⊥)
    → written xs out ≡ out
refused-bytes xs out h = refused_write xs out (λ (w : Result ℕ ShortRoom). (message_told (of_written w)).number) (λ n. refl) h

by-id : (pre p out : List ℕ) (d : Result ((ℕ × ℕ) × (ℕ × ℕ)) IdError)
    → ((message_told (answer_id pre p out d)).number ≡ 0 → ⊥)
    → left_id pre p out d ≡ out
by-id pre p out (Err why) h = refl
by-id pre p out (Ok ((a, e), (b, f))) h = refused-bytes (pre ++ id_bytes p a e b f) out h

by_place : (mode : Mode) (pre s out : List ℕ) (m : Result (ℕ × ℕ) ℕ)
    → ((message_told (answer_at mode pre s out m)).number ≡ 0 → ⊥)
    → left_at mode pre s out m ≡ out
by_place mode pre s out (Err n) h = refl
by_place mode pre s out (Ok (a, e)) h = by-id pre (between s a e) out (id_parts mode (between s a e)) h

by-body : (mode : Mode) (pre s : List ℕ) (i : ℕ) (out : List ℕ) (c : Result (Unit {0}) Refusal)
    → ((message_told (answer_checked mode pre s i out c)).number ≡ 0 → ⊥) → left_checked mode pre s i out c ≡ out
by-body mode pre s i out (Err why) h = refl
by-body mode pre s i out (Ok tt) h = by_place mode pre s out (message_at mode s i) h

refused-marked : (pre : List ℕ) (d : Dialect) (s : List ℕ) (i : ℕ) (out : List ℕ)
    → ((message_told (id_answer pre d s i out)).number ≡ 0 → ⊥)
    → id_left pre d s i out ≡ out
unfolding id_answer id_left
refused-marked pre d s i out h = by-body d.mode pre s i out (accept_of d s) h

pub refused-id : (d : Dialect) (s : List ℕ) (i : ℕ) (out : List ℕ)
    → ((message_told (id_answer [] d s i out)).number ≡ 0 → ⊥)
    → id_left [] d s i out ≡ out
refused-id d s i out h = refused-marked [] d s i out h

pub refused-seen-id : (d : Dialect) (s : List ℕ) (i : ℕ) (signed : Bool) (out : List ℕ)
    → ((message_told (id_answer (mark signed ∷ []) d s i out)).number ≡ 0 → ⊥) → id_left (mark signed ∷ []) d s i out ≡ out
refused-seen-id d s i signed out h = refused-marked (mark signed ∷ []) d s i out h
