-- A refused writer of a field leaves the lent bytes as they were, whatever bytes xs it has for a field n of that type.
use Rattle.std.specs.Prelude.{Result, Ok, Err, ℕ, ◌≡◌, refl, List}
use Rattle.basis.specs.Lists.{refused_write}
use Rattle.protobuf.specs.Told.{encoded_told}
use Rattle.protobuf.specs.Encode.{tag, varint_field, bytes_field, tag_refused, of_written, answer_of, left_of, encoded}
use Rattle.protobuf.specs.Encode.{left}
use Rattle.basis.specs.declared.ShortRoom.{ShortRoom}
use Rattle.protobuf.specs.declared.Refusal.{Refusal}

-- where the tag can be written, and where it cannot
refused-by : (xs out : List ℕ) (c : Result (Unit {0}) Refusal) → ((encoded_told (answer_of xs out c)).number ≡ 0 → ⊥)
    → left_of xs out c ≡ out
refused-by xs out (Ok tt) h =
    refused_write xs out (λ (w : Result ℕ ShortRoom). (encoded_told (of_written w)).number) (λ n. refl) h
refused-by xs out (Err why) h = refl

pub refused-field : (n type : ℕ) (xs out : List ℕ) → ((encoded_told (encoded n type xs out)).number ≡ 0 → ⊥)
    → left n type xs out ≡ out
unfolding encoded left
refused-field n type xs out h = refused-by xs out (tag_refused n type) h

pub refused-tag : (n type : ℕ) (out : List ℕ) → ((encoded_told (encoded n type (tag n type) out)).number ≡ 0 → ⊥)
    → left n type (tag n type) out ≡ out
refused-tag n type out h = refused-field n type (tag n type) out h

pub refused-varint_field : (n v : ℕ) (out : List ℕ)
    → ((encoded_told (encoded n 0 (varint_field n v) out)).number ≡ 0 → ⊥) → left n 0 (varint_field n v) out ≡ out
refused-varint_field n v out h = refused-field n 0 (varint_field n v) out h

pub refused-bytes_field : (n : ℕ) (d out : List ℕ)
    → ((encoded_told (encoded n 2 (bytes_field n d) out)).number ≡ 0 → ⊥) → left n 2 (bytes_field n d) out ≡ out
refused-bytes_field n d out h = refused-field n 2 (bytes_field n d) out h
