-- A refused call of encode or sign_bytes leaves the lent bytes as they were.
use Rattle.std.specs.Prelude.{Result, Ok, Err, ℕ, ◌≡◌, refl, List}
use Rattle.basis.specs.declared.Mode.{Mode}
use Rattle.basis.specs.declared.Dialect.{Dialect}
use Rattle.basis.specs.declared.ShortRoom.{ShortRoom}
use Rattle.protobuf.specs.declared.Refusal.{Refusal}
use Rattle.basis.specs.Lists.{refused_write}
use Rattle.protobuf.specs.Walk.{between}
use Rattle.protobuf.specs.Told.{encoded_told}
use Rattle.protobuf.specs.Encode.{of_written}
use Rattle.schema.specs.Accept.{accept_of}
use Rattle.ids.specs.Told.{message_told}
use Rattle.ids.specs.Ids.{message_at}
use Rattle.ids.specs.Refused.{refused-bytes}
use Rattle.canon.specs.Canon.{canon_body, sign_of}
use Rattle.encode.specs.Encode.{encode_checked, encoded_checked, encode_answer, encode_left}
use Rattle.encode.specs.Sign.{sign_at, sign_checked, sign_answer, signed_at, signed_checked, sign_left}

encode_by : (d : Dialect) (s out : List ℕ) (c : Result (Unit {0}) Refusal)
    → ((encoded_told (encode_checked d s out c)).number ≡ 0 → ⊥)
    → encoded_checked d s out c ≡ out
encode_by d s out (Err why) h = refl
encode_by d s out (Ok tt) h =
    refused_write (canon_body d s) out (λ (w : Result ℕ ShortRoom). (encoded_told (of_written w)).number) (λ n. refl) h

pub refused_encode : (d : Dialect) (s out : List ℕ) → ((encoded_told (encode_answer d s out)).number ≡ 0 → ⊥)
    → encode_left d s out ≡ out
unfolding encode_answer encode_left
refused_encode d s out h = encode_by d s out (accept_of d s) h

sign_by_place : (mode : Mode) (s out : List ℕ) (m : Result (ℕ × ℕ) ℕ)
    → ((message_told (sign_at mode s out m)).number ≡ 0 → ⊥)
    → signed_at mode s out m ≡ out
sign_by_place mode s out (Err n) h = refl
sign_by_place mode s out (Ok (a, e)) h = refused-bytes (sign_of mode (between s a e)) out h

sign_by : (mode : Mode) (s : List ℕ) (i : ℕ) (out : List ℕ) (c : Result (Unit {0}) Refusal)
    → ((message_told (sign_checked mode s i out c)).number ≡ 0 → ⊥)
    → signed_checked mode s i out c ≡ out
sign_by mode s i out (Err why) h = refl
sign_by mode s i out (Ok tt) h = sign_by_place mode s out (message_at mode s i) h

pub refused_sign : (d : Dialect) (s : List ℕ) (i : ℕ) (out : List ℕ)
    → ((message_told (sign_answer d s i out)).number ≡ 0 → ⊥)
    → sign_left d s i out ≡ out
unfolding sign_answer sign_left
refused_sign d s i out h = sign_by d.mode s i out (accept_of d s) h
