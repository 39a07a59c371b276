-- A refused call of write_rpc or sign_fields leaves the lent bytes as they were.
use Rattle.std.specs.Prelude.{Result, Ok, Err, ℕ, ◌≡◌, refl, List, [], ◌∷◌, length, drop, leb}
use Rattle.basis.specs.Cases.{either}
use Rattle.basis.specs.Writing.{written}
use Rattle.rpc.specs.Rpc.{RawMessage}
use Rattle.rpc.specs.Encode.{encode_rpc, sign_bytes}
use Rattle.compose.specs.Told.{composed_told}
use Rattle.compose.specs.Lent.{lent_rows}
use Rattle.compose.specs.Said.{messages_in, said}
use Rattle.compose.specs.Compose.{put_answer, answering, leaving, lists_of, write_tested, write_answer, write_left}
use Rattle.compose.specs.Compose.{sign_at, signed_at, sign_answer, sign_left}
use Rattle.compose.specs.declared.ComposeError.{ComposeError}
use Rattle.compose.specs.declared.Wrong.{Wrong}

put_refused : (xs out : List ℕ) → ((composed_told (put_answer xs out)).number ≡ 0 → ⊥) → written xs out ≡ out
unfolding put_answer written
put_refused xs out h = either (leb (length xs) (length out)) (λ t. absurd (h (simp t))) (λ t. simp t)

tested-refused : (a : Result ℕ ComposeError) (new out : List ℕ) (l : Result (Unit {0}) Wrong)
    → (((composed_told a).number ≡ 0 → ⊥) → new ≡ out)
    → ((composed_told (answering a l)).number ≡ 0 → ⊥) → leaving out new l ≡ out
tested-refused a new out (Ok tt) k h = k h
tested-refused a new out (Err why) k h = refl

sign_at-refused : (n : ℕ) (ms : List RawMessage) (out : List ℕ)
    → ((composed_told (sign_at n ms out)).number ≡ 0 → ⊥) → signed_at ms out ≡ out
sign_at-refused n [] out h = refl
sign_at-refused n (m ∷ ms) out h = put_refused (sign_bytes m) out h

pub refused_write_rpc : (flags : ℕ) (t b out : List ℕ)
    → ((composed_told (write_answer flags t b out)).number ≡ 0 → ⊥) → write_left flags t b out ≡ out
unfolding write_answer write_left
refused_write_rpc flags t b out h =
    tested-refused (put_answer (encode_rpc (said b (lent_rows t))) out) (written (encode_rpc (said b (lent_rows t))) out) out
    (write_tested flags t b) (put_refused (encode_rpc (said b (lent_rows t))) out) h

pub refused_sign_fields : (t b : List ℕ) (i : ℕ) (out : List ℕ)
    → ((composed_told (sign_answer t b i out)).number ≡ 0 → ⊥) → sign_left t b i out ≡ out
unfolding sign_answer sign_left
refused_sign_fields t b i out h =
    let ms = messages_in b (lent_rows t) in
    tested-refused (sign_at (length ms) (drop i ms) out) (signed_at (drop i ms) out) out (lists_of t b)
    (sign_at-refused (length ms) (drop i ms) out) h
