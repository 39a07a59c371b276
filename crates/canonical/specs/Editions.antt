-- Where no control of a body has a length-delimited field 5, `encode`, `sign_bytes`, `message_id` and `seen_message_id`
-- answer and leave the same in both editions, whatever the bytes are. A body that 1.2 takes has in 1.1 the same sign
-- bytes and ids, with or without such a field. All this holds in either mode.
use Rattle.std.specs.Prelude.{Result, Ok, Err, ℕ, ◌≡◌, refl, false, List}
use Rattle.std.proofs.Common.{sym, ap, ◌∙◌}
use Rattle.basis.specs.declared.Mode.{Mode}
use Rattle.basis.specs.declared.Edition.{Edition}
use Rattle.basis.specs.declared.Edition.TheVariants.{V11, V12}
use Rattle.protobuf.specs.declared.Refusal.{Refusal}
use Rattle.basis.specs.Dialect.{spoken}
use Rattle.basis.specs.Writing.{answer, written}
use Rattle.protobuf.specs.Encode.{of_written}
use Rattle.schema.specs.Accept.{accept_of}
use Rattle.ids.specs.Ids.{answer_checked, left_checked, id_answer, id_left}
use Rattle.encode.specs.Encode.{encode_checked, encode_answer, encoded_checked, encode_left}
use Rattle.encode.specs.Sign.{sign_checked, sign_answer, signed_checked, sign_left}
use Rattle.meaning.specs.Editions.{declines, same_accept, older_accept}
use Rattle.canon.proofs.Editions.{same-canon}

-- ---- encode
encode_same : (mode : Mode) (c e : Edition) (s out : List ℕ) (r : Result (Unit {0}) Refusal) → declines mode s ≡ false
    → (encode_checked (spoken mode c) s out r ≡ encode_checked (spoken mode e) s out r)
    × (encoded_checked (spoken mode c) s out r ≡ encoded_checked (spoken mode e) s out r)
encode_same mode c e s out (Err why) h = (refl, refl)
encode_same mode c e s out (Ok tt) h = (
  ap (λ (xs : List ℕ). of_written (answer xs out)) (same-canon mode c e s h),
  ap (λ (xs : List ℕ). written xs out) (same-canon mode c e s h),
)

pub same_encode : (mode : Mode) (c e : Edition) (s out : List ℕ) → declines mode s ≡ false
    → (encode_answer (spoken mode c) s out ≡ encode_answer (spoken mode e) s out)
    × (encode_left (spoken mode c) s out ≡ encode_left (spoken mode e) s out)
unfolding encode_answer encode_left
same_encode mode c e s out h =
    let a = same_accept mode c e s h in
    let r = encode_same mode c e s out (accept_of (spoken mode e) s) h in
    (ap (encode_checked (spoken mode c) s out) a ∙ r.0, ap (encoded_checked (spoken mode c) s out) a ∙ r.1)

-- ---- in one mode, sign bytes and ids hang on the test of the body alone
signs-by : (mode : Mode) (c e : Edition) (s : List ℕ) (i : ℕ) (out : List ℕ)
    → accept_of (spoken mode c) s ≡ accept_of (spoken mode e) s
    → (sign_answer (spoken mode c) s i out ≡ sign_answer (spoken mode e) s i out)
    × (sign_left (spoken mode c) s i out ≡ sign_left (spoken mode e) s i out)
unfolding sign_answer sign_left
signs-by mode c e s i out h = (ap (sign_checked mode s i out) h, ap (signed_checked mode s i out) h)

ids-by : (mode : Mode) (pre : List ℕ) (c e : Edition) (s : List ℕ) (i : ℕ) (out : List ℕ)
    → accept_of (spoken mode c) s ≡ accept_of (spoken mode e) s
    → (id_answer pre (spoken mode c) s i out ≡ id_answer pre (spoken mode e) s i out)
    × (id_left pre (spoken mode c) s i out ≡ id_left pre (spoken mode e) s i out)
unfolding id_answer id_left
ids-by mode pre c e s i out h = (ap (answer_checked mode pre s i out) h, ap (left_checked mode pre s i out) h)

pub same_sign : (mode : Mode) (c e : Edition) (s : List ℕ) (i : ℕ) (out : List ℕ) → declines mode s ≡ false
    → (sign_answer (spoken mode c) s i out ≡ sign_answer (spoken mode e) s i out)
    × (sign_left (spoken mode c) s i out ≡ sign_left (spoken mode e) s i out)
same_sign mode c e s i out h = signs-by mode c e s i out (same_accept mode c e s h)

pub same_id : (mode : Mode) (pre : List ℕ) (c e : Edition) (s : List ℕ) (i : ℕ) (out : List ℕ) → declines mode s ≡ false
    → (id_answer pre (spoken mode c) s i out ≡ id_answer pre (spoken mode e) s i out)
    × (id_left pre (spoken mode c) s i out ≡ id_left pre (spoken mode e) s i out)
same_id mode pre c e s i out h = ids-by mode pre c e s i out (same_accept mode c e s h)

-- ---- a body that 1.2 takes
older-same : (mode : Mode) (s : List ℕ) → accept_of (spoken mode V12) s ≡ Ok tt
    → accept_of (spoken mode V11) s ≡ accept_of (spoken mode V12) s
older-same mode s h = older_accept mode s h ∙ sym h

pub older_sign : (mode : Mode) (s : List ℕ) (i : ℕ) (out : List ℕ) → accept_of (spoken mode V12) s ≡ Ok tt
    → (sign_answer (spoken mode V11) s i out ≡ sign_answer (spoken mode V12) s i out)
    × (sign_left (spoken mode V11) s i out ≡ sign_left (spoken mode V12) s i out)
older_sign mode s i out h = signs-by mode V11 V12 s i out (older-same mode s h)

pub older-id : (mode : Mode) (pre s : List ℕ) (i : ℕ) (out : List ℕ) → accept_of (spoken mode V12) s ≡ Ok tt
    → (id_answer pre (spoken mode V11) s i out ≡ id_answer pre (spoken mode V12) s i out)
    × (id_left pre (spoken mode V11) s i out ≡ id_left pre (spoken mode V12) s i out)
older-id mode pre s i out h = ids-by mode pre V11 V12 s i out (older-same mode s h)
