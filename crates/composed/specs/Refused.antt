-- Which numbers the calls tell: write_rpc never tells 25 or 27, and 24 exactly where the first message that may not be written has a key and no signature, unsigned
-- messages being allowed; and 0 is told exactly where no refusal holds.
-- The lengths beside 13 and 30 are exact where they are below 2^64.
use Rattle.std.specs.Prelude.{Ok, Err, ℕ, ◌^◌, ◌≤◌, ◌<◌, ◌≡◌, refl, Bool, true, false, cond, ◌||◌, List, [], ◌∷◌, ◌++◌, ◌↔◌, length, drop, ltb, eqb}
use Rattle.std.proofs.Common.{sym, ap, subst, ◌∙◌, arith}
use Rattle.basis.specs.Cases.{either, clash}
use Rattle.basis.specs.declared.Told.{Told}
use Rattle.basis.specs.Refusals.{bad_setting, malformed, invalid_utf8, too_many-records, no-message, rpc-too_long, short-room}
use Rattle.basis.specs.Refusals.{key-without-signature, missing-signature, signature_invalid}
use Rattle.basis.specs.Told.{done}
use Rattle.rpc.specs.Rpc.{RawMessage}
use Rattle.rpc.specs.Encode.{encode_rpc, sign_bytes}
use Rattle.canon.specs.Messages.{Nth}
use Rattle.canonical.specs.Calls.{Writes, fits, short}
use Rattle.admission.specs.declared.Unfit.{Unfit as Why}
use Rattle.admission.specs.declared.Unfit.TheVariants as why
use Rattle.admission.specs.Flags.{known_flags, allows_unsigned}
use Rattle.admission.specs.Told.{unfit_told}
use Rattle.compose.specs.declared.Wrong.{Wrong}
use Rattle.compose.specs.declared.Wrong.TheVariants.{Unfit}
use Rattle.compose.specs.Lent.{lent_rows}
use Rattle.compose.specs.Said.{messages_in, said}
use Rattle.compose.specs.Weighed.{capped, size_fine, weighed}
use Rattle.compose.specs.Compose.{write_answer, sign_answer}
use Rattle.compose.specs.Told.{wrong_told, composed_told}
use Rattle.compose.specs.Puts.{capped_small}
use Rattle.composed.specs.Admitted.{one_of, message_numbers, weighed-number, KeyAlone, key-alone}
use Rattle.composed.specs.Exactly.{ListsRefused, not-lent, bad-topic, too_many, ListsFine, FirstUnfit, unfit, past, AllFit}
use Rattle.composed.specs.Exactly.{WritesRpc, bad-flags, lists-refused, message-refused, too_long, writes, SignsFields, no_such, signs, short-of}
use Rattle.composed.specs.Exactly.{write_says, sign_says, write_exactly, sign_fields-exactly}

-- ---- the numbers that are told: 0, or a refusal in its order
abbrev pub write_numbers : List ℕ
write_numbers = 0 ∷ bad_setting ∷ malformed ∷ invalid_utf8 ∷ too_many-records ∷ (message_numbers ++ (rpc-too_long ∷ short-room ∷ []))

abbrev pub sign_numbers : List ℕ
sign_numbers = 0 ∷ malformed ∷ invalid_utf8 ∷ too_many-records ∷ no-message ∷ short-room ∷ []

or_left : (a b : Bool) → a ≡ true → a || b ≡ true
or_left a b h = rw h

or_right : (a b : Bool) → b ≡ true → a || b ≡ true
or_right true b h = refl
or_right false b h = h

front : (n : ℕ) (ks ls : List ℕ) → one_of n ks ≡ true → one_of n (ks ++ ls) ≡ true
front n [] ls h = clash (cc)
front n (k ∷ ks) ls h =
    either (eqb n k) (λ t. or_left (eqb n k) (one_of n (ks ++ ls)) t)
    (λ t. or_right (eqb n k) (one_of n (ks ++ ls)) (front n ks ls (simp t at h)))

-- one more at the second place
later : (n j k : ℕ) (ks : List ℕ) → one_of n (j ∷ ks) ≡ true → one_of n (j ∷ k ∷ ks) ≡ true
later n j k ks h =
    either (eqb n j) (λ t. or_left (eqb n j) (one_of n (k ∷ ks)) t)
    (λ t. or_right (eqb n j) (one_of n (k ∷ ks)) (or_right (eqb n k) (one_of n ks) (simp t at h)))

unfit-among : {flags : ℕ} {ms : List RawMessage} {a : Told} → FirstUnfit flags ms a → one_of a.number message_numbers ≡ true
unfit-among {flags} (unfit {m = m} {w = w} h) =
    let x = weighed-number flags m w h in ap (λ (z : Wrong). one_of (wrong_told z).number message_numbers) x.is ∙ x.among
unfit-among (past h u) = unfit-among u

lists-among : {t b : List ℕ} {a : Told} (ks : List ℕ) → ListsRefused t b a
    → one_of a.number (0 ∷ malformed ∷ invalid_utf8 ∷ too_many-records ∷ ks) ≡ true
lists-among ks (not-lent n) = refl
lists-among ks (bad-topic l u) = refl
lists-among ks (too_many l u h) = refl

put-among : {xs out : List ℕ} {a : Told} {l : List ℕ} → Writes xs out a l → one_of a.number write_numbers ≡ true
put-among (fits h) = refl
put-among (short h) = refl

write_among : {flags : ℕ} {t b out : List ℕ} {a : Told} {l : List ℕ} → WritesRpc flags t b out a l → one_of a.number write_numbers ≡ true
write_among (bad-flags n) = refl
write_among {a = a} (lists-refused n u) =
    let tail = message_numbers ++ (rpc-too_long ∷ short-room ∷ []) in
    later a.number 0 bad_setting (malformed ∷ invalid_utf8 ∷ too_many-records ∷ tail) (lists-among tail u)
write_among {a = a} (message-refused n f u) =
    let n = a.number in
    let tail = message_numbers ++ (rpc-too_long ∷ short-room ∷ []) in
    or_right (eqb n 0) (one_of n (bad_setting ∷ malformed ∷ invalid_utf8 ∷ too_many-records ∷ tail))
    (or_right (eqb n bad_setting) (one_of n (malformed ∷ invalid_utf8 ∷ too_many-records ∷ tail))
    (or_right (eqb n malformed) (one_of n (invalid_utf8 ∷ too_many-records ∷ tail))
    (or_right (eqb n invalid_utf8) (one_of n (too_many-records ∷ tail))
    (or_right (eqb n too_many-records) (one_of n tail)
    (front n message_numbers (rpc-too_long ∷ short-room ∷ []) (unfit-among u))))))
write_among (too_long n f u h) = refl
write_among (writes n f u h w) = put-among w

pub write_numbers_lem : (flags : ℕ) (t b out : List ℕ) → one_of (composed_told (write_answer flags t b out)).number write_numbers ≡ true
write_numbers_lem flags t b out = write_among (write_says flags t b out)

-- 25 and 27 are none of these
never : (n m : ℕ) (ks : List ℕ) → one_of n ks ≡ true → one_of m ks ≡ false → n ≡ m → ⊥
never n m ks h k e = let z : one_of m ks ≡ true = subst (λ (x : ℕ). one_of x ks ≡ true) e h in clash (cc)

-- 24: the first message that may not be written has a key and no signature
pub data FirstKeyAlone (flags : ℕ) : List RawMessage → Type 0 where
  alone : {m : RawMessage} {ms : List RawMessage} → KeyAlone flags m → FirstKeyAlone flags (m ∷ ms)
  after : {m : RawMessage} {ms : List RawMessage} → weighed flags m ≡ Ok tt → FirstKeyAlone flags ms → FirstKeyAlone flags (m ∷ ms)

pub record KeyTold (flags : ℕ) (t b : List ℕ) : Type 0 where
  pub known : known_flags flags ≡ true
  pub lists : ListsFine t b
  pub first : FirstKeyAlone flags (messages_in b (lent_rows t))

-- only one refusal of a message is told so
by_number : (w : Why) → (unfit_told w).number ≡ key-without-signature → w ≡ why.KeyWithoutSignature
by_number why.MissingFrom h = absurd (omega arith)
by_number (why.InvalidFrom n) h = absurd (omega arith)
by_number why.NotPeerId h = absurd (omega arith)
by_number why.InvalidSeqno h = absurd (omega arith)
by_number why.KeyWithoutSignature h = refl
by_number why.MissingSignature h = absurd (omega arith)
by_number (why.InvalidSignatureLength n) h = absurd (omega arith)
by_number why.InvalidKey h = absurd (omega arith)
by_number why.KeyPeerIdMismatch h = absurd (omega arith)
by_number why.SignatureInvalid h = absurd (omega arith)
by_number (why.TopicCount n) h = absurd (omega arith)
by_number (why.TopicTooLong n) h = absurd (omega arith)
by_number (why.MessageTooLong n) h = absurd (omega arith)

first_key : {flags : ℕ} {ms : List RawMessage} {a : Told} → FirstUnfit flags ms a → a.number ≡ key-without-signature → FirstKeyAlone flags ms
first_key {flags} (unfit {m = m} {w = w} h) e =
    let x = weighed-number flags m w h in
    let n = by_number x.unfit (sym (ap (λ (z : Wrong). (wrong_told z).number) x.is) ∙ e) in
    alone ((key-alone flags m).0 (h ∙ ap Err (x.is ∙ ap Unfit n)))
first_key (past h u) e = after h (first_key u e)

key-first : (flags : ℕ) {ms : List RawMessage} → FirstKeyAlone flags ms → FirstUnfit flags ms (wrong_told (Unfit why.KeyWithoutSignature))
key-first flags (alone {m = m} x) = unfit ((key-alone flags m).1 x)
key-first flags (after h u) = past h (key-first flags u)

lists-key : {t b : List ℕ} {a : Told} → ListsRefused t b a → a.number ≡ key-without-signature → ⊥
lists-key (not-lent n) h = absurd (omega arith)
lists-key (bad-topic l u) h = absurd (omega arith)
lists-key (too_many l u k) h = absurd (omega arith)

put-key : {xs out : List ℕ} {a : Told} {l : List ℕ} → Writes xs out a l → a.number ≡ key-without-signature → ⊥
put-key (fits h) e = absurd (omega arith)
put-key (short h) e = absurd (omega arith)

write_key : {flags : ℕ} {t b out : List ℕ} {a : Told} {l : List ℕ} → WritesRpc flags t b out a l → a.number ≡ key-without-signature
    → KeyTold flags t b
write_key (bad-flags n) e = absurd (omega arith)
write_key (lists-refused n u) e = absurd (lists-key u e)
write_key (message-refused n f u) e = record { known = n; lists = f; first = first_key u e }
write_key (too_long n f u h) e = absurd (omega arith)
write_key (writes n f u h w) e = absurd (put-key w e)

pub key_told_lem : (flags : ℕ) (t b out : List ℕ)
    → ((composed_told (write_answer flags t b out)).number ≡ key-without-signature) ↔ KeyTold flags t b
key_told_lem flags t b out = (
  write_key (write_says flags t b out),
  λ k.
      let p = (write_exactly flags t b out (wrong_told (Unfit why.KeyWithoutSignature)) out).1
      (message-refused k.known k.lists (key-first flags k.first)) in
      ap (λ (a : Told). a.number) p.0,
)

first-allowed : {flags : ℕ} {ms : List RawMessage} → FirstKeyAlone flags ms → allows_unsigned flags ≡ true
first-allowed (alone x) = x.allowed
first-allowed (after h u) = first-allowed u

pub never-told : (flags : ℕ) (t b out : List ℕ)
    → (allows_unsigned flags ≡ false → (composed_told (write_answer flags t b out)).number ≡ key-without-signature → ⊥)
    × ((composed_told (write_answer flags t b out)).number ≡ missing-signature → ⊥)
    × ((composed_told (write_answer flags t b out)).number ≡ signature_invalid → ⊥)
never-told flags t b out =
    let n = (composed_told (write_answer flags t b out)).number in
    let h = write_numbers_lem flags t b out in (
      λ off e. let z = first-allowed ((key_told_lem flags t b out).0 e).first in clash (cc),
      never n missing-signature write_numbers h refl,
      never n signature_invalid write_numbers h refl,
    )

sign_among : {t b : List ℕ} {i : ℕ} {out : List ℕ} {a : Told} {l : List ℕ} → SignsFields t b i out a l
    → one_of a.number sign_numbers ≡ true
sign_among (lists-refused u) = lists-among (no-message ∷ short-room ∷ []) u
sign_among (no_such f h) = refl
sign_among (signs f n h) = refl
sign_among (short-of f n h) = refl

pub sign_numbers_lem : (t b : List ℕ) (i : ℕ) (out : List ℕ)
    → one_of (composed_told (sign_answer t b i out)).number sign_numbers ≡ true
sign_numbers_lem t b i out = sign_among (sign_says t b i out)

-- ---- bytes are written exactly where no refusal holds
pub record Writable (flags : ℕ) (t b out : List ℕ) : Type 0 where
  pub known : known_flags flags ≡ true
  pub lists : ListsFine t b
  pub fit : AllFit flags (messages_in b (lent_rows t))
  pub small : length (encode_rpc (said b (lent_rows t))) ≤ 65536
  pub room : length (encode_rpc (said b (lent_rows t))) ≤ length out

lists_other : {t b : List ℕ} {a : Told} → ListsRefused t b a → a.number ≡ 0 → ⊥
lists_other (not-lent n) h = clash (cc)
lists_other (bad-topic l u) h = absurd (omega arith)
lists_other (too_many l u k) h = absurd (omega arith)

put-room : {xs out : List ℕ} {a : Told} {l : List ℕ} → Writes xs out a l → a.number ≡ 0 → length xs ≤ length out
put-room (fits h) e = h
put-room (short h) e = absurd (omega arith)

write_room : {flags : ℕ} {t b out : List ℕ} {a : Told} {l : List ℕ} → WritesRpc flags t b out a l → a.number ≡ 0 → Writable flags t b out
write_room (bad-flags n) e = absurd (omega arith)
write_room (lists-refused n u) e = absurd (lists_other u e)
write_room {a = a} (message-refused n f u) e = absurd (never a.number 0 message_numbers (unfit-among u) refl e)
write_room (too_long n f u h) e = absurd (omega arith)
write_room (writes n f u h w) e = record { known = n; lists = f; fit = u; small = h; room = put-room w e }

pub written-exactly : (flags : ℕ) (t b out : List ℕ) → ((composed_told (write_answer flags t b out)).number ≡ 0) ↔ Writable flags t b out
written-exactly flags t b out = (
  write_room (write_says flags t b out),
  λ w.
      let xs = encode_rpc (said b (lent_rows t)) in
      let p = (write_exactly flags t b out (done (length xs ∷ [])) (xs ++ drop (length xs) out)).1
      (writes w.known w.lists w.fit w.small (fits w.room)) in
      ap (λ (a : Told). a.number) p.0,
)

-- and bytes to sign, where the lists are fine and there is a message i and the room
pub record Signable (t b : List ℕ) (i : ℕ) (out : List ℕ) : Type 0 where
  pub lists : ListsFine t b
  pub message : RawMessage
  pub index : Nth i (messages_in b (lent_rows t)) message
  pub room : length (sign_bytes message) ≤ length out

sign_room : {t b : List ℕ} {i : ℕ} {out : List ℕ} {a : Told} {l : List ℕ} → SignsFields t b i out a l → a.number ≡ 0
    → Signable t b i out
sign_room (lists-refused u) e = absurd (lists_other u e)
sign_room (no_such f h) e = absurd (omega arith)
sign_room (signs {m = m} f n h) e = record { lists = f; message = m; index = n; room = h }
sign_room (short-of f n h) e = absurd (omega arith)

pub signed-exactly : (t b : List ℕ) (i : ℕ) (out : List ℕ)
    → ((composed_told (sign_answer t b i out)).number ≡ 0) ↔ Signable t b i out
signed-exactly t b i out = (
  sign_room (sign_says t b i out),
  λ s.
      let xs = sign_bytes s.message in
      let p = (sign_fields-exactly t b i out (done (length xs ∷ [])) (xs ++ drop (length xs) out)).1
      (signs s.lists s.index s.room) in
      ap (λ (a : Told). a.number) p.0,
)

-- ---- the lengths beside 13, and beside 30
long-first : {flags : ℕ} {t b out : List ℕ} {a : Told} {l : List ℕ} → WritesRpc flags t b out a l → a.number ≡ rpc-too_long
    → (65536 < length (encode_rpc (said b (lent_rows t)))) × (a.first ≡ capped (length (encode_rpc (said b (lent_rows t)))))
long-first (bad-flags n) e = absurd (omega arith)
long-first (lists-refused n (not-lent u)) e = absurd (omega arith)
long-first (lists-refused n (bad-topic l u)) e = absurd (omega arith)
long-first (lists-refused n (too_many l u h)) e = absurd (omega arith)
long-first {a = a} (message-refused n f u) e =
    absurd (never a.number rpc-too_long message_numbers (unfit-among u) refl e)
long-first (too_long n f u h) e = (h, refl)
long-first (writes n f u h (fits k)) e = absurd (omega arith)
long-first (writes n f u h (short k)) e = absurd (omega arith)

-- 13 tells the length where it is below 2^64
pub long-told : (flags : ℕ) (t b out : List ℕ) → (composed_told (write_answer flags t b out)).number ≡ rpc-too_long
    → length (encode_rpc (said b (lent_rows t))) < 2 ^ 64
    → (65536 < length (encode_rpc (said b (lent_rows t))))
    × ((composed_told (write_answer flags t b out)).first ≡ length (encode_rpc (said b (lent_rows t))))
long-told flags t b out e h =
    let p = long-first (write_says flags t b out) e in
    (p.0, p.1 ∙ capped_small (length (encode_rpc (said b (lent_rows t)))) (omega arith))

-- and so does 30
pub size-told : (n : ℕ) → n < 2 ^ 64 → size_fine n ≡ cond (ltb 4096 n) (Err (Unfit (why.MessageTooLong n))) (Ok tt)
unfolding size_fine
size-told n h = rw (capped_small n (omega arith))
