-- What Admitted and Signed say of a body that means the RPC, said of the body that is written: every message of it is admitted wherever it is vouched for; a message with
-- the signature that is asked for is refused as admission refuses its bytes; and the bytes to sign are those that
-- `sign_bytes` finds in it in every dialect, whichever signature went in.
use Rattle.std.specs.Prelude.{Ok, ℕ, ◌^◌, ◌<◌, ◌≡◌, refl, Bool, List, [], ◌∷◌, map, length}
use Rattle.basis.specs.declared.Edition.TheVariants.{V11}
use Rattle.basis.specs.declared.Mode.{Mode}
use Rattle.basis.specs.declared.Mode.TheVariants.{Plain}
use Rattle.basis.specs.declared.Dialect.{Dialect}
use Rattle.basis.specs.Dialect.{mode_of, spoken}
use Rattle.utf8.specs.Grammar.{Utf8}
use Rattle.ids.specs.Told.{message_told}
use Rattle.rpc.specs.Rpc.{RawMessage}
use Rattle.rpc.specs.Grammar.{Each, none_left, ◌and◌, IsMessage}
use Rattle.canon.specs.Messages.{Nth}
use Rattle.encode.specs.Sign as body
use Rattle.admission.specs.Flags.{allows_unsigned}
use Rattle.admission.specs.Admission.{admission_of}
use Rattle.compose.specs.Lent.{lent_rows}
use Rattle.compose.specs.Said.{encode_message, renewed, messages_in, said}
use Rattle.compose.specs.Weighed.{weighed}
use Rattle.compose.specs.Compose.{lists_of, write_tested, sign_answer, sign_left}
use Rattle.compose.specs.Told.{composed_told}
use Rattle.composed.specs.Written.{Words, said_of, body_of}
use Rattle.composed.specs.Means.{message_body_lem}
use Rattle.composed.specs.WrittenRows.{taken_of, said_plain}
use Rattle.composed.specs.WrittenLaws.{written-means}
use Rattle.composed.specs.Admitted.{of_admission, AsAsked, Taken, as_admission, written-admitted}
use Rattle.composed.specs.Signed.{SameFields, signs-alike}

-- what is written is admitted
pub spoken-admitted : (flags : ℕ) (t b : List ℕ) → Words t → write_tested flags t b ≡ Ok tt
    → Each (λ (m : RawMessage). Taken flags m.raw) (said_of t b).publish
spoken-admitted flags t b w h =
    written-admitted flags flags t b (body_of t b) refl h (written-means (spoken Plain V11) flags t b w h)

-- and so it is in either mode: under any flags that allow the same of unsigned messages
pub spoken-admitted-alike : (f g : ℕ) (t b : List ℕ) → allows_unsigned f ≡ allows_unsigned g → Words t
    → write_tested f t b ≡ Ok tt → Each (λ (m : RawMessage). Taken g m.raw) (said_of t b).publish
spoken-admitted-alike f g t b same w h =
    written-admitted f g t b (body_of t b) same h (written-means (spoken Plain V11) f t b w h)

-- a message that lists say, of less than 2^64 bytes, is meant by its own bytes in every mode
each-means : (mode : Mode) (ms : List RawMessage)
    → Each (λ (m : RawMessage). Each Utf8 m.topic_ids) (map renewed ms)
    → Each (λ (m : RawMessage). length (encode_message m) < 2 ^ 64 → IsMessage mode (encode_message m) (renewed m)) ms
each-means mode [] none_left = none_left
each-means mode (m ∷ ms) (u and us) = (λ l. message_body_lem mode m l u) and each-means mode ms us

-- and with the signature that is asked for it is refused as admission refuses these
abbrev pub AsAdmission : ℕ → RawMessage → Type 0
AsAdmission flags m = (word : Bool) → AsAsked (allows_unsigned flags) m.signature word → length (encode_message m) < 2 ^ 64
    → weighed flags m ≡ of_admission (admission_of flags (encode_message m) word)

each_as : (flags : ℕ) (ms : List RawMessage)
    → Each (λ (m : RawMessage). length (encode_message m) < 2 ^ 64
    → IsMessage (mode_of flags) (encode_message m) (renewed m)) ms
    → Each (AsAdmission flags) ms
each_as flags [] none_left = none_left
each_as flags (m ∷ ms) (f and fs) = (λ word s l. as_admission flags m word (f l) s) and each_as flags ms fs

pub spoken_as_admission : (flags : ℕ) (t b : List ℕ) → Words t → lists_of t b ≡ Ok tt → Each (AsAdmission flags) (messages_in b (lent_rows t))
unfolding said
spoken_as_admission flags t b w h =
    let ms = messages_in b (lent_rows t) in
    each_as flags ms (each-means (mode_of flags) ms (said_plain t b w (taken_of t b h).texts).publish)

-- of two lendings, message i of which has the same from, data, seqno and topics: what `sign_fields` tells and leaves on the first is what `sign_bytes` tells and
-- leaves in a dialect on the body that is written from the second under any flags
pub spoken-signed : (d : Dialect) (flags : ℕ) (t₁ b₁ t₂ b₂ : List ℕ) (i : ℕ) (m₁ m₂ : RawMessage)
    → lists_of t₁ b₁ ≡ Ok tt → Nth i (messages_in b₁ (lent_rows t₁)) m₁
    → Words t₂ → write_tested flags t₂ b₂ ≡ Ok tt → Nth i (messages_in b₂ (lent_rows t₂)) m₂ → SameFields m₁ m₂ → (out : List ℕ)
    → (composed_told (sign_answer t₁ b₁ i out) ≡ message_told (body.sign_answer d (body_of t₂ b₂) i out))
    × (sign_left t₁ b₁ i out ≡ body.sign_left d (body_of t₂ b₂) i out)
spoken-signed d flags t₁ b₁ t₂ b₂ i m₁ m₂ h₁ n₁ w h₂ n₂ s out =
    signs-alike d flags t₁ b₁ t₂ b₂ (body_of t₂ b₂) i m₁ m₂ h₁ n₁ h₂ n₂ s (written-means d flags t₂ b₂ w h₂) out
