-- Which messages may be written, by their fields: 21, 22, 34, 23, 26, 35, 36, 28, 29, 30 of the scope's table, in this order. An absent signature is one of 0
-- bytes; where the flags allow unsigned messages, one with neither signature nor key is written as it is, and a key alone is 24. composed: for a message with a
-- signature this is what admission says of the bytes.
use Rattle.std.specs.Prelude.{Option, Some, None, Result, Ok, Err, ℕ, Bool, cond, ◌||◌, List, [], ◌∷◌, length, ltb, eqb}
use Rattle.admission.specs.declared.Topics.{Topics}
use Rattle.admission.specs.declared.Unfit.TheVariants.{MissingFrom, InvalidFrom, NotPeerId, InvalidSeqno}
use Rattle.admission.specs.declared.Unfit.TheVariants.{KeyWithoutSignature, InvalidSignatureLength, InvalidKey}
use Rattle.admission.specs.declared.Unfit.TheVariants.{KeyPeerIdMismatch}
use Rattle.admission.specs.declared.Unfit.TheVariants.{TopicCount, TopicTooLong, MessageTooLong}
use Rattle.admission.specs.Flags.{allows_unsigned}
use Rattle.admission.specs.Admission.{first_long, is_key, key_matches, key_inside, is_peer_id}
use Rattle.rpc.specs.Rpc.{RawMessage}
use Rattle.rpc.specs.Id.{unfit}
use Rattle.compose.specs.declared.Wrong.TheVariants.{Unfit}
use Rattle.compose.specs.declared.Wrong.{Wrong}
use Rattle.compose.specs.Said.{encode_message}

-- a length that is told: places may overlap, so it stops at 2^64 - 1
unfoldable pub capped : ℕ → ℕ
capped n = cond (ltb n 18446744073709551615) n 18446744073709551615

-- one test and, where it is passed, another
abbrev pub and_then : Result (Unit {0}) Wrong → Result (Unit {0}) Wrong → Result (Unit {0}) Wrong
and_then (Ok tt) r = r
and_then (Err why) r = Err why

-- the bytes of a field; none where it is absent
abbrev pub given : Option (List ℕ) → List ℕ
given None = []
given (Some d) = d

-- 21, 22, 34
unfoldable pub from_fine : Option (List ℕ) → Result (Unit {0}) Wrong
from_fine None = Err (Unfit MissingFrom)
from_fine (Some s) =
    cond (unfit s) (Err (Unfit (InvalidFrom (length s)))) (cond (is_peer_id s) (Ok tt) (Err (Unfit NotPeerId)))

-- 23
unfoldable pub seqno_fine : List ℕ → Result (Unit {0}) Wrong
seqno_fine d = cond (unfit d) (Err (Unfit InvalidSeqno)) (Ok tt)

-- 26
unfoldable pub signature_fine : List ℕ → Result (Unit {0}) Wrong
signature_fine d = cond (eqb (length d) 64) (Ok tt) (Err (Unfit (InvalidSignatureLength (length d))))

-- 35, 36: s is the sender
unfoldable pub key_fine : List ℕ → Option (List ℕ) → Result (Unit {0}) Wrong
key_fine s None = cond (key_inside s) (Ok tt) (Err (Unfit KeyPeerIdMismatch))
key_fine s (Some k) =
    cond (is_key k) (cond (key_matches s k) (Ok tt) (Err (Unfit KeyPeerIdMismatch))) (Err (Unfit InvalidKey))

-- both, of a sender, a signature and a key
abbrev pub signed_fine : List ℕ → List ℕ → Option (List ℕ) → Result (Unit {0}) Wrong
signed_fine s d k = and_then (signature_fine d) (key_fine s k)

-- 24, where there is no signature and none is asked for
abbrev pub bare_fine : Option (List ℕ) → Result (Unit {0}) Wrong
bare_fine None = Ok tt
bare_fine (Some k) = Err (Unfit KeyWithoutSignature)

-- a sender, a signature and a key, where unsigned messages are allowed or not
unfoldable pub backed_fine : Bool → List ℕ → Option (List ℕ) → Option (List ℕ) → Result (Unit {0}) Wrong
backed_fine unsigned s None k = cond unsigned (bare_fine k) (signed_fine s [] k)
backed_fine unsigned s (Some d) k = signed_fine s d k

-- 28, 29
unfoldable pub topics_fine : List (List ℕ) → Result (Unit {0}) Wrong
topics_fine ts =
    cond (eqb (length ts) 0 || ltb 4 (length ts)) (Err (Unfit (TopicCount (length ts))))
    (cond (eqb (first_long ts) 0) (Ok tt) (Err (Unfit (TopicTooLong (first_long ts)))))

abbrev pub in_topics : List (List ℕ) → Topics
in_topics ts = record { count = length ts; long = first_long ts }

-- 30
unfoldable pub size_fine : ℕ → Result (Unit {0}) Wrong
size_fine n = cond (ltb 4096 n) (Err (Unfit (MessageTooLong (capped n)))) (Ok tt)

unfoldable pub limits_fine : RawMessage → Result (Unit {0}) Wrong
limits_fine m = and_then (topics_fine m.topic_ids) (size_fine (length (encode_message m)))

-- a message
unfoldable pub weighed : ℕ → RawMessage → Result (Unit {0}) Wrong
weighed flags m =
    and_then (from_fine m.from)
    (and_then (seqno_fine (given m.seqno))
    (and_then (backed_fine (allows_unsigned flags) (given m.from) m.signature m.key) (limits_fine m)))

-- message by message: the first that may not be written
abbrev pub first_unfit : ℕ → List RawMessage → Result (Unit {0}) Wrong
first_unfit flags [] = Ok tt
first_unfit flags (m ∷ ms) = and_then (weighed flags m) (first_unfit flags ms)
