-- As in admission: under every flags a message with a signature is refused exactly as admission refuses its bytes, the host's word given; and one without, where the
-- flags allow it, as admission refuses its bytes, whatever the word. So every message of what is written is admitted. Where they do not, a message without a signature is
-- refused by 21, 22, 34, 23, or by 26 with 0. 25 and 27 are never given, and 24 only with the flag on, for a key without a signature.
use Rattle.std.specs.Prelude.{Option, Some, None, Result, Ok, Err, ℕ, ◌-◌, ◌^◌, ◌≤◌, ◌<◌, ◌≡◌, Bool, true, false}
use Rattle.std.specs.Prelude.{cond, ◌||◌, List, [], ◌∷◌, map, ◌↔◌, length, eqb}
use Rattle.std.proofs.Math.Path.{refl, subst}
use Rattle.std.proofs.Common.{sym, ap, ◌∙◌, arith, ltb-false}
use Rattle.std.proofs.Math.Dec.{ltb}
use Rattle.basis.specs.declared.Mode.{Mode}
use Rattle.basis.specs.Dialect.{mode_of}
use Rattle.basis.specs.declared.Dialect.{Dialect}
use Rattle.basis.specs.Bytes.{Bytes}
use Rattle.basis.specs.Cases.{either, clash}
use Rattle.basis.specs.Refusals.{missing-from, invalid_from, not-peer_id, invalid_seqno, key-without-signature}
use Rattle.basis.specs.Refusals.{invalid_signature-length, invalid_key, key_mismatch, topic-count, topic-too_long, message-too_long}
use Rattle.utf8.specs.Grammar.{Utf8}
use Rattle.protobuf.specs.Walk.{between}
use Rattle.protobuf.specs.WalkLaws.{between-length}
use Rattle.schema.specs.declared.Kind.TheVariants as kind
use Rattle.schema.specs.declared.Place.{Place}
use Rattle.schema.specs.declared.Place.TheVariants as place
use Rattle.schema.specs.Slots.{slots_of}
use Rattle.schema.specs.SlotsLaws.{PlaceInside}
use Rattle.schema.proofs.SlotsLaws.{slots_inside}
use Rattle.ids.specs.declared.IdError.TheVariants as noid
use Rattle.ids.specs.declared.IdError.{IdError}
use Rattle.ids.specs.Ids.{on_seqno, on_from, id_parts}
use Rattle.rpc.specs.Rpc.{RawMessage, Rpc}
use Rattle.rpc.specs.Grammar.{Each, none_left, ◌and◌, IsMessage, IsRpc, is-rpc}
use Rattle.rpc.specs.Id.{unfit}
use Rattle.admission.specs.declared.Unfit.{Unfit}
use Rattle.admission.specs.declared.Unfit.TheVariants as why
use Rattle.admission.specs.Flags.{allows_unsigned}
use Rattle.admission.specs.Admission.{topics_of, first_long, on_limits, on_word, is_key, key_matches, key_inside, on_key, on_signature}
use Rattle.admission.specs.Admission.{is_peer_id, on_peer, part_at, sender_of, on_id, admission_of, is_there, is_signed, vouched}
use Rattle.admission.specs.AdmissionLaws.{vouched-same, fit-signed}
use Rattle.admission.specs.Fit.{given_at}
use Rattle.admission.specs.Told.{unfit_told, admission_told}
use Rattle.meaning.specs.Decoded.{Within}
use Rattle.outputs.specs.Cached.{topics-mean}
use Rattle.outputs.specs.Fits.{FitMessage}
use Rattle.outputs.specs.FitsLaws.{fields-given, fit-message}
use Rattle.compose.specs.declared.Wrong.{Wrong}
use Rattle.compose.specs.declared.Wrong.TheVariants as wrong
use Rattle.compose.specs.Lent.{lent_rows}
use Rattle.compose.specs.Said.{encode_message, renewed, messages_in, said}
use Rattle.compose.specs.Weighed.{capped, and_then, given, from_fine, seqno_fine, signature_fine, key_fine, bare_fine}
use Rattle.compose.specs.Weighed.{signed_fine, backed_fine, topics_fine, size_fine}
use Rattle.compose.specs.Weighed.{limits_fine, weighed, first_unfit}
use Rattle.compose.specs.Compose.{write_tested}
use Rattle.compose.specs.Off.{weighed_was, weighed_off, unfit-alike}
use Rattle.compose.specs.Told.{wrong_told}
use Rattle.compose.specs.Puts.{capped_small}
use Rattle.composed.specs.Means.{message_body_lem}
use Rattle.composed.specs.WrittenRows.{both-fine, passed-of}
use Rattle.composed.specs.LendingTexts.{pairs-each, message-plain}

-- ---- what admission says, said of a list: only the length beside 30 may differ, which stops at 2^64 - 1
abbrev pub stopped : Unfit → Unfit
stopped why.MissingFrom = why.MissingFrom
stopped (why.InvalidFrom n) = why.InvalidFrom n
stopped why.NotPeerId = why.NotPeerId
stopped why.InvalidSeqno = why.InvalidSeqno
stopped why.KeyWithoutSignature = why.KeyWithoutSignature
stopped why.MissingSignature = why.MissingSignature
stopped (why.InvalidSignatureLength n) = why.InvalidSignatureLength n
stopped why.InvalidKey = why.InvalidKey
stopped why.KeyPeerIdMismatch = why.KeyPeerIdMismatch
stopped why.SignatureInvalid = why.SignatureInvalid
stopped (why.TopicCount n) = why.TopicCount n
stopped (why.TopicTooLong n) = why.TopicTooLong n
stopped (why.MessageTooLong n) = why.MessageTooLong (capped n)

abbrev pub of_admission : Result ((ℕ × ℕ) × (ℕ × ℕ)) Unfit → Result (Unit {0}) Wrong
of_admission (Ok ((a, e), (b, f))) = Ok tt
of_admission (Err w) = Err (wrong.Unfit (stopped w))

-- ---- each test of admission, before the rest r
-- 28, 29, 30
of-limits : (mode : Mode) (p : List ℕ) (r : Result ((ℕ × ℕ) × (ℕ × ℕ)) Unfit)
    → of_admission (on_limits mode p r)
    ≡ and_then (and_then (topics_fine (topics_of mode p)) (size_fine (length p))) (of_admission r)
unfolding on_limits topics_fine size_fine
of-limits mode p r =
    either (eqb (length (topics_of mode p)) 0) (λ t. simp t)
    (λ t. either (ltb 4 (length (topics_of mode p))) (λ u. simp (t, u))
    (λ u. either (eqb (first_long (topics_of mode p)) 0)
    (λ v. either (ltb 4096 (length p)) (λ w. simp (t, u, v, w)) (λ w. simp (t, u, v, w)))
    (λ v. simp (t, u, v))))

-- 35, 36
of-key : (p s : List ℕ) (q : Place) (r : Result ((ℕ × ℕ) × (ℕ × ℕ)) Unfit)
    → of_admission (on_key p s q r) ≡ and_then (key_fine s (given_at p q)) (of_admission r)
unfolding key_fine
of-key p s place.Absent r = either (key_inside s) (λ t. simp t) (λ t. simp t)
of-key p s (place.Present a e) r =
    either (is_key (between p a e))
    (λ t. either (key_matches s (between p a e)) (λ u. simp (t, u)) (λ u. simp (t, u)))
    (λ t. simp t)

-- the signature that is asked for: it is there, and the host gives its word on it; or there is none, where unsigned messages are allowed
pub data AsAsked (u : Bool) : Option (List ℕ) → Bool → Type 0 where
  with-signature : {d : List ℕ} → AsAsked u (Some d) true
  with_none : {word : Bool} → u ≡ true → AsAsked u None word

some-asked : {u : Bool} {d : List ℕ} {word : Bool} → AsAsked u (Some d) word → word ≡ true
some-asked with-signature = refl

none-asked : {u word : Bool} → AsAsked u None word → u ≡ true
none-asked (with_none h) = h

-- 24, of a key without it
of_bare : (u word : Bool) (p s : List ℕ) (k : Place) (r : Result ((ℕ × ℕ) × (ℕ × ℕ)) Unfit) → u ≡ true
    → of_admission (on_signature u place.Absent k (on_key p s k (on_word word r)) r) ≡ and_then (backed_fine u s None (given_at p k)) (of_admission r)
unfolding backed_fine
of_bare u word p s place.Absent r h = simp h
of_bare u word p s (place.Present a e) r h = simp h

-- 26, of one that is there, then 35, 36
of-signed : (u : Bool) (p s : List ℕ) (a e : ℕ) (k : Place) (r : Result ((ℕ × ℕ) × (ℕ × ℕ)) Unfit) → length (between p a e) ≡ e - a
    → of_admission (on_signature u (place.Present a e) k (on_key p s k r) r)
    ≡ and_then (backed_fine u s (Some (between p a e)) (given_at p k)) (of_admission r)
unfolding backed_fine signature_fine
of-signed u p s a e k r l =
    rw l (either (eqb (e - a) 64) (λ t. simp t (of-key p s k r)) (λ t. simp t))

of-backed : (u word : Bool) (p s : List ℕ) (g k : Place) (r : Result ((ℕ × ℕ) × (ℕ × ℕ)) Unfit) → PlaceInside p g → AsAsked u (given_at p g) word
    → of_admission (on_signature u g k (on_key p s k (on_word word r)) r) ≡ and_then (backed_fine u s (given_at p g) (given_at p k)) (of_admission r)
of-backed u word p s place.Absent k r i x = of_bare u word p s k r (none-asked x)
of-backed u word p s (place.Present a e) k r i x =
    ap (λ (w : Bool). of_admission (on_signature u (place.Present a e) k (on_key p s k (on_word w r)) r)) (some-asked x)
    ∙ of-signed u p s a e k r (between-length p a e (i a e refl).1)

-- 34
of-peer : (s : List ℕ) (r : Result ((ℕ × ℕ) × (ℕ × ℕ)) Unfit)
    → of_admission (on_peer s r) ≡ and_then (cond (is_peer_id s) (Ok tt) (Err (wrong.Unfit why.NotPeerId))) (of_admission r)
of-peer s r = either (is_peer_id s) (λ t. simp t) (λ t. simp t)

-- ---- all of them
then-fine : (r : Result (Unit {0}) Wrong) → and_then r (Ok tt) ≡ r
then-fine (Ok tt) = refl
then-fine (Err w) = refl

-- admission by the sender s and by where signature and key stand
abbrev on_parts : Mode → Bool → Bool → List ℕ → List ℕ → Place → Place → Result ((ℕ × ℕ) × (ℕ × ℕ)) IdError → Result ((ℕ × ℕ) × (ℕ × ℕ)) Unfit
on_parts mode u word p s g k (Err noid.MissingFrom) = Err why.MissingFrom
on_parts mode u word p s g k (Err (noid.InvalidFrom n)) = Err (why.InvalidFrom n)
on_parts mode u word p s g k (Err noid.InvalidSeqno) = on_peer s (Err why.InvalidSeqno)
on_parts mode u word p s g k (Ok ((a, e), (b, f))) =
    let l = on_limits mode p (Ok ((a, e), (b, f))) in on_peer s (on_signature u g k (on_key p s k (on_word word l)) l)

on_parts_lem : (flags : ℕ) (p : List ℕ) (word : Bool) (x : Result ((ℕ × ℕ) × (ℕ × ℕ)) IdError)
    → on_id flags p word x
    ≡ on_parts (mode_of flags) (allows_unsigned flags) word p (sender_of (mode_of flags) p)
    (slots_of (mode_of flags) kind.RawMessage p).fourth (slots_of (mode_of flags) kind.RawMessage p).fifth x
on_parts_lem flags p word (Err noid.MissingFrom) = refl
on_parts_lem flags p word (Err (noid.InvalidFrom n)) = refl
on_parts_lem flags p word (Err noid.InvalidSeqno) = refl
on_parts_lem flags p word (Ok ((a, e), (b, f))) = refl

-- what is weighed behind the sequence number
abbrev behind : Mode → Bool → List ℕ → List ℕ → Place → Place → Result (Unit {0}) Wrong
behind mode u p s g k =
    and_then (backed_fine u s (given_at p g) (given_at p k)) (and_then (topics_fine (topics_of mode p)) (size_fine (length p)))

module _ (mode : Mode) (u word : Bool) (p : List ℕ) (g k : Place) (i : PlaceInside p g)
    (h : AsAsked u (given_at p g) word) where
  of_parts : (s : List ℕ) (a e b f : ℕ) → of_admission (on_parts mode u word p s g k (Ok ((a, e), (b, f))))
      ≡ and_then (cond (is_peer_id s) (Ok tt) (Err (wrong.Unfit why.NotPeerId))) (behind mode u p s g k)
  of_parts s a e b f =
      let fit : Result ((ℕ × ℕ) × (ℕ × ℕ)) Unfit = Ok ((a, e), (b, f)) in
      let l = of-limits mode p fit ∙ then-fine (and_then (topics_fine (topics_of mode p)) (size_fine (length p))) in
      of-peer s (on_signature u g k (on_key p s k (on_word word (on_limits mode p fit))) (on_limits mode p fit))
      ∙ ap (and_then (cond (is_peer_id s) (Ok tt) (Err (wrong.Unfit why.NotPeerId))))
      (of-backed u word p s g k (on_limits mode p fit) i h ∙ ap (and_then (backed_fine u s (given_at p g) (given_at p k))) l)

  of-seqno : (s : List ℕ) (a e : ℕ) (q : Place) → PlaceInside p q
      → of_admission (on_parts mode u word p s g k (on_seqno a e q))
      ≡ and_then (cond (is_peer_id s) (Ok tt) (Err (wrong.Unfit why.NotPeerId)))
      (and_then (seqno_fine (given (given_at p q))) (behind mode u p s g k))
  unfolding seqno_fine
  of-seqno s a e place.Absent j = of-peer s (Err why.InvalidSeqno)
  of-seqno s a e (place.Present b f) j =
      let l = between-length p b f (j b f refl).1 in
      rw l (either (eqb (f - b) 0 || ltb 64 (f - b))
      (λ t. simp t (of-peer s (Err why.InvalidSeqno)))
      (λ t. simp t (of_parts s a e b f)))

  of-from : (f q : Place) → PlaceInside p f → PlaceInside p q
      → of_admission (on_parts mode u word p (part_at p f) g k (on_from f q))
      ≡ and_then (from_fine (given_at p f))
      (and_then (seqno_fine (given (given_at p q))) (behind mode u p (given (given_at p f)) g k))
  unfolding from_fine
  of-from place.Absent q j l = refl
  of-from (place.Present a e) q j l =
      let n = between-length p a e (j a e refl).1 in
      rw n (either (eqb (e - a) 0 || ltb 64 (e - a)) (λ t. simp t) (λ t. simp t (of-seqno (between p a e) a e q l)))

-- a message with the signature that is asked for: what its own bytes are told by admission
pub as_admission : (flags : ℕ) (m : RawMessage) (word : Bool) → IsMessage (mode_of flags) (encode_message m) (renewed m)
    → AsAsked (allows_unsigned flags) m.signature word
    → weighed flags m ≡ of_admission (admission_of flags (encode_message m) word)
unfolding admission_of id_parts weighed limits_fine
as_admission flags m word i h =
    let u = allows_unsigned flags in
    let mode = mode_of flags in
    let p = encode_message m in
    let s = slots_of mode kind.RawMessage p in
    let n = slots_inside mode kind.RawMessage p in
    let g = fields-given mode i in
    let t : topics_of mode p ≡ m.topic_ids = sym (topics-mean mode i).0 in
    sym (ap of_admission (on_parts_lem flags p word (id_parts mode p))
    ∙ of-from mode u word p s.fourth s.fifth n.fourth
    (subst (λ (o : Option (List ℕ)). AsAsked u o word) (sym g.signature) h)
    s.first s.third n.first n.third
    ∙ rw (g.from, g.seqno, g.signature, g.key, t))

-- where unsigned messages are allowed, so is every message, the host's word given
on_asked : (u : Bool) (o : Option (List ℕ)) → u ≡ true → AsAsked u o true
on_asked u None h = with_none h
on_asked u (Some d) h = with-signature

pub on_as_admission : (flags : ℕ) (m : RawMessage) → allows_unsigned flags ≡ true
    → IsMessage (mode_of flags) (encode_message m) (renewed m)
    → weighed flags m ≡ of_admission (admission_of flags (encode_message m) true)
on_as_admission flags m h i = as_admission flags m true i (on_asked (allows_unsigned flags) m.signature h)

-- ---- told alike: below 2^64 bytes no length is stopped
-- only 30 tells the length of the bytes
data Sized (p : List ℕ) : Result ((ℕ × ℕ) × (ℕ × ℕ)) Unfit → Type 0 where
  taken : {a e b f : ℕ} → Sized p (Ok ((a, e), (b, f)))
  early : {w : Unfit} → eqb (unfit_told w).number message-too_long ≡ false → Sized p (Err w)
  long : Sized p (Err (why.MessageTooLong (length p)))

module _ (p : List ℕ) where
  cond-sized : (t : Bool) {a b : Result ((ℕ × ℕ) × (ℕ × ℕ)) Unfit} → Sized p a → Sized p b → Sized p (cond t a b)
  cond-sized true x y = x
  cond-sized false x y = y

  limits-sized : (mode : Mode) {r : Result ((ℕ × ℕ) × (ℕ × ℕ)) Unfit} → Sized p r → Sized p (on_limits mode p r)
  unfolding on_limits
  limits-sized mode x =
      cond-sized (eqb (length (topics_of mode p)) 0 || ltb 4 (length (topics_of mode p))) (early refl)
      (cond-sized (eqb (first_long (topics_of mode p)) 0) (cond-sized (ltb 4096 (length p)) long x) (early refl))

  key-sized : (s : List ℕ) (q : Place) {r : Result ((ℕ × ℕ) × (ℕ × ℕ)) Unfit} → Sized p r → Sized p (on_key p s q r)
  key-sized s place.Absent x = cond-sized (key_inside s) x (early refl)
  key-sized s (place.Present a e) x =
      cond-sized (is_key (between p a e)) (cond-sized (key_matches s (between p a e)) x (early refl)) (early refl)

  word-sized : (word : Bool) {r : Result ((ℕ × ℕ) × (ℕ × ℕ)) Unfit} → Sized p r → Sized p (on_word word r)
  word-sized true x = x
  word-sized false x = early refl

  signature-sized : (u : Bool) (g k : Place) {r l : Result ((ℕ × ℕ) × (ℕ × ℕ)) Unfit} → Sized p r → Sized p l → Sized p (on_signature u g k r l)
  signature-sized u place.Absent place.Absent x y = cond-sized u y (early refl)
  signature-sized u place.Absent (place.Present a e) x y = early refl
  signature-sized u (place.Present a e) k x y = cond-sized (eqb (e - a) 64) x (early refl)

  parts-sized : (mode : Mode) (u word : Bool) (s : List ℕ) (g k : Place) (x : Result ((ℕ × ℕ) × (ℕ × ℕ)) IdError)
      → Sized p (on_parts mode u word p s g k x)
  parts-sized mode u word s g k (Err noid.MissingFrom) = early refl
  parts-sized mode u word s g k (Err (noid.InvalidFrom n)) = early refl
  parts-sized mode u word s g k (Err noid.InvalidSeqno) = cond-sized (is_peer_id s) (early refl) (early refl)
  parts-sized mode u word s g k (Ok ((a, e), (b, f))) =
      cond-sized (is_peer_id s)
      (signature-sized u g k (key-sized s k (word-sized word (limits-sized mode taken))) (limits-sized mode taken))
      (early refl)

  admission_sized : (flags : ℕ) (word : Bool) → Sized p (admission_of flags p word)
  unfolding admission_of
  admission_sized flags word =
      let m = mode_of flags in
      let s = slots_of m kind.RawMessage p in
      subst (Sized p) (sym (on_parts_lem flags p word (id_parts m p)))
      (parts-sized m (allows_unsigned flags) word (sender_of m p) s.fourth s.fifth (id_parts m p))

  early-same : (w : Unfit) → eqb (unfit_told w).number message-too_long ≡ false → stopped w ≡ w
  early-same why.MissingFrom h = refl
  early-same (why.InvalidFrom n) h = refl
  early-same why.NotPeerId h = refl
  early-same why.InvalidSeqno h = refl
  early-same why.KeyWithoutSignature h = refl
  early-same why.MissingSignature h = refl
  early-same (why.InvalidSignatureLength n) h = refl
  early-same why.InvalidKey h = refl
  early-same why.KeyPeerIdMismatch h = refl
  early-same why.SignatureInvalid h = refl
  early-same (why.TopicCount n) h = refl
  early-same (why.TopicTooLong n) h = refl
  early-same (why.MessageTooLong n) h = clash (cc)

  told-alike : {r : Result ((ℕ × ℕ) × (ℕ × ℕ)) Unfit} (w : Wrong) → length p < 2 ^ 64 → Sized p r → of_admission r ≡ Err w
      → wrong_told w ≡ admission_told r
  told-alike w l taken h = clash (cc)
  told-alike w l (early {w = u} k) h =
      let e : w ≡ wrong.Unfit (stopped u) = cc in ap wrong_told e ∙ ap unfit_told (early-same u k)
  told-alike w l long h =
      let e : w ≡ wrong.Unfit (why.MessageTooLong (capped (length p))) = cc in
      ap wrong_told e ∙ ap (λ (n : ℕ). unfit_told (why.MessageTooLong n)) (capped_small (length p) (omega arith))

-- below 2^64 bytes its refusal is told as admission tells it
pub told_as_admission : (flags : ℕ) (m : RawMessage) (word : Bool) (w : Wrong)
    → IsMessage (mode_of flags) (encode_message m) (renewed m)
    → AsAsked (allows_unsigned flags) m.signature word → length (encode_message m) < 2 ^ 64 → weighed flags m ≡ Err w
    → wrong_told w ≡ admission_told (admission_of flags (encode_message m) word)
told_as_admission flags m word w i h l k =
    told-alike (encode_message m) w l (admission_sized (encode_message m) flags word) (sym (as_admission flags m word i h) ∙ k)

-- ---- so what is written is admitted
-- bytes of a message that admission takes wherever it is vouched for: with the host's word, or without where it has no signature and the flags allow that
abbrev pub Taken : ℕ → List ℕ → Type 0
Taken flags p = (word : Bool) → vouched flags p word ≡ true
    → (a : ℕ) × (e : ℕ) × (b : ℕ) × (f : ℕ) × (admission_of flags p word ≡ Ok ((a, e), (b, f)))

-- it has the signature that is asked for
backed-asked : (u : Bool) (s : List ℕ) (o k : Option (List ℕ)) → backed_fine u s o k ≡ Ok tt → AsAsked u o true
unfolding backed_fine signature_fine
backed-asked u s None k h = either u (λ t. with_none t) (λ t. clash (let z = simp t at h in cc))
backed-asked u s (Some d) k h = with-signature

weighed-asked : (flags : ℕ) (m : RawMessage) → weighed flags m ≡ Ok tt → AsAsked (allows_unsigned flags) m.signature true
unfolding weighed
weighed-asked flags m h =
    let u = allows_unsigned flags in
    let s = backed_fine u (given m.from) m.signature m.key in
    let q = seqno_fine (given m.seqno) in
    let a = both-fine (from_fine m.from) (and_then q (and_then s (limits_fine m))) h in
    let b = both-fine q (and_then s (limits_fine m)) a.1 in
    let c = both-fine s (limits_fine m) b.1 in
    backed-asked u (given m.from) m.signature m.key c.0

of-fine : (flags : ℕ) (p : List ℕ) (r : Result ((ℕ × ℕ) × (ℕ × ℕ)) Unfit) → admission_of flags p true ≡ r → of_admission r ≡ Ok tt → Taken flags p
of-fine flags p (Ok ((a, e), (b, f))) h k = λ word v. (a, e, b, f, vouched-same flags p word v ∙ h)
of-fine flags p (Err w) h k = clash (cc)

-- a message that may be written, by its own bytes
pub weighed-taken : (flags : ℕ) (m : RawMessage) → IsMessage (mode_of flags) (encode_message m) (renewed m)
    → weighed flags m ≡ Ok tt
    → Taken flags (encode_message m)
weighed-taken flags m i h =
    of-fine flags (encode_message m) (admission_of flags (encode_message m) true) refl
    (sym (as_admission flags m true i (weighed-asked flags m h)) ∙ h)

-- such a message has at most 4,096 bytes
pub weighed-small : (flags : ℕ) (m : RawMessage) → weighed flags m ≡ Ok tt → length (encode_message m) ≤ 4096
unfolding weighed limits_fine size_fine
weighed-small flags m h =
    let l = and_then (topics_fine m.topic_ids) (size_fine (length (encode_message m))) in
    let s = backed_fine (allows_unsigned flags) (given m.from) m.signature m.key in
    let q = seqno_fine (given m.seqno) in
    let a = both-fine (from_fine m.from) (and_then q (and_then s l)) h in
    let b = both-fine q (and_then s l) a.1 in
    let c = both-fine s l b.1 in
    let d = both-fine (topics_fine m.topic_ids) (size_fine (length (encode_message m))) c.1 in
    either (ltb 4096 (length (encode_message m))) (λ t. clash (let z = simp t at d.1 in cc)) (λ t. ltb-false _ _ t)

-- its topics are UTF-8 where it stands in an RPC that is meant in some dialect; so its bytes, which hold no group, mean
-- it in every mode
publish-texts : {d : Dialect} {w : List ℕ} {x : Rpc} → IsRpc d w x
    → Each (λ (m : RawMessage). Each Utf8 m.topic_ids) x.publish
publish-texts {d} (is-rpc g a b c) = pairs-each (message-plain d.mode) b

each-taken : (flags : ℕ) (ms : List RawMessage) → first_unfit flags ms ≡ Ok tt
    → Each (λ (m : RawMessage). Each Utf8 m.topic_ids) (map renewed ms)
    → Each (λ (m : RawMessage). Taken flags m.raw) (map renewed ms)
each-taken flags [] h none_left = none_left
each-taken flags (m ∷ ms) h (u and us) =
    let a = both-fine (weighed flags m) (first_unfit flags ms) h in
    let l = weighed-small flags m a.0 in
    weighed-taken flags m (message_body_lem (mode_of flags) m (omega arith) u) a.0 and each-taken flags ms a.1 us

-- each message of the RPC that lists say is taken, where they are written: under any flags that allow the same of
-- unsigned messages, whichever mode is among them
pub written-admitted : {d : Dialect} (f g : ℕ) (t b w : List ℕ) → allows_unsigned f ≡ allows_unsigned g
    → write_tested f t b ≡ Ok tt → Within d w (said b (lent_rows t))
    → Each (λ (m : RawMessage). Taken g m.raw) (said b (lent_rows t)).publish
unfolding said
written-admitted f g t b w same h i =
    let ms = messages_in b (lent_rows t) in
    each-taken g ms (sym (unfit-alike f g same ms) ∙ (passed-of f t b h).fit) (publish-texts i.means)

-- and one that is taken has the signature that is asked for
there-given : (p : List ℕ) (q : Place) (u : Bool) → is_there q ≡ true → AsAsked u (given_at p q) true
there-given p place.Absent u h = clash (cc)
there-given p (place.Present a e) u h = with-signature

fit-asked : (flags : ℕ) (m : RawMessage) (a e b f : ℕ) → IsMessage (mode_of flags) (encode_message m) (renewed m)
    → admission_of flags (encode_message m) true ≡ Ok ((a, e), (b, f)) → AsAsked (allows_unsigned flags) m.signature true
unfolding is_signed
fit-asked flags m a e b f i h =
    let p = encode_message m in
    let u = allows_unsigned flags in
    either u (λ t. on_asked u m.signature t)
    (λ t. subst (λ (o : Option (List ℕ)). AsAsked u o true) (fields-given (mode_of flags) i).signature
    (there-given p (slots_of (mode_of flags) kind.RawMessage p).fourth u (fit-signed flags p true a e b f h t)))

vouched-word : (flags : ℕ) (p : List ℕ) → vouched flags p true ≡ true
unfolding vouched
vouched-word flags p = refl

-- by its fields, as the documents have it: a message may be written exactly where it is fit
pub weighed-exactly : (flags : ℕ) (m : RawMessage) → IsMessage (mode_of flags) (encode_message m) (renewed m)
    → Bytes (encode_message m)
    → (weighed flags m ≡ Ok tt) ↔ FitMessage flags (renewed m) true
weighed-exactly flags m i b = (
  λ h. (fit-message flags i b true).0 (weighed-taken flags m i h true (vouched-word flags (encode_message m))),
  λ x.
      let t = (fit-message flags i b true).1 x in
      as_admission flags m true i (fit-asked flags m t.0 t.1 t.2 t.3 i t.4) ∙ ap of_admission t.4,
)

-- ---- a message without a signature, where none is allowed: 21, 22, 34, 23, or 26 with 0
pub data Unsigned : Unfit → Type 0 where
  no-from : Unsigned why.MissingFrom
  bad-from : {n : ℕ} → Unsigned (why.InvalidFrom n)
  no-peer : Unsigned why.NotPeerId
  bad-seqno : Unsigned why.InvalidSeqno
  no-signature : Unsigned (why.InvalidSignatureLength 0)

unsigned_by : (f : Option (List ℕ)) (q : List ℕ) (r : Result (Unit {0}) Wrong) → (w : Unfit) × Unsigned w
    × (and_then (from_fine f) (and_then (seqno_fine q) (and_then (signature_fine []) r)) ≡ Err (wrong.Unfit w))
unfolding from_fine seqno_fine signature_fine
unsigned_by None q r = (why.MissingFrom, no-from, refl)
unsigned_by (Some s) q r =
    either (unfit s) (λ t. (why.InvalidFrom (length s), bad-from, simp t))
    (λ t. either (is_peer_id s)
    (λ u. either (unfit q) (λ v. (why.InvalidSeqno, bad-seqno, simp (t, u, v)))
    (λ v. (why.InvalidSignatureLength 0, no-signature, simp (t, u, v))))
    (λ u. (why.NotPeerId, no-peer, simp (t, u))))

pub unsigned : (flags : ℕ) (m : RawMessage) → allows_unsigned flags ≡ false → m.signature ≡ None
    → (w : Unfit) × Unsigned w × (weighed flags m ≡ Err (wrong.Unfit w))
unfolding weighed_was
unsigned flags m off h =
    let r = and_then (key_fine (given m.from) m.key) (limits_fine m) in
    let a = unsigned_by m.from (given m.seqno) r in (
      a.0,
      a.1,
      weighed_off flags m off ∙ ap (λ (o : Option (List ℕ)). and_then (from_fine m.from)
          (and_then (seqno_fine (given m.seqno)) (and_then (signature_fine (given o)) r))) h ∙ a.2,
    )

-- ---- 24 is given exactly for a key without a signature where unsigned messages are allowed, from and seqno as they must be
pub record KeyAlone (flags : ℕ) (m : RawMessage) : Type 0 where
  pub allowed : allows_unsigned flags ≡ true
  pub none-there : m.signature ≡ None
  pub key : List ℕ
  pub there : m.key ≡ Some key
  pub from : from_fine m.from ≡ Ok tt
  pub seqno : seqno_fine (given m.seqno) ≡ Ok tt

-- a test that never gives it
abbrev Other : Result (Unit {0}) Wrong → Type 0
Other r = r ≡ Err (wrong.Unfit why.KeyWithoutSignature) → ⊥

cond_other : (t : Bool) {a b : Result (Unit {0}) Wrong} → Other a → Other b → Other (cond t a b)
cond_other true x y = x
cond_other false x y = y

then_other : (a : Result (Unit {0}) Wrong) {b : Result (Unit {0}) Wrong} → Other a → Other b → Other (and_then a b)
then_other (Ok tt) x y = y
then_other (Err w) x y = x

from_other : (f : Option (List ℕ)) → Other (from_fine f)
unfolding from_fine
from_other None h = clash (cc)
from_other (Some s) h =
    cond_other (unfit s) (λ z. clash (cc)) (cond_other (is_peer_id s) (λ z. clash (cc)) (λ z. clash (cc))) h

seqno_other : (d : List ℕ) → Other (seqno_fine d)
unfolding seqno_fine
seqno_other d h = cond_other (unfit d) (λ z. clash (cc)) (λ z. clash (cc)) h

key_other : (s : List ℕ) (k : Option (List ℕ)) → Other (key_fine s k)
unfolding key_fine
key_other s None h = cond_other (key_inside s) (λ z. clash (cc)) (λ z. clash (cc)) h
key_other s (Some k) h =
    cond_other (is_key k) (cond_other (key_matches s k) (λ z. clash (cc)) (λ z. clash (cc))) (λ z. clash (cc)) h

signed_other : (s d : List ℕ) (k : Option (List ℕ)) → Other (signed_fine s d k)
unfolding signature_fine
signed_other s d k h =
    then_other (signature_fine d) (λ z. cond_other (eqb (length d) 64) (λ y. clash (cc)) (λ y. clash (cc)) z) (key_other s k) h

limits_other : (m : RawMessage) → Other (limits_fine m)
unfolding limits_fine topics_fine size_fine
limits_other m h =
    let ts = m.topic_ids in
    then_other (topics_fine ts)
    (λ z. cond_other (eqb (length ts) 0 || ltb 4 (length ts)) (λ y. clash (cc)) (cond_other (eqb (first_long ts) 0) (λ y. clash (cc)) (λ y. clash (cc))) z)
    (λ z. cond_other (ltb 4096 (length (encode_message m))) (λ y. clash (cc)) (λ y. clash (cc)) z) h

-- so it comes from the test behind the sequence number
then_one : (a b : Result (Unit {0}) Wrong) → Other a → and_then a b ≡ Err (wrong.Unfit why.KeyWithoutSignature)
    → (a ≡ Ok tt) × (b ≡ Err (wrong.Unfit why.KeyWithoutSignature))
then_one (Ok tt) b x h = (refl, h)
then_one (Err w) b x h = absurd (x h)

then-first : (a b : Result (Unit {0}) Wrong) → Other b → and_then a b ≡ Err (wrong.Unfit why.KeyWithoutSignature)
    → a ≡ Err (wrong.Unfit why.KeyWithoutSignature)
then-first (Ok tt) b x h = absurd (x h)
then-first (Err w) b x h = h

record Alone (u : Bool) (o k : Option (List ℕ)) : Type 0 where
  allowed : u ≡ true
  none-there : o ≡ None
  key : List ℕ
  there : k ≡ Some key

backed-alone : (u : Bool) (s : List ℕ) (o k : Option (List ℕ))
    → backed_fine u s o k ≡ Err (wrong.Unfit why.KeyWithoutSignature) → Alone u o k
unfolding backed_fine
backed-alone u s None None h =
    either u (λ t. clash (let z = simp t at h in cc)) (λ t. absurd (signed_other s [] None (simp t at h)))
backed-alone u s None (Some k) h =
    either u (λ t. record { allowed = t; none-there = refl; key = k; there = refl })
    (λ t. absurd (signed_other s [] (Some k) (simp t at h)))
backed-alone u s (Some d) k h = absurd (signed_other s d k h)

key-alone-only : (flags : ℕ) (m : RawMessage) → weighed flags m ≡ Err (wrong.Unfit why.KeyWithoutSignature) → KeyAlone flags m
unfolding weighed
key-alone-only flags m h =
    let u = allows_unsigned flags in
    let s = backed_fine u (given m.from) m.signature m.key in
    let q = seqno_fine (given m.seqno) in
    let a = then_one (from_fine m.from) (and_then q (and_then s (limits_fine m))) (from_other m.from) h in
    let b = then_one q (and_then s (limits_fine m)) (seqno_other (given m.seqno)) a.1 in
    let c = backed-alone u (given m.from) m.signature m.key (then-first s (limits_fine m) (limits_other m) b.1) in
    record { allowed = c.allowed; none-there = c.none-there; key = c.key; there = c.there; from = a.0; seqno = b.0 }

key-alone-is : (flags : ℕ) (m : RawMessage) → KeyAlone flags m → weighed flags m ≡ Err (wrong.Unfit why.KeyWithoutSignature)
unfolding weighed backed_fine
key-alone-is flags m x = rw (x.from, x.seqno, x.none-there, x.there, x.allowed)

pub key-alone : (flags : ℕ) (m : RawMessage)
    → (weighed flags m ≡ Err (wrong.Unfit why.KeyWithoutSignature)) ↔ KeyAlone flags m
key-alone flags m = (key-alone-only flags m, key-alone-is flags m)

-- ---- what a message is refused with: eleven of the scope's numbers. 25 and 27 are not among them
abbrev pub one_of : ℕ → List ℕ → Bool
one_of n [] = false
one_of n (k ∷ ks) = eqb n k || one_of n ks

abbrev pub message_numbers : List ℕ
message_numbers =
    missing-from ∷ invalid_from ∷ not-peer_id ∷ invalid_seqno ∷ key-without-signature ∷ invalid_signature-length ∷ invalid_key
    ∷ key_mismatch ∷ topic-count ∷ topic-too_long ∷ message-too_long ∷ []

data Eleven : Result (Unit {0}) Wrong → Type 0 where
  fine : Eleven (Ok tt)
  one : {w : Unfit} → one_of (unfit_told w).number message_numbers ≡ true → Eleven (Err (wrong.Unfit w))

then_eleven : {a b : Result (Unit {0}) Wrong} → Eleven a → Eleven b → Eleven (and_then a b)
then_eleven fine y = y
then_eleven (one h) y = one h

cond_eleven : (t : Bool) {a b : Result (Unit {0}) Wrong} → Eleven a → Eleven b → Eleven (cond t a b)
cond_eleven true x y = x
cond_eleven false x y = y

from_eleven : (f : Option (List ℕ)) → Eleven (from_fine f)
unfolding from_fine
from_eleven None = one refl
from_eleven (Some s) = cond_eleven (unfit s) (one refl) (cond_eleven (is_peer_id s) fine (one refl))

key_eleven : (s : List ℕ) (k : Option (List ℕ)) → Eleven (key_fine s k)
unfolding key_fine
key_eleven s None = cond_eleven (key_inside s) fine (one refl)
key_eleven s (Some k) = cond_eleven (is_key k) (cond_eleven (key_matches s k) fine (one refl)) (one refl)

signed_eleven : (s d : List ℕ) (k : Option (List ℕ)) → Eleven (signed_fine s d k)
unfolding signature_fine
signed_eleven s d k = then_eleven (cond_eleven (eqb (length d) 64) fine (one refl)) (key_eleven s k)

bare_eleven : (k : Option (List ℕ)) → Eleven (bare_fine k)
bare_eleven None = fine
bare_eleven (Some k) = one refl

backed_eleven : (u : Bool) (s : List ℕ) (o k : Option (List ℕ)) → Eleven (backed_fine u s o k)
unfolding backed_fine
backed_eleven u s None k = cond_eleven u (bare_eleven k) (signed_eleven s [] k)
backed_eleven u s (Some d) k = signed_eleven s d k

weighed_eleven : (flags : ℕ) (m : RawMessage) → Eleven (weighed flags m)
unfolding weighed limits_fine seqno_fine topics_fine size_fine
weighed_eleven flags m =
    let ts = m.topic_ids in
    then_eleven (from_eleven m.from)
    (then_eleven (cond_eleven (unfit (given m.seqno)) (one refl) fine)
    (then_eleven (backed_eleven (allows_unsigned flags) (given m.from) m.signature m.key)
    (then_eleven (cond_eleven (eqb (length ts) 0 || ltb 4 (length ts)) (one refl) (cond_eleven (eqb (first_long ts) 0) fine (one refl)))
    (cond_eleven (ltb 4096 (length (encode_message m))) (one refl) fine))))

-- the one that is told
pub record OfEleven (w : Wrong) : Type 0 where
  pub unfit : Unfit
  pub is : w ≡ wrong.Unfit unfit
  pub among : one_of (unfit_told unfit).number message_numbers ≡ true

of_eleven : {r : Result (Unit {0}) Wrong} (w : Wrong) → Eleven r → r ≡ Err w → OfEleven w
of_eleven w fine h = clash (cc)
of_eleven w (one {w = u} k) h = record { unfit = u; is = cc; among = k }

pub weighed-number : (flags : ℕ) (m : RawMessage) (w : Wrong) → weighed flags m ≡ Err w → OfEleven w
weighed-number flags m w h = of_eleven w (weighed_eleven flags m) h
