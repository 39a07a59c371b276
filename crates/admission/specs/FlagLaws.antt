-- What the flag that allows unsigned messages changes: with it off, nothing of what admission was before there were
-- flags; with a signature, nothing; and what is taken with it off is taken with it on. What the flag that skips groups
-- changes: nothing of a message that the first mode reads.
use Rattle.std.specs.Prelude.{Result, Ok, Err, ℕ, ◌-◌, ◌≡◌, refl, Bool, false, cond, ◌&&◌, List, eqb}
use Rattle.std.proofs.Common.{sym, ◌∙◌}
use Rattle.std.proofs.Math.Path.{ap}
use Rattle.std.proofs.Math.Bool.{true}
use Rattle.basis.specs.declared.Mode.{Mode}
use Rattle.basis.specs.declared.Mode.TheVariants.{Plain, Groups}
use Rattle.basis.specs.Dialect.{mode_of}
use Rattle.basis.specs.Cases.{either, clash, both}
use Rattle.schema.specs.declared.Kind.TheVariants as kind
use Rattle.schema.specs.declared.Place.{Place}
use Rattle.schema.specs.declared.Place.TheVariants as place
use Rattle.schema.specs.Count.{counted}
use Rattle.schema.specs.Slots.{slots_of}
use Rattle.schema.specs.Modes.{same-fields, same_slots, same-counted}
use Rattle.ids.specs.Ids.{id_parts}
use Rattle.ids.specs.Modes.{same_parts}
use Rattle.admission.specs.declared.Unfit.TheVariants.{MissingFrom, InvalidFrom, InvalidSeqno}
use Rattle.admission.specs.declared.Unfit.TheVariants.{KeyWithoutSignature, MissingSignature}
use Rattle.admission.specs.declared.Unfit.TheVariants.{InvalidSignatureLength}
use Rattle.ids.specs.declared.IdError.TheVariants as noid
use Rattle.ids.specs.declared.IdError.{IdError}
use Rattle.protobuf.specs.declared.WireError.{WireError}
use Rattle.admission.specs.declared.Unfit.{Unfit}
use Rattle.admission.specs.Flags.{allows_unsigned}
use Rattle.admission.specs.Admission.{Parts, topics_along, topics_of, Span, places_along, topic_places, same_spans, on_limits, on_word, on_key, on_signature, on_peer}
use Rattle.admission.specs.Admission.{sender_of, on_id, admission_of, is_there, is_signed, id_given, where_read, gives_id}
use Rattle.admission.specs.Admission.{kept_with}
use Rattle.admission.specs.AdmissionLaws.{gives-refused, gives-signed}

-- ---- the four numbers that flags may have: bit 0 and the mode do not depend on each other
pub known_modes : (mode_of 0 ≡ Plain) × (mode_of 1 ≡ Plain) × (mode_of 2 ≡ Groups) × (mode_of 3 ≡ Groups)
unfolding mode_of
known_modes = (refl, refl, refl, refl)

pub known-allowed :
    (allows_unsigned 0 ≡ false)
    × (allows_unsigned 1 ≡ true)
    × (allows_unsigned 2 ≡ false)
    × (allows_unsigned 3 ≡ true)
unfolding allows_unsigned
known-allowed = (refl, refl, refl, refl)

-- ---- admission as it was, in a mode: every message has a signature
abbrev pub signature_was : Place → Place → Result Parts Unfit → Result Parts Unfit
signature_was place.Absent place.Absent r = Err MissingSignature
signature_was place.Absent (place.Present a e) r = Err KeyWithoutSignature
signature_was (place.Present a e) key r = cond (eqb (e - a) 64) r (Err (InvalidSignatureLength (e - a)))

abbrev pub id_was : Mode → List ℕ → Bool → Result Parts IdError → Result Parts Unfit
id_was mode p word (Err noid.MissingFrom) = Err MissingFrom
id_was mode p word (Err (noid.InvalidFrom n)) = Err (InvalidFrom n)
id_was mode p word (Err noid.InvalidSeqno) = on_peer (sender_of mode p) (Err InvalidSeqno)
id_was mode p word (Ok ((a, e), (b, f))) =
    on_peer (sender_of mode p)
    (signature_was (slots_of mode kind.RawMessage p).fourth (slots_of mode kind.RawMessage p).fifth
    (on_key p (sender_of mode p) (slots_of mode kind.RawMessage p).fifth
    (on_word word (on_limits mode p (Ok ((a, e), (b, f)))))))

unfoldable pub admission_was : Mode → List ℕ → Bool → Result Parts Unfit
admission_was mode p word = id_was mode p word (id_parts mode p)

unfoldable pub gives_was : Mode → List ℕ → List ℕ → Bool
gives_was mode p i = where_read (counted mode kind.RawMessage p) (id_given p i (admission_was mode p true))

unfoldable pub kept_was : Mode → List ℕ → List ℕ → List Span → Bool
kept_was mode p i ts = gives_was mode p i && same_spans (topic_places mode p) ts

-- ---- with a signature, or with the flag off, it is that
signature-same : (u : Bool) (q k : Place) (r l : Result Parts Unfit) → (is_there q ≡ true)
    → on_signature u q k r l ≡ signature_was q k r
signature-same u place.Absent k r l h = clash (cc)
signature-same u (place.Present a e) k r l h = refl

signature_off : (u : Bool) (q k : Place) (r l : Result Parts Unfit) → u ≡ false → on_signature u q k r l ≡ signature_was q k r
signature_off u place.Absent place.Absent r l h = rw h
signature_off u place.Absent (place.Present a e) r l h = refl
signature_off u (place.Present a e) k r l h = refl

module _ (flags : ℕ) (p : List ℕ) (word : Bool) where
  id_was_lem : (i : Result Parts IdError) → ((k : Place) (r l : Result Parts Unfit)
      → on_signature (allows_unsigned flags) (slots_of (mode_of flags) kind.RawMessage p).fourth k r l
      ≡ signature_was (slots_of (mode_of flags) kind.RawMessage p).fourth k r)
      → on_id flags p word i ≡ id_was (mode_of flags) p word i
  id_was_lem (Err noid.MissingFrom) h = refl
  id_was_lem (Err (noid.InvalidFrom n)) h = refl
  id_was_lem (Err noid.InvalidSeqno) h = refl
  id_was_lem (Ok ((a, e), (b, f))) h = ap (on_peer (sender_of (mode_of flags) p))
      (h (slots_of (mode_of flags) kind.RawMessage p).fifth _ _)

  pub admission_off : allows_unsigned flags ≡ false → admission_of flags p word ≡ admission_was (mode_of flags) p word
  unfolding admission_of admission_was
  admission_off h =
      id_was_lem (id_parts (mode_of flags) p) (λ k r l. signature_off (allows_unsigned flags)
      (slots_of (mode_of flags) kind.RawMessage p).fourth k r l h)

  pub admission_signed : is_signed (mode_of flags) p ≡ true
      → admission_of flags p word ≡ admission_was (mode_of flags) p word
  unfolding admission_of admission_was is_signed
  admission_signed h =
      id_was_lem (id_parts (mode_of flags) p) (λ k r l. signature-same (allows_unsigned flags)
      (slots_of (mode_of flags) kind.RawMessage p).fourth k r l h)

module _ (flags : ℕ) (p i : List ℕ) where
  pub gives_off : allows_unsigned flags ≡ false → gives_id flags p i ≡ gives_was (mode_of flags) p i
  unfolding gives_id gives_was
  gives_off h = rw (admission_off flags p true h)

  pub kept_off : (ts : List Span) → allows_unsigned flags ≡ false → kept_with flags p i ts ≡ kept_was (mode_of flags) p i ts
  unfolding kept_with kept_was
  kept_off ts h = rw (gives_off h)

  -- ---- under any flags a message with a signature gives the id that it gave
  pub gives_as_was : is_signed (mode_of flags) p ≡ true → gives_id flags p i ≡ gives_was (mode_of flags) p i
  unfolding gives_id gives_was
  gives_as_was h = rw (admission_signed flags p true h)

-- so what is cached with the flag off may be taken with it on: a setting that is turned on from outside is not found out
pub gives_on : (off flags : ℕ) (p i : List ℕ) → mode_of off ≡ mode_of flags → allows_unsigned off ≡ false
    → gives_id off p i ≡ true → gives_id flags p i ≡ true
gives_on off flags p i m h g =
    gives_as_was flags p i (ap (λ (mode : Mode). is_signed mode p) (sym m) ∙ gives-signed off p i g h)
    ∙ ap (λ (mode : Mode). gives_was mode p i) (sym m) ∙ sym (gives_off off p i h) ∙ g

pub kept_on : (off flags : ℕ) (p i : List ℕ) (ts : List Span) → mode_of off ≡ mode_of flags → allows_unsigned off ≡ false
    → kept_with off p i ts ≡ true → kept_with flags p i ts ≡ true
unfolding kept_with
kept_on off flags p i ts m h k =
    let b = both (gives_id off p i) (same_spans (topic_places (mode_of off) p) ts) k in
    rw (gives_on off flags p i m h b.0) (ap (λ (mode : Mode). same_spans (topic_places mode p) ts) (sym m) ∙ b.1)

-- and one without a signature may not be taken once the flag is off
pub gives-not : (flags : ℕ) (p i : List ℕ) → allows_unsigned flags ≡ false → is_signed (mode_of flags) p ≡ false
    → gives_id flags p i ≡ false
gives-not flags p i h n =
    either (gives_id flags p i) (λ t. clash (let z = gives-signed flags p i t h in cc)) (λ t. t)

-- ---- the mode: what the first mode reads and would take, the second takes as well, where the other flag is the same
module _ (flags other : ℕ) (plain : mode_of flags ≡ Plain) (groups : mode_of other ≡ Groups)
    (same : allows_unsigned other ≡ allows_unsigned flags) (p : List ℕ) (n : ℕ)
    (read : counted Plain kind.RawMessage p ≡ Ok n) where
  topics_mode : topics_of Groups p ≡ topics_of Plain p
  unfolding topics_of
  topics_mode = ap (topics_along p) (same-fields kind.RawMessage p n read)

  limits_mode : (r : Result Parts Unfit) → on_limits Groups p r ≡ on_limits Plain p r
  unfolding on_limits
  limits_mode r = rw topics_mode

  id_mode : (word : Bool) (i : Result Parts IdError) → on_id other p word i ≡ on_id flags p word i
  id_mode word (Err noid.MissingFrom) = refl
  id_mode word (Err (noid.InvalidFrom k)) = refl
  id_mode word (Err noid.InvalidSeqno) = rw (plain, groups, same_slots kind.RawMessage p n read)
  id_mode word (Ok ((a, e), (b, f))) =
      rw (plain, groups, same, same_slots kind.RawMessage p n read, limits_mode (Ok ((a, e), (b, f))))

  pub admission_mode : (word : Bool) → admission_of other p word ≡ admission_of flags p word
  unfolding admission_of
  admission_mode word =
      ap (λ (m : Mode). on_id other p word (id_parts m p)) groups ∙ ap (on_id other p word) (same_parts p n read)
      ∙ ap (λ (m : Mode). on_id other p word (id_parts m p)) (sym plain) ∙ id_mode word (id_parts (mode_of flags) p)

  places_mode : topic_places Groups p ≡ topic_places Plain p
  unfolding topic_places
  places_mode = ap places_along (same-fields kind.RawMessage p n read)

  counts_mode : counted Groups kind.RawMessage p ≡ Ok n
  counts_mode = same-counted kind.RawMessage p (λ why e. clash (let c = read in cc)) ∙ read

  kept_read : (i : List ℕ) (ts : List Span) → kept_with flags p i ts ≡ true → kept_with other p i ts ≡ true
  unfolding kept_with gives_id
  kept_read i ts k =
      rw (groups, counts_mode, admission_mode true, places_mode)
      (let z = rw (plain, read) at k in z)

kept_gives : (flags : ℕ) (p i : List ℕ) (ts : List Span) → kept_with flags p i ts ≡ true → gives_id flags p i ≡ true
unfolding kept_with
kept_gives flags p i ts k = (both (gives_id flags p i) (same_spans (topic_places (mode_of flags) p) ts) k).0

kept_by : (flags other : ℕ) → mode_of flags ≡ Plain → mode_of other ≡ Groups
    → allows_unsigned other ≡ allows_unsigned flags → (p i : List ℕ) (ts : List Span) → kept_with flags p i ts ≡ true
    → (r : Result ℕ WireError) → counted Plain kind.RawMessage p ≡ r → kept_with other p i ts ≡ true
kept_by flags other plain groups same p i ts k (Ok n) e =
    kept_read flags other plain groups same p n e i ts k
kept_by flags other plain groups same p i ts k (Err why) e = clash (let z = kept_gives flags p i ts k in
    let w = gives-refused flags p i why (ap (λ (m : Mode). counted m kind.RawMessage p) plain ∙ e) in cc)

-- so what is cached in the first mode may be taken in the second: a mode that is set from outside is not found out
pub kept_mode : (flags other : ℕ) → mode_of flags ≡ Plain → mode_of other ≡ Groups
    → allows_unsigned other ≡ allows_unsigned flags → (p i : List ℕ) (ts : List Span) → kept_with flags p i ts ≡ true
    → kept_with other p i ts ≡ true
kept_mode flags other plain groups same p i ts k =
    kept_by flags other plain groups same p i ts k (counted Plain kind.RawMessage p) refl
