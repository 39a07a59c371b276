-- Laws of admission, under all flags: a message that is taken has an id and keeps the limits; 27 comes from the host's
-- word alone; and which id a message gives.
use Rattle.std.specs.Prelude.{Result, Ok, Err, ℕ, ◌+◌, ◌-◌, ◌≤◌, ◌≡◌, refl, Bool, true, false, not, ◌&&◌, ◌||◌, List, [], ◌∷◌, length, ltb, eqb}
use Rattle.std.proofs.Common.{sym, ap, ap₂, ◌∙◌, arith}
use Rattle.std.proofs.Math.Bool.{or-true}
use borrow.Author.Tests.{ltb-true, ltb-false, eqb-true, eqb-false}
use Rattle.basis.specs.declared.Mode.{Mode}
use Rattle.basis.specs.Dialect.{mode_of}
use Rattle.basis.specs.declared.Dialect.{Dialect}
use Rattle.basis.specs.Cases.{either, clash, of-ok, of-ok-two}
use Rattle.protobuf.specs.declared.Field.{Field}
use Rattle.protobuf.specs.declared.WireError.{WireError}
use Rattle.protobuf.specs.Walk.{Fields, walk_at, between, is_bytes}
use Rattle.protobuf.specs.WalkLaws.{along}
use Rattle.rows.specs.Ids.{same_bytes, among}
use Rattle.rows.specs.IdsLaws.{same_self, same_equal}
use Rattle.schema.specs.declared.Kind.TheVariants as kind
use Rattle.schema.specs.declared.Form.TheVariants.{Whole}
use Rattle.schema.specs.declared.Role.TheVariants.{Sub}
use Rattle.schema.specs.declared.Place.{Place}
use Rattle.schema.specs.declared.Place.TheVariants as place
use Rattle.schema.specs.Schema.{len_role, role_of, own_of}
use Rattle.schema.specs.Count.{role_count, count_along, counted}
use Rattle.schema.specs.CountLaws.{count_along_lem, plus-fits, then-fits}
use Rattle.schema.specs.Slots.{slots_of}
use Rattle.schema.specs.Accept.{accept_of}
use Rattle.ids.specs.Ids.{message_along, message_at, id_parts, id_bytes}
use Rattle.schema.specs.AcceptLaws.{accept_records}
use Rattle.ids.specs.IdLaws.{id_size_lem, parts-there}
use Rattle.admission.specs.declared.Unfit.{Unfit}
use Rattle.admission.specs.declared.Unfit.TheVariants.{MissingFrom, InvalidFrom, InvalidSeqno, SignatureInvalid}
use Rattle.admission.specs.declared.Unfit.TheVariants.{KeyWithoutSignature, MissingSignature}
use Rattle.admission.specs.declared.Unfit.TheVariants.{InvalidSignatureLength, TopicCount, TopicTooLong}
use Rattle.admission.specs.declared.Unfit.TheVariants.{MessageTooLong, NotPeerId, InvalidKey}
use Rattle.admission.specs.declared.Unfit.TheVariants.{KeyPeerIdMismatch}
use Rattle.ids.specs.declared.IdError.TheVariants as noid
use Rattle.ids.specs.declared.IdError.{IdError}
use Rattle.admission.specs.Admission.{Parts, topics_of, first_long, on_limits, on_word, is_key, key_matches, key_inside, on_key}
use Rattle.admission.specs.Admission.{on_signature, is_peer_id, on_peer, part_at, sender_of, on_id, admission_of}
use Rattle.admission.specs.Admission.{is_there, is_signed, vouched, id_given, where_read, gives_id}
use Rattle.admission.specs.Flags.{allows_unsigned}
use Rattle.admission.specs.Told.{unfit_told}
use Rattle.admission.specs.Fit.{Limits, Signed}

-- ---- its refusals are among 21 to 36
pub unfit_range : (why : Unfit) → (21 ≤ (unfit_told why).number) × ((unfit_told why).number ≤ 36)
unfit_range MissingFrom = (omega arith, omega arith)
unfit_range (InvalidFrom len) = (omega arith, omega arith)
unfit_range NotPeerId = (omega arith, omega arith)
unfit_range InvalidSeqno = (omega arith, omega arith)
unfit_range KeyWithoutSignature = (omega arith, omega arith)
unfit_range MissingSignature = (omega arith, omega arith)
unfit_range (InvalidSignatureLength len) = (omega arith, omega arith)
unfit_range InvalidKey = (omega arith, omega arith)
unfit_range KeyPeerIdMismatch = (omega arith, omega arith)
unfit_range SignatureInvalid = (omega arith, omega arith)
unfit_range (TopicCount count) = (omega arith, omega arith)
unfit_range (TopicTooLong len) = (omega arith, omega arith)
unfit_range (MessageTooLong len) = (omega arith, omega arith)

-- ---- a message that is taken
-- 35 and 36 are not
abbrev pub key_fits : List ℕ → List ℕ → Place → Bool
key_fits p s place.Absent = key_inside s
key_fits p s (place.Present a e) = is_key (between p a e) && key_matches s (between p a e)

-- the tests of a signature, a key and the host's word; or none of them
pub data Stood (unsigned : Bool) (p s : List ℕ) (word : Bool) : Place → Place → Type 0 where
  signed : {q k : Place} → Signed q → key_fits p s k ≡ true → word ≡ true → Stood unsigned p s word q k
  bare : unsigned ≡ true → Stood unsigned p s word place.Absent place.Absent

-- each test behind the id's
pub record Passes (flags : ℕ) (p : List ℕ) (word : Bool) : Type 0 where
  pub peer : is_peer_id (sender_of (mode_of flags) p) ≡ true
  pub stood : Stood (allows_unsigned flags) p (sender_of (mode_of flags) p) word
      (slots_of (mode_of flags) kind.RawMessage p).fourth
      (slots_of (mode_of flags) kind.RawMessage p).fifth
  pub limits : Limits (mode_of flags) p

module _ (a e b f : ℕ) where
  of-limits : (mode : Mode) (p : List ℕ) (r : Result Parts Unfit) → on_limits mode p r ≡ Ok ((a, e), (b, f))
      → (r ≡ Ok ((a, e), (b, f)))
      × Limits mode p
  unfolding on_limits
  of-limits mode p r h =
      either (eqb (length (topics_of mode p)) 0) (λ t. clash (let k = simp t at h in cc))
      (λ t. either (ltb 4 (length (topics_of mode p))) (λ u. clash (let k = simp (t, u) at h in cc))
      (λ u. either (eqb (first_long (topics_of mode p)) 0)
      (λ v. either (ltb 4096 (length p)) (λ w. clash (let k = simp (t, u, v, w) at h in cc))
      (λ w. let m = eqb-false (length (topics_of mode p)) 0 t in (
        simp (t, u, v, w) at h,
        record {
          some = omega arith;
          few = ltb-false 4 (length (topics_of mode p)) u;
          short = eqb-true (first_long (topics_of mode p)) 0 v;
          small = ltb-false 4096 (length p) w;
        },
      )))
      (λ v. clash (let k = simp (t, u, v) at h in cc))))

  of_word : (word : Bool) (r : Result Parts Unfit) → on_word word r ≡ Ok ((a, e), (b, f)) → (word ≡ true)
      × (r ≡ Ok ((a, e), (b, f)))
  of_word true r h = (refl, h)
  of_word false r h = clash (cc)

  -- the key is there and may be the sender's, or the sender has it in itself
  of-key : (p s : List ℕ) (q : Place) (r : Result Parts Unfit) → on_key p s q r ≡ Ok ((a, e), (b, f))
      → (key_fits p s q ≡ true) × (r ≡ Ok ((a, e), (b, f)))
  of-key p s place.Absent r h =
      either (key_inside s) (λ t. (t, simp t at h)) (λ t. clash (let z = simp t at h in cc))
  of-key p s (place.Present x y) r h =
      either (is_key (between p x y))
      (λ t. either (key_matches s (between p x y)) (λ u. (rw (t, u), simp (t, u) at h))
      (λ u. clash (let z = simp (t, u) at h in cc)))
      (λ t. clash (let z = simp t at h in cc))

  module _ (u : Bool) (p s : List ℕ) (word : Bool) (l : Result Parts Unfit) where
    of-signature : (q k : Place) → on_signature u q k (on_key p s k (on_word word l)) l ≡ Ok ((a, e), (b, f))
        → Stood u p s word q k × (l ≡ Ok ((a, e), (b, f)))
    of-signature place.Absent place.Absent h =
        either u (λ t. (bare t, simp t at h)) (λ t. clash (let z = simp t at h in cc))
    of-signature place.Absent (place.Present x y) h = clash (cc)
    of-signature (place.Present x y) k h =
        either (eqb (y - x) 64)
        (λ t.
        let g = of-key p s k (on_word word l) (simp t at h) in
        let w = of_word word l g.1 in
        (signed (record { start = x; next = y; there = refl; size = eqb-true (y - x) 64 t }) g.0 w.0, w.1))
        (λ t. clash (let z = simp t at h in cc))

  of-peer : (s : List ℕ) (r : Result Parts Unfit) → on_peer s r ≡ Ok ((a, e), (b, f))
      → (is_peer_id s ≡ true) × (r ≡ Ok ((a, e), (b, f)))
  of-peer s r h = either (is_peer_id s) (λ t. (t, simp t at h)) (λ t. clash (let z = simp t at h in cc))

  of-id : (flags : ℕ) (p : List ℕ) (word : Bool) (i : Result Parts IdError) → on_id flags p word i ≡ Ok ((a, e), (b, f))
      → (i ≡ Ok ((a, e), (b, f))) × Passes flags p word
  of-id flags p word (Err noid.MissingFrom) h = clash (cc)
  of-id flags p word (Err (noid.InvalidFrom n)) h = clash (cc)
  of-id flags p word (Err noid.InvalidSeqno) h =
      let r = of-peer (sender_of (mode_of flags) p) (Err InvalidSeqno) h in clash (let z = r.1 in cc)
  of-id flags p word (Ok ((x, y), (z, w))) h =
      let u = of-peer (sender_of (mode_of flags) p) _ h in
      let s = of-signature (allows_unsigned flags) p (sender_of (mode_of flags) p) word
      (on_limits (mode_of flags) p (Ok ((x, y), (z, w))))
      (slots_of (mode_of flags) kind.RawMessage p).fourth (slots_of (mode_of flags) kind.RawMessage p).fifth u.1 in
      let l = of-limits (mode_of flags) p (Ok ((x, y), (z, w))) s.1 in
      (ap Ok (of-ok l.0), record { peer = u.0; stood = s.0; limits = l.1 })

-- its id is that of id_parts
pub fit_parts : (flags : ℕ) (p : List ℕ) (word : Bool) (a e b f : ℕ) → admission_of flags p word ≡ Ok ((a, e), (b, f))
    → id_parts (mode_of flags) p ≡ Ok ((a, e), (b, f))
unfolding admission_of
fit_parts flags p word a e b f h = (of-id a e b f flags p word (id_parts (mode_of flags) p) h).0

-- and so are the sender's bytes
pub sender-is : (mode : Mode) (p : List ℕ) (a e b f : ℕ) → id_parts mode p ≡ Ok ((a, e), (b, f))
    → sender_of mode p ≡ between p a e
sender-is mode p a e b f h = ap (part_at p) (parts-there mode p a e b f h).0

-- it passes the tests behind that
pub fit-passes : (flags : ℕ) (p : List ℕ) (word : Bool) (a e b f : ℕ) → admission_of flags p word ≡ Ok ((a, e), (b, f))
    → Passes flags p word
unfolding admission_of
fit-passes flags p word a e b f h = (of-id a e b f flags p word (id_parts (mode_of flags) p) h).1

-- it keeps the limits on topics and size
pub fit-limits : (flags : ℕ) (p : List ℕ) (word : Bool) (a e b f : ℕ) → admission_of flags p word ≡ Ok ((a, e), (b, f))
    → Limits (mode_of flags) p
fit-limits flags p word a e b f h = (fit-passes flags p word a e b f h).limits

-- it is vouched for: the host gave its word, or it has no signature and that is allowed
stood-vouched : {u : Bool} {p s : List ℕ} {word : Bool} {q k : Place} → Stood u p s word q k
    → (word || (u && not (is_there q))) ≡ true
stood-vouched {u} (signed {q} g key w) = rw w
stood-vouched {word} (bare t) = rw t (or-true word)

pub fit-vouched : (flags : ℕ) (p : List ℕ) (word : Bool) (a e b f : ℕ)
    → admission_of flags p word ≡ Ok ((a, e), (b, f))
    → vouched flags p word ≡ true
unfolding vouched is_signed
fit-vouched flags p word a e b f h = stood-vouched (fit-passes flags p word a e b f h).stood

-- where no unsigned message is allowed, it has a signature
stood-signed : {u : Bool} {p s : List ℕ} {word : Bool} {q k : Place} → Stood u p s word q k → u ≡ false
    → is_there q ≡ true
stood-signed (signed g key w) off = ap is_there g.there
stood-signed (bare t) off = clash (cc)

pub fit-signed : (flags : ℕ) (p : List ℕ) (word : Bool) (a e b f : ℕ) → admission_of flags p word ≡ Ok ((a, e), (b, f))
    → allows_unsigned flags ≡ false → is_signed (mode_of flags) p ≡ true
unfolding is_signed
fit-signed flags p word a e b f h off = stood-signed (fit-passes flags p word a e b f h).stood off

-- where first_long is 0, no topic is above 1,024 bytes
pub topic-short : (t : List ℕ) (l : List (List ℕ)) → first_long l ≡ 0 → among t l ≡ true → length t ≤ 1024
unfolding first_long among
topic-short t [] h k = clash (cc)
topic-short t (j ∷ l) h k =
    either (ltb 1024 (length j)) (λ u. let z : length j ≡ 0 = simp u at h in let w = ltb-true 1024 (length j) u in
    absurd (omega arith))
    (λ u. either (same_bytes j t) (λ v. let w = ltb-false 1024 (length j) u in let z = ap length (same_equal j t v) in
    omega arith)
    (λ v. topic-short t l (simp u at h) (simp v at k)))

-- its id has 2 to 128 bytes
pub fit-id : (flags : ℕ) (p : List ℕ) (word : Bool) (a e b f : ℕ) → admission_of flags p word ≡ Ok ((a, e), (b, f))
    → (2 ≤ length (id_bytes p a e b f)) × (length (id_bytes p a e b f) ≤ 128)
fit-id flags p word a e b f h = id_size_lem (mode_of flags) p a e b f (fit_parts flags p word a e b f h)

-- ---- the host's word matters for a message with a signature alone
-- a message that is vouched for is answered as with the word
word_same : (u : Bool) (q k : Place) (p s : List ℕ) (word : Bool) (l : Result Parts Unfit)
    → (word || (u && not (is_there q))) ≡ true
    → on_signature u q k (on_key p s k (on_word word l)) l ≡ on_signature u q k (on_key p s k (on_word true l)) l
word_same u q k p s true l h = refl
word_same u place.Absent place.Absent p s false l h = refl
word_same u place.Absent (place.Present x y) p s false l h = refl
word_same u (place.Present x y) k p s false l h = either u (λ t. clash (let z = rw t at h in cc))
    (λ t. clash (let z = rw t at h in cc))

id-vouched : (flags : ℕ) (p : List ℕ) (word : Bool) (i : Result Parts IdError) → vouched flags p word ≡ true
    → on_id flags p word i ≡ on_id flags p true i
unfolding vouched is_signed
id-vouched flags p word (Err noid.MissingFrom) h = refl
id-vouched flags p word (Err (noid.InvalidFrom n)) h = refl
id-vouched flags p word (Err noid.InvalidSeqno) h = refl
id-vouched flags p word (Ok ((a, e), (b, f))) h =
    ap (on_peer (sender_of (mode_of flags) p)) (word_same (allows_unsigned flags)
    (slots_of (mode_of flags) kind.RawMessage p).fourth
    (slots_of (mode_of flags) kind.RawMessage p).fifth p (sender_of (mode_of flags) p) word
    (on_limits (mode_of flags) p (Ok ((a, e), (b, f)))) h)

pub vouched-same : (flags : ℕ) (p : List ℕ) (word : Bool) → vouched flags p word ≡ true
    → admission_of flags p word ≡ admission_of flags p true
unfolding admission_of
vouched-same flags p word h = id-vouched flags p word (id_parts (mode_of flags) p) h

-- so one that is taken is taken with it
pub fit-true : (flags : ℕ) (p : List ℕ) (word : Bool) (a e b f : ℕ) → admission_of flags p word ≡ Ok ((a, e), (b, f))
    → admission_of flags p true ≡ Ok ((a, e), (b, f))
fit-true flags p word a e b f h = sym (vouched-same flags p word (fit-vouched flags p word a e b f h)) ∙ h

-- ---- 27 comes from the host's word alone
-- without it no message with a signature is taken
pub no_word : (flags : ℕ) (p : List ℕ) (a e b f : ℕ) → is_signed (mode_of flags) p ≡ true
    → admission_of flags p false ≡ Ok ((a, e), (b, f)) → ⊥
unfolding vouched
no_word flags p a e b f there h =
    let z : (allows_unsigned flags && not (is_signed (mode_of flags) p)) ≡ true = fit-vouched flags p false a e b f h in
    either (allows_unsigned flags) (λ t. clash (let y = rw (t, there) at z in cc)) (λ t. clash (let y = rw t at z in cc))

limits-never : (mode : Mode) (p : List ℕ) (a e b f : ℕ)
    → on_limits {A = Parts} mode p (Ok ((a, e), (b, f))) ≡ Err SignatureInvalid → ⊥
unfolding on_limits
limits-never mode p a e b f h =
    either (eqb (length (topics_of mode p)) 0) (λ t. clash (let k = simp t at h in cc))
    (λ t. either (ltb 4 (length (topics_of mode p))) (λ u. clash (let k = simp (t, u) at h in cc))
    (λ u. either (eqb (first_long (topics_of mode p)) 0)
    (λ v. either (ltb 4096 (length p)) (λ w. clash (let k = simp (t, u, v, w) at h in cc))
    (λ w. clash (let k = simp (t, u, v, w) at h in cc)))
    (λ v. clash (let k = simp (t, u, v) at h in cc))))

key-never : (p s : List ℕ) (q : Place) (r : Result Parts Unfit) → (r ≡ Err SignatureInvalid → ⊥)
    → on_key p s q r ≡ Err SignatureInvalid → ⊥
key-never p s place.Absent r n h = either (key_inside s) (λ t. n (simp t at h)) (λ t. clash (let z = simp t at h in cc))
key-never p s (place.Present x y) r n h =
    either (is_key (between p x y))
    (λ t. either (key_matches s (between p x y)) (λ u. n (simp (t, u) at h))
    (λ u. clash (let z = simp (t, u) at h in cc)))
    (λ t. clash (let z = simp t at h in cc))

signature-never : (u : Bool) (s k : Place) (r l : Result Parts Unfit) → (r ≡ Err SignatureInvalid → ⊥)
    → (l ≡ Err SignatureInvalid → ⊥) → on_signature u s k r l ≡ Err SignatureInvalid → ⊥
signature-never u place.Absent place.Absent r l n m h =
    either u (λ t. m (simp t at h)) (λ t. clash (let z = simp t at h in cc))
signature-never u place.Absent (place.Present x y) r l n m h = clash (cc)
signature-never u (place.Present x y) k r l n m h =
    either (eqb (y - x) 64) (λ t. n (simp t at h)) (λ t. clash (let z = simp t at h in cc))

peer-never : (s : List ℕ) (r : Result Parts Unfit) → (r ≡ Err SignatureInvalid → ⊥)
    → on_peer s r ≡ Err SignatureInvalid → ⊥
peer-never s r n h = either (is_peer_id s) (λ t. n (simp t at h)) (λ t. clash (let z = simp t at h in cc))

id-never : (flags : ℕ) (p : List ℕ) (i : Result Parts IdError) → on_id flags p true i ≡ Err SignatureInvalid → ⊥
id-never flags p (Err noid.MissingFrom) h = clash (cc)
id-never flags p (Err (noid.InvalidFrom n)) h = clash (cc)
id-never flags p (Err noid.InvalidSeqno) h =
    peer-never (sender_of (mode_of flags) p) (Err InvalidSeqno) (λ z. clash (cc)) h
id-never flags p (Ok ((a, e), (b, f))) h =
    let q = (slots_of (mode_of flags) kind.RawMessage p).fifth in
    let r = on_limits (mode_of flags) p (Ok ((a, e), (b, f))) in
    peer-never (sender_of (mode_of flags) p)
    (on_signature (allows_unsigned flags) (slots_of (mode_of flags) kind.RawMessage p).fourth q
    (on_key p (sender_of (mode_of flags) p) q r) r)
    (signature-never (allows_unsigned flags) (slots_of (mode_of flags) kind.RawMessage p).fourth q
    (on_key p (sender_of (mode_of flags) p) q r) r
    (key-never p (sender_of (mode_of flags) p) q r (limits-never (mode_of flags) p a e b f))
    (limits-never (mode_of flags) p a e b f)) h

-- and with it 27 is never the answer
pub word-only : (flags : ℕ) (p : List ℕ) (why : Unfit) → admission_of flags p true ≡ Err why
    → why ≡ SignatureInvalid → ⊥
unfolding admission_of
word-only flags p why h e = id-never flags p (id_parts (mode_of flags) p) (h ∙ ap Err e)

-- ---- which id a message gives
pub gives-refused : (flags : ℕ) (p i : List ℕ) (why : WireError)
    → counted (mode_of flags) kind.RawMessage p ≡ Err why
    → false ≡ gives_id flags p i
unfolding gives_id
gives-refused flags p i why h = ap (λ c. where_read c (id_given p i (admission_of flags p true))) (sym h)

pub gives-fit : (flags : ℕ) (p i : List ℕ) (n a e b f : ℕ) (r : Bool)
    → counted (mode_of flags) kind.RawMessage p ≡ Ok n
    → admission_of flags p true ≡ Ok ((a, e), (b, f)) → r ≡ same_bytes (id_bytes p a e b f) i → r ≡ gives_id flags p i
unfolding gives_id
gives-fit flags p i n a e b f r h k g = g ∙ ap (id_given p i) (sym k)
    ∙ ap (λ c. where_read c (id_given p i (admission_of flags p true))) (sym h)

-- its own
pub gives-own : (flags : ℕ) (p : List ℕ) (n a e b f : ℕ) → counted (mode_of flags) kind.RawMessage p ≡ Ok n
    → admission_of flags p true ≡ Ok ((a, e), (b, f)) → gives_id flags p (id_bytes p a e b f) ≡ true
gives-own flags p n a e b f h k =
    sym (gives-fit flags p (id_bytes p a e b f) n a e b f true h k (sym (same_self (id_bytes p a e b f))))

-- and no other
pub record Gives (flags : ℕ) (p i : List ℕ) : Type 0 where
  pub records : ℕ
  pub from_start : ℕ
  pub from_end : ℕ
  pub seqno-start : ℕ
  pub seqno-end : ℕ
  pub read : counted (mode_of flags) kind.RawMessage p ≡ Ok records
  pub taken : admission_of flags p true ≡ Ok ((from_start, from_end), (seqno-start, seqno-end))
  pub named : i ≡ id_bytes p from_start from_end seqno-start seqno-end

of-fit : (flags : ℕ) (p i : List ℕ) (n : ℕ) (r : Result Parts Unfit) → counted (mode_of flags) kind.RawMessage p ≡ Ok n
    → admission_of flags p true ≡ r → id_given p i r ≡ true → Gives flags p i
of-fit flags p i n (Err why) h k g = clash (cc)
of-fit flags p i n (Ok ((a, e), (b, f))) h k g =
    record {
      records = n;
      from_start = a;
      from_end = e;
      seqno-start = b;
      seqno-end = f;
      read = h;
      taken = k;
      named = sym (same_equal (id_bytes p a e b f) i g);
    }

of-read : (flags : ℕ) (p i : List ℕ) (c : Result ℕ WireError) → counted (mode_of flags) kind.RawMessage p ≡ c
    → where_read c (id_given p i (admission_of flags p true)) ≡ true → Gives flags p i
of-read flags p i (Err why) h g = clash (cc)
of-read flags p i (Ok n) h g = of-fit flags p i n (admission_of flags p true) h refl g

pub gives-only : (flags : ℕ) (p i : List ℕ) → gives_id flags p i ≡ true → Gives flags p i
unfolding gives_id
gives-only flags p i g = of-read flags p i (counted (mode_of flags) kind.RawMessage p) refl g

-- where no unsigned message is allowed, it has a signature
pub gives-signed : (flags : ℕ) (p i : List ℕ) → gives_id flags p i ≡ true → allows_unsigned flags ≡ false
    → is_signed (mode_of flags) p ≡ true
gives-signed flags p i g off =
    let r = gives-only flags p i g in
    fit-signed flags p true r.from_start r.from_end r.seqno-start r.seqno-end r.taken off

-- a message gives one id
pub one-id : (flags : ℕ) (m i j : List ℕ) → gives_id flags m i ≡ true → gives_id flags m j ≡ true → i ≡ j
one-id flags m i j g h =
    let a = gives-only flags m i g in
    let b = gives-only flags m j h in
    a.named ∙ ap (λ (w : (ℕ × ℕ) × (ℕ × ℕ)). id_bytes m w.0.0 w.0.1 w.1.0 w.1.1) (of-ok (sym a.taken ∙ b.taken))
    ∙ sym b.named

-- ---- a message of an accepted body is well formed
message_role : (d : Dialect) (f : Field) → is_bytes 2 f ≡ true
    → role_of (kind.Rpc d.edition) f.field f.wire_type
    ≡ Sub kind.RawMessage Whole
unfolding role_of
message_role d f h =
    either (eqb f.wire_type 2)
    (λ t. either (eqb f.field 2) (λ u. simp t (ap (len_role (kind.Rpc d.edition)) (eqb-true f.field 2 u)))
    (λ u. clash (let k = simp (t, u) at h in cc)))
    (λ t. clash (let k = simp t at h in cc))

read-along : (d : Dialect) (s : List ℕ) (i a e at n m : ℕ)
    → count_along (counted d.mode) (kind.Rpc d.edition) s (walk_at d.mode s at) ≡ Ok m
    → message_along i n (walk_at d.mode s at) ≡ Ok (a, e) → (x : ℕ)
    × (counted d.mode kind.RawMessage (between s a e) ≡ Ok x)
read-along d s i a e =
    along d.mode s (λ (at : ℕ) (w : Fields). (n m : ℕ)
    → count_along (counted d.mode) (kind.Rpc d.edition) s w ≡ Ok m
    → message_along i n w ≡ Ok (a, e) → (x : ℕ) × (counted d.mode kind.RawMessage (between s a e) ≡ Ok x))
    (λ at n m g h. clash (cc))
    (λ at why r n m g h. clash (cc))
    (λ at f st r rest n m g h.
    let t = then-fits (role_count (counted d.mode) s f (role_of (kind.Rpc d.edition) f.field f.wire_type))
    (count_along (counted d.mode) (kind.Rpc d.edition) s (walk_at d.mode s f.next)) m g in
    either (is_bytes 2 f)
    (λ u. either (eqb n i)
    (λ v. let k = of-ok-two (simp (u, v) at h) in
    let y = plus-fits (own_of kind.RawMessage) t.0
    (counted d.mode kind.RawMessage (between s f.start f.next))
    (sym (ap (role_count (counted d.mode) s f) (message_role d f u)) ∙ t.2) in
    (y.0, ap (counted d.mode kind.RawMessage) (ap₂ (between s) (sym k.0) (sym k.1)) ∙ y.1))
    (λ v. rest (n + 1) t.1 t.3 (simp (u, v) at h)))
    (λ u. rest n t.1 t.3 (simp u at h)))

pub message-read : (d : Dialect) (s : List ℕ) (i a e : ℕ) → accept_of d s ≡ Ok tt → message_at d.mode s i ≡ Ok (a, e)
    → (n : ℕ) × (counted d.mode kind.RawMessage (between s a e) ≡ Ok n)
unfolding message_at
message-read d s i a e h k = let c = accept_records d s h in
    read-along d s i a e 0 0 c.0 (sym (count_along_lem d.mode (kind.Rpc d.edition) s) ∙ c.1) k
