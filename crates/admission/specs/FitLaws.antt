-- A message is taken exactly where it is fit.
use Rattle.std.specs.Prelude.{Option, Result, Ok, Err, Some, None, ℕ, ◌-◌, ◌^◌, ◌≤◌, ◌<◌, ◌≡◌, Bool, false, ◌↔◌, drop}
use Rattle.std.proofs.Math.Path.{refl, ap, subst}
use Rattle.std.proofs.Common.{sym, ap₂, ◌∙◌, arith, length-take, length-drop, eq-eqb, ne_eqb, le-ltb}
use Rattle.std.proofs.Math.Bool.{true}
use mathlib.Core.List.{List}
use Rattle.std.proofs.Math.ListN.{length}
use Rattle.basis.specs.declared.Mode.{Mode}
use Rattle.basis.specs.Dialect.{mode_of}
use Rattle.basis.specs.Cases.{clash, both}
use Rattle.basis.specs.Bytes.{Bytes}
use Rattle.basis.specs.Lists.{drop-bytes, take-bytes}
use Rattle.peer_id.specs.declared.PeerId.{PeerId}
use Rattle.peer_id.specs.PeerId.{from_bytes, digest_of}
use Rattle.peer_id.specs.Multihash.{Hash, identity, sha_256, IsPeerId}
use Rattle.peer_id.specs.MultihashLaws.{peer-exactly}
use Rattle.key.specs.declared.KeyType.{KeyType}
use Rattle.key.specs.Key.{IsKey}
use Rattle.key.specs.Decode.{decode_protobuf}
use Rattle.key.specs.KeyLaws.{key-exactly}
use Rattle.protobuf.specs.Walk.{between}
use Rattle.rows.specs.Ids.{same_bytes}
use Rattle.rows.specs.IdsLaws.{same_self, same_equal}
use Rattle.schema.specs.declared.Kind.TheVariants as kind
use Rattle.schema.specs.declared.Place.{Place}
use Rattle.schema.specs.declared.Place.TheVariants as place
use Rattle.schema.specs.Slots.{slots_of}
use Rattle.key.specs.declared.PublicKey.{PublicKey}
use Rattle.key.specs.declared.PublicKeyError.{PublicKeyError}
use Rattle.peer_id.specs.declared.PeerId.TheVariants as who
use Rattle.admission.specs.declared.Unfit.{Unfit}
use Rattle.admission.specs.Admission.{Parts, topics_of, first_long, on_limits, on_word, is_read, is_key, by_hash, key_matches}
use Rattle.admission.specs.Admission.{key_inside, on_key, on_signature, is_peer_id, on_peer, sender_of, on_id}
use Rattle.admission.specs.Admission.{admission_of, is_there, is_signed}
use Rattle.admission.specs.Flags.{allows_unsigned}
use Rattle.admission.specs.AdmissionLaws.{key_fits, Stood, fit_parts, sender-is, fit-passes}
use Rattle.admission.specs.AdmissionLaws as stood
use Rattle.admission.specs.Fit.{KeyOf, inside, same, hashed, given_at, Signed, Limits, Backed, IsFit}
use Rattle.admission.specs.Fit as fit
use Rattle.ids.specs.Ids.{id_parts}

-- ---- which peer id it is
of-hash : (s : List ℕ) (r : Option PeerId) → from_bytes s ≡ r → by_hash r true true ≡ true → (h : Hash)
    × IsPeerId s h (digest_of s)
of-hash s (Some who.Identity) e n = (identity, (peer-exactly s (digest_of s) identity).0 (e, refl))
of-hash s (Some who.Sha256) e n = (sha_256, (peer-exactly s (digest_of s) sha_256).0 (e, refl))
of-hash s None e n = clash (cc)

peer-is : (s : List ℕ) → is_peer_id s ≡ true → (h : Hash) × IsPeerId s h (digest_of s)
unfolding is_peer_id
peer-is s h = of-hash s (from_bytes s) refl h

-- ---- bytes are a key
is_read_lem : (k : List ℕ) (r : Result PublicKey PublicKeyError) → Bytes k → length k < 2 ^ 64 → decode_protobuf k ≡ r
    → is_read r ≡ true → (t : KeyType) × (d : List ℕ) × IsKey k t d
is_read_lem k (Ok key) b l e h =
    let d = drop key.start k in (key.key_type, d, (key-exactly k key.key_type d b l).0 (key.start, e, refl))
is_read_lem k (Err why) b l e h = clash (cc)

pub key-read-exactly : (k : List ℕ) → Bytes k → length k < 2 ^ 64
    → (is_key k ≡ true) ↔ ((t : KeyType) × (d : List ℕ) × IsKey k t d)
unfolding is_key
key-read-exactly k b l = (
  is_read_lem k (decode_protobuf k) b l refl,
  λ x. ap is_read ((key-exactly k x.0 x.1 b l).1 x.2).1,
)

-- ---- the key clause
module _ (p s : List ℕ) (bp : Bytes p) (bs : Bytes s) (lp : length p ≤ 4096) (ls : length s ≤ 4096) where
  part_bytes : (a e : ℕ) → Bytes (between p a e)
  part_bytes a e = take-bytes (e - a) (drop a p) (drop-bytes a p bp)

  part_small : (a e : ℕ) → length (between p a e) < 2 ^ 64
  part_small a e = rw (length-take (e - a) (drop a p), length-drop a p) (omega arith)

  digest-small : length (digest_of s) < 2 ^ 64
  digest-small = rw (length-drop 2 s) (omega arith)

  is-inside : (r : Option PeerId) → from_bytes s ≡ r → by_hash r (is_key (digest_of s)) false ≡ true → KeyOf s None
  is-inside (Some who.Identity) e h =
      let k = (key-read-exactly (digest_of s) (drop-bytes 2 s bs) digest-small).0 h in
      inside ((peer-exactly s (digest_of s) identity).0 (e, refl)) k.2
  is-inside (Some who.Sha256) e h = clash (cc)
  is-inside None e h = clash (cc)

  is_there_lem : (a e : ℕ) (r : Option PeerId) → from_bytes s ≡ r → is_key (between p a e) ≡ true
      → by_hash r (same_bytes (digest_of s) (between p a e)) true ≡ true → KeyOf s (Some (between p a e))
  is_there_lem a e (Some who.Identity) f k h =
      let g = (key-read-exactly (between p a e) (part_bytes a e) (part_small a e)).0 k in
      same ((peer-exactly s (between p a e) identity).0 (f, same_equal (digest_of s) (between p a e) h)) g.2
  is_there_lem a e (Some who.Sha256) f k h =
      let g = (key-read-exactly (between p a e) (part_bytes a e) (part_small a e)).0 k in
      hashed ((peer-exactly s (digest_of s) sha_256).0 (f, refl)) g.2
  is_there_lem a e None f k h = clash (cc)

  clause : (q : Place) → key_fits p s q ≡ true → KeyOf s (given_at p q)
  unfolding key_inside key_matches
  clause place.Absent h = is-inside (from_bytes s) refl h
  clause (place.Present a e) h =
      let b = both (is_key (between p a e)) (key_matches s (between p a e)) h in
      is_there_lem a e (from_bytes s) refl b.0 b.1

  fits-inside : {o : Option (List ℕ)} → KeyOf s o → o ≡ None → key_inside s ≡ true
  unfolding key_inside
  fits-inside (inside {d} {k} {t} i x) z =
      let r = (peer-exactly s d identity).1 i in
      let y : is_key d ≡ true = (key-read-exactly d (subst Bytes r.1 (drop-bytes 2 s bs))
      (subst (λ (l : List ℕ). length l < 2 ^ 64) r.1 digest-small)).1 (t, k, x) in
      rw (r.0, r.1) y
  fits-inside (same {d} {k} {t} i x) z = clash (cc)
  fits-inside (hashed {c} {d} {k} {t} i x) z = clash (cc)

  fits-there : {o : Option (List ℕ)} (c : List ℕ) → KeyOf s o → o ≡ Some c → Bytes c → length c < 2 ^ 64
      → (is_key c ≡ true) × (key_matches s c ≡ true)
  unfolding key_matches
  fits-there c (inside {d} {k} {t} i x) z bc lc = clash (cc)
  fits-there c (same {d} {k} {t} i x) z bc lc =
      let e : d ≡ c = cc in
      let r = (peer-exactly s d identity).1 i in (
        (key-read-exactly c bc lc).1 (t, k, subst (λ (l : List ℕ). IsKey l t k) e x),
        rw (r.0, r.1, e) (same_self c),
      )
  fits-there c (hashed {c = b} {d} {k} {t} i x) z bc lc =
      let e : b ≡ c = cc in
      let r = (peer-exactly s d sha_256).1 i in
      ((key-read-exactly c bc lc).1 (t, k, subst (λ (l : List ℕ). IsKey l t k) e x), rw r.0)

  fits : (q : Place) → KeyOf s (given_at p q) → key_fits p s q ≡ true
  fits place.Absent k = fits-inside k refl
  fits (place.Present a e) k =
      let y = fits-there (between p a e) k refl (part_bytes a e) (part_small a e) in rw (y.0, y.1)

-- ---- what passes each test is handed on
to-limits : (mode : Mode) (p : List ℕ) (r : Result Parts Unfit) → Limits mode p → on_limits mode p r ≡ r
unfolding on_limits
to-limits mode p r l =
    let m = l.some in
    simp (
      ne_eqb (length (topics_of mode p)) 0 (λ z. absurd (omega arith)),
      le-ltb 4 (length (topics_of mode p)) l.few,
      eq-eqb (first_long (topics_of mode p)) 0 l.short,
      le-ltb 4096 (length p) l.small,
    )

to_word : (word : Bool) (r : Result Parts Unfit) → word ≡ true → on_word word r ≡ r
to_word true r h = refl
to_word false r h = clash (cc)

to-key : (p s : List ℕ) (q : Place) (r : Result Parts Unfit) → key_fits p s q ≡ true → on_key p s q r ≡ r
to-key p s place.Absent r h = rw h
to-key p s (place.Present a e) r h =
    let b = both (is_key (between p a e)) (key_matches s (between p a e)) h in rw (b.0, b.1)

to-signature : (u : Bool) (s k : Place) (r l : Result Parts Unfit) → Signed s → on_signature u s k r l ≡ r
to-signature u s k r l g =
    ap (λ (q : Place). on_signature u q k r l) g.there ∙ simp (eq-eqb (g.next - g.start) 64 g.size)

to-peer : (s : List ℕ) (h : Hash) (d : List ℕ) (r : Result Parts Unfit) → IsPeerId s h d → on_peer s r ≡ r
unfolding is_peer_id
to-peer s identity d r i = rw ((peer-exactly s d identity).1 i).0
to-peer s sha_256 d r i = rw ((peer-exactly s d sha_256).1 i).0

-- ---- both ways
module _ (p : List ℕ) (a e b f : ℕ) (bp : Bytes p) where
  sender-bytes : Bytes (between p a e)
  sender-bytes = take-bytes (e - a) (drop a p) (drop-bytes a p bp)

  sender-small : length p ≤ 4096 → length (between p a e) ≤ 4096
  sender-small l = rw (length-take (e - a) (drop a p), length-drop a p) (omega arith)

module _ (flags : ℕ) (p : List ℕ) (word : Bool) (a e b f : ℕ) (bp : Bytes p) where
  abbrev fourth : Place
  fourth = (slots_of (mode_of flags) kind.RawMessage p).fourth

  abbrev fifth : Place
  fifth = (slots_of (mode_of flags) kind.RawMessage p).fifth

  is-backed : {q k : Place} → Stood (allows_unsigned flags) p (sender_of (mode_of flags) p) word q k → fourth ≡ q
      → fifth ≡ k
      → sender_of (mode_of flags) p ≡ between p a e → length p ≤ 4096 → Backed flags p word (between p a e)
  is-backed (stood.signed {q} {k} g key w) f4 f5 s small =
      fit.signed (subst Signed (sym f4) g)
      (clause p (between p a e) bp (sender-bytes p a e b f bp) small (sender-small p a e b f bp small) fifth
      (ap (key_fits p (between p a e)) f5 ∙ sym (ap (λ (l : List ℕ). key_fits p l k) s) ∙ key)) w
  is-backed (stood.bare t) f4 f5 s small = fit.unsigned t f4 f5

  is-fit : admission_of flags p word ≡ Ok ((a, e), (b, f)) → IsFit flags p word a e b f
  is-fit h =
      let i = fit_parts flags p word a e b f h in
      let g = fit-passes flags p word a e b f h in
      let s : sender_of (mode_of flags) p ≡ between p a e = sender-is (mode_of flags) p a e b f i in
      let n = peer-is (between p a e) (sym (ap is_peer_id s) ∙ g.peer) in
      record {
        parts = i;
        hash = n.0;
        digest = digest_of (between p a e);
        peer = n.1;
        backed = is-backed g.stood refl refl s g.limits.small;
        limits = g.limits;
      }

  backed_on : {s : List ℕ} (l : Result Parts Unfit) → Backed flags p word s → s ≡ between p a e → sender_of (mode_of flags) p ≡ s
      → length p ≤ 4096
      → on_signature (allows_unsigned flags) fourth fifth (on_key p (sender_of (mode_of flags) p) fifth (on_word word l)) l
      ≡ l
  backed_on l (fit.signed g k w) c s small =
      let y : key_fits p (sender_of (mode_of flags) p) fifth ≡ true = ap (λ (x : List ℕ). key_fits p x fifth) (s ∙ c)
      ∙ fits p (between p a e) bp (sender-bytes p a e b f bp) small (sender-small p a e b f bp small) fifth
      (subst (λ (x : List ℕ). KeyOf x (given_at p fifth)) c k) in
      to-signature (allows_unsigned flags) fourth fifth (on_key p (sender_of (mode_of flags) p) fifth (on_word word l)) l g
      ∙ to-key p (sender_of (mode_of flags) p) fifth (on_word word l) y
      ∙ to_word word l w
  backed_on l (fit.unsigned t f4 f5) c s small =
      ap₂ (λ (q k : Place). on_signature (allows_unsigned flags) q k
      (on_key p (sender_of (mode_of flags) p) k (on_word word l)) l) f4 f5 ∙ rw t

  is-taken : IsFit flags p word a e b f → admission_of flags p word ≡ Ok ((a, e), (b, f))
  unfolding admission_of
  is-taken x =
      let s : sender_of (mode_of flags) p ≡ between p a e = sender-is (mode_of flags) p a e b f x.parts in
      let fit = Ok ((a, e), (b, f)) in
      ap (on_id flags p word) x.parts
      ∙ to-peer (sender_of (mode_of flags) p) x.hash x.digest _
      (subst (λ (l : List ℕ). IsPeerId l x.hash x.digest) (sym s) x.peer)
      ∙ backed_on (on_limits (mode_of flags) p fit) x.backed refl s x.limits.small
      ∙ to-limits (mode_of flags) p fit x.limits

  -- a message is taken, with from and seqno in these places, exactly where it is fit
  pub fit-exactly : (admission_of flags p word ≡ Ok ((a, e), (b, f))) ↔ IsFit flags p word a e b f
  fit-exactly = (is-fit, is-taken)

  -- one without a signature exactly where that is allowed, there is no key, the sender is a peer id, it has an id and
  -- keeps the limits: for either word
  pub record FitUnsigned : Type 0 where
    pub allowed : allows_unsigned flags ≡ true
    pub no_key : (slots_of (mode_of flags) kind.RawMessage p).fifth ≡ place.Absent
    pub parts : id_parts (mode_of flags) p ≡ Ok ((a, e), (b, f))
    pub hash : Hash
    pub digest : List ℕ
    pub peer : IsPeerId (between p a e) hash digest
    pub limits : Limits (mode_of flags) p

  backed-unsigned : {s : List ℕ} → Backed flags p word s → is_there fourth ≡ false → (allows_unsigned flags ≡ true)
      × (fifth ≡ place.Absent)
  backed-unsigned (fit.signed g k w) h = clash (let z = ap is_there g.there in cc)
  backed-unsigned (fit.unsigned t f4 f5) h = (t, f5)

  not_there : (q : Place) → is_there q ≡ false → q ≡ place.Absent
  not_there place.Absent h = refl
  not_there (place.Present x y) h = clash (cc)

  pub unsigned-exactly : is_signed (mode_of flags) p ≡ false
      → (admission_of flags p word ≡ Ok ((a, e), (b, f))) ↔ FitUnsigned
  unfolding is_signed
  unsigned-exactly n = (
    λ h.
        let x = is-fit h in
        let u = backed-unsigned x.backed n in
        record {
          allowed = u.0;
          no_key = u.1;
          parts = x.parts;
          hash = x.hash;
          digest = x.digest;
          peer = x.peer;
          limits = x.limits;
        },
    λ (x : FitUnsigned).
        is-taken (record {
          parts = x.parts;
          hash = x.hash;
          digest = x.digest;
          peer = x.peer;
          backed = fit.unsigned x.allowed (not_there fourth n) x.no_key;
          limits = x.limits;
        }),
  )
