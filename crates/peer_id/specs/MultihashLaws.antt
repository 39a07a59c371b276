-- Bytes are read as a peer id exactly where they are one by the document, and as the same one.
use Rattle.std.specs.Prelude.{Option, Some, None, ℕ, ◌+◌, ◌≤◌, ◌<◌, ◌≡◌, refl, List, [], ◌∷◌, ◌++◌, Bool, cond, ◌↔◌, length, take, drop, get_or, eqb, ltb}
use Rattle.std.proofs.Common.{sym, ap, ap₂, subst, ◌∙◌, arith, take_at, drop_at, eqb-true, ltb-true, ltb-false, eq-eqb, le-ltb}
use Rattle.std.proofs.lemmas.Bool.{eqb-false}
use Rattle.basis.specs.Cases.{either, clash}
use Rattle.peer_id.specs.declared.PeerId.{PeerId}
use Rattle.peer_id.specs.declared.PeerId.TheVariants as who
use Rattle.peer_id.specs.Laws.{uvarint-small}
use Rattle.peer_id.specs.Multihash.{multihash, Hash, identity, sha_256, IsPeerId, inlined, hashed}
use Rattle.peer_id.specs.PeerId.{hash_of, from_bytes, digest_of}

-- code and size are below 128: a byte each
pub multihash-bytes : (code : ℕ) (d : List ℕ) → code < 128 → length d < 128 → multihash code d ≡ code ∷ length d ∷ d
unfolding multihash
multihash-bytes code d h k = rw (uvarint-small code h, uvarint-small (length d) k)

-- which answer a hash is
abbrev pub read_as : Hash → Option PeerId
read_as identity = Some who.Identity
read_as sha_256 = Some who.Sha256

-- ---- what is read is a peer id
data Reads (code size : ℕ) : Option PeerId → Type 0 where
  as_identity : code ≡ 0x00 → size ≤ 42 → Reads code size (Some who.Identity)
  as_sha_256 : code ≡ 0x12 → size ≡ 32 → Reads code size (Some who.Sha256)
  as_none : (code ≡ 0x00 → size ≤ 42 → ⊥) → (code ≡ 0x12 → size ≡ 32 → ⊥) → Reads code size None

reads : (code size : ℕ) → Reads code size (hash_of code size)
unfolding hash_of
reads code size =
    either (eqb code 0x00)
    (λ p. let z = eqb-true code 0x00 p in
    either (ltb 42 size)
    (λ q. simp (p, q) (as_none (λ a b. let w = ltb-true 42 size q in absurd (omega arith)) (λ a b. absurd (omega arith))))
    (λ q. simp (p, q) (as_identity z (ltb-false 42 size q))))
    (λ p. let z = eqb-false code 0x00 p in
    either (eqb code 0x12)
    (λ q. either (eqb size 32) (λ r. simp (p, q, r) (as_sha_256 (eqb-true code 0x12 q) (eqb-true size 32 r)))
    (λ r. simp (p, q, r) (as_none (λ a b. absurd (z a)) (λ a b. absurd (eqb-false size 32 r b)))))
    (λ q. simp (p, q) (as_none (λ a b. absurd (z a)) (λ a b. absurd (eqb-false code 0x12 q a)))))

-- two bytes and the rest
two_on : (s : List ℕ) → 2 + get_or s 1 0 ≡ length s → s ≡ get_or s 0 0 ∷ get_or s 1 0 ∷ digest_of s
two_on [] h = absurd (omega arith)
two_on (a ∷ []) h = absurd (omega arith)
two_on (a ∷ b ∷ d) h = refl

module _ (code : ℕ) (d : List ℕ) where
  is-inlined : Reads code (length d) (Some who.Identity) → IsPeerId (code ∷ length d ∷ d) identity d
  is-inlined (as_identity p q) =
      subst (λ (s : List ℕ). IsPeerId s identity d)
      (multihash-bytes 0x00 d (omega arith) (omega arith) ∙ ap (λ (n : ℕ). n ∷ length d ∷ d) (sym p)) (inlined d q)

  is-hashed : Reads code (length d) (Some who.Sha256) → IsPeerId (code ∷ length d ∷ d) sha_256 d
  is-hashed (as_sha_256 p q) =
      subst (λ (s : List ℕ). IsPeerId s sha_256 d)
      (multihash-bytes 0x12 d (omega arith) (omega arith) ∙ ap (λ (n : ℕ). n ∷ length d ∷ d) (sym p)) (hashed d q)

  made : (h : Hash) → Reads code (length d) (read_as h) → IsPeerId (code ∷ length d ∷ d) h d
  made identity r = is-inlined r
  made sha_256 r = is-hashed r

not_none : {A : Type 0} (h : Hash) → None ≡ read_as h → A
not_none identity e = clash (cc)
not_none sha_256 e = clash (cc)

of-read : (s : List ℕ) (h : Hash) → from_bytes s ≡ read_as h → IsPeerId s h (digest_of s)
unfolding from_bytes
of-read s h e =
    either (eqb (2 + get_or s 1 0) (length s))
    (λ t. let k = eqb-true (2 + get_or s 1 0) (length s) t in
    let g = two_on s k in
    let n : get_or s 1 0 ≡ length (digest_of s) = omega (arith, ap length g) in
    subst (λ (l : List ℕ). IsPeerId l h (digest_of s))
    (sym (g ∙ ap (λ (m : ℕ). get_or s 0 0 ∷ m ∷ digest_of s) n))
    (made (get_or s 0 0) (digest_of s) h
    (subst (Reads (get_or s 0 0) (length (digest_of s))) (simp t at e)
    (subst (λ (m : ℕ). Reads (get_or s 0 0) m (hash_of (get_or s 0 0) (get_or s 1 0))) n (reads (get_or s 0 0) (get_or s 1 0))))))
    (λ t. not_none h (simp t at e))

-- ---- and each is read
read_as_lem : (code : ℕ) (d : List ℕ) → from_bytes (code ∷ length d ∷ d) ≡ hash_of code (length d)
unfolding from_bytes
read_as_lem code d =
    ap (λ (t : Bool). cond t (hash_of code (length d)) None) (eq-eqb (2 + length d)
    (length (code ∷ length d ∷ d)) (omega arith))

is_read_lem : {s d : List ℕ} {h : Hash} → IsPeerId s h d → (from_bytes s ≡ read_as h) × (digest_of s ≡ d)
unfolding hash_of
is_read_lem (inlined d k) =
    let b = multihash-bytes 0x00 d (omega arith) (omega arith) in
    (ap from_bytes b ∙ read_as_lem 0x00 d ∙ simp (le-ltb 42 (length d) k), ap digest_of b)
is_read_lem (hashed d k) =
    let b = multihash-bytes 0x12 d (omega arith) (omega arith) in
    (ap from_bytes b ∙ read_as_lem 0x12 d ∙ simp (eq-eqb (length d) 32 k), ap digest_of b)

-- bytes are read as this peer id, with this digest, exactly where they are it
pub peer-exactly : (s d : List ℕ) (h : Hash) → ((from_bytes s ≡ read_as h) × (digest_of s ≡ d)) ↔ IsPeerId s h d
peer-exactly s d h = (λ x. subst (IsPeerId s h) x.1 (of-read s h x.0), is_read_lem)

-- and are refused exactly where they are none
of-answer : (r : Option PeerId) → ((h : Hash) → r ≡ read_as h → ⊥) → r ≡ None
of-answer (Some who.Identity) n = absurd (n identity refl)
of-answer (Some who.Sha256) n = absurd (n sha_256 refl)
of-answer None n = refl

pub no-peer-exactly : (s : List ℕ) → (from_bytes s ≡ None) ↔ ((h : Hash) (d : List ℕ) → IsPeerId s h d → ⊥)
no-peer-exactly s = (
  λ e h d x. not_none h (sym e ∙ (is_read_lem x).0),
  λ n. of-answer (from_bytes s) (λ h e. n h (digest_of s) (of-read s h e)),
)

-- never two readings
one-hash : (g h : Hash) → read_as g ≡ read_as h → g ≡ h
one-hash identity identity e = refl
one-hash identity sha_256 e = clash (cc)
one-hash sha_256 identity e = clash (cc)
one-hash sha_256 sha_256 e = refl

pub one-peer : {s c d : List ℕ} {g h : Hash} → IsPeerId s g c → IsPeerId s h d → (g ≡ h) × (c ≡ d)
one-peer {g = g} {h = h} x y = (one-hash g h (sym (is_read_lem x).0 ∙ (is_read_lem y).0), sym (is_read_lem x).1 ∙ (is_read_lem y).1)

-- a peer id has 2 bytes before its digest, and 44 at most
pub peer-size : {s d : List ℕ} {h : Hash} → IsPeerId s h d → (length s ≡ 2 + length d) × (length s ≤ 44)
peer-size (inlined d k) = let b = ap length (multihash-bytes 0x00 d (omega arith) (omega arith)) in (b ∙ omega arith, omega arith)
peer-size (hashed d k) = let b = ap length (multihash-bytes 0x12 d (omega arith) (omega arith)) in (b ∙ omega arith, omega arith)

-- ---- a peer id says where it ends: none is the front of another. So an id, which is a sender and a seqno, tells both
peer-bytes : {s d : List ℕ} {h : Hash} → IsPeerId s h d → s ≡ get_or s 0 0 ∷ length d ∷ d
peer-bytes (inlined d k) =
    let b = multihash-bytes 0x00 d (omega arith) (omega arith) in
    b ∙ sym (ap (λ (l : List ℕ). get_or l 0 0 ∷ length d ∷ d) b)
peer-bytes (hashed d k) =
    let b = multihash-bytes 0x12 d (omega arith) (omega arith) in
    b ∙ sym (ap (λ (l : List ℕ). get_or l 0 0 ∷ length d ∷ d) b)

pub peer_delimits : {s t c d x y : List ℕ} {g h : Hash} → IsPeerId s g c → IsPeerId t h d → s ++ x ≡ t ++ y
    → (s ≡ t) × (x ≡ y)
peer_delimits {s} {t} {c} {d} {x} {y} p q e =
    let a = peer-bytes p in
    let b = peer-bytes q in
    let f : get_or s 0 0 ∷ length c ∷ (c ++ x) ≡ get_or t 0 0 ∷ length d ∷ (d ++ y) =
    sym (ap (λ (l : List ℕ). l ++ x) a) ∙ e ∙ ap (λ (l : List ℕ). l ++ y) b in
    let k : get_or s 0 0 ≡ get_or t 0 0 = ap (λ (l : List ℕ). get_or l 0 0) f in
    let n : length c ≡ length d = ap (λ (l : List ℕ). get_or l 1 0) f in
    let r : c ++ x ≡ d ++ y = ap (drop 2) f in
    let m : c ≡ d = sym (take_at c x (length c) refl) ∙ ap (take (length c)) r ∙ take_at d y (length c) (sym n) in (
      a ∙ ap₂ (λ (i : ℕ) (l : List ℕ). i ∷ length l ∷ l) k m ∙ sym b,
      sym (drop_at c x (length c) refl) ∙ ap (drop (length c)) r ∙ drop_at d y (length c) (sym n),
    )
