-- Bytes are decoded as a key exactly where they are one by the document; and no bytes are two keys.
use Rattle.std.specs.Prelude.{Result, Ok, Err, ℕ, ◌+◌, ◌^◌, ◌≤◌, ◌<◌, ◌≡◌, ◌↔◌, ◌≢◌, eqb, ltb, leb}
use Rattle.std.proofs.Math.Path.{refl, sym, ap, ap₂}
use Rattle.std.proofs.Common.{subst, ◌∙◌, arith}
use mathlib.Core.List.{List, ◌∷◌, ◌++◌}
use Rattle.std.proofs.Math.ListN.{length, drop, get_or, length-drop, length-append}
use Rattle.std.proofs.Math.Seq.{drop-cons, drop-drop, drop_at}
use borrow.Author.Tests.{eqb-true, eqb-false, ltb-false, leb-false, eq-eqb, ne_eqb, le-ltb, lt-leb}
use Rattle.basis.specs.Cases.{either, clash, of-ok}
use Rattle.basis.specs.Bytes.{Bytes}
use Rattle.basis.specs.Lists.{drop-bytes}
use Rattle.peer_id.specs.Uvarint.{uvarint, read_uvarint}
use Rattle.peer_id.specs.Laws.{uvarint-small, uvarint-some, read-written, accepted}
use Rattle.protobuf.specs.Encode.{tag, varint_field, bytes_field}
use Rattle.key.specs.declared.KeyType.{KeyType}
use Rattle.key.specs.declared.KeyType.TheVariants.{Rsa, Ed25519, Secp256k1, Ecdsa}
use Rattle.key.specs.declared.PublicKeyError.{PublicKeyError}
use Rattle.key.specs.declared.PublicKey.{PublicKey}
use Rattle.peer_id.specs.declared.VarintError.{VarintError}
use Rattle.key.specs.Key.{code_of, key_bytes, IsKey, key}
use Rattle.key.specs.Decode.{type_of, found, on_total, on_size, on_data, on_type, decode_protobuf}

-- ---- the bytes of a key are the protobuf fields 1, a number, and 2, bytes
code-small : (t : KeyType) → code_of t ≤ 3
code-small Rsa = omega arith
code-small Ed25519 = omega arith
code-small Secp256k1 = omega arith
code-small Ecdsa = omega arith

pub key-fields : (t : KeyType) (d : List ℕ) → key_bytes t d ≡ varint_field 1 (code_of t) ++ bytes_field 2 d
unfolding key_bytes varint_field bytes_field tag
key-fields t d =
    rw (
      uvarint-small 8 (omega arith),
      uvarint-small 18 (omega arith),
      uvarint-small (code_of t) (omega (arith, code-small t)),
    )

-- ---- types and their numbers
pub type_code : (t : KeyType) → type_of (code_of t) ≡ t
unfolding type_of
type_code Rsa = refl
type_code Ed25519 = refl
type_code Secp256k1 = refl
type_code Ecdsa = refl

code_type : (n : ℕ) → n ≤ 3 → code_of (type_of n) ≡ n
unfolding type_of
code_type n h =
    either (eqb n 0) (λ a. simp a (sym (eqb-true n 0 a)))
    (λ a. either (eqb n 1) (λ b. simp (a, b) (sym (eqb-true n 1 b)))
    (λ b. either (eqb n 2) (λ c. simp (a, b, c) (sym (eqb-true n 2 c)))
    (λ c. simp (a, b, c) (let x = eqb-false n 0 a in let y = eqb-false n 1 b in let z = eqb-false n 2 c in omega arith))))

-- ---- what is decoded: the tests that led there
of_found : {t u : KeyType} {a b : ℕ} → found t a ≡ found u b → (t ≡ u) × (a ≡ b)
of_found e = let p = of-ok e in (ap (λ (k : PublicKey). k.key_type) p, ap (λ (k : PublicKey). k.start) p)

of-total : (len : ℕ) (t u : KeyType) (start size a : ℕ) → on_total len t start size ≡ found u a
    → (t ≡ u) × (start ≡ a) × (start + size ≡ len)
unfolding on_total
of-total len t u start size a h =
    either (ltb 18446744073709551615 (start + size)) (λ x. clash (let k = simp x at h in cc))
    (λ x. either (eqb (start + size) len)
    (λ y. let k = of_found (simp (x, y) at h) in (k.0, k.1, eqb-true (start + size) len y))
    (λ y. clash (let k = simp (x, y) at h in cc)))

-- a number stands at `next`, and just so many bytes follow it, from a on
record Sized (s : List ℕ) (next a : ℕ) : Type 0 where
  size : ℕ
  used : ℕ
  read : read_uvarint (drop next s) ≡ Ok (size, used)
  start : next + used ≡ a
  total : next + used + size ≡ length s

of_size : (s : List ℕ) (t u : KeyType) (next a : ℕ) (v : Result (ℕ × ℕ) VarintError) → read_uvarint (drop next s) ≡ v
    → on_size (length s) t next v ≡ found u a → (t ≡ u) × Sized s next a
of_size s t u next a (Err why) e h = clash (cc)
of_size s t u next a (Ok (size, used)) e h =
    let k = of-total (length s) t u (next + used) size a h in
    (k.0, record { size = size; used = used; read = e; start = k.1; total = k.2 })

of_data : (s : List ℕ) (t u : KeyType) (at a : ℕ) → on_data s t at ≡ found u a
    → (at < length s) × (get_or s at 0 ≡ 0x12) × (t ≡ u) × Sized s (at + 1) a
unfolding on_data
of_data s t u at a h =
    either (leb (length s) at) (λ x. clash (let k = simp x at h in cc))
    (λ x. either (eqb (get_or s at 0) 0x12)
    (λ y. let k = of_size s t u (at + 1) a (read_uvarint (drop (at + 1) s)) refl (simp (x, y) at h) in
    (leb-false (length s) at x, eqb-true (get_or s at 0) 0x12 y, k.0, k.1))
    (λ y. clash (let k = simp (x, y) at h in cc)))

record Typed (s : List ℕ) (u : KeyType) (a : ℕ) : Type 0 where
  code : ℕ
  used : ℕ
  few : code ≤ 3
  read : read_uvarint (drop 1 s) ≡ Ok (code, used)
  rest : on_data s (type_of code) (1 + used) ≡ found u a

of_type : (s : List ℕ) (u : KeyType) (a : ℕ) (v : Result (ℕ × ℕ) VarintError) → read_uvarint (drop 1 s) ≡ v
    → on_type s v ≡ found u a → Typed s u a
of_type s u a (Err why) e h = clash (cc)
of_type s u a (Ok (n, used)) e h =
    either (ltb 3 n) (λ x. clash (let k = simp x at h in cc))
    (λ x. record { code = n; used = used; few = ltb-false 3 n x; read = e; rest = simp x at h })

of-key : (s : List ℕ) (u : KeyType) (a : ℕ) → decode_protobuf s ≡ found u a
    → (length s ≢ 0) × (get_or s 0 0 ≡ 0x08) × Typed s u a
unfolding decode_protobuf
of-key s u a h =
    either (eqb (length s) 0) (λ x. clash (let k = simp x at h in cc))
    (λ x. let z = eqb-false (length s) 0 x in
    let l = lt-leb (length s) 0 (omega arith) in either (eqb (get_or s 0 0) 0x08)
    (λ y. (z, eqb-true (get_or s 0 0) 0x08 y, of_type s u a (read_uvarint (drop 1 s)) refl (simp (x, l, y) at h)))
    (λ y. clash (let k = simp (x, l, y) at h in cc)))

-- ---- so the bytes are a key's
module _ (s : List ℕ) (u : KeyType) (a : ℕ) (b : Bytes s) (h : decode_protobuf s ≡ found u a) where
  made : s ≡ key_bytes u (drop a s)
  unfolding key_bytes
  made =
      let k = of-key s u a h in
      let t = k.2 in
      let f = accepted (drop 1 s) t.code t.used (drop-bytes 1 s b) t.read in
      let n = uvarint-small t.code (omega (arith, t.few)) in
      let one : t.used ≡ 1 = f.size ∙ ap length n in
      let r : on_data s (type_of t.code) 2 ≡ found u a = rw one at t.rest in
      let d = of_data s (type_of t.code) u 2 a r in
      let z = d.3 in
      let g = accepted (drop 3 s) z.size z.used (drop-bytes 3 s b) z.read in
      let l2 : 2 < length s = d.0 in
      let s0 : s ≡ get_or s 0 0 ∷ drop 1 s = drop-cons s 0 0 (omega arith) in
      let s1 : drop 1 s ≡ get_or s 1 0 ∷ drop 2 s = drop-cons s 1 0 (omega arith) in
      let s2 : drop 2 s ≡ get_or s 2 0 ∷ drop 3 s = drop-cons s 2 0 l2 in
      let c1 : get_or s 1 0 ≡ t.code =
      ap (λ (l : List ℕ). get_or l 0 0) (sym s1 ∙ f.front ∙ ap (λ (l : List ℕ). l ++ drop t.used (drop 1 s)) n) in
      let c : t.code ≡ code_of u = sym (code_type t.code t.few) ∙ ap code_of d.2 in
      let e : drop z.used (drop 3 s) ≡ drop a s = drop-drop z.used 3 s ∙ ap (λ (m : ℕ). drop m s) z.start in
      let m : length (drop a s) ≡ z.size = length-drop a s ∙ omega (arith, z.start, z.total) in
      let s3 : drop 3 s ≡ uvarint (length (drop a s)) ++ drop a s =
      g.front ∙ ap₂ (λ (x y : List ℕ). x ++ y) (ap uvarint (sym m)) e in
      s0 ∙ ap₂ (λ (x : ℕ) (y : List ℕ). x ∷ y) k.1
      (s1 ∙ ap₂ (λ (x : ℕ) (y : List ℕ). x ∷ y) (c1 ∙ c)
      (s2 ∙ ap₂ (λ (x : ℕ) (y : List ℕ). x ∷ y) d.1 s3))

-- ---- and a key's bytes are decoded
module _ (t : KeyType) (d : List ℕ) (h : length (key_bytes t d) < 2 ^ 64) where
  sized : ℕ
  sized = length (uvarint (length d))

  whole : length (key_bytes t d) ≡ 3 + sized + length d
  unfolding key_bytes sized
  whole = simp (length-append (uvarint (length d)) d) (omega arith)

  read-code : read_uvarint (code_of t ∷ 0x12 ∷ (uvarint (length d) ++ d)) ≡ Ok (code_of t, 1)
  read-code =
      let c = code-small t in
      let n = uvarint-small (code_of t) (omega arith) in
      rw n at (read-written (code_of t) (0x12 ∷ (uvarint (length d) ++ d)) (omega arith))

  second : on_data (key_bytes t d) t 2 ≡ found t (3 + sized)
  unfolding on_data on_total sized key_bytes
  second =
      let w = whole in
      let n = uvarint-some (length d) in
      let e = length-append (uvarint (length d)) d in
      simp (
        lt-leb (length (key_bytes t d)) 2 (omega arith),
        read-written (length d) d (omega arith),
        le-ltb 18446744073709551615 (3 + sized + length d) (omega arith),
        eq-eqb (3 + sized + length d) (length (key_bytes t d)) (sym w),
      )

  decoded : decode_protobuf (key_bytes t d) ≡ found t (3 + sized)
  unfolding decode_protobuf key_bytes
  decoded =
      let w = whole in
      simp (
        ne_eqb (length (key_bytes t d)) 0 (λ z. absurd (omega arith)),
        lt-leb (length (key_bytes t d)) 0 (omega arith),
        read-code,
        le-ltb 3 (code_of t) (code-small t),
        type_code t,
      )
      second

  rest : drop (3 + sized) (key_bytes t d) ≡ d
  unfolding key_bytes sized
  rest =
      let n = length (uvarint (length d)) in
      sym (drop-drop n 3 (key_bytes t d)) ∙ drop_at (uvarint (length d)) d n refl

-- some bytes of a machine are decoded as a key of this type, with these data, exactly where they are that key
pub key-exactly : (s : List ℕ) (t : KeyType) (d : List ℕ) → Bytes s → length s < 2 ^ 64
    → ((a : ℕ) × (decode_protobuf s ≡ found t a) × (drop a s ≡ d)) ↔ IsKey s t d
key-exactly s t d b l = (
  λ x. subst (IsKey s t) x.2 (subst (λ (k : List ℕ). IsKey k t (drop x.0 s)) (sym (made s t x.0 b x.1))
      (key t (drop x.0 s))),
  λ k. is-decoded k l,
)
  where
    is-decoded : {s d : List ℕ} {t : KeyType} → IsKey s t d → length s < 2 ^ 64
        → (a : ℕ) × (decode_protobuf s ≡ found t a) × (drop a s ≡ d)
    is-decoded (key t d) l = (3 + sized t d l, decoded t d l, rest t d l)

-- and refused exactly where they are none
of-answer : (r : Result PublicKey PublicKeyError) → ((t : KeyType) (a : ℕ) → r ≡ found t a → ⊥)
    → (why : PublicKeyError) × (r ≡ Err why)
of-answer (Ok k) n = absurd (n k.key_type k.start refl)
of-answer (Err why) n = (why, refl)

pub no_key-exactly : (s : List ℕ) → Bytes s → length s < 2 ^ 64
    → ((why : PublicKeyError) × (decode_protobuf s ≡ Err why)) ↔ ((t : KeyType) (d : List ℕ) → IsKey s t d → ⊥)
no_key-exactly s b l = (
  λ x t d k. let y = (key-exactly s t d b l).1 k in clash (let z = x.1 in let w = y.1 in cc),
  λ n. of-answer (decode_protobuf s) (λ t a e. n t (drop a s) ((key-exactly s t (drop a s) b l).0 (a, e, refl))),
)

-- never two readings
pub one_key : {s c d : List ℕ} {t u : KeyType} → Bytes s → length s < 2 ^ 64 → IsKey s t c → IsKey s u d
    → (t ≡ u) × (c ≡ d)
one_key {s} {c} {d} {t} {u} b l x y =
    let p = (key-exactly s t c b l).1 x in
    let q = (key-exactly s u d b l).1 y in
    let e = of_found (sym p.1 ∙ q.1) in
    (e.0, sym p.2 ∙ ap (λ (k : ℕ). drop k s) e.1 ∙ q.2)
