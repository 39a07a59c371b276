-- What the readers of a tag, a varint, a length and a fixed number of bytes find is spelt out at its place, and what is
-- spelt out there is found.
use Rattle.std.specs.Prelude.{Result, Ok, Err, Some, ℕ, ◌+◌, ◌-◌, ◌*◌, ◌/◌, ◌%◌, ◌^◌, ◌≤◌, ◌<◌, ◌≡◌, refl, List, ◌++◌, ◌≢◌, length, take, drop, ltb, leb, eqb}
use Rattle.std.proofs.Common.{sym, ap, ◌∙◌, arith, length-append, length-drop, take-append-drop, drop-drop, drop_at, take_at, ltb-false, le-ltb, ne_eqb}
use Rattle.std.proofs.lemmas.Bool.{eqb-false, lt-leb}
use Rattle.basis.specs.Cases.{either, clash, of-ok-two, of-ok-three}
use Rattle.basis.specs.Bytes.{Bytes}
use Rattle.basis.specs.Lists.{drop-bytes}
use Rattle.peer_id.specs.Uvarint.{uvarint, read_uvarint}
use Rattle.peer_id.specs.Laws.{accepted, read-written, uvarint-some}
use Rattle.protobuf.specs.Field.{located, and_then, tag_of, read_tag, part_of, read_len, read_varint, skip_fixed}
use Rattle.protobuf.specs.Laws.{varint_moves}
use Rattle.protobuf.specs.Walk.{between}
use Rattle.peer_id.specs.declared.VarintError.{VarintError}
use Rattle.protobuf.specs.declared.WireError.{WireError}

-- ---- a varint at a place, both ways
-- what is left of s from `at` is the encoding of x, and then what is left from e
pub record Spells (s : List ℕ) (at x e : ℕ) : Type 0 where
  pub here : drop at s ≡ uvarint x ++ drop e s
  pub ends : e ≡ at + length (uvarint x)
  pub bound : x < 2 ^ 64

pub spelt : (s : List ℕ) (at x n : ℕ) → Bytes s → Ok (x, n) ≡ read_uvarint (drop at s) → Spells s at x (at + n)
spelt s at x n b h =
    let t = accepted (drop at s) x n (drop-bytes at s b) (sym h) in
    record {
      here = t.front ∙ ap (λ (l : List ℕ). uvarint x ++ l) (drop-drop n at s);
      ends = ap (λ (k : ℕ). at + k) t.size;
      bound = t.bound;
    }

pub reads-spelt : (s : List ℕ) (at x : ℕ) (rest : List ℕ) → x < 2 ^ 64 → drop at s ≡ uvarint x ++ rest
    → read_uvarint (drop at s) ≡ Ok (x, length (uvarint x))
reads-spelt s at x rest b h = rw h (read-written x rest b)

-- past a front of what is left
pub drop-front : (s : List ℕ) (at : ℕ) (xs rest : List ℕ) → drop at s ≡ xs ++ rest → drop (at + length xs) s ≡ rest
drop-front s at xs rest h = sym (drop-drop (length xs) at s) ∙ ap (drop (length xs)) h
    ∙ drop_at xs rest (length xs) refl

pub take-front : (s : List ℕ) (at : ℕ) (xs rest : List ℕ) → drop at s ≡ xs ++ rest → take (length xs) (drop at s) ≡ xs
take-front s at xs rest h = ap (take (length xs)) h ∙ take_at xs rest (length xs) refl

pub split : (s : List ℕ) (a e : ℕ) → a ≤ e → drop a s ≡ between s a e ++ drop e s
split s a e h =
    let q : a + (e - a) ≡ e = omega arith in
    sym (take-append-drop (e - a) (drop a s)) ∙ ap (λ (l : List ℕ). take (e - a) (drop a s) ++ l) (drop-drop (e - a) a s
    ∙ ap (λ (k : ℕ). drop k s) q)

-- ---- from the walk to the grammar: what each reader found is spelt out
varint-at : (s : List ℕ) (at x e : ℕ) (r : Result (ℕ × ℕ) VarintError) → Bytes s → r ≡ read_uvarint (drop at s)
    → Ok (x, e) ≡ located at r → Spells s at x e
varint-at s at x e (Ok (y, n)) b q h = let k = of-ok-two h in rw (k.0, k.1) (spelt s at y n b q)
varint-at s at x e (Err why) b q h = clash (cc)

pub varint-spelt : (s : List ℕ) (at x e : ℕ) → Bytes s → Ok (x, e) ≡ read_varint s at → Spells s at x e
unfolding read_varint
varint-spelt s at x e b h = varint-at s at x e (read_uvarint (drop at s)) b refl h

pub record Spanned (s : List ℕ) (at a e : ℕ) : Type 0 where
  pub size : Spells s at (e - a) a
  pub order : a ≤ e
  pub within : e ≤ length s

part_at : (s : List ℕ) (at a e : ℕ) (r : Result (ℕ × ℕ) WireError) → Bytes s → r ≡ read_varint s at
    → Ok (a, e) ≡ and_then (part_of (length s)) r → Spanned s at a e
part_at s at a e (Ok (x, to)) b q h =
    either (ltb (length s - to) x) (λ t. clash (let k = simp t at h in cc))
    (λ t. let k = of-ok-two (simp t at h) in
    let u = varint_moves s at x to q in
    let l : x ≤ length s - to = ltb-false _ _ t in
    let ea : a ≡ to = k.0 in let ee : e ≡ to + x = k.1 in
    let ex : e - a ≡ x = omega arith in
    record { size = rw (ex, ea) (varint-spelt s at x to b q); order = omega arith; within = omega arith })
part_at s at a e (Err why) b q h = clash (cc)

pub part-spelt : (s : List ℕ) (at a e : ℕ) → Bytes s → Ok (a, e) ≡ read_len s at → Spanned s at a e
unfolding read_len
part-spelt s at a e b h = part_at s at a e (read_varint s at) b refl h

pub record Tagged (s : List ℕ) (at n type e : ℕ) : Type 0 where
  pub least : 1 ≤ n
  pub most : n ≤ 536870911
  pub bits : type < 8
  pub spells : Spells s at (n * 8 + type) e

tag_at : (s : List ℕ) (at n type e : ℕ) (r : Result (ℕ × ℕ) WireError) → Bytes s → r ≡ read_varint s at
    → Ok (Some (n, type, e)) ≡ and_then (tag_of at) r → Tagged s at n type e
tag_at s at n type e (Ok (x, to)) b q h =
    either (eqb (x / 8) 0) (λ t. clash (let k = simp t at h in cc))
    (λ t. either (ltb 536870911 (x / 8)) (λ w. clash (let k = simp (t, w) at h in cc))
    (λ w. let k = of-ok-three (simp (t, w) at h) in
    let nz : x / 8 ≢ 0 = eqb-false (x / 8) 0 t in
    let l : x / 8 ≤ 536870911 = ltb-false _ _ w in
    let en : n ≡ x / 8 = k.0 in let et : type ≡ x % 8 = k.1 in let ee : e ≡ to = k.2 in
    let ex : n * 8 + type ≡ x = omega arith in
    record { least = omega arith; most = omega arith; bits = omega arith; spells = rw (ex, ee) (varint-spelt s at x to b q) }))
tag_at s at n type e (Err why) b q h = clash (cc)

pub tag-spelt : (s : List ℕ) (at n type e : ℕ) → Bytes s → Ok (Some (n, type, e)) ≡ read_tag s at → Tagged s at n type e
unfolding read_tag
tag-spelt s at n type e b h =
    either (leb (length s) at) (λ t. clash (let k = simp t at h in cc))
    (λ t. tag_at s at n type e (read_varint s at) b refl (simp t at h))

-- ---- a fixed number of bytes, both ways
pub record Fixed (s : List ℕ) (at n e : ℕ) : Type 0 where
  pub ends : e ≡ at + n
  pub within : e ≤ length s

pub fixed_at : (s : List ℕ) (at n e : ℕ) → 0 < n → Ok e ≡ skip_fixed (length s) at n → Fixed s at n e
unfolding skip_fixed
fixed_at s at n e z h =
    either (ltb (length s - at) n) (λ t. clash (let k = simp t at h in cc))
    (λ t. let k = simp t at h in let l : n ≤ length s - at = ltb-false _ _ t in let p : e ≡ at + n = cc in
    record { ends = p; within = omega arith })

-- what is left is no longer than all
pub left-fits : (s : List ℕ) (at : ℕ) (xs rest : List ℕ) → 0 < length xs → drop at s ≡ xs ++ rest
    → at + length xs + length rest ≡ length s
left-fits s at xs rest z h = let e : length s - at ≡ length xs + length rest = sym (length-drop at s) ∙ ap length h
    ∙ length-append xs rest in omega arith

pub fixed_reads : (s : List ℕ) (to : ℕ) (d rest : List ℕ) (k : ℕ) → 0 < k → length d ≡ k → drop to s ≡ d ++ rest
    → skip_fixed (length s) to k ≡ Ok (to + k)
unfolding skip_fixed
fixed_reads s to d rest k z g h = let l = left-fits s to d rest (omega arith) h in let m : k ≤ length s - to =
    omega arith in simp (le-ltb _ _ m)

pub fixed_bytes : (s : List ℕ) (to : ℕ) (d rest : List ℕ) (k : ℕ) → length d ≡ k → drop to s ≡ d ++ rest
    → (between s to (to + k) ≡ d) × (drop (to + k) s ≡ rest)
fixed_bytes s to d rest k g h =
    let x : to + k - to ≡ length d = omega arith in (
      ap (λ (i : ℕ). take i (drop to s)) x ∙ take-front s to d rest h,
      ap (λ (i : ℕ). drop (to + i) s) (sym g) ∙ drop-front s to d rest h,
    )

-- ---- a tag is read where it stands
pub tag-reads : (s : List ℕ) (at n type : ℕ) (rest : List ℕ) → 1 ≤ n → n ≤ 536870911 → type < 8
    → drop at s ≡ uvarint (n * 8 + type) ++ rest
    → read_tag s at ≡ Ok (Some (n, type, at + length (uvarint (n * 8 + type))))
unfolding read_tag read_varint
tag-reads s at n type rest l m b h =
    let u = uvarint-some (n * 8 + type) in
    let k = left-fits s at (uvarint (n * 8 + type)) rest (omega arith) h in
    let i : at < length s = omega arith in
    let x : (n * 8 + type) / 8 ≡ n = omega arith in
    let y : (n * 8 + type) % 8 ≡ type = omega arith in
    simp (
      lt-leb _ _ i,
      reads-spelt s at (n * 8 + type) rest (omega arith) h,
      x,
      y,
      ne_eqb n 0 (λ z. omega arith),
      le-ltb 536870911 n m,
    )
