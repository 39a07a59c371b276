-- Laws of the varint definitions. A varint is read exactly where the bytes begin with the minimal encoding of a value
-- below 2^64.
use Rattle.std.specs.Prelude.{Result, Ok, Err, ℕ, zero, suc, ◌+◌, ◌*◌, ◌/◌, ◌%◌, ◌^◌, ◌≤◌, ◌<◌, ◌≡◌, refl, List, [], ◌∷◌, ◌++◌, ◌≢◌, ◌↔◌, length, drop, ltb, leb, eqb}
use Rattle.std.proofs.Common.{sym, ap, ap₂, subst, ◌∙◌, arith, pow-suc, one-add, length-drop, lt-ltb, le-ltb, ne_eqb, le-leb, ltb-true, ltb-false, leb-true, leb-false, eqb-true}
use Rattle.std.proofs.Math.Nat.{one-le-pow}
use Rattle.std.proofs.lemmas.Bool.{eqb-false}
use Rattle.basis.specs.Cases.{either, clash, ok-two, of-ok-two}
use Rattle.basis.specs.Bytes.{Bytes}
use Rattle.peer_id.specs.declared.VarintError.TheVariants.{BufferTooShort, Overflow, NonCanonical}
use Rattle.peer_id.specs.declared.Group.{Group}
use Rattle.peer_id.specs.declared.Group.TheVariants as group
use Rattle.peer_id.specs.declared.VarintError.{VarintError}
use Rattle.peer_id.specs.Uvarint.{bytes_of, uvarint, group_of, read_from, read_uvarint, below, on_group}

-- ---- the encoding, one byte on
-- enough fuel is enough
fuel : (f g n : ℕ) → n ≤ f → n ≤ g → bytes_of f n ≡ bytes_of g n
unfolding bytes_of
fuel zero zero n p q = refl
fuel zero (suc g) n p q = rw (lt-ltb n 128 (omega arith))
fuel (suc f) zero n p q = rw (lt-ltb n 128 (omega arith))
fuel (suc f) (suc g) n p q =
    either (ltb n 128) (λ e. rw e)
    (λ e. let h : 128 ≤ n = ltb-false n 128 e in
    rw e (ap (λ (l : List ℕ). (n % 128 + 128) ∷ l) (fuel f g (n / 128) (omega arith) (omega arith))))

pub uvarint-small : (n : ℕ) → n < 128 → uvarint n ≡ n ∷ []
unfolding uvarint bytes_of
uvarint-small zero h = refl
uvarint-small (suc n) h = rw (lt-ltb (suc n) 128 h)

pub uvarint_big : (n : ℕ) → 128 ≤ n → uvarint n ≡ (n % 128 + 128) ∷ uvarint (n / 128)
unfolding uvarint bytes_of
uvarint_big zero h = absurd (omega arith)
uvarint_big (suc n) h =
    rw (le-ltb (suc n) 128 h)
    (ap (λ (l : List ℕ). (suc n % 128 + 128) ∷ l) (fuel n (suc n / 128) (suc n / 128) (omega arith) (omega arith)))

-- ---- how long an encoding is
pub uvarint-some : (n : ℕ) → 1 ≤ length (uvarint n)
uvarint-some n =
    either (ltb n 128) (λ e. rw (uvarint-small n (ltb-true n 128 e)) (omega arith))
    (λ e. rw (uvarint_big n (ltb-false n 128 e)) (omega arith))

at_most-from : (f n : ℕ) → n < 2 * 128 ^ f → length (uvarint n) ≤ suc f
at_most-from zero n h = rw (uvarint-small n (omega arith)) (omega arith)
at_most-from (suc f) n h =
    either (ltb n 128) (λ e. rw (uvarint-small n (ltb-true n 128 e)) (omega arith))
    (λ e. rw (uvarint_big n (ltb-false n 128 e)) (let l = at_most-from f (n / 128) (omega (arith, pow-suc 128 f)) in
    omega arith))

pub at_most_ten : (n : ℕ) → n < 2 ^ 64 → length (uvarint n) ≤ 10
at_most_ten n h = at_most-from 9 n h

-- ---- what each answer to a byte tells
pub data Says (k b : ℕ) : Result Group VarintError → Type 0 where
  more : k ≢ 9 → 128 ≤ b → Says k b (Ok group.More)
  last : b < 128 → (k ≡ 9 → b < 2) → (b ≡ 0 → k ≡ 0) → Says k b (Ok group.Last)
  large : k ≡ 9 → 1 < b → Says k b (Err Overflow)
  padded : b ≡ 0 → k ≢ 0 → Says k b (Err NonCanonical)

pub says : (k b : ℕ) → Says k b (group_of k b)
unfolding group_of
says k b =
    either (eqb k 9)
    (λ p. let kp : k ≡ 9 = eqb-true k 9 p in
    either (ltb 1 b) (λ q. simp (p, q) (large kp (ltb-true 1 b q)))
    (λ q. let hq : b ≤ 1 = ltb-false 1 b q in
    either (eqb b 0) (λ r. simp (p, q, r) (padded (eqb-true b 0 r) (λ z. omega arith)))
    (λ r. simp (p, q, r) (last (omega arith) (λ z. omega arith) (λ z. absurd (eqb-false b 0 r z))))))
    (λ p. either (leb 128 b) (λ q. simp (p, q) (more (eqb-false k 9 p) (leb-true 128 b q)))
    (λ q. let hq : b < 128 = leb-false 128 b q in
    either (eqb b 0)
    (λ r. either (eqb k 0)
    (λ u. simp (p, q, r, u) (last hq (λ z. absurd (eqb-false k 9 p z)) (λ z. eqb-true k 0 u)))
    (λ u. simp (p, q, r, u) (padded (eqb-true b 0 r) (eqb-false k 0 u))))
    (λ r. simp (p, q, r) (last hq (λ z. absurd (eqb-false k 9 p z)) (λ z. absurd (eqb-false b 0 r z))))))

of-last : {k b : ℕ} → Says k b (Ok group.Last) → (b < 128) × (k ≡ 9 → b < 2) × (b ≡ 0 → k ≡ 0)
of-last (last p q r) = (p, q, r)

pub group-last : (k b : ℕ) → Ok group.Last ≡ group_of k b → (b < 128) × (k ≡ 9 → b < 2) × (b ≡ 0 → k ≡ 0)
group-last k b e = of-last (subst (Says k b) (sym e) (says k b))

of-more : {k b : ℕ} → Says k b (Ok group.More) → (k ≢ 9) × (128 ≤ b)
of-more (more p q) = (p, q)

pub group-more : (k b : ℕ) → Ok group.More ≡ group_of k b → (k ≢ 9) × (128 ≤ b)
group-more k b e = of-more (subst (Says k b) (sym e) (says k b))

to_last : {k b : ℕ} {g : Result Group VarintError} → Says k b g → b < 128 → (k ≡ 9 → b < 2) → (b ≡ 0 → k ≡ 0)
    → g ≡ Ok group.Last
to_last (more p q) h n z = absurd (omega arith)
to_last (last p q r) h n z = refl
to_last (large p q) h n z = let l = n p in absurd (omega arith)
to_last (padded p q) h n z = absurd (q (z p))

is_last : (k b : ℕ) → b < 128 → (k ≡ 9 → b < 2) → (b ≡ 0 → k ≡ 0) → group_of k b ≡ Ok group.Last
is_last k b h n z = to_last (says k b) h n z

pub is-more : (k b : ℕ) → k ≢ 9 → 128 ≤ b → group_of k b ≡ Ok group.More
unfolding group_of
is-more k b n h = simp (ne_eqb k 9 n, le-leb 128 b h)

-- ---- reading what was written: k bytes passed, f more allowed after the next
written_small : (f k x : ℕ) (rest : List ℕ) → k + f ≡ 9 → x < 2 * 128 ^ f → (x ≡ 0 → k ≡ 0) → x < 128
    → read_from k (uvarint x ++ rest) ≡ Ok (x, length (uvarint x))
unfolding read_from
written_small f k x rest e b z h = rw (uvarint-small x h) (simp (is_last k x h (λ p. tenth f p e b) z))
  where
    tenth : (f : ℕ) → k ≡ 9 → k + f ≡ 9 → x < 2 * 128 ^ f → x < 2
    tenth zero p e b = b
    tenth (suc f) p e b = absurd (omega arith)

written_from : (f k x : ℕ) (rest : List ℕ) → k + f ≡ 9 → x < 2 * 128 ^ f → (x ≡ 0 → k ≡ 0)
    → read_from k (uvarint x ++ rest) ≡ Ok (x, length (uvarint x))
unfolding read_from
written_from zero k x rest e b z = written_small zero k x rest e b z (omega arith)
written_from (suc f) k x rest e b z =
    either (ltb x 128) (λ t. written_small (suc f) k x rest e b z (ltb-true x 128 t))
    (λ t. let h : 128 ≤ x = ltb-false x 128 t in
    rw (uvarint_big x h)
    (simp (
      is-more k (x % 128 + 128) (omega arith) (omega arith),
      written_from f (k + 1) (x / 128) rest (omega arith) (omega (arith, pow-suc 128 f)) (λ z. absurd (omega arith)),
    )
    (ok-two (omega arith) (omega arith))))

-- reading what was written gives the value back, whatever follows it
pub read-written : (x : ℕ) (rest : List ℕ) → x < 2 ^ 64 → read_uvarint (uvarint x ++ rest) ≡ Ok (x, length (uvarint x))
unfolding read_uvarint
read-written x rest h = written_from 9 0 x rest refl h (λ z. refl)

-- ---- what is accepted is the encoding
record Taken (f k : ℕ) (s : List ℕ) (v n : ℕ) : Type 0 where
  size : n ≡ length (uvarint v)
  front : s ≡ uvarint v ++ drop n s
  bound : v < 2 * 128 ^ f
  minimal : v ≡ 0 → k ≡ 0

on_last : (f k b : ℕ) (s : List ℕ) (v n : ℕ) → k + f ≡ 9 → Says k b (Ok group.Last) → b ≡ v → 1 ≡ n
    → Taken f k (b ∷ s) v n
on_last f k b s v n e (last p q r) ev en =
    rw (← ev, ← en)
    (record { size = rw (uvarint-small b p); front = rw (uvarint-small b p); bound = last-bound f e; minimal = r })
  where
    last-bound : (f : ℕ) → k + f ≡ 9 → b < 2 * 128 ^ f
    last-bound zero e = q (omega arith)
    last-bound (suc f) e = omega (arith, pow-suc 128 f, one-le-pow f 128 (omega arith))

on_more : (f k b : ℕ) (s : List ℕ) (v n : ℕ) (r : Result (ℕ × ℕ) VarintError) → b < 256 → k + suc f ≡ 9 → 128 ≤ b
    → below b r ≡ Ok (v, n) → ((x m : ℕ) → r ≡ Ok (x, m) → Taken f (k + 1) s x m) → Taken (suc f) k (b ∷ s) v n
on_more f k b s v n (Ok (x, m)) small e h q ih =
    let t = ih x m refl in
    let w : ℕ = b % 128 + 128 * x in
    let nz : x ≢ 0 = λ z. let y = t.minimal z in omega arith in
    let o = of-ok-two q in
    let ev : w ≡ v = o.0 in let en : 1 + m ≡ n = o.1 in
    let g : uvarint w ≡ b ∷ uvarint x = uvarint_big w (omega arith) ∙ ap₂ (λ (p y : ℕ). p ∷ uvarint y) (omega arith)
    (omega arith) in
    rw (← ev, ← en)
    (record {
      size = omega (arith, t.size, ap length g);
      front = rw (g, one-add m) (ap (λ (l : List ℕ). b ∷ l) t.front);
      bound = omega (arith, pow-suc 128 f, t.bound);
      minimal = λ z. absurd (omega arith);
    })
on_more f k b s v n (Err why) small e h q ih = clash (cc)

on_byte : (f k b : ℕ) (s : List ℕ) (v n : ℕ) (g : Result Group VarintError) → Says k b g → b < 256 → k + f ≡ 9
    → on_group g b (read_from (k + 1) s) ≡ Ok (v, n)
    → ((g : ℕ) → k + 1 + g ≡ 9 → (x m : ℕ) → read_from (k + 1) s ≡ Ok (x, m) → Taken g (k + 1) s x m)
    → Taken f k (b ∷ s) v n
on_byte zero k b s v n _ (more p q) small e h ih = absurd (p (omega arith))
on_byte (suc f) k b s v n _ (more p q) small e h ih =
    on_more f k b s v n (read_from (k + 1) s) small e q h (ih f (omega arith))
on_byte f k b s v n _ (last p q r) small e h ih = let o = of-ok-two h in on_last f k b s v n e (last p q r) o.0 o.1
on_byte f k b s v n _ (large p q) small e h ih = clash (cc)
on_byte f k b s v n _ (padded p q) small e h ih = clash (cc)

accepted-from : (s : List ℕ) (f k v n : ℕ) → Bytes s → k + f ≡ 9 → read_from k s ≡ Ok (v, n) → Taken f k s v n
unfolding read_from
accepted-from [] f k v n bs e h = clash (cc)
accepted-from (b ∷ s) f k v n bs e h = on_byte f k b s v n (group_of k b) (says k b) (bs 0) e h
    (λ g p x m q. accepted-from s g (k + 1) x m (λ i. bs (suc i)) p q)

-- s begins with the minimal encoding of v, of n bytes, and v is below 2^64
pub record Begins (s : List ℕ) (v n : ℕ) : Type 0 where
  pub front : s ≡ uvarint v ++ drop n s
  pub size : n ≡ length (uvarint v)
  pub bound : v < 2 ^ 64

pub accepted : (s : List ℕ) (v n : ℕ) → Bytes s → read_uvarint s ≡ Ok (v, n) → Begins s v n
unfolding read_uvarint
accepted s v n bs h = let t = accepted-from s 9 0 v n bs refl h in
    record { front = t.front; size = t.size; bound = t.bound }

pub accepted-exactly : (s : List ℕ) (v n : ℕ) → Bytes s → (read_uvarint s ≡ Ok (v, n)) ↔ Begins s v n
accepted-exactly s v n bs =
    (accepted s v n bs, λ h. rw (h.front, h.size) (read-written v (drop (length (uvarint v)) s) h.bound))

-- ---- how many bytes are used
used-byte : (b : ℕ) (s : List ℕ) (v n : ℕ) (g : Result Group VarintError) (r : Result (ℕ × ℕ) VarintError) → on_group g b r ≡ Ok (v, n)
    → ((x m : ℕ) → r ≡ Ok (x, m) → (1 ≤ m) × (m ≤ length s)) → (1 ≤ n) × (n ≤ suc (length s))
used-byte b s v n (Ok group.More) (Ok (x, m)) h ih = let l = ih x m refl in omega (arith, (of-ok-two h).1)
used-byte b s v n (Ok group.More) (Err why) h ih = clash (cc)
used-byte b s v n (Ok group.Last) r h ih = omega (arith, (of-ok-two h).1)
used-byte b s v n (Err why) r h ih = clash (cc)

used-from : (s : List ℕ) (k v n : ℕ) → read_from k s ≡ Ok (v, n) → (1 ≤ n) × (n ≤ length s)
unfolding read_from
used-from [] k v n h = clash (cc)
used-from (b ∷ s) k v n h = used-byte b s v n (group_of k b) (read_from (k + 1) s) h (λ x m q. used-from s (k + 1) x m q)

-- a varint that is read at a place moves on, and ends within the bytes
pub used : (s : List ℕ) (at v n : ℕ) → Ok (v, n) ≡ read_uvarint (drop at s) → (1 ≤ n) × (at + n ≤ length s)
unfolding read_uvarint
used s at v n e = let u = used-from (drop at s) 0 v n (sym e) in omega (arith, length-drop at s)

-- nothing is no varint
pub read_none : read_uvarint [] ≡ Err BufferTooShort
unfolding read_uvarint read_from
read_none = refl
