-- Laws of reading: what is read lies within the bytes, and a field moves on. Callers cite these and not the
-- definitions' text.
use Prim.Native.Nat.{ℕ, zero, suc, ◌+◌, ◌-◌, ◌/◌, ◌≤◌, ◌<◌}
use Rattle.std.specs.Prelude.{Result, Ok, Err, Option, Some, None, ◌≡◌, List, false, length, drop, ltb, leb, eqb}
use Rattle.std.proofs.Math.Path.{refl}
use Rattle.std.proofs.Common.{ap, ◌∙◌, arith, ltb-false, le-leb}
use Rattle.basis.specs.declared.Mode.{Mode}
use Rattle.basis.specs.declared.Mode.TheVariants.{Plain, Groups}
use Rattle.basis.specs.Cases.{either, clash, of-ok-two, of-ok-three}
use Rattle.peer_id.specs.Uvarint.{read_uvarint}
use Rattle.peer_id.specs.Laws.{used}
use Rattle.protobuf.specs.declared.Field.{Field}
use Rattle.peer_id.specs.declared.VarintError.{VarintError}
use Rattle.protobuf.specs.declared.WireError.{WireError}
use Rattle.protobuf.specs.Field.{located, and_then, tag_of, read_tag, part_of, read_len, read_varint}
use Rattle.protobuf.specs.Field.{skip_fixed, past_value, skip_value, opened, passed, and_on, in_group}
use Rattle.protobuf.specs.Field.{skip_from, skip_group, skip_field, of_value, of_part, of_skip, read_value, of_tag}
use Rattle.protobuf.specs.Field.{read_field}
use Rattle.protobuf.specs.Grammar.{max_groups}

-- ---- a value that is read moves on, within the bytes
of-varint : (s : List ℕ) (at x e : ℕ) (r : Result (ℕ × ℕ) VarintError) → r ≡ read_uvarint (drop at s)
    → Ok (x, e) ≡ located at r → (at < e) × (e ≤ length s)
of-varint s at x e (Ok (y, n)) q h = let u = used s at y n q in omega (arith, (of-ok-two h).1)
of-varint s at x e (Err why) q h = clash (cc)

pub varint_moves : (s : List ℕ) (at x e : ℕ) → Ok (x, e) ≡ read_varint s at → (at < e) × (e ≤ length s)
unfolding read_varint
varint_moves s at x e h = of-varint s at x e (read_uvarint (drop at s)) refl h

-- ---- a part that is read lies within the bytes
of_part_lem : (s : List ℕ) (at a e : ℕ) (r : Result (ℕ × ℕ) WireError) → r ≡ read_varint s at
    → Ok (a, e) ≡ and_then (part_of (length s)) r → (at < a) × (a ≤ e) × (e ≤ length s)
of_part_lem s at a e (Ok (x, to)) q h =
    let u = varint_moves s at x to q in
    either (ltb (length s - to) x) (λ t. clash (let k = simp t at h in cc))
    (λ t. let k = of-ok-two (simp t at h) in let l : x ≤ length s - to = ltb-false _ _ t in omega (arith, k.0, k.1))
of_part_lem s at a e (Err why) q h = clash (cc)

pub part-fits : (s : List ℕ) (at a e : ℕ) → Ok (a, e) ≡ read_len s at → (at < a) × (a ≤ e) × (e ≤ length s)
unfolding read_len
part-fits s at a e h = of_part_lem s at a e (read_varint s at) refl h

-- ---- a tag that is read moves on, within the bytes
of_tag_lem : (s : List ℕ) (at m k e : ℕ) (r : Result (ℕ × ℕ) WireError) → r ≡ read_varint s at
    → Ok (Some (m, k, e)) ≡ and_then (tag_of at) r → (at < e) × (e ≤ length s)
of_tag_lem s at m k e (Ok (x, to)) q h =
    let u = varint_moves s at x to q in
    either (eqb (x / 8) 0) (λ t. clash (let k = simp t at h in cc))
    (λ t. either (ltb 536870911 (x / 8)) (λ w. clash (let k = simp (t, w) at h in cc))
    (λ w. let k = of-ok-three (simp (t, w) at h) in omega (arith, k.2)))
of_tag_lem s at m k e (Err why) q h = clash (cc)

pub tag_moves : (s : List ℕ) (at m k e : ℕ) → Ok (Some (m, k, e)) ≡ read_tag s at → (at < e) × (e ≤ length s)
unfolding read_tag
tag_moves s at m k e h =
    either (leb (length s) at) (λ t. clash (let k = simp t at h in cc))
    (λ t. of_tag_lem s at m k e (read_varint s at) refl (simp t at h))

pub tag-end : (s : List ℕ) (at : ℕ) → length s ≤ at → read_tag s at ≡ Ok None
unfolding read_tag
tag-end s at h = simp (le-leb _ _ h)

-- ---- what is passed over moves on, within the bytes
of_fixed : (total at n e : ℕ) → 0 < n → Ok e ≡ skip_fixed total at n → (at < e) × (e ≤ total)
unfolding skip_fixed
of_fixed total at n e z h =
    either (ltb (total - at) n) (λ t. clash (let k = simp t at h in cc))
    (λ t. let k = simp t at h in let l : n ≤ total - at = ltb-false _ _ t in let p : e ≡ at + n = cc in omega arith)

past_value_lem : (s : List ℕ) (at e : ℕ) (r : Result (ℕ × ℕ) WireError)
    → ((x n : ℕ) → Ok (x, n) ≡ r → (at < n) × (n ≤ length s)) → Ok e ≡ past_value r → (at < e) × (e ≤ length s)
past_value_lem s at e (Ok (x, n)) moves h = let p : n ≡ e = cc in rw (← p) (moves x n refl)
past_value_lem s at e (Err why) moves h = clash (cc)

pub value_moves : (s : List ℕ) (at type e : ℕ) → Ok e ≡ skip_value s at type → (at < e) × (e ≤ length s)
unfolding skip_value
value_moves s at type e h =
    either (eqb type 0)
    (λ t0. past_value_lem s at e (read_varint s at) (λ x n q. varint_moves s at x n q) (simp t0 at h))
    (λ t0. either (eqb type 2)
    (λ t2. past_value_lem s at e (read_len s at) (λ a n q. let u = part-fits s at a n q in (omega arith, u.2))
    (simp (t0, t2) at h))
    (λ t2. either (eqb type 5) (λ t5. of_fixed (length s) at 4 e (omega arith) (simp (t0, t2, t5) at h))
    (λ t5. either (eqb type 1) (λ t1. of_fixed (length s) at 8 e (omega arith) (simp (t0, t2, t5, t1) at h))
    (λ t1. clash (let k = simp (t0, t2, t5, t1) at h in cc)))))

-- ---- groups: what passes the fields of a group moves on, and the bound on the recursion does not show
abbrev pub Moves : List ℕ → (ℕ → ℕ → ℕ → Result ℕ WireError) → Type 0
Moves s go = (l at n e : ℕ) → Ok e ≡ go l at n → (at < e) × (e ≤ length s)

module _ (s : List ℕ) (go : ℕ → ℕ → ℕ → Result ℕ WireError) (moves : Moves s go) where
  opened_moves : (l at n e : ℕ) → Ok e ≡ opened go l at n → (at < e) × (e ≤ length s)
  opened_moves zero at n e h = clash (cc)
  opened_moves (suc l) at n e h = moves l at n e h

  pub passed_moves : (l at n type e : ℕ) → Ok e ≡ passed go l s at n type → (at < e) × (e ≤ length s)
  unfolding passed
  passed_moves l at n type e h =
      either (eqb type 3) (λ t3. opened_moves l at n e (simp t3 at h))
      (λ t3. either (eqb type 4) (λ t4. clash (let k = simp (t3, t4) at h in cc))
      (λ t4. value_moves s at type e (simp (t3, t4) at h)))

  on_moves : (l at n e : ℕ) (r : Result ℕ WireError) → ((x : ℕ) → Ok x ≡ r → at < x) → Ok e ≡ and_on (λ x. go l x n) r
      → (at < e) × (e ≤ length s)
  on_moves l at n e (Ok x) p h =
      let a = p x refl in let m = moves l x n e h in (omega (arith, m.0), m.1)
  on_moves l at n e (Err why) p h = clash (cc)

  in_moves : (l at n e : ℕ) (r : Result (Option (ℕ × ℕ × ℕ)) WireError) → r ≡ read_tag s at
      → Ok e ≡ in_group go l s n r → (at < e) × (e ≤ length s)
  in_moves l at n e (Ok None) q h = clash (cc)
  in_moves l at n e (Err why) q h = clash (cc)
  in_moves l at n e (Ok (Some (m, type, to))) q h =
      let t = tag_moves s at m type to q in
      either (eqb type 4)
      (λ t4. either (eqb m n) (λ w. let k = simp (t4, w) at h in let p : e ≡ to = cc in omega arith)
      (λ w. clash (let k = simp (t4, w) at h in cc)))
      (λ t4. on_moves l at n e (passed go l s to m type)
      (λ x p. let y = passed_moves l to m type x p in omega (arith, y.0)) (simp t4 at h))

  -- two that agree from a place on
  module _ (to : ℕ → ℕ → ℕ → Result ℕ WireError) where
    same-passed : (l at n type : ℕ) → ((j : ℕ) → go j at n ≡ to j at n)
        → passed go l s at n type ≡ passed to l s at n type
    unfolding passed
    same-passed l at n type h =
        either (eqb type 3) (λ t3. simp t3 (same-opened l))
        (λ t3. either (eqb type 4) (λ t4. simp (t3, t4)) (λ t4. simp (t3, t4)))
      where
        same-opened : (j : ℕ) → opened go j at n ≡ opened to j at n
        same-opened zero = refl
        same-opened (suc j) = h j

    same_on : (l at n : ℕ) (r : Result ℕ WireError) → ((x : ℕ) → Ok x ≡ r → go l x n ≡ to l x n)
        → and_on (λ x. go l x n) r ≡ and_on (λ x. to l x n) r
    same_on l at n (Ok x) h = h x refl
    same_on l at n (Err why) h = refl

    pub same_in : (l at n : ℕ) (r : Result (Option (ℕ × ℕ × ℕ)) WireError) → r ≡ read_tag s at
        → ((j a b : ℕ) → at < a → a ≤ length s → go j a b ≡ to j a b) → in_group go l s n r ≡ in_group to l s n r
    same_in l at n (Ok None) q h = refl
    same_in l at n (Err why) q h = refl
    same_in l at n (Ok (Some (m, type, e))) q h =
        let t = tag_moves s at m type e q in
        either (eqb type 4) (λ t4. simp t4)
        (λ t4. simp t4
        (same_on l at n (passed go l s e m type)
        (λ x p. let y = passed_moves l e m type x p in h l x n (omega arith) y.1)
        ∙ ap (and_on (λ x. to l x n)) (same-passed l e m type (λ j. h j e m t.0 t.1))))

pub from_moves : (k : ℕ) (s : List ℕ) → Moves s (skip_from k s)
unfolding skip_from
from_moves zero s l at n e h = clash (cc)
from_moves (suc k) s l at n e h = in_moves s (skip_from k s) (from_moves k s) l at n e (read_tag s at) refl h

-- enough is enough
enough : (k j : ℕ) (s : List ℕ) (l at n : ℕ) → length s - at < k → length s - at < j
    → skip_from k s l at n ≡ skip_from j s l at n
unfolding skip_from
enough zero j s l at n p q = absurd (omega arith)
enough (suc k) zero s l at n p q = absurd (omega arith)
enough (suc k) (suc j) s l at n p q =
    same_in s (skip_from k s) (from_moves k s) (skip_from j s) l at n (read_tag s at) refl
    (λ i a b u v. enough k j s i a b (omega arith) (omega arith))

-- past a group, tag by tag
pub group-step : (l : ℕ) (s : List ℕ) (at n : ℕ)
    → skip_group l s at n ≡ in_group (λ j. skip_group j s) l s n (read_tag s at)
unfolding skip_group skip_from
group-step l s at n =
    same_in s (skip_from (length s - at) s) (from_moves (length s - at) s) (λ j. skip_group j s) l at n
    (read_tag s at) refl
    (λ i a b u v. enough (length s - at) (suc (length s - a)) s i a b (omega arith) (omega arith))

pub group_moves : (s : List ℕ) → Moves s (λ j. skip_group j s)
unfolding skip_group
group_moves s l at n e h = from_moves (suc (length s - at)) s l at n e h

pub skip_moves : (m : Mode) (l : ℕ) (s : List ℕ) (at n type e : ℕ) → Ok e ≡ skip_field m l s at n type
    → (at < e) × (e ≤ length s)
unfolding skip_field
skip_moves Plain l s at n type e h = value_moves s at type e h
skip_moves Groups l s at n type e h = passed_moves s (λ j. skip_group j s) (group_moves s) l at n type e h

-- but for groups the modes are one
pub skip_value_lem : (mode : Mode) (l : ℕ) (s : List ℕ) (at n type : ℕ) → eqb type 3 ≡ false → eqb type 4 ≡ false
    → skip_field mode l s at n type ≡ skip_value s at type
unfolding skip_field passed
skip_value_lem Plain l s at n type t3 t4 = refl
skip_value_lem Groups l s at n type t3 t4 = simp (t3, t4)

-- ---- a field that is read: where its parts stand
pub record Stands (s : List ℕ) (at : ℕ) (f : Field) : Type 0 where
  pub tagged : at < f.tag_end
  pub begins : f.tag_end ≤ f.start
  pub ends : f.start ≤ f.next
  pub within : f.next ≤ length s

value-stands : (s : List ℕ) (at n type to : ℕ) (f : Field) (r : Result (ℕ × ℕ) WireError) → at < to
    → r ≡ read_varint s to → Ok (Some f) ≡ of_value n type to r → Stands s at f
value-stands s at n type to f (Ok (x, e)) p q h =
    let m = varint_moves s to x e q in
    let a : f.tag_end ≡ to = cc in let b : f.start ≡ e = cc in let c : f.next ≡ e = cc in
    record { tagged = omega arith; begins = omega arith; ends = omega arith; within = omega arith }
value-stands s at n type to f (Err why) p q h = clash (cc)

part-stands : (s : List ℕ) (at n type to : ℕ) (f : Field) (r : Result (ℕ × ℕ) WireError) → at < to → r ≡ read_len s to
    → Ok (Some f) ≡ of_part n type to r → Stands s at f
part-stands s at n type to f (Ok (x, e)) p q h =
    let m = part-fits s to x e q in
    let a : f.tag_end ≡ to = cc in let b : f.start ≡ x = cc in let c : f.next ≡ e = cc in
    record { tagged = omega arith; begins = omega arith; ends = omega arith; within = omega arith }
part-stands s at n type to f (Err why) p q h = clash (cc)

skip_stands : (mode : Mode) (s : List ℕ) (at n type to : ℕ) (f : Field) (r : Result ℕ WireError) → at < to
    → r ≡ skip_field mode max_groups s to n type → Ok (Some f) ≡ of_skip n type to r → Stands s at f
skip_stands mode s at n type to f (Ok e) p q h =
    let m = skip_moves mode max_groups s to n type e q in
    let a : f.tag_end ≡ to = cc in let b : f.start ≡ to = cc in let c : f.next ≡ e = cc in
    record { tagged = omega arith; begins = omega arith; ends = omega arith; within = omega arith }
skip_stands mode s at n type to f (Err why) p q h = clash (cc)

read-stands : (mode : Mode) (s : List ℕ) (at n type to : ℕ) (f : Field) → at < to
    → Ok (Some f) ≡ read_value mode s n type to
    → Stands s at f
unfolding read_value
read-stands mode s at n type to f p h =
    either (eqb type 0) (λ t0. value-stands s at n type to f (read_varint s to) p refl (simp t0 at h))
    (λ t0. either (eqb type 2) (λ t2. part-stands s at n type to f (read_len s to) p refl (simp (t0, t2) at h))
    (λ t2. skip_stands mode s at n type to f (skip_field mode max_groups s to n type) p refl (simp (t0, t2) at h)))

tag-stands : (mode : Mode) (s : List ℕ) (at : ℕ) (f : Field) (r : Result (Option (ℕ × ℕ × ℕ)) WireError)
    → r ≡ read_tag s at → Ok (Some f) ≡ of_tag mode s r → Stands s at f
tag-stands mode s at f (Ok None) q h = clash (cc)
tag-stands mode s at f (Err why) q h = clash (cc)
tag-stands mode s at f (Ok (Some (n, type, to))) q h = let t = tag_moves s at n type to q in
    read-stands mode s at n type to f t.0 h

pub field-stands : (mode : Mode) (s : List ℕ) (at : ℕ) (f : Field) → Ok (Some f) ≡ read_field mode s at → Stands s at f
unfolding read_field
field-stands mode s at f h = tag-stands mode s at f (read_tag s at) refl h

-- past the end there is no field
pub field_end : (mode : Mode) (s : List ℕ) (at : ℕ) → length s ≤ at → read_field mode s at ≡ Ok None
unfolding read_field
field_end mode s at h = rw (tag-end s at h)
