-- One turn of each loop over plain variables: a part more written, a part more that fits, a field more at a path, a part more that was or was not
-- mentioned.
use Prim.Native.Nat.{ℕ, zero, suc, ◌+◌, ◌-◌, ◌*◌, ◌^◌, ◌≤◌, ◌<◌}
use mathlib.Core.Path.{◌≡◌, refl, sym, ap, ap₂, ◌∙◌}
use mathlib.Core.List.{List, [], ◌∷◌, ◌++◌, append_assoc, append-nil}
use mathlib.Core.Bool.{Bool, true, false, not}
use native.Mathlib.Omega.{arith}
use lib.ListN.{length, take, drop, get_or, length-append, length-drop}
use lib.Seq.{sets, take_all}
use borrow.Author.Tests.{eq-eqb, ne_eqb}
use Rattle.std.specs.Prelude.{Ok, Some}
use Rattle.basis.specs.declared.Mode.{Mode}
use Rattle.std.specs.List.{range_with_len, list_all}
use Rattle.basis.specs.Cases.{either}
use Rattle.rows.specs.Rows.{tab}
use Rattle.rows.specs.Ids.{same_bytes, among}
use Rattle.rows.specs.IdsLaws.{among-more, among-here, among_none}
use Rattle.peer_id.specs.Uvarint.{uvarint}
use Rattle.peer_id.specs.Laws.{at_most_ten}
use Rattle.protobuf.specs.declared.Field.{Field}
use Rattle.protobuf.specs.Field.{read_field}
use Rattle.protobuf.specs.Walk.{between, value_in}
use Rattle.schema.specs.Count.{FieldWithin}
use Rattle.protobuf.specs.Encode.{tag, bytes_field}
use Rattle.protobuf.specs.EncodeLaws.{bytes_field-length}
use Rattle.rpc.specs.Encode.{repeated}
use Rattle.protobuf.specs.WalkLaws.{between-length}
use Rattle.node.specs.Parts.{part_at, parts_in, Parts, at_path, once_after, once, fitting}
use Rattle.node.specs.PartsLaws.{length-parts, between-between, rest_at, field_parts, path-none, path-all, path-field, parts_from, parts-end, parts_more, parts-within_more, no-parts, parts_none, once-again, once-new, fitting-more, fitting-stop}

-- ---- a part written as a field: its head, its bytes, and then the other parts
module _ (n : ℕ) (s t : List ℕ) (m i : ℕ) (p : Parts s t m) (h : i < m) where
  part-size : length (part_at s t i) ≡ get_or t (i * 2 + 1) 0 - get_or t (i * 2) 0
  part-size = between-length s (get_or t (i * 2) 0) (get_or t (i * 2 + 1) 0) (p.within i h).1

  pub write_turn : repeated (bytes_field n) (drop i (parts_in s t m)) ≡ (tag n 2 ++ uvarint (get_or t (i * 2 + 1) 0 - get_or t (i * 2) 0)) ++ (part_at s t i ++ repeated (bytes_field n) (drop (i + 1) (parts_in s t m)))
  unfolding bytes_field
  write_turn = ap (repeated (bytes_field n)) (parts_from s t m i h) ∙ simp (part-size, append_assoc)

  -- how long it is as a field
  pub field-size : (a b : ℕ) → a ≡ length (uvarint (n * 8 + 2)) → b ≡ length (uvarint (length (part_at s t i))) → a + b + length (part_at s t i) ≡ length (bytes_field n (part_at s t i))
  unfolding tag
  field-size a b e f = rw (e, f) (sym (bytes_field-length n (part_at s t i)))

  -- which is a number of the machine
  pub size_fits : (a b : ℕ) → a ≡ length (uvarint (n * 8 + 2)) → b ≡ length (uvarint (length (part_at s t i))) → n ≤ 6 → length s < 2 ^ 63 → (a ≤ 10) × (b ≤ 10) × (length (part_at s t i) < 2 ^ 63)
  size_fits a b e f k l =
      let w = p.within i h in
      let z = part-size in
      let d : length (part_at s t i) < 2 ^ 63 = omega arith in
      (omega (arith, at_most_ten (n * 8 + 2) (omega arith)), omega (arith, at_most_ten (length (part_at s t i)) (omega arith)), d)

  -- ---- a part more that fits, and one that does not
  module _ (room left size : ℕ) (z : size ≡ length (bytes_field n (part_at s t i))) (inv : fitting n room (parts_in s t m) ≡ i + fitting n left (drop i (parts_in s t m))) where
    pub fit-turn : size ≤ left → fitting n room (parts_in s t m) ≡ (i + 1) + fitting n (left - size) (drop (i + 1) (parts_in s t m))
    fit-turn k =
        let e = ap (fitting n left) (parts_from s t m i h) ∙ fitting-more n left (part_at s t i) (drop (i + 1) (parts_in s t m)) (omega arith) in
        let q : fitting n (left - size) (drop (i + 1) (parts_in s t m)) ≡ fitting n (left - length (bytes_field n (part_at s t i))) (drop (i + 1) (parts_in s t m)) = rw z in
        omega arith

    pub fit-stop : left < size → i ≡ fitting n room (parts_in s t m)
    fit-stop k =
        let e = ap (fitting n left) (parts_from s t m i h) ∙ fitting-stop n left (part_at s t i) (drop (i + 1) (parts_in s t m)) (omega arith) in
        omega arith

pub write_done : (n : ℕ) (s t : List ℕ) (m i : ℕ) → m ≤ i → repeated (bytes_field n) (drop i (parts_in s t m)) ≡ []
write_done n s t m i h = ap (repeated (bytes_field n)) (parts-end s t m i h)

pub fit-done : (n : ℕ) (s t : List ℕ) (m i room left : ℕ) → m ≤ i → i ≤ m → fitting n room (parts_in s t m) ≡ i + fitting n left (drop i (parts_in s t m)) → m ≡ fitting n room (parts_in s t m)
unfolding fitting
fit-done n s t m i room left h l inv = let e = ap (fitting n left) (parts-end s t m i h) in omega arith

-- ---- the parts in `to`, and then those of `from` from i on that are not among them, are all of `from` once
pub record Named (s from : List ℕ) (n : ℕ) (to : List ℕ) (k i : ℕ) : Type 0 where
  pub fewer : k ≤ i
  pub parts : Parts s to k
  pub goes : parts_in s to k ++ once_after (parts_in s to k) (drop i (parts_in s from n)) ≡ once (parts_in s from n)

pub named-all : (s from : List ℕ) (n : ℕ) (to : List ℕ) → Named s from n to 0 0
named-all s from n to =
    record {
      fewer = omega arith;
      parts = parts_none s to;
      goes = ap (λ (l : List (List ℕ)). l ++ once_after l (parts_in s from n)) (no-parts s to);
    }

module _ (s from : List ℕ) (n : ℕ) (to : List ℕ) (k i : ℕ) (g : Named s from n to k i) where
  pub named-done : n ≤ i → parts_in s to k ≡ once (parts_in s from n)
  unfolding once_after
  named-done h =
      sym (ap (λ (l : List (List ℕ)). parts_in s to k ++ once_after (parts_in s to k) l) (parts-end s from n i h) ∙ append-nil (parts_in s to k))
      ∙ g.goes

  module _ (h : i < n) where
    -- the part was mentioned
    pub named_again : among (part_at s from i) (parts_in s to k) ≡ true → Named s from n to k (i + 1)
    named_again e =
        let f = g.fewer in
        record {
          fewer = omega arith;
          parts = g.parts;
          goes =
              ap (λ (l : List (List ℕ)). parts_in s to k ++ l)
              (sym (ap (once_after (parts_in s to k)) (parts_from s from n i h) ∙ once-again (parts_in s to k) (drop (i + 1) (parts_in s from n)) (part_at s from i) e))
              ∙ g.goes;
        }

    -- it was not, and is put after the others
    pub named_new : among (part_at s from i) (parts_in s to k) ≡ false → Parts s from n → (k + 1) * 2 ≤ length to → (r : ℕ) (after : List ℕ) → r ≡ k + 1 → after ≡ sets to (k * 2) (get_or from (i * 2) 0 ∷ get_or from (i * 2 + 1) 0 ∷ []) → Named s from n after r (i + 1)
    named_new e q room r after er ea =
        let f = g.fewer in
        let w = q.within i h in
        let a = get_or from (i * 2) 0 in
        let z = get_or from (i * 2 + 1) 0 in
        let x = parts_more to k a z room s in
        rw (er, ea)
        record {
          fewer = omega arith;
          parts = parts-within_more to k a z room s g.parts w.0 w.1;
          goes =
              ap (λ (l : List (List ℕ)). l ++ once_after l (drop (i + 1) (parts_in s from n))) x
              ∙ append_assoc (parts_in s to k) (part_at s from i ∷ []) _
              ∙ ap (λ (l : List (List ℕ)). parts_in s to k ++ l)
              (sym (ap (once_after (parts_in s to k)) (parts_from s from n i h) ∙ once-new (parts_in s to k) (drop (i + 1) (parts_in s from n)) (part_at s from i) e))
              ∙ g.goes;
        }

-- ---- a part looked for among those of a table, from the j-th on
module _ (x s t : List ℕ) (k j : ℕ) (inv : among x (drop j (parts_in s t k)) ≡ among x (parts_in s t k)) where
  pub look-more : (r : Bool) → j < k → r ≡ same_bytes (part_at s t j) x → r ≡ false → among x (drop (j + 1) (parts_in s t k)) ≡ among x (parts_in s t k)
  look-more r h e f = among-more x (among x (parts_in s t k)) (parts_from s t k j h) inv (sym e ∙ f)

  pub look-here : (r : Bool) → j < k → r ≡ same_bytes (part_at s t j) x → r ≡ true → among x (parts_in s t k) ≡ true
  look-here r h e f = sym (among-here x (among x (parts_in s t k)) (parts_from s t k j h) inv (sym e ∙ f))

  pub look_none : k ≤ j → among x (parts_in s t k) ≡ false
  look_none h = sym (among_none x (drop j (parts_in s t k)) (among x (parts_in s t k)) (parts-end s t k j h) inv)

-- the test of each part by its number is that of the part
abbrev pub is_other : List ℕ → List ℕ → List ℕ → ℕ → Bool
is_other x s t i = not (same_bytes (part_at s t i) x)

others : (x : List ℕ) (f g : ℕ → List ℕ) (a n : ℕ) → ((i : ℕ) → g i ≡ f (a + i)) → list_all (λ i. not (same_bytes (f i) x)) (range_with_len a n) ≡ not (among x (tab g n))
unfolding among
others x f g a zero e = refl
others x f g a (suc n) e =
    let h = others x f (λ (i : ℕ). g (suc i)) (a + 1) n (λ i. e (suc i) ∙ ap f {x = a + suc i} {y = (a + 1) + i} (omega arith)) in
    let z : f a ≡ g 0 = sym (e 0 ∙ ap f {x = a + 0} {y = a} (omega arith)) in
    rw z (either (same_bytes (g 0) x) (λ t. simp t) (λ t. simp t h))

pub all-others : (x s t : List ℕ) (n : ℕ) → list_all (is_other x s t) (range_with_len 0 n) ≡ not (among x (parts_in s t n))
unfolding parts_in
all-others x s t n = others x (part_at s t) (part_at s t) 0 n (λ i. ap (part_at s t) {x = i} {y = 0 + i} (omega arith))

-- ---- the parts at a path in one field
module _ (mode : Mode) (path s : List ℕ) (f : Field) where
  pub field-yes : f.wire_type ≡ 2 → f.field ≡ get_or path 0 0 → field_parts mode path s f ≡ at_path mode (drop 1 path) (value_in s f)
  field-yes p q = simp (eq-eqb _ _ p, eq-eqb _ _ q)

  pub field-no : (f.wire_type ≡ 2 → ⊥) → field_parts mode path s f ≡ []
  field-no p = simp (ne_eqb _ _ p)

  pub field_other : f.wire_type ≡ 2 → (f.field ≡ get_or path 0 0 → ⊥) → field_parts mode path s f ≡ []
  field_other p q = simp (eq-eqb _ _ p, ne_eqb _ _ q)

-- the path after its first field
tail-is : (path : List ℕ) → take (length path - 1) (drop 1 path) ≡ drop 1 path
tail-is path = take_all (length path - 1) (drop 1 path) (omega (arith, length-drop 1 path))

pub tail-size : (path : List ℕ) → length (take (length path - 1) (drop 1 path)) ≡ length path - 1
tail-size path = ap length (tail-is path) ∙ length-drop 1 path

module _ (s : List ℕ) (b z : ℕ) (path : List ℕ) (f : Field) (w : FieldWithin (between s b z) f) (c : (b ≤ z) × (z ≤ length s)) where
  inner_size : length (between s b z) ≡ z - b
  inner_size = between-length s b z c.1

  -- what the field holds lies within the whole
  pub field-inside : (b + f.start ≤ b + f.next) × (b + f.next ≤ length s)
  field-inside = let o = w.order in let i = w.fits in let l = inner_size in (omega arith, omega arith)

  -- and its parts are those of the bytes there
  pub field-there : (mode : Mode) → f.wire_type ≡ 2 → f.field ≡ get_or path 0 0 → field_parts mode path (between s b z) f ≡ at_path mode (take (length path - 1) (drop 1 path)) (between s (b + f.start) (b + f.next))
  field-there mode p q =
      field-yes mode path (between s b z) f p q
      ∙ ap₂ (at_path mode) (sym (tail-is path)) (between-between s b z f.start f.next w.order w.fits)

-- no part more
pub none_more : (s t : List ℕ) (n : ℕ) (xs : List (List ℕ)) → xs ≡ [] → parts_in s t n ≡ parts_in s t n ++ xs
none_more s t n xs e = rw e (sym (append-nil (parts_in s t n)))

-- a path that ends here: one part more
module _ (mode : Mode) (s path t : List ℕ) (n a e : ℕ) (z : length path ≡ 0) (room : (n + length (at_path mode path (between s a e))) * 2 ≤ length t) where
  pub one-room : (n + 1) * 2 ≤ length t
  one-room = omega (arith, ap length (path-none mode path (between s a e) z))

  pub one_more_lem : Parts s t n → (a ≤ e) × (e ≤ length s) → (r : ℕ) (after : List ℕ) → r ≡ n + 1 → after ≡ sets t (n * 2) (a ∷ e ∷ []) → (parts_in s after r ≡ parts_in s t n ++ at_path mode path (between s a e)) × Parts s after r
  one_more_lem p c r after er ea =
      rw (er, ea) (
        parts_more t n a e one-room s ∙ ap (λ (l : List (List ℕ)). parts_in s t n ++ l) (sym (path-none mode path (between s a e) z)),
        parts-within_more t n a e one-room s p c.0 c.1,
      )

-- ---- the parts in the table, and then those in the fields from `at` on, are all that are to be in it
pub record Walked (mode : Mode) (s : List ℕ) (b z : ℕ) (path t₀ : List ℕ) (n : ℕ) (t : List ℕ) (at k : ℕ) : Type 0 where
  pub parts : Parts s t k
  pub goes : parts_in s t k ++ rest_at mode path (between s b z) at ≡ parts_in s t₀ n ++ at_path mode path (between s b z)

pub walked_all : (mode : Mode) (s : List ℕ) (b z : ℕ) (path t : List ℕ) (n : ℕ) → Parts s t n → (length path ≡ 0 → ⊥) → Walked mode s b z path t n t 0 n
walked_all mode s b z path t n p h =
    record { parts = p; goes = ap (λ (l : List (List ℕ)). parts_in s t n ++ l) (path-all mode path (between s b z) (omega (arith, h))) }

module _ (mode : Mode) (s : List ℕ) (b z : ℕ) (path t₀ : List ℕ) (n : ℕ) (t : List ℕ) (at k : ℕ) (g : Walked mode s b z path t₀ n t at k) where
  pub walked-done : rest_at mode path (between s b z) at ≡ [] → (parts_in s t k ≡ parts_in s t₀ n ++ at_path mode path (between s b z)) × Parts s t k
  walked-done e = (none_more s t k _ e ∙ g.goes, g.parts)

  module _ (f : Field) (e : Ok (Some f) ≡ read_field mode (between s b z) at) where
    goes-field : parts_in s t k ++ (field_parts mode path (between s b z) f ++ rest_at mode path (between s b z) f.next) ≡ parts_in s t₀ n ++ at_path mode path (between s b z)
    goes-field = ap (λ (l : List (List ℕ)). parts_in s t k ++ l) (sym (path-field mode path (between s b z) at f e)) ∙ g.goes

    pub walked-room : length t ≡ length t₀ → (n + length (at_path mode path (between s b z))) * 2 ≤ length t₀ → (k + length (field_parts mode path (between s b z) f)) * 2 ≤ length t
    walked-room q r =
        let x = field_parts mode path (between s b z) f in
        let y = rest_at mode path (between s b z) f.next in
        omega (arith, ap length goes-field, length-append (parts_in s t k) (x ++ y), length-append x y, length-append (parts_in s t₀ n) (at_path mode path (between s b z)), length-parts s t k, length-parts s t₀ n)

    pub walked-turn : (r : ℕ) (after : List ℕ) → parts_in s after r ≡ parts_in s t k ++ field_parts mode path (between s b z) f → Parts s after r → Walked mode s b z path t₀ n after f.next r
    walked-turn r after m p =
        record {
          parts = p;
          goes =
              ap (λ (l : List (List ℕ)). l ++ rest_at mode path (between s b z) f.next) m
              ∙ append_assoc (parts_in s t k) (field_parts mode path (between s b z) f) (rest_at mode path (between s b z) f.next)
              ∙ goes-field;
        }
