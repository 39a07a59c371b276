-- One step of each walk over the rows.
use Rattle.std.proofs.Common.{◌≡◌, ℕ, zero, suc, ◌+◌, ◌-◌, ◌*◌, ◌%◌, ◌^◌, ◌<◌, ◌≤◌, min, Bool, true}
use Rattle.std.proofs.lemmas.Bool.Decides.{nat_tests}
use Rattle.std.proofs.Common.{false, ◌&&◌, eqb, leb, List, [], ◌∷◌, ◌++◌, map, length, get_or, take, drop, set, sym, refl, ap}
use Rattle.std.proofs.Common.{◌∙◌, zero-add, add-one, arith, length-append, length-drop, take-append-drop}
use Rattle.std.proofs.Common.{drop_of_length-le, length-take, length-take-le, take_all, drop-cons, get_or-take, le-ltb, lt-ltb}
use Rattle.std.proofs.Common.{eq-eqb, ne_eqb, le-leb, leb-false, leb-true}
use lib.ListN.{length-map}
use lib.Seq.{sets, length-sets, set_out}
use Rattle.basis.specs.declared.Mode.{Mode}
use Rattle.basis.specs.Cases.{either}
use Rattle.rows.specs.declared.Ring.{Ring}
use Rattle.rows.specs.Rows.{tab, place_of}
use Rattle.rows.specs.RowsLaws.{length-tab, get_d_tab, map-tab, length_ring, ring_from, ring_end, place-lt}
use Rattle.rows.specs.ListLaws.{put-sets, map-take}
use Rattle.basis.specs.Writing.{end_in, set_in}
use Rattle.basis.specs.Unique.{Leaves}
use Rattle.basis.specs.Lists.{sets-append, end_fits, set-fits}
use Rattle.protobuf.specs.Walk.{between}
use Rattle.admission.specs.Admission.{Span, topic_places, cut, spans_in, kept_with}
use Rattle.mcache.specs.Calls.{formable, form_count, form_left, rows_lie}
use Rattle.mcache.specs.Unique.{Forms}
use Rattle.mcache.specs.GuardLaws.{lie_rows, when_forms, id-length}
use Rattle.rows.specs.Store.{id_at}
use Rattle.mcache.specs.State.{message_size, message_id_size, message_limit, max_topics, Table, message_in, topics_at, kept_places, gives_at}

-- ---- parts
pub part-from : (b n : ℕ) (l : List ℕ) → take ((b + n) - b) l ≡ take n l
part-from b n l = ap (λ (k : ℕ). take k l) {x = (b + n) - b} {y = n} (omega arith)

-- a slice from a on to the end
pub rest-is : (l : List ℕ) (a : ℕ) → take (length l - a) (drop a l) ≡ drop a l
rest-is l a = take_all (length l - a) (drop a l) (rw (length-drop a l) (omega arith))

-- what is asked of the message in place p
pub gives_row : (flags : ℕ) (lens ilens ids : List ℕ) (table : Table) (st : List ℕ) (p : ℕ) → gives_at flags lens ilens ids table st p
    ≡ (leb (get_or lens p 0) message_size
    && kept_with flags (take (get_or lens p 0) (drop (p * message_size) st)) (take (get_or ilens p 0) (drop (p * message_id_size) ids))
    (spans_in (drop (p * max_topics) table.starts) (drop (p * max_topics) table.sizes) (get_or table.counts p 0)))
unfolding gives_at message_in id_at topics_at
gives_row flags lens ilens ids table st p = refl

-- what the walks over the rows take
pub ruleset walked = (place-lt, ring_from, ring_end, length_ring, length-drop, nat_tests, part-from, rest-is, gives_row)

-- ---- a topic looked for among the parts
module _ (m a b : List ℕ) (n i : ℕ) where
  abbrev parts : List (List ℕ)
  parts = map (cut m) (spans_in a b n)

  abbrev part_at : ℕ → List ℕ
  part_at j = take (get_or b j 0) (drop (get_or a j 0) m)

  parts_are : parts ≡ tab part_at n
  unfolding spans_in
  parts_are = map-tab (cut m) (λ (j : ℕ). record { start = get_or a j 0; size = get_or b j 0 }) n

  pub parts_from : i < n → drop i (map (cut m) (spans_in a b n)) ≡ part_at i ∷ drop (i + 1) parts
  parts_from h =
      let l : i < length (tab part_at n) = rw (length-tab part_at n) h in
      rw (parts_are, add-one i, drop-cons (tab part_at n) i (part_at i) l, get_d_tab part_at n i (part_at i) h)

  pub parts-end : n ≤ i → drop i (map (cut m) (spans_in a b n)) ≡ []
  parts-end h = drop_of_length-le parts {i = i} (rw (parts_are, length-tab part_at n) h)

pub ruleset part_walked = (parts_from, parts-end)

-- ---- the kept places of a message
-- numbers written past the end of a list
sets-past : (vs l : List ℕ) (i : ℕ) → length l ≤ i → sets l i vs ≡ l
sets-past [] l i h = refl
sets-past (v ∷ vs) l i h = rw (set_out l i v h) (sets-past vs l (suc i) (omega arith))

-- of those written from the front as many stand there as there is room for
front : (vs a : List ℕ) (n m : ℕ) → length a ≡ m → n ≡ min (length vs) m → take n (sets a 0 vs) ≡ take m vs
front vs a n m l e =
    let u = length-take m vs in
    let w : length (take m vs) ≡ n = omega arith in
    let s : sets (sets a 0 (take m vs)) (length (take m vs)) (drop m vs) ≡ sets a 0 (take m vs) =
    either (leb (length vs) m)
    (λ t. rw (drop_of_length-le vs {i = m} (leb-true (length vs) m t)))
    (λ t. let g = leb-false (length vs) m t in
    sets-past (drop m vs) (sets a 0 (take m vs)) (length (take m vs)) (rw (length-sets a 0 (take m vs)) (omega arith))) in
    let c : sets a 0 vs ≡ sets a 0 (take m vs) =
    ap (sets a 0) (sym (take-append-drop m vs)) ∙ sets-append a 0 (take m vs) (drop m vs) ∙ rw (zero-add (length (take m vs))) s in
    rw (c, ← w) (put-sets a 0 (take m vs) (omega arith))

module _ (mode : Mode) (m : List ℕ) (k n : ℕ) (e : k ≡ length (topic_places mode m)) (f : n ≡ min k max_topics) where
  pub kept-length : n ≡ length (kept_places mode m)
  unfolding kept_places
  kept-length = let l = length-take max_topics (topic_places mode m) in f ∙ omega arith

  module _ (of : Span → ℕ) (a x : List ℕ) (l : length a ≡ max_topics) (g : x ≡ sets a 0 (map of (topic_places mode m))) where
    kept-front : take n x ≡ take max_topics (map of (topic_places mode m))
    kept-front =
        let w = length-map (topic_places mode m) of in
        rw g (front (map of (topic_places mode m)) a n max_topics l (omega arith))

    pub kept-values : take n x ≡ map of (kept_places mode m)
    unfolding kept_places
    kept-values = kept-front ∙ sym (map-take of max_topics (topic_places mode m))

    pub kept-below : (b : ℕ) → ((i : ℕ) → get_or (map of (topic_places mode m)) i 0 ≤ b) → (i : ℕ) → i < n → get_or x i 0 ≤ b
    kept-below b h i u =
        let v : get_or x i 0 ≡ get_or (map of (topic_places mode m)) i 0 =
        sym (get_or-take n x i 0 u) ∙ ap (λ (r : List ℕ). get_or r i 0) kept-front
        ∙ get_or-take max_topics (map of (topic_places mode m)) i 0 (omega arith) in
        rw v (h i)

pub row_in : (ring : Ring) (i p : ℕ) → rows_lie ring ≡ true → i < ring.count → p ≡ place_of ring i → (p < message_limit) × (ring.count ≤ message_limit)
row_in ring i p l h e =
    let t = lie_rows ring l in
    let k : p < ring.cap = rw e (place-lt ring i t.1 (omega (arith, t.2))) in
    (omega (arith, t.0), omega (arith, t.0, t.2))

-- ---- an id from its two parts
pub formed : (part : List ℕ) (a e b f : ℕ) (out : List ℕ) (i : ℕ) (mid : List ℕ) (j : ℕ) (end : List ℕ)
    → formable (length part) a e b f (length out) ≡ true
    → Leaves (end_in (length (between part a e)) 0 (between part a e) out) (set_in (length (between part a e)) 0 (between part a e) out) i mid
    → Leaves (end_in (length (between part b f)) i (between part b f) mid) (set_in (length (between part b f)) i (between part b f) mid) j end
    → Forms part a e b f out j end
unfolding form_count form_left
formed part a e b f out i mid j end g u v =
    let h = when_forms (length part) a e b f (length out) g in
    let k = id-length part a e b f h.1 h.3 in
    let x : List ℕ = between part a e in
    let y : List ℕ = between part b f in
    let l : length (x ++ y) ≡ length x + length y = length-append x y in
    let i0 : i ≡ 0 + length x = u.answer ∙ end_fits (length x) 0 x out (omega arith) in
    let m0 : mid ≡ sets out 0 x = u.lent ∙ set-fits (length x) 0 x out (omega arith) in
    let ml : length mid ≡ length out = ap length m0 ∙ length-sets out 0 x in
    let n : j ≡ length (x ++ y) = v.answer ∙ end_fits (length y) i y mid (omega arith) ∙ omega arith in
    record {
      count = rw g n;
      buffer = rw g (v.lent ∙ set-fits (length y) i y mid (omega arith) ∙ rw (m0, i0) (sym (sets-append out 0 x y)));
    }

pub formed-not : (part : List ℕ) (a e b f : ℕ) (out : List ℕ) → formable (length part) a e b f (length out) ≡ false → Forms part a e b f out 0 out
unfolding form_count form_left
formed-not part a e b f out g = record { count = rw g; buffer = rw g }
