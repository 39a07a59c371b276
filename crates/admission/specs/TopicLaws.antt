-- Laws of the places of a message's topics: cut out they are its topics; and places kept as numbers are found again.
use Rattle.std.specs.Prelude.{ℕ, zero, suc, ◌+◌, ◌-◌, ◌≤◌, ◌≡◌, refl, true, List, [], ◌∷◌, map, length, take, drop, get_or}
use Rattle.std.proofs.Common.{sym, ap, ◌∙◌, arith, get_or-take, eqb-true, eq-eqb}
use Rattle.std.proofs.lemmas.List.{length-map}
use Rattle.std.proofs.lemmas.List.Edits.{sets}
use Rattle.std.proofs.Math.Seq.{take-length}
use Rattle.basis.specs.declared.Mode.{Mode}
use Rattle.basis.specs.Dialect.{mode_of}
use Rattle.basis.specs.Cases.{either, clash, both}
use Rattle.protobuf.specs.Walk.{Fields, end, refused, ◌then◌, fields_of, walk_at, is_bytes, value_in}
use Rattle.protobuf.specs.WalkLaws.{along}
use Rattle.rows.specs.RowsLaws.{length-tab, tab_ext}
use Rattle.rows.specs.ListLaws.{put-sets}
use Rattle.admission.specs.declared.Topics.{Topics}
use Rattle.admission.specs.Admission.{topics_along, topics_of, Span, places_along, topic_places, cut, starts_of, sizes_of}
use Rattle.admission.specs.Admission.{topics_in, FindsTopics, spans_in, same_spans, gives_id, kept_with}
use Rattle.admission.specs.AdmissionLaws.{gives-only, fit-limits}

-- ---- cut out, they are the topics
cut-along : (p : List ℕ) (w : Fields) → map (cut p) (places_along w) ≡ topics_along p w
cut-along p end = refl
cut-along p (refused why) = refl
cut-along p (f then w) =
    either (is_bytes 4 f) (λ t. simp t (ap (λ (l : List (List ℕ)). value_in p f ∷ l) (cut-along p w)))
    (λ t. simp t (cut-along p w))

pub cut-topics : (mode : Mode) (p : List ℕ) → map (cut p) (topic_places mode p) ≡ topics_of mode p
unfolding topic_places topics_of
cut-topics mode p = cut-along p (fields_of mode p)

-- as many
pub places_count : (mode : Mode) (p : List ℕ) → length (topic_places mode p) ≡ length (topics_of mode p)
places_count mode p = sym (length-map (topic_places mode p) (cut p)) ∙ ap length (cut-topics mode p)

pub counts-places : (mode : Mode) {t : Topics} (p : List ℕ) → t ≡ topics_in mode p
    → t.count ≡ length (topic_places mode p)
counts-places mode p e = ap (λ (t : Topics). t.count) e ∙ sym (places_count mode p)

-- two results that meet the contract of `topics_of` are the same, the lists too
pub one-topics : (mode : Mode) (p a b : List ℕ) (r s : Topics) (a2 b2 a3 b3 : List ℕ) → FindsTopics mode p a b r a2 b2
    → FindsTopics mode p a b s a3 b3 → (r ≡ s) × (a2 ≡ a3) × (b2 ≡ b3)
one-topics mode p a b r s a2 b2 a3 b3 x y = (
  x.topics ∙ sym y.topics,
  x.starts ∙ sym y.starts,
  x.sizes ∙ sym y.sizes,
)

-- a message that gives an id has at most four
pub gives-few : (flags : ℕ) (p i : List ℕ) → gives_id flags p i ≡ true → length (topic_places (mode_of flags) p) ≤ 4
gives-few flags p i h =
    let g = gives-only flags p i h in
    let l = fit-limits flags p true g.from_start g.from_end g.seqno-start g.seqno-end g.taken in
    omega (arith, places_count (mode_of flags) p, l.few)

-- each lies within the message
first-or : (x : ℕ) (l : List ℕ) (n : ℕ) → x ≤ n → ((i : ℕ) → get_or l i 0 ≤ n) → (i : ℕ) → get_or (x ∷ l) i 0 ≤ n
first-or x l n h k zero = h
first-or x l n h k (suc i) = k i

starts-along : (mode : Mode) (p : List ℕ) (at : ℕ) (i : ℕ)
    → get_or (starts_of (places_along (walk_at mode p at))) i 0 ≤ length p
starts-along mode p =
    along mode p (λ (at : ℕ) (w : Fields). (i : ℕ) → get_or (starts_of (places_along w)) i 0 ≤ length p)
    (λ at i. omega arith)
    (λ at why r i. omega arith)
    (λ at f st r rest. either (is_bytes 4 f)
    (λ t. simp t (first-or f.start (starts_of (places_along (walk_at mode p f.next))) (length p)
    (omega (arith, st.ends, st.within)) rest))
    (λ t. simp t rest))

sizes-along : (mode : Mode) (p : List ℕ) (at : ℕ) (i : ℕ)
    → get_or (sizes_of (places_along (walk_at mode p at))) i 0 ≤ length p
sizes-along mode p =
    along mode p (λ (at : ℕ) (w : Fields). (i : ℕ) → get_or (sizes_of (places_along w)) i 0 ≤ length p)
    (λ at i. omega arith)
    (λ at why r i. omega arith)
    (λ at f st r rest. either (is_bytes 4 f)
    (λ t. simp t (first-or (f.next - f.start) (sizes_of (places_along (walk_at mode p f.next))) (length p)
    (omega (arith, st.ends, st.within)) rest))
    (λ t. simp t rest))

pub starts-within : (mode : Mode) (p : List ℕ) (i : ℕ) → get_or (starts_of (topic_places mode p)) i 0 ≤ length p
unfolding topic_places
starts-within mode p i = starts-along mode p 0 i

pub sizes-within : (mode : Mode) (p : List ℕ) (i : ℕ) → get_or (sizes_of (topic_places mode p)) i 0 ≤ length p
unfolding topic_places
sizes-within mode p i = sizes-along mode p 0 i

-- ---- the same places
pub same_spans_self : (l : List Span) → same_spans l l ≡ true
unfolding same_spans
same_spans_self [] = refl
same_spans_self (s ∷ l) =
    simp (eq-eqb s.start s.start refl, eq-eqb s.size s.size refl) (same_spans_self l)

span : ℕ → ℕ → Span
span a n = record { start = a; size = n }

pub same_spans_equal : (l r : List Span) → same_spans l r ≡ true → l ≡ r
unfolding same_spans span
same_spans_equal [] [] h = refl
same_spans_equal [] (t ∷ r) h = clash (cc)
same_spans_equal (s ∷ l) [] h = clash (cc)
same_spans_equal (s ∷ l) (t ∷ r) h =
    let a = both _ _ h in
    let b = both _ _ a.1 in
    let x : s.start ≡ t.start = eqb-true s.start t.start a.0 in
    let y : s.size ≡ t.size = eqb-true s.size t.size b.0 in
    let e : s ≡ t = ap (λ (k : ℕ). span k s.size) x ∙ ap (span t.start) y in
    rw (e, same_spans_equal l r b.1)

-- ---- places as numbers
pub length_spans : (a b : List ℕ) (n : ℕ) → length (spans_in a b n) ≡ n
unfolding spans_in
length_spans a b n = length-tab (λ (i : ℕ). record { start = get_or a i 0; size = get_or b i 0 }) n

-- only the first n numbers of each are read
pub spans_take : (a b c d : List ℕ) (n : ℕ) → take n a ≡ take n c → take n b ≡ take n d → spans_in a b n ≡ spans_in c d n
unfolding spans_in span
spans_take a b c d n e f =
    tab_ext (λ (i : ℕ). span (get_or a i 0) (get_or b i 0)) (λ (i : ℕ). span (get_or c i 0) (get_or d i 0)) n
    (λ i h.
    let x : get_or a i 0 ≡ get_or c i 0 = sym (get_or-take n a i 0 h) ∙ ap (λ (l : List ℕ). get_or l i 0) e
    ∙ get_or-take n c i 0 h in
    let y : get_or b i 0 ≡ get_or d i 0 = sym (get_or-take n b i 0 h) ∙ ap (λ (l : List ℕ). get_or l i 0) f
    ∙ get_or-take n d i 0 h in
    rw (x, y))

pub spans_of : (l : List Span) → spans_in (starts_of l) (sizes_of l) (length l) ≡ l
unfolding spans_in
spans_of [] = refl
spans_of (s ∷ l) = ap (λ (r : List Span). s ∷ r) (spans_of l)

put-take : (a : List ℕ) (k : ℕ) (vs : List ℕ) (n : ℕ) → length vs ≡ n → k + length vs ≤ length a
    → take n (drop k (sets a k vs)) ≡ take n vs
put-take a k vs n e h = rw (← e) (put-sets a k vs h ∙ sym (take-length vs))

-- places written from k on, into lists with room for them, are read there
pub spans_put : (a b : List ℕ) (k : ℕ) (l : List Span) → k + length l ≤ length a → k + length l ≤ length b
    → spans_in (drop k (sets a k (starts_of l))) (drop k (sets b k (sizes_of l))) (length l) ≡ l
spans_put a b k l h g =
    let n : length (starts_of l) ≡ length l = length-map l (λ (s : Span). s.start) in
    let m : length (sizes_of l) ≡ length l = length-map l (λ (s : Span). s.size) in
    spans_take (drop k (sets a k (starts_of l))) (drop k (sets b k (sizes_of l))) (starts_of l) (sizes_of l) (length l)
    (put-take a k (starts_of l) (length l) n (omega arith)) (put-take b k (sizes_of l) (length l) m (omega arith))
    ∙ spans_of l

-- ---- a message with its id and its topics' places
pub kept-only : (flags : ℕ) (p i : List ℕ) (ts : List Span) → kept_with flags p i ts ≡ true
    → (gives_id flags p i ≡ true) × (ts ≡ topic_places (mode_of flags) p)
unfolding kept_with
kept-only flags p i ts h = let b = both _ _ h in (b.0, sym (same_spans_equal (topic_places (mode_of flags) p) ts b.1))

pub kept-own : (flags : ℕ) (p i : List ℕ) (ts : List Span) → gives_id flags p i ≡ true
    → ts ≡ topic_places (mode_of flags) p
    → kept_with flags p i ts ≡ true
unfolding kept_with
kept-own flags p i ts g e = rw (g, e) (same_spans_self (topic_places (mode_of flags) p))
