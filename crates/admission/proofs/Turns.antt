-- A turn of the walk over a message's topics, and which case it is.
use Prim.Native.Nat.{ℕ, ◌+◌, ◌-◌, ◌≤◌, ◌<◌}
use mathlib.Core.Path.{◌≡◌, refl, sym, ap, ap₂, subst, ◌∙◌}
use mathlib.Core.Bool.{Bool, true, false, cond, ◌&&◌, ◌||◌, and-true}
use mathlib.Core.List.{List, [], ◌∷◌, map}
use native.Mathlib.Omega.{arith}
use native.Mathlib.Numerals.{add-one}
use lib.ListN.{length, take, drop, get_or, set, length-append, length-drop, length-set, drop_of_length-le}
use lib.Seq.{sets, take_all, drop-cons}
use lib.Dec.{ltb, eqb}
use borrow.Author.Tests.{ltb-true, eqb-true, eq-eqb, ne_eqb, lt-ltb, le-ltb}
use Rattle.std.specs.Prelude.{Result, Ok, Err, Option, Some, None, ◌⊎◌}
use Rattle.std.specs.Result.{is_err, result_and}
use Rattle.std.proofs.Common.{⊎_elim}
use Rattle.basis.specs.declared.Mode.{Mode}
use Rattle.basis.specs.Dialect.{mode_of}
use Rattle.std.proofs.lemmas.Bool.Decides.{nat_tests}
use Rattle.basis.specs.Cases.{either, clash}
use Rattle.protobuf.specs.declared.Field.{Field}
use Rattle.protobuf.specs.declared.WireError.{WireError}
use Rattle.protobuf.specs.Field.{read_field}
use Rattle.protobuf.specs.Laws.{Stands}
use Rattle.protobuf.specs.Walk.{walk_at, is_bytes, between, value_in}
use Rattle.protobuf.specs.WalkLaws.{walk_on}
use Rattle.rows.specs.Rows.{tab}
use Rattle.rows.specs.RowsLaws.{length-tab, get_d_tab}
use Rattle.rows.specs.Ids.{same_bytes}
use Rattle.rows.specs.IdsLaws.{same-append, same_length}
use Rattle.schema.specs.declared.Kind.TheVariants as kind
use Rattle.schema.specs.Count.{counted}
use Rattle.schema.specs.declared.Slots.{Slots}
use Rattle.schema.specs.Slots.{slots_of}
use Rattle.schema.specs.SlotsLaws.{PlaceInside, SlotsInside}
use Rattle.schema.proofs.SlotsLaws.{slots_inside}
use Rattle.ids.specs.Ids.{on_from, id_parts, id_bytes}
use Rattle.protobuf.specs.WalkLaws.{between-length}
use Rattle.peer_id.specs.declared.PeerId.{PeerId}
use Rattle.peer_id.specs.PeerId.{from_bytes, digest_of}
use Rattle.peer_id.specs.Multihash.{identity}
use Rattle.peer_id.specs.MultihashLaws.{peer-exactly, peer-size}
use Rattle.schema.specs.declared.Place.{Place}
use Rattle.schema.specs.declared.Place.TheVariants as place
use Rattle.admission.specs.declared.Unfit.TheVariants.{TopicCount, TopicTooLong, MessageTooLong, InvalidKey, KeyPeerIdMismatch, NotPeerId}
use Rattle.admission.specs.declared.Topics.{Topics}
use Rattle.ids.specs.declared.IdError.{IdError}
use Rattle.peer_id.specs.declared.PeerId.TheVariants as who
use Rattle.admission.specs.declared.Unfit.{Unfit}
use Rattle.admission.specs.Admission.{Parts, topics_along, topics_of, Span, span_of, places_along, topic_places, starts_of, sizes_of, spans_in, same_spans, first_long}
use Rattle.admission.specs.Admission.{topics_in, long_after, on_limits, is_key, by_hash, key_matches, key_inside, on_key, on_word, on_signature, is_peer_id, on_peer, part_at, sender_of, on_id, admission_of, id_given, gives_id, kept_with}
use Rattle.admission.specs.AdmissionLaws.{sender-is, gives-refused}
use Rattle.admission.specs.TopicLaws.{gives-few, same_spans_equal, length_spans, spans_put}

-- ---- the topics from a place on
pub topics_on : (mode : Mode) (p : List ℕ) (at : ℕ) (f : Field) → Ok (Some f) ≡ read_field mode p at → topics_along p (walk_at mode p at) ≡ cond (is_bytes 4 f) (value_in p f ∷
    topics_along p (walk_at mode p f.next)) (topics_along p (walk_at mode p f.next))
topics_on mode p at f e = ap (topics_along p) (walk_on mode p at (Ok (Some f)) e)

pub topics-end : (mode : Mode) (p : List ℕ) (at : ℕ) → Ok None ≡ read_field mode p at → topics_along p (walk_at mode p at) ≡ []
topics-end mode p at e = ap (topics_along p) (walk_on mode p at (Ok None) e)

pub topics-refused : (mode : Mode) (p : List ℕ) (at : ℕ) (why : WireError) → Err why ≡ read_field mode p at → topics_along p (walk_at mode p at) ≡ []
topics-refused mode p at why e = ap (topics_along p) (walk_on mode p at (Err why) e)

-- ---- their number, and the first that is too long
count_step_lem : (t : Bool) (v : List ℕ) (l : List (List ℕ)) (n m : ℕ) → m ≡ cond t (n + 1) n → n + length (cond t (v ∷ l) l) ≡ m + length l
count_step_lem true v l n m h = omega arith
count_step_lem false v l n m h = omega arith

pub count-more : (mode : Mode) (p : List ℕ) (at n m : ℕ) (f : Field) → Ok (Some f) ≡ read_field mode p at → m ≡ cond (is_bytes 4 f) (n + 1) n → n + length (topics_along p
    (walk_at mode p at)) ≡ m + length (topics_along p (walk_at mode p f.next))
count-more mode p at n m f e h = ap (λ (l : List (List ℕ)). n + length l) (topics_on mode p at f e) ∙ count_step_lem (is_bytes 4 f) (value_in p f) (topics_along p
    (walk_at mode p f.next)) n m h

-- one more, or none
-- the first long topic, where `long` is that of the topics passed
abbrev pub long_from : ℕ → List (List ℕ) → ℕ
long_from long l = cond (eqb long 0) (first_long l) long

long-step : (t : Bool) (v : List ℕ) (l : List (List ℕ)) (long next : ℕ) → next ≡ cond (t && (eqb long 0 && ltb 1024 (length v))) (length v) long →
    long_from long (cond t (v ∷ l) l) ≡ long_from next l
unfolding first_long
long-step false v l long next h = rw h
long-step true v l long next h =
    either (eqb long 0)
    (λ z. either (ltb 1024 (length v))
    (λ u. let k = simp (z, u) at h in let g = ltb-true 1024 (length v) u in simp (z, u, k, ne_eqb (length v) 0 (λ q. absurd (omega arith))))
    (λ u. let k = simp (z, u) at h in simp (z, u, k)))
    (λ z. let k = simp z at h in simp (z, k))

pub long-more : (mode : Mode) (p : List ℕ) (at long next : ℕ) (f : Field) → Ok (Some f) ≡ read_field mode p at → Stands p at f → next ≡ long_after f (f.next - f.start)
    long
    → long_from long (topics_along p (walk_at mode p at)) ≡ long_from next (topics_along p (walk_at mode p f.next))
unfolding long_after
long-more mode p at long next f e st h =
    let n = between-length p f.start f.next st.within in
    ap (long_from long) (topics_on mode p at f e)
    ∙ long-step (is_bytes 4 f) (value_in p f) (topics_along p (walk_at mode p f.next)) long next (h ∙ ap (λ (k : ℕ). long_after f k long) (sym n))

long-none : (long : ℕ) → long_from long [] ≡ long
unfolding first_long
long-none long = either (eqb long 0) (λ t. simp t (sym (eqb-true long 0 t))) (λ t. simp t)

-- no topic is left
abbrev topics_made : ℕ → ℕ → Topics
topics_made n long = record { count = n; long = long }

pub topics-done : (mode : Mode) (p : List ℕ) (n long : ℕ) (l : List (List ℕ)) → l ≡ [] → length (topics_of mode p) ≡ n + length l → first_long (topics_of mode p) ≡ long_from long
    l → topics_made n long ≡ topics_in mode p
topics-done mode p n long l e h k =
    let z = ap length e in
    ap₂ topics_made (omega arith) (sym (k ∙ ap (long_from long) e ∙ long-none long))

-- each of both
module _ (mode : Mode) {t : Topics} (p : List ℕ) (e : t ≡ topics_in mode p) where
  pub counts : t.count ≡ length (topics_of mode p)
  counts = ap (λ (x : Topics). x.count) e

  pub longs : t.long ≡ first_long (topics_of mode p)
  longs = ap (λ (x : Topics). x.long) e

-- ---- their places
places_on : (mode : Mode) (p : List ℕ) (at : ℕ) (f : Field) → Ok (Some f) ≡ read_field mode p at
    → places_along (walk_at mode p at) ≡ cond (is_bytes 4 f) (span_of f ∷ places_along (walk_at mode p f.next)) (places_along (walk_at mode p f.next))
places_on mode p at f e = ap places_along (walk_on mode p at (Ok (Some f)) e)

pub places-end : (mode : Mode) (p : List ℕ) (at : ℕ) → Ok None ≡ read_field mode p at → places_along (walk_at mode p at) ≡ []
places-end mode p at e = ap places_along (walk_on mode p at (Ok None) e)

pub places-refused : (mode : Mode) (p : List ℕ) (at : ℕ) (why : WireError) → Err why ≡ read_field mode p at → places_along (walk_at mode p at) ≡ []
places-refused mode p at why e = ap places_along (walk_on mode p at (Err why) e)

-- a number of each place is written, in the place's own order
module _ (of : Span → ℕ) where
  note_step : (t : Bool) (s : Span) (l : List Span) (out next : List ℕ) (n m : ℕ) → next ≡ cond t (set out n (of s)) out → m ≡ cond t (n + 1) n
      → sets out n (map of (cond t (s ∷ l) l)) ≡ sets next m (map of l)
  note_step true s l out next n m h k = rw (h, k, add-one n)
  note_step false s l out next n m h k = rw (h, k)

  pub note_more : (mode : Mode) (p : List ℕ) (at : ℕ) (f : Field) (there : Bool) (out next : List ℕ) (n m : ℕ) → Ok (Some f) ≡ read_field mode p at → there ≡ is_bytes 4 f
      → next ≡ cond there (set out n (of (span_of f))) out → m ≡ cond (is_bytes 4 f) (n + 1) n → sets out n (map of (places_along (walk_at mode p at))) ≡ sets
      next m (map of (places_along (walk_at mode p f.next)))
  note_more mode p at f there out next n m e b h k =
      ap (λ (l : List Span). sets out n (map of l)) (places_on mode p at f e)
      ∙ note_step (is_bytes 4 f) (span_of f) (places_along (walk_at mode p f.next)) out next n m (rw b at h) k

  pub note_done : (out all : List ℕ) (n : ℕ) (l : List Span) → l ≡ [] → sets out n (map of l) ≡ all → out ≡ all
  note_done out all n l e h = sym (ap (λ (r : List Span). sets out n (map of r)) e) ∙ h

pub note_length : (there : Bool) (l next : List ℕ) (i v n : ℕ) → next ≡ cond there (set l i v) l → length l ≡ n → length next ≡ n
note_length there l next i v n h e = either there (λ t. rw (simp t at h, length-set l i v) e) (λ t. rw (simp t at h) e)

-- found again in two lists of four
pub spans_found : (mode : Mode) (p x y a b : List ℕ) (n k : ℕ) → k ≡ length (topic_places mode p) → k ≡ n → n ≤ 4 → length a ≡ 4 → length b ≡ 4
    → x ≡ sets a 0 (starts_of (topic_places mode p)) → y ≡ sets b 0 (sizes_of (topic_places mode p)) → spans_in x y n ≡ topic_places mode p
spans_found mode p x y a b n k c e h l m f g =
    let q : n ≡ length (topic_places mode p) = sym e ∙ c in
    rw (f, g, q) (spans_put a b 0 (topic_places mode p) (omega arith) (omega arith))

-- ---- kept places are compared
module _ (x y : List ℕ) (n i : ℕ) where
  pub spans_from : i < n → drop i (spans_in x y n) ≡ record { start = get_or x i 0; size = get_or y i 0 } ∷ drop (i + 1) (spans_in x y n)
  unfolding spans_in
  spans_from h =
      let at : ℕ → Span = λ (j : ℕ). record { start = get_or x j 0; size = get_or y j 0 } in
      let l : i < length (tab at n) = rw (length-tab at n) h in
      rw (add-one i, drop-cons (tab at n) i (at i) l, get_d_tab at n i (at i) h)

  pub spans_end : n ≤ i → drop i (spans_in x y n) ≡ []
  spans_end h = drop_of_length-le (spans_in x y n) {i = i} (rw (length_spans x y n) h)

pub ruleset spans_walked = (spans_from, spans_end, nat_tests)

-- counted in the mode of the flags
pub read_in : {mode : Mode} (flags : ℕ) (p : List ℕ) {r : Result ℕ WireError} → mode ≡ mode_of flags → r ≡ counted mode kind.RawMessage p
    → r ≡ counted (mode_of flags) kind.RawMessage p
read_in flags p e h = h ∙ ap (λ (mode : Mode). counted mode kind.RawMessage p) e

-- ---- a message with its id and its kept places
module _ (flags : ℕ) (p i : List ℕ) (ts : List Span) where
  pub kept-not : false ≡ gives_id flags p i → false ≡ kept_with flags p i ts
  unfolding kept_with
  kept-not h = rw (← h)

  pub kept_other : same_spans (topic_places (mode_of flags) p) ts ≡ false → false ≡ kept_with flags p i ts
  unfolding kept_with
  kept_other h = either (gives_id flags p i) (λ t. rw (t, h)) (λ t. rw t)

  pub kept-count : (length (topic_places (mode_of flags) p) ≡ length ts → ⊥) → false ≡ kept_with flags p i ts
  kept-count h = kept_other (either (same_spans (topic_places (mode_of flags) p) ts) (λ t. absurd (h (ap length (same_spans_equal (topic_places (mode_of flags) p) ts t)))) (λ t. t))

  pub kept-many : 4 < length (topic_places (mode_of flags) p) → false ≡ kept_with flags p i ts
  kept-many h = kept-not (either (gives_id flags p i) (λ t. let k = gives-few flags p i t in absurd (omega arith)) (λ t. sym t))

  pub kept-unread : (r : Result ℕ WireError) → r ≡ counted (mode_of flags) kind.RawMessage p → is_err r ≡ true
      → false ≡ kept_with flags p i ts
  kept-unread (Ok n) e h = clash (cc)
  kept-unread (Err why) e h = kept-not (gives-refused flags p i why (sym e))

  pub kept-names : (r : Result ℕ WireError) (b : Bool) → r ≡ counted (mode_of flags) kind.RawMessage p → is_err r ≡ false
      → same_spans (topic_places (mode_of flags) p) ts ≡ true → b ≡ id_given p i (admission_of flags p true)
      → b ≡ kept_with flags p i ts
  unfolding kept_with gives_id
  kept-names (Ok n) b e h s g = rw (← e, s) (g ∙ sym (and-true (id_given p i (admission_of flags p true))))
  kept-names (Err why) b e h s g = clash (cc)

-- ---- 28, 29, 30
module _ {A : Type 0} (mode : Mode) (p : List ℕ) (r : Result A Unfit) (n l : ℕ) (hn : n ≡ length (topics_of mode p)) (hl : l ≡ first_long (topics_of mode p)) where
  limit_none : n ≡ 0 → Err (TopicCount n) ≡ on_limits mode p r
  unfolding on_limits
  limit_none h = simp (hn, eq-eqb (length (topics_of mode p)) 0 (sym hn ∙ h))

  limit_many : (n ≡ 0 → ⊥) → 4 < n → Err (TopicCount n) ≡ on_limits mode p r
  unfolding on_limits
  limit_many z h = simp (hn, ne_eqb (length (topics_of mode p)) 0 (λ q. z (hn ∙ q)), lt-ltb 4 (length (topics_of mode p)) (omega arith))

  pub limit_count : (n ≡ 0) ⊎ ((n ≡ 0 → ⊥) × (4 < n)) → Err (TopicCount n) ≡ on_limits mode p r
  limit_count h = ⊎_elim limit_none (λ w. limit_many w.0 w.1) h

  pub limit_long : (n ≡ 0 → ⊥) → n ≤ 4 → (l ≡ 0 → ⊥) → Err (TopicTooLong l) ≡ on_limits mode p r
  unfolding on_limits
  limit_long z h k =
      simp (
        hl,
        ne_eqb (length (topics_of mode p)) 0 (λ q. z (hn ∙ q)),
        le-ltb 4 (length (topics_of mode p)) (omega arith),
        ne_eqb (first_long (topics_of mode p)) 0 (λ
            q. k (hl ∙ q)),
      )

  pub limit_size : (n ≡ 0 → ⊥) → n ≤ 4 → l ≡ 0 → 4096 < length p → Err (MessageTooLong (length p)) ≡ on_limits mode p r
  unfolding on_limits
  limit_size z h k m =
      simp (
        ne_eqb (length (topics_of mode p)) 0 (λ q. z (hn ∙ q)),
        le-ltb 4 (length (topics_of mode p)) (omega arith),
        eq-eqb (first_long (topics_of mode p)) 0 (sym hl
            ∙ k),
        lt-ltb 4096 (length p) m,
      )

  pub limit_fit : (n ≡ 0 → ⊥) → n ≤ 4 → l ≡ 0 → length p ≤ 4096 → r ≡ on_limits mode p r
  unfolding on_limits
  limit_fit z h k m =
      simp (
        ne_eqb (length (topics_of mode p)) 0 (λ q. z (hn ∙ q)),
        le-ltb 4 (length (topics_of mode p)) (omega arith),
        eq-eqb (first_long (topics_of mode p)) 0 (sym hl
            ∙ k),
        le-ltb 4096 (length p) m,
      )

-- ---- 21, 22, 23
pub admit_on : (flags : ℕ) (p : List ℕ) (word : Bool) (t : Slots) (i j : Result Parts IdError) → t ≡ slots_of (mode_of flags) kind.RawMessage p
    → i ≡ on_from t.first t.third → i ≡ j → on_id flags p word j ≡ admission_of flags p word
unfolding admission_of id_parts
admit_on flags p word t i j h k e = ap (on_id flags p word) (sym e ∙ k ∙ ap (λ (x : Slots). on_from x.first x.third) h)

pub admit_err : (flags : ℕ) (p : List ℕ) (word : Bool) (t : Slots) (i : Result Parts IdError) (w why : IdError)
    → t ≡ slots_of (mode_of flags) kind.RawMessage p → i ≡ on_from t.first t.third → i ≡ Err w → w ≡ why
    → on_id flags p word (Err why) ≡ admission_of flags p word
admit_err flags p word t i w why h k e g = admit_on flags p word t i (Err why) h k (e ∙ ap Err g)

-- ---- from and then seqno
module _ (p i : List ℕ) (a e b f : ℕ) (o : a ≤ e) (l : e ≤ length p) where
  pub parts-short : length i < e - a → false ≡ same_bytes (id_bytes p a e b f) i
  parts-short h =
      let n = between-length p a e l in
      let m = length-append (between p a e) (between p b f) in
      sym (same_length (id_bytes p a e b f) i (λ q. absurd (omega arith)))

  split : same_bytes (id_bytes p a e b f) i ≡ (same_bytes (between p a e) (take (e - a) i) && same_bytes (between p b f) (drop (e - a) i))
  split =
      same-append (between p a e) (between p b f) i
      ∙ ap (λ (n : ℕ). same_bytes (between p a e) (take n i) && same_bytes (between p b f) (drop n i)) (between-length p a e l)

  pub parts_first : (r : Bool) → same_bytes (between p a e) (take (e - a) i) ≡ true → r ≡ same_bytes (between p b f) (take (length i - (e - a)) (drop (e
      - a) i)) → r ≡ same_bytes (id_bytes p a e b f) i
  parts_first r h k =
      let w = take_all (length i - (e - a)) (drop (e - a) i) (rw (length-drop (e - a) i) (omega arith)) in
      k ∙ ap (same_bytes (between p b f)) w ∙ sym (simp h at split)

  pub parts-differ : same_bytes (between p a e) (take (e - a) i) ≡ false → false ≡ same_bytes (id_bytes p a e b f) i
  parts-differ h = sym (simp h at split)

-- ---- 34, 35, 36: which case it is
-- an identity's digest stands behind two bytes
pub has-digest : (s : List ℕ) → Some who.Identity ≡ from_bytes s → 2 ≤ length s
has-digest s e = let z = peer-size ((peer-exactly s (digest_of s) identity).0 (sym e, refl)) in omega (arith, z.0)

pub inside_case : (s : List ℕ) (q : Option PeerId) → q ≡ from_bytes s
    → by_hash q (is_key (digest_of s)) false ≡ key_inside s
unfolding key_inside
inside_case s q e = ap (λ (k : Option PeerId). by_hash k (is_key (digest_of s)) false) e

pub matches_case : (s k : List ℕ) (q : Option PeerId) → q ≡ from_bytes s
    → by_hash q (same_bytes (digest_of s) k) true ≡ key_matches s k
unfolding key_matches
matches_case s k q e = ap (λ (x : Option PeerId). by_hash x (same_bytes (digest_of s) k) true) e

pub digest-part : (s : List ℕ) → take (length s - 2) (drop 2 s) ≡ digest_of s
digest-part s = take_all (length s - 2) (drop 2 s) (rw (length-drop 2 s) (omega arith))

pub bytes_case : (p : List ℕ) (f q : Place) (r : Bool) → f ≡ q → r ≡ is_peer_id (part_at p q) → r ≡ is_peer_id (part_at p f)
bytes_case p f q r h e = e ∙ ap (λ (x : Place). is_peer_id (part_at p x)) (sym h)

abbrev pub passed : Result (Unit {0}) Unfit
passed = Ok tt

-- no key is there
module _ (p s : List ℕ) (q : Place) (k : Bool) (h : q ≡ place.Absent) (e : k ≡ key_inside s) where
  pub inside_on : k ≡ true → passed ≡ on_key p s q passed
  inside_on t = sym (ap (λ (x : Place). on_key p s x passed) h ∙ rw (sym e ∙ t))

  pub inside-not : k ≡ false → Err KeyPeerIdMismatch ≡ on_key p s q passed
  inside-not t = sym (ap (λ (x : Place). on_key p s x passed) h ∙ rw (sym e ∙ t))

-- a key is there, from a to b
module _ (p s : List ℕ) (q : Place) (x y : ℕ) (k : Bool) (h : q ≡ place.Present x y) (e : k ≡ is_key (between p x y)) where
  pub there-bad : k ≡ false → Err InvalidKey ≡ on_key p s q passed
  there-bad t = sym (ap (λ (z : Place). on_key p s z passed) h ∙ rw (sym e ∙ t))

  module _ (m : Bool) (f : m ≡ key_matches s (between p x y)) (t : k ≡ true) where
    pub there-not : m ≡ false → Err KeyPeerIdMismatch ≡ on_key p s q passed
    there-not u = sym (ap (λ (z : Place). on_key p s z passed) h ∙ rw (sym e ∙ t, sym f ∙ u))

    pub there_on : m ≡ true → passed ≡ on_key p s q passed
    there_on u = sym (ap (λ (z : Place). on_key p s z passed) h ∙ rw (sym e ∙ t, sym f ∙ u))

-- ---- what is said of a message that passes a test comes after what the test says
and_assoc : {A : Type 0} (a b : Result (Unit {0}) Unfit) (r : Result A Unfit)
    → result_and (result_and a b) r ≡ result_and a (result_and b r)
and_assoc (Ok _) b r = refl
and_assoc (Err why) b r = refl

key-and : {A : Type 0} (p s : List ℕ) (q : Place) (r : Result A Unfit)
    → on_key p s q r ≡ result_and (on_key p s q passed) r
key-and p s place.Absent r = either (key_inside s) (λ t. rw t) (λ t. rw t)
key-and p s (place.Present x y) r =
    either (is_key (between p x y))
    (λ t. either (key_matches s (between p x y)) (λ u. rw (t, u)) (λ u. rw (t, u)))
    (λ t. rw t)

pub key_by : {A : Type 0} (p s : List ℕ) (q : Place) (l : Result (Unit {0}) Unfit) (r : Result A Unfit)
    → l ≡ on_key p s q passed → result_and l r ≡ on_key p s q r
key_by p s q l r e = ap (λ (a : Result (Unit {0}) Unfit). result_and a r) e ∙ sym (key-and p s q r)

pub word_by : (word v : Bool) → word ≡ v → on_word v passed ≡ on_word word passed
word_by word v e = ap (λ (b : Bool). on_word b passed) (sym e)

word-and : {A : Type 0} (word : Bool) (r : Result A Unfit) → on_word word r ≡ result_and (on_word word passed) r
word-and true r = refl
word-and false r = refl

limits-and : {A : Type 0} (mode : Mode) (p : List ℕ) (r : Result A Unfit)
    → on_limits mode p r ≡ result_and (on_limits mode p passed) r
unfolding on_limits
limits-and mode p r =
    either (eqb (length (topics_of mode p)) 0 || ltb 4 (length (topics_of mode p))) (λ t. rw t)
    (λ t. either (eqb (first_long (topics_of mode p)) 0)
    (λ u. either (ltb 4096 (length p)) (λ v. rw (t, u, v)) (λ v. rw (t, u, v)))
    (λ u. rw (t, u)))

signature-and : {A : Type 0} (u : Bool) (q k : Place) (p s : List ℕ) (word : Bool) (r : Result A Unfit)
    → on_signature u q k (on_key p s k (on_word word r)) r
    ≡ result_and (on_signature u q k (on_key p s k (on_word word passed)) passed) r
signature-and u place.Absent place.Absent p s word r = either u (λ t. rw t) (λ t. rw t)
signature-and u place.Absent (place.Present x y) p s word r = refl
signature-and u (place.Present x y) k p s word r =
    either (eqb (y - x) 64)
    (λ t. rw t (key-and p s k (on_word word r) ∙ ap (result_and (on_key p s k passed)) (word-and word r)
    ∙ sym (and_assoc (on_key p s k passed) (on_word word passed) r)
    ∙ ap (λ (a : Result (Unit {0}) Unfit). result_and a r) (sym (key-and p s k (on_word word passed)))))
    (λ t. rw t)

module _ (u : Bool) (q k : Place) (mode : Mode) (p s : List ℕ) (word : Bool) (parts : Parts) where
  pub tests_signed : (why : Unfit)
      → Err why ≡ on_signature u q k (on_key p s k (on_word word passed)) passed
      → Err why ≡ on_signature u q k (on_key p s k (on_word word (on_limits mode p (Ok parts)))) (on_limits mode p (Ok parts))
  tests_signed why e =
      ap (λ (a : Result (Unit {0}) Unfit). result_and a (on_limits mode p (Ok parts))) e
      ∙ sym (signature-and u q k p s word (on_limits mode p (Ok parts)))

  pub tests_limits : (l : Result (Unit {0}) Unfit) → passed ≡ on_signature u q k (on_key p s k (on_word word passed)) passed
      → l ≡ on_limits mode p passed
      → result_and l (Ok parts)
      ≡ on_signature u q k (on_key p s k (on_word word (on_limits mode p (Ok parts)))) (on_limits mode p (Ok parts))
  tests_limits l e f =
      ap (λ (a : Result (Unit {0}) Unfit). result_and a (Ok parts)) f ∙ sym (limits-and mode p (Ok parts))
      ∙ ap (λ (a : Result (Unit {0}) Unfit). result_and a (on_limits mode p (Ok parts))) e
      ∙ sym (signature-and u q k p s word (on_limits mode p (Ok parts)))

-- ---- the slots that were found
module _ (mode : Mode) (p : List ℕ) (t : Slots) (h : t ≡ slots_of mode kind.RawMessage p) where
  slots_good : SlotsInside p t
  slots_good = subst (SlotsInside p) (sym h) (slots_inside mode kind.RawMessage p)

  pub first-inside : PlaceInside p t.first
  first-inside = slots_good.first

  pub fifth-inside : PlaceInside p t.fifth
  fifth-inside = slots_good.fifth

  pub parts-of : (i : Result Parts IdError) (a e b f : ℕ) → i ≡ on_from t.first t.third → i ≡ Ok ((a, e), (b, f)) → id_parts mode p ≡ Ok ((a, e), (b, f))
  unfolding id_parts
  parts-of i a e b f k g = sym (k ∙ ap (λ (x : Slots). on_from x.first x.third) h) ∙ g

  -- the sender is tested, and what follows
  module _ (r : Result Parts Unfit) (k : Bool) (e : k ≡ is_peer_id (part_at p t.first)) where
    sender-tested : k ≡ is_peer_id (sender_of mode p)
    sender-tested = e ∙ ap (λ (x : Slots). is_peer_id (part_at p x.first)) h

    pub peer_on : (a : Result Parts Unfit) → k ≡ true → a ≡ r → a ≡ on_peer (sender_of mode p) r
    peer_on a u g = g ∙ sym (rw (sym sender-tested ∙ u))

    pub peer-not : k ≡ false → Err NotPeerId ≡ on_peer (sender_of mode p) r
    peer-not u = sym (rw (sym sender-tested ∙ u))

  -- the rest of a message that has an id
  pub signed_on : (u v : Bool) (r l a : Result Parts Unfit) (x y z w : ℕ) → id_parts mode p ≡ Ok ((x, y), (z, w)) → u ≡ v
      → a ≡ on_signature u t.fourth t.fifth (on_key p (between p x y) t.fifth r) l
      → a ≡ on_signature v (slots_of mode kind.RawMessage p).fourth (slots_of mode kind.RawMessage p).fifth (on_key p (sender_of mode p) (slots_of mode kind.RawMessage p).fifth r) l
  signed_on u v r l a x y z w g o e =
      e ∙ ap₂ (λ (b : Bool) (s : Slots). on_signature b s.fourth s.fifth (on_key p (between p x y) s.fifth r) l) o h
      ∙ ap (λ (s : List ℕ). on_signature v (slots_of mode kind.RawMessage p).fourth (slots_of mode kind.RawMessage p).fifth (on_key p s (slots_of mode kind.RawMessage p).fifth r) l)
      (sym (sender-is mode p x y z w g))
