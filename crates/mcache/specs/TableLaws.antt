-- Laws of the kept topics' places: a row that is written is read so again, and the others stay as they were.
use Rattle.std.specs.Prelude.{◌≡◌, ℕ, ◌*◌, ◌<◌, ◌≤◌, true, List, length, take, drop, ◌≢◌, nat_lt, slice_index}
use Rattle.std.proofs.Common.{ap, ◌∙◌, arith, length-take, take_all, get_or-set_same, get_or-set_other, ltb-true, ltb-false}
use Rattle.std.proofs.lemmas.List.{length-map}
use Rattle.std.proofs.Math.ListN.{length-set}
use Rattle.std.proofs.lemmas.List.Edits.{sets}
use Rattle.std.proofs.Math.Seq.{length-sets}
use Rattle.basis.specs.declared.Mode.{Mode}
use Rattle.basis.specs.Dialect.{mode_of}
use Rattle.basis.specs.Cases.{either}
use Rattle.rows.specs.ListLaws.{drop-sets, part-sets}
use Rattle.admission.specs.Admission.{Span, topic_places, starts_of, sizes_of, gives_id}
use Rattle.admission.specs.TopicLaws.{gives-few, spans_take, spans_put}
use Rattle.mcache.specs.State.{Table, topics_at, kept_places, noted, Roomy, message_limit, max_topics}

-- ---- what is kept of a message
-- at most four places
pub kept-few : (mode : Mode) (m : List ℕ) → length (kept_places mode m) ≤ max_topics
unfolding kept_places
kept-few mode m = rw (length-take max_topics (topic_places mode m)) (omega arith)

-- all, of a message that may be taken
pub kept-all : (flags : ℕ) (m id : List ℕ) → gives_id flags m id ≡ true
    → kept_places (mode_of flags) m ≡ topic_places (mode_of flags) m
unfolding kept_places
kept-all flags m id g = take_all max_topics (topic_places (mode_of flags) m) (gives-few flags m id g)

-- ---- a row written
-- a part of four, where another is written
part-kept : (l vs : List ℕ) (p q n : ℕ) → length vs ≤ max_topics → n ≤ max_topics → (q ≢ p)
    → take n (drop (q * max_topics) (sets l (p * max_topics) vs)) ≡ take n (drop (q * max_topics) l)
part-kept l vs p q n h k other =
    either (nat_lt q p)
    (λ t. let g = ltb-true q p t in part-sets l (p * max_topics) vs n (q * max_topics) (omega arith))
    (λ t. let g = ltb-false q p t in
    ap (take n) (drop-sets l (p * max_topics) vs (q * max_topics) (omega (arith, other))))

module _ (mode : Mode) (m : List ℕ) (p : ℕ) (t : Table) where
  starts-few : length (starts_of (kept_places mode m)) ≤ max_topics
  starts-few = rw (length-map (kept_places mode m) (λ (s : Span). s.start)) (kept-few mode m)

  sizes-few : length (sizes_of (kept_places mode m)) ≤ max_topics
  sizes-few = rw (length-map (kept_places mode m) (λ (s : Span). s.size)) (kept-few mode m)

  pub noted_here : Roomy t → p < message_limit → topics_at (noted mode m p t) p ≡ kept_places mode m
  unfolding topics_at noted
  noted_here r h =
      rw (get_or-set_same t.counts p (length (kept_places mode m)) 0 (omega (arith, r.counts)))
      (spans_put t.starts t.sizes (p * max_topics) (kept_places mode m) (omega (arith, kept-few mode m, r.starts))
      (omega (arith, kept-few mode m, r.sizes)))

  pub noted_other : (q : ℕ) → (q ≢ p) → slice_index t.counts q ≤ max_topics
      → topics_at (noted mode m p t) q ≡ topics_at t q
  unfolding topics_at noted
  noted_other q other k =
      rw (get_or-set_other t.counts p q (length (kept_places mode m)) 0 other)
      (spans_take _ _ _ _ (slice_index t.counts q)
      (part-kept t.starts (starts_of (kept_places mode m)) p q (slice_index t.counts q) starts-few k other)
      (part-kept t.sizes (sizes_of (kept_places mode m)) p q (slice_index t.counts q) sizes-few k other))

  pub noted-roomy : Roomy t → Roomy (noted mode m p t)
  unfolding noted
  noted-roomy r =
      record {
        counts = length-set t.counts p (length (kept_places mode m)) ∙ r.counts;
        starts = length-sets t.starts (p * max_topics) (starts_of (kept_places mode m)) ∙ r.starts;
        sizes = length-sets t.sizes (p * max_topics) (sizes_of (kept_places mode m)) ∙ r.sizes;
      }
