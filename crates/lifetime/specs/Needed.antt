-- No part of the theorem can be had for less: four sentences that ask less or say more, each false by a computed
-- history; and one answer more within a stretch of ttl is too many.
use Rattle.std.specs.Prelude.{Option, Some, None, ℕ, ◌+◌, ◌-◌, ◌^◌, ◌≤◌, ◌<◌, ◌≡◌, refl, List, [], ◌∷◌, ◌++◌, ◌⊎◌}
use Rattle.std.specs.Prelude.{length, take}
use Rattle.std.proofs.Common.{ap, ◌∙◌, inl, inr, ⊎_elim, arith}
use Rattle.basis.specs.Cases.{either}
use Rattle.seen.specs.Entries.{until}
use Rattle.history.specs.History.{State, Settings, Fresh, Call, after, after_all, reading}
use Rattle.history.specs.Script.{call_of, calls_of}
use Rattle.history.specs.Samples.{start}
use Rattle.lifetime.specs.Lifetime.{made_new, Twice, others_new, is_within, is_made, new_within}
use Rattle.lifetime.specs.Never.{never-until, until_reached}
use Rattle.lifetime.specs.Tight.{signed_at, first_form, usual, two-others, one_other, exactly-ttl, exactly-max}
use Rattle.lifetime.specs.Tight.{one-short, last-reading}

-- ---- the sentence, with its parts left open: what it asks of the second reading, what it says of the two readings and
-- ttl, what it says of max_seen and the others, and which of the calls between it counts
abbrev pub Sentence : (ℕ → Type 0) → (ℕ → ℕ → ℕ → Type 0) → (ℕ → ℕ → Type 0) → (List Call → List Call) → Type 0
Sentence asked reached crowded counted =
    (x : Settings) (s : State) → Fresh x s → (before : List Call) (first : Call) (between : List Call) (second : Call)
    (at later : ℕ) (form : List ℕ) → Twice s before first between second at later form → asked later
    → reached at x.ttl later ⊎ crowded x.max_seen (others_new form (counted between) (after first (after_all before s)))

-- as it is proved
pub the_sentence : Sentence (λ (later : ℕ). later < 2 ^ 64 - 1) (λ (at ttl later : ℕ). at + ttl ≤ later)
    (λ (max others : ℕ). max ≤ others) (λ (between : List Call). between)
the_sentence x s fresh before first between second at later form t small =
    ⊎_elim (λ (e : until at x.ttl ≤ later). inl (until_reached at x.ttl later small e)) (λ e. inr e) (never-until fresh t)

-- ---- more than max_seen others: false where there are exactly max_seen
pub not_more : Sentence (λ (later : ℕ). later < 2 ^ 64 - 1) (λ (at ttl later : ℕ). at + ttl ≤ later)
    (λ (max others : ℕ). max < others) (λ (between : List Call). between) → ⊥
not_more says =
    let e = exactly-max.between_are in
    ⊎_elim (λ (h : 100 + 1000 ≤ 100). omega arith)
    (λ (h : 2 < others_new first_form (calls_of two-others) (after (call_of (signed_at 1 100)) (after_all [] (start usual)))).
    omega arith)
    (says usual (start usual) exactly-max.fresh [] (call_of (signed_at 1 100)) (calls_of two-others)
    (call_of (signed_at 1 100)) 100 100 first_form exactly-max.twice (omega arith))

-- ---- strictly after ttl: false exactly ttl later
pub not_after : Sentence (λ (later : ℕ). later < 2 ^ 64 - 1) (λ (at ttl later : ℕ). at + ttl < later)
    (λ (max others : ℕ). max ≤ others) (λ (between : List Call). between) → ⊥
not_after says =
    let e = exactly-ttl.between_are in
    ⊎_elim (λ (h : 100 + 1000 < 1100). omega arith)
    (λ (h : 2 ≤ others_new first_form (calls_of []) (after (call_of (signed_at 1 100)) (after_all [] (start usual)))).
    omega arith)
    (says usual (start usual) exactly-ttl.fresh [] (call_of (signed_at 1 100)) (calls_of []) (call_of (signed_at 1 1100))
    100 1100 first_form exactly-ttl.twice (omega arith))

-- ---- the last call between left out: false where it is one of exactly max_seen
but_last : take (length (calls_of two-others) - 1) (calls_of two-others) ≡ calls_of one_other
unfolding calls_of
but_last = refl

pub not-without-last : Sentence (λ (later : ℕ). later < 2 ^ 64 - 1) (λ (at ttl later : ℕ). at + ttl ≤ later)
    (λ (max others : ℕ). max ≤ others) (λ (between : List Call). take (length between - 1) between) → ⊥
not-without-last says =
    let now = after (call_of (signed_at 1 100)) (after_all [] (start usual)) in
    let e = ap (λ (l : List Call). others_new first_form l now) but_last ∙ one-short.between_are in
    ⊎_elim (λ (h : 100 + 1000 ≤ 100). omega arith)
    (λ (h : 2 ≤ others_new first_form (take (length (calls_of two-others) - 1) (calls_of two-others)) now). omega arith)
    (says usual (start usual) exactly-max.fresh [] (call_of (signed_at 1 100)) (calls_of two-others)
    (call_of (signed_at 1 100)) 100 100 first_form exactly-max.twice (omega arith))

-- ---- any second reading that 64 bits hold: false at the last of them
pub not-last-reading : Sentence (λ (later : ℕ). later < 2 ^ 64) (λ (at ttl later : ℕ). at + ttl ≤ later)
    (λ (max others : ℕ). max ≤ others) (λ (between : List Call). between) → ⊥
not-last-reading says =
    let e = last-reading.between_are in
    let first = call_of (signed_at 1 (2 ^ 64 - 2)) in
    ⊎_elim (λ (h : (2 ^ 64 - 2) + 1000 ≤ 2 ^ 64 - 1). omega arith)
    (λ (h : 2 ≤ others_new first_form (calls_of []) (after first (after_all [] (start usual)))). omega arith)
    (says usual (start usual) last-reading.fresh [] first (calls_of []) (call_of (signed_at 1 (2 ^ 64 - 1))) (2 ^ 64 - 2)
    (2 ^ 64 - 1) first_form last-reading.twice (omega arith))

-- ---- max_seen + 2 calls that make a form new within a stretch of ttl: too many, where they are all there are
one_at_most : (o : Option (List ℕ)) → is_made o ≤ 1
one_at_most None = omega arith
one_at_most (Some form) = omega arith

within-most : (from ttl : ℕ) (calls : List Call) (s : State) → new_within from ttl calls s ≤ length calls
unfolding new_within
within-most from ttl [] s = omega arith
within-most from ttl (c ∷ cs) s =
    let r = within-most from ttl cs (after c s) in
    let o = one_at_most (made_new s c) in
    either (is_within from ttl (reading c)) (λ t. rw t (omega arith)) (λ t. rw t (omega arith))

four-calls : length (calls_of two-others ++ (call_of (signed_at 1 100) ∷ [])) ≡ 3
unfolding calls_of
four-calls = refl

pub not-one_more : ((x : Settings) (s : State) → Fresh x s → (before : List Call) (first : Call) (between : List Call)
    (second : Call) (at later : ℕ) (form : List ℕ) → Twice s before first between second at later form
    → ((from : ℕ) → new_within from x.ttl (before ++ (first ∷ (between ++ (second ∷ [])))) s ≤ x.max_seen + 2)
    → later < 2 ^ 64 - 1 → at + x.ttl ≤ later) → ⊥
not-one_more says =
    let calls = call_of (signed_at 1 100) ∷ (calls_of two-others ++ (call_of (signed_at 1 100) ∷ [])) in
    let few : (from : ℕ) → new_within from 1000 calls (start usual) ≤ 2 + 2 =
    λ from. omega (arith, within-most from 1000 calls (start usual), four-calls) in
    let late : 100 + 1000 ≤ 100 = says usual (start usual) exactly-max.fresh [] (call_of (signed_at 1 100))
    (calls_of two-others) (call_of (signed_at 1 100)) 100 100 first_form exactly-max.twice few (omega arith) in
    omega arith
