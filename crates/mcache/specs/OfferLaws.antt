-- Why an id is told of or not: each answer exactly.
use Rattle.std.specs.Prelude.{Ok, ◌≡◌, ℕ, suc, ◌-◌, ◌<◌, ◌≤◌, Bool, true, false, not, ◌⊎◌, ◌↔◌, List, [], ◌∷◌, length, ◌≢◌, nat_le, nat_lt, slice_index_or}
use Rattle.std.proofs.Math.Path.{refl, sym, ap}
use Rattle.std.proofs.Common.{◌∙◌, arith}
use mathlib.Core.List.Memᴰ
use mathlib.Core.List.{Memᴰ}
use Rattle.std.proofs.Math.Logic.{inl, inr, ⊎_elim}
use borrow.Author.Tests.{leb-true, ltb-true, ltb-false, lt-ltb, le-ltb}
use Rattle.basis.specs.declared.Mode.{Mode}
use Rattle.basis.specs.Dialect.{mode_of}
use Rattle.basis.specs.Cases.{either, clash, both}
use Rattle.rows.specs.Rows.{place_of}
use Rattle.rows.specs.Ids.{same_bytes, among, distinct, index_of}
use Rattle.rows.specs.IdsLaws.{same_self, same_equal}
use Rattle.mcache.specs.declared.MessageCache.{MessageCache}
use Rattle.mcache.specs.declared.Offer.{Offer}
use Rattle.mcache.specs.declared.Offer.TheVariants as offer
use Rattle.mcache.specs.Messages.{Cached, topics, ids_of, held, gossip_ids, offer_for, offer_of}
use Rattle.mcache.specs.State.{cached_at, cached_in, falls_from, ring_of}
use Rattle.mcache.specs.Calls.{lent_of, index_in, offer_at, offer_in}
use Rattle.mcache.specs.StateLaws.{fine-tests}
use Rattle.mcache.specs.GuardLaws.{fine_lies}
use Rattle.mcache.specs.CachedLaws.{windows_of, length-cached, ids-cached, windows-cached, new}
use Rattle.mcache.specs.Laws.{index-cached, row-cached}
use Rattle.mcache.specs.GossipLaws.{among_in, in_among, mem_held, topic-kept, gossip_exactly}

-- ---- what each answer says of an id, a topic, the windows asked for and the messages; `is` tells which is given
pub record Answers (mode : Mode) (id topic : List ℕ) (windows : ℕ) (ms : List Cached) (is : Offer
    → Type 0) : Type 0 where
  -- no cached message has the id
  pub not-cached : is offer.NotCached ↔ ((m : Cached) → Memᴰ m ms → m.id ≢ id)
  -- a cached message has it, and the topic is not among its topics
  pub without-topic : is offer.WithoutTopic
      ↔ ((m : Cached) × Memᴰ m ms × (m.id ≡ id) × (Memᴰ topic (topics mode m) → ⊥))
  -- a cached message has it and carries the topic; this is its window's age, which the windows asked for do not reach
  pub older-window : (age : ℕ) → is (offer.OlderWindow age)
      ↔ ((m : Cached) × Memᴰ m ms × (m.id ≡ id) × Memᴰ topic (topics mode m) × (m.window ≡ age)
      × (windows ≤ age))
  -- it is among the ids that are told of
  pub listed : is offer.Listed ↔ (among id (gossip_ids mode topic windows ms) ≡ true)

-- told in other words, they are the same
pub answers_as : (mode : Mode) {id topic : List ℕ} {windows : ℕ} {ms : List Cached} {is has : Offer → Type 0}
    → ((o : Offer) → has o ↔ is o) → Answers mode id topic windows ms is → Answers mode id topic windows ms has
answers_as mode w a =
    record {
      not-cached = (λ h. a.not-cached.0 ((w offer.NotCached).0 h), λ x. (w offer.NotCached).1 (a.not-cached.1 x));
      without-topic = (
        λ h. a.without-topic.0 ((w offer.WithoutTopic).0 h),
        λ x. (w offer.WithoutTopic).1 (a.without-topic.1 x),
      );
      older-window = λ age. (
        λ h. (a.older-window age).0 ((w (offer.OlderWindow age)).0 h),
        λ x. (w (offer.OlderWindow age)).1 ((a.older-window age).1 x),
      );
      listed = (λ h. a.listed.0 ((w offer.Listed).0 h), λ x. (w offer.Listed).1 (a.listed.1 x));
    }

-- ---- of one message
module _ (age windows : ℕ) where
  for_none : (carried : Bool) → offer_for carried age windows ≢ offer.NotCached
  for_none true h = either (nat_lt age windows) (λ t. clash (let z = rw t at h in cc))
      (λ t. clash (let z = rw t at h in cc))
  for_none false h = clash (cc)

  for_without : (carried : Bool) → offer_for carried age windows ≡ offer.WithoutTopic → carried ≡ false
  for_without true h =
      either (nat_lt age windows) (λ t. clash (let z = rw t at h in cc)) (λ t. clash (let z = rw t at h in cc))
  for_without false h = refl

  for_older : (carried : Bool) (k : ℕ) → offer_for carried age windows ≡ offer.OlderWindow k → (carried ≡ true)
      × (age ≡ k) × (windows ≤ age)
  for_older true k h =
      either (nat_lt age windows) (λ t. clash (let z = rw t at h in cc))
      (λ t. let z : offer.OlderWindow age ≡ offer.OlderWindow k = rw t at h in (refl, cc, ltb-false age windows t))
  for_older false k h = clash (cc)

  for_listed : (carried : Bool) → offer_for carried age windows ≡ offer.Listed → (carried ≡ true) × (age < windows)
  for_listed true h =
      either (nat_lt age windows) (λ t. (refl, ltb-true age windows t)) (λ t. clash (let z = rw t at h in cc))
  for_listed false h = clash (cc)

-- ---- of the messages
module _ (mode : Mode) (id topic : List ℕ) (windows : ℕ) where
  abbrev says_of : Cached → Offer
  says_of m = offer_for (among topic (topics mode m)) m.window windows

  abbrev Named : List Cached → Type 0
  Named ms = (m : Cached) × Memᴰ m ms × (m.id ≡ id) × (offer_of mode id topic windows ms ≡ says_of m)

  abbrev None : List Cached → Type 0
  None ms = ((m : Cached) → Memᴰ m ms → m.id ≢ id) × (offer_of mode id topic windows ms ≡ offer.NotCached)

  -- none has the id, or it is said of one that has it
  cases : (ms : List Cached) → None ms ⊎ Named ms
  unfolding offer_of
  cases [] = inl (λ m d e. absurd (Memᴰ.not-nil d), refl)
  cases (k ∷ ms) =
      either (same_bytes k.id id)
      (λ t. inr (k, Memᴰ.head refl, same_equal k.id id t, rw t))
      (λ t. ⊎_elim
      (λ (n : None ms). inl (
        λ m d e. ⊎_elim
            (λ (g : m ≡ k). clash (let s = same_self id in let q : k.id ≡ id = rw g at e in let r = rw q at t in cc))
            (λ (r : Memᴰ m ms). n.0 m r e) (Memᴰ.cases_cons d),
        rw t n.1,
      ))
      (λ (y : Named ms). inr (y.0, Memᴰ.tail y.1, y.2, rw t y.3))
      (cases ms))

  -- ids differ: it is said of the one that has it
  the_one : (ms : List Cached) → distinct (ids_of ms) ≡ true → (m : Cached) → Memᴰ m ms → m.id ≡ id
      → offer_of mode id topic windows ms ≡ says_of m
  unfolding offer_of distinct held
  the_one [] u m d e = absurd (Memᴰ.not-nil d)
  the_one (k ∷ ms) u m d e =
      let b = both (not (among k.id (ids_of ms))) (distinct (ids_of ms)) u in
      ⊎_elim
      (λ (g : m ≡ k). let q : k.id ≡ id = rw g at e in rw (q, same_self id, g))
      (λ (r : Memᴰ m ms).
      either (same_bytes k.id id)
      (λ t. clash (let q : k.id ≡ id = same_equal k.id id t in
      let h : among m.id (ids_of ms) ≡ true = mem_held m ms r in
      let z = rw e at h in let y = rw (q, z) at b.0 in cc))
      (λ t. rw t (the_one ms b.1 m r e)))
      (Memᴰ.cases_cons d)

  -- so
  module _ (ms : List Cached) (once : distinct (ids_of ms) ≡ true) where
    abbrev said : Offer
    said = offer_of mode id topic windows ms

    pub offer_exactly : Answers mode id topic windows ms (λ o. offer_of mode id topic windows ms ≡ o)
    offer_exactly =
        record {
          not-cached = (
            λ h m d e. for_none m.window windows (among topic (topics mode m)) (sym (the_one ms once m d e) ∙ h),
            λ h. ⊎_elim (λ (n : None ms). n.1) (λ (y : Named ms). absurd (h y.0 y.1 y.2)) (cases ms),
          );
          without-topic = (
            λ h. ⊎_elim (λ (n : None ms). clash (let z = sym n.1 ∙ h in cc))
                (λ (y : Named ms).
                let f = for_without y.0.window windows (among topic (topics mode y.0)) (sym y.3 ∙ h) in
                (y.0, y.1, y.2, λ d. clash (let g = in_among topic (topics mode y.0) d in cc)))
                (cases ms),
            λ y. the_one ms once y.0 y.1 y.2
                ∙ either (among topic (topics mode y.0)) (λ t. absurd (y.3 (among_in topic (topics mode y.0) t)))
                (λ t. rw t),
          );
          older-window = λ age. (
            λ h. ⊎_elim (λ (n : None ms). clash (let z = sym n.1 ∙ h in cc))
                (λ (y : Named ms).
                let f = for_older y.0.window windows (among topic (topics mode y.0)) age (sym y.3 ∙ h) in
                (y.0, y.1, y.2, among_in topic (topics mode y.0) f.0, f.1, omega (arith, f.1, f.2)))
                (cases ms),
            λ y. the_one ms once y.0 y.1 y.2
                ∙ rw (in_among topic (topics mode y.0) y.3, y.4, le-ltb age windows y.5),
          );
          listed = (
            λ h. ⊎_elim (λ (n : None ms). clash (let z = sym n.1 ∙ h in cc))
                (λ (y : Named ms).
                let f = for_listed y.0.window windows (among topic (topics mode y.0)) (sym y.3 ∙ h) in
                (gossip_exactly mode id topic windows ms).1
                (record {
                  entry = y.0;
                  cached = y.1;
                  named = y.2;
                  recent = f.1;
                  carries = among_in topic (topics mode y.0) f.0;
                }))
                (cases ms),
            λ h. let t = (gossip_exactly mode id topic windows ms).0 h in
                the_one ms once t.entry t.cached t.named
                ∙ rw (
                  in_among topic (topics mode t.entry) t.carries,
                  lt-ltb t.entry.window windows
                      t.recent,
                ),
          );
        }

-- ---- the cache answers so
module _ (mode : Mode) (id topic : List ℕ) (windows : ℕ) where
  offer_here : (ms : List Cached) (d : Cached) → index_of id (ids_of ms) < length ms
      → offer_of mode id topic windows ms ≡ says_of mode id topic windows (slice_index_or ms (index_of id (ids_of ms)) d)
  unfolding offer_of index_of
  offer_here [] d h = absurd (omega arith)
  offer_here (m ∷ ms) d h =
      either (same_bytes m.id id) (λ t. rw t)
      (λ t. let k : suc (index_of id (ids_of ms)) < suc (length ms) = rw t at h in rw t (offer_here ms d (omega arith)))

  offer_none : (ms : List Cached) → length ms ≤ index_of id (ids_of ms)
      → offer_of mode id topic windows ms ≡ offer.NotCached
  unfolding offer_of index_of
  offer_none [] h = refl
  offer_none (m ∷ ms) h =
      either (same_bytes m.id id) (λ t. let k : suc (length ms) ≤ 0 = rw t at h in absurd (omega arith))
      (λ t. let k : suc (length ms) ≤ suc (index_of id (ids_of ms)) = rw t at h in rw t (offer_none ms (omega arith)))

module _ (id topic : List ℕ) (windows : ℕ) (c : MessageCache) (st : List ℕ) (fine : lent_of c st ≡ Ok tt) where
  offer_row : (i : ℕ) → i < c.count
      → offer_at c st topic windows (place_of (ring_of c) i)
      ≡ says_of (mode_of c.flags) id topic windows (cached_at c st (place_of (ring_of c) i))
  unfolding offer_at cached_at
  offer_row i h = rw (topic-kept c st topic i (fine-tests c st fine) h)

  pub offer_cached : offer_in c st id topic windows ≡ offer_of (mode_of c.flags) id topic windows (cached_in c st)
  unfolding offer_in
  offer_cached =
      let x = index-cached c st id in
      let n = length-cached c st in
      rw (fine_lies c st fine)
      (either (nat_lt (index_in c id) c.count)
      (λ t.
      let h = ltb-true (index_in c id) c.count t in
      rw t (offer_row (index_in c id) h ∙ sym (offer_here (mode_of c.flags) id topic windows (cached_in c st)
      (new [] []) (omega arith)
      ∙ ap (λ (j : ℕ). says_of (mode_of c.flags) id topic windows (slice_index_or (cached_in c st) j (new [] []))) x
      ∙ ap (says_of (mode_of c.flags) id topic windows) (row-cached c st (index_in c id) (new [] []) h))))
      (λ t. let h = ltb-false (index_in c id) c.count t in rw t
      (sym (offer_none (mode_of c.flags) id topic windows (cached_in c st) (omega arith)))))

  -- each answer, exactly, of a tested cache
  pub answers-exactly : Answers (mode_of c.flags) id topic windows (cached_in c st)
      (λ o. offer_in c st id topic windows ≡ o)
  answers-exactly =
      answers_as (mode_of c.flags) (λ o. (λ h. sym offer_cached ∙ h, λ h. offer_cached ∙ h))
      (offer_exactly (mode_of c.flags) id topic windows (cached_in c st)
      (rw (ids-cached c st) (fine-tests c st fine).once))

-- ---- an age that is named is below history_len
falls_mem : (most : ℕ) (m : Cached) (ms : List Cached) → falls_from most (windows_of ms) ≡ true → Memᴰ m ms
    → m.window ≤ most
unfolding falls_from
falls_mem most m [] f d = absurd (Memᴰ.not-nil d)
falls_mem most m (k ∷ ms) f d =
    let b = both (nat_le k.window most) (falls_from k.window (windows_of ms)) f in
    let l = leb-true k.window most b.0 in
    ⊎_elim (λ (e : m ≡ k). omega (arith, ap (λ (x : Cached). x.window) e))
    (λ (r : Memᴰ m ms). omega (arith, falls_mem k.window m ms b.1 r)) (Memᴰ.cases_cons d)

pub cached-recent : (c : MessageCache) (st : List ℕ) (m : Cached) → lent_of c st ≡ Ok tt
    → Memᴰ m (cached_in c st)
    → m.window < c.history_len
cached-recent c st m fine d =
    let t = fine-tests c st fine in
    omega (
      arith,
      t.history_some,
      falls_mem (c.history_len - 1) m (cached_in c st)
          (rw (windows-cached c st) t.falls) d,
    )
