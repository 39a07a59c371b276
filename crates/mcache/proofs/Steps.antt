-- The steps on the rows, as the code makes them.
use Rattle.std.specs.Prelude.{Ok, Err}
use Rattle.std.proofs.Common.{◌≡◌, ℕ, ◌+◌, ◌-◌, ◌*◌, ◌%◌, ◌^◌, ◌<◌, ◌≤◌, true, false, leb, List, ◌++◌, map, length, drop, set, replicate, sym, ap, ◌∙◌, subst, zero-add, arith, eq-eqb, ne_eqb, le-leb}
use lib.Seq.{sets}
use borrow.Author.Tests.{lt-leb}
use Rattle.basis.specs.Dialect.{mode_of}
use Rattle.basis.specs.Writing.{set_in}
use Rattle.basis.specs.Lists.{set-fits}
use Rattle.rows.specs.declared.Ring.{Ring}
use Rattle.rows.specs.Rows.{place_of}
use Rattle.rows.specs.Ids.{index_of}
use Rattle.rows.specs.RowsLaws.{place-lt, place-le}
use Rattle.rows.specs.Store.{ids_in, in_use}
use Rattle.admission.specs.Admission.{starts_of, sizes_of}
use Rattle.admission.specs.Flags.{known_flags}
use Rattle.mcache.specs.declared.MessageCache.{MessageCache}
use Rattle.mcache.specs.declared.GossipIds.{GossipIds}
use Rattle.basis.specs.declared.Fault.TheVariants as fault
use Rattle.mcache.specs.declared.GossipError.TheVariants as gossip
use Rattle.mcache.specs.State.{Placed, Found, legal, fresh, dropped, appended, passed, aged, older, stale, message_size, message_id_size, message_limit, max_history, ring_of, max_topics, kept_places, noted}
use Rattle.mcache.specs.Calls.{start_answer, start_cache, index_in, entered, entered_store, shifted, gossip_list, gossip_array, rows_lie, tell_answer, tell_count, tell_rows}
use Rattle.mcache.specs.Unique.{TellsRows}
use Rattle.mcache.specs.CachedLaws.{stale_in}

-- ---- start
module _ (history max flags : ℕ) where
  abbrev Refuses : Type 0
  Refuses = (Err fault.BadSetting ≡ start_answer history max flags) × (fresh 1 0 0 ≡ start_cache history max flags)

  pub start_none : history ≡ 0 → Refuses
  unfolding start_answer start_cache legal
  start_none h = let l = lt-leb 1 history (omega arith) in (simp l, simp l)

  module _ (n : history ≡ 0 → ⊥) where
    some : leb 1 history ≡ true
    some = le-leb 1 history (omega (arith, n))

    pub start-long : max_history < history → Refuses
    unfolding start_answer start_cache legal
    start-long h = let l = lt-leb history max_history h in (simp (some, l), simp (some, l))

    module _ (h : history ≤ max_history) where
      few : leb history max_history ≡ true
      few = le-leb history max_history h

      pub start-many : message_limit < max → Refuses
      unfolding start_answer start_cache legal
      start-many m = let j = lt-leb max message_limit m in (simp (some, few, j), simp (some, few, j))

      module _ (m : max ≤ message_limit) where
        pub start-unknown : known_flags flags ≡ false → Refuses
        unfolding start_answer start_cache legal
        start-unknown u = let j = le-leb max message_limit m in (simp (some, few, j, u), simp (some, few, j, u))

        pub start_fits : known_flags flags ≡ true
            → (Ok tt ≡ start_answer history max flags) × (fresh history max flags ≡ start_cache history max flags)
        unfolding start_answer start_cache legal
        start_fits u = let j = le-leb max message_limit m in (simp (some, few, j, u), simp (some, few, j, u))

-- ---- without the oldest
pub dropped-is : (k p : ℕ) (c : MessageCache) → p ≡ place_of (ring_of c) k
    → ◌≡◌ {A = MessageCache}
    (record {
      history_len = c.history_len;
      max_messages = c.max_messages;
      next_generation = c.next_generation;
      start = p;
      count = c.count - k;
      generation = c.generation;
      window = c.window;
      len = c.len;
      id_len = c.id_len;
      ids = c.ids;
      topic_count = c.topic_count;
      topic_start = c.topic_start;
      topic_len = c.topic_len;
      flags = c.flags;
    })
    (dropped k c)
unfolding dropped
dropped-is k p c h = rw h

pub kept-dropped : (k : ℕ) (c : MessageCache) (st : List ℕ) → Placed c st → k ≤ c.count → Placed (dropped k c) st
unfolding dropped
kept-dropped k c st ok h =
    record {
      few = ok.few;
      starts = place-le (ring_of c) k ok.starts (omega (arith, ok.within));
      within = omega (arith, ok.within);
      room = ok.room;
      lengths = ok.lengths;
      id-lengths = ok.id-lengths;
      id-room = ok.id-room;
      topics = ok.topics;
      windows = ok.windows;
      generations = ok.generations;
    }

-- ---- a message more
pub bytes-put : (at : ℕ) (bs out out2 : List ℕ) → at + length bs ≤ length out → out2 ≡ set_in (length bs) at bs out → out2 ≡ sets out at bs
bytes-put at bs out out2 h e = e ∙ set-fits (length bs) at bs out h

-- the next place
pub next_lies : (c : MessageCache) (st : List ℕ) (p : ℕ) → Placed c st → c.count < c.max_messages → p ≡ place_of (ring_of c) c.count
    → (p < message_limit) × (p * message_size + message_size ≤ length st) × (p * message_id_size + message_id_size ≤ length c.ids) × (p < length c.len)
    × (p < length c.id_len) × (p < length c.window) × (p < length c.generation)
    × (p < length c.topic_count) × (p * max_topics + max_topics ≤ length c.topic_start) × (p * max_topics + max_topics ≤ length c.topic_len)
next_lies c st p ok h e =
    let l : p < c.max_messages = rw e (place-lt (ring_of c) c.count ok.starts h) in (
      omega (arith, ok.few),
      omega (arith, ok.room),
      omega (arith, ok.few, ok.id-room),
      omega (arith, ok.few, ok.lengths),
      omega (
        arith,
        ok.few,
        ok.id-lengths,
      ),
      omega (arith, ok.few, ok.windows),
      omega (arith, ok.few, ok.generations),
      omega (arith, ok.few, ok.topics.counts),
      omega (arith, ok.few, ok.topics.starts),
      omega (arith, ok.few, ok.topics.sizes),
    )

pub appended-is : (m id : List ℕ) (c : MessageCache) (p g n : ℕ) (ids starts sizes : List ℕ) → n ≡ length (kept_places (mode_of c.flags) m) → starts ≡ sets c.topic_start (p * max_topics) (starts_of (kept_places (mode_of c.flags) m))
    → sizes ≡ sets c.topic_len (p * max_topics) (sizes_of (kept_places (mode_of c.flags) m)) → p ≡ place_of (ring_of c) c.count → g ≡ (c.next_generation + 1) % 2
    ^ 64 → ids ≡ sets c.ids (p * message_id_size) id
    → ◌≡◌ {A = MessageCache}
    (record {
      history_len = c.history_len;
      max_messages = c.max_messages;
      next_generation = g;
      start = c.start;
      count = c.count + 1;
      generation = set c.generation p c.next_generation;
      window = set c.window p 0;
      len = set c.len p (length m);
      id_len = set c.id_len p (length id);
      ids = ids;
      topic_count = set c.topic_count p n;
      topic_start = starts;
      topic_len = sizes;
      flags = c.flags;
    })
    (appended m id c)
unfolding appended noted
appended-is m id c p g n ids starts sizes a b d h e f = rw (a, b, d, f, e, h)

pub appended-store : (c : MessageCache) (p : ℕ) (st st2 m : List ℕ) → p ≡ place_of (ring_of c) c.count → st2 ≡ sets st (p * message_size) m → st2 ≡
    sets st (place_of (ring_of c) c.count * message_size) m
appended-store c p st st2 m h e = e ∙ ap (λ (i : ℕ). sets st (i * message_size) m) h

module _ (c : MessageCache) (st m id : List ℕ) where
  -- with max_messages 0 nothing is kept
  pub entered-none : (g : ℕ) → c.max_messages ≡ 0 → g ≡ (c.next_generation + 1) % 2 ^ 64
      → (◌≡◌ {A = MessageCache}
      (record {
        history_len = c.history_len;
        max_messages = c.max_messages;
        next_generation = g;
        start = c.start;
        count = c.count;
        generation = c.generation;
        window = c.window;
        len = c.len;
        id_len = c.id_len;
        ids = c.ids;
        topic_count = c.topic_count;
        topic_start = c.topic_start;
        topic_len = c.topic_len;
        flags = c.flags;
      })
      (entered m id c)) × (st ≡ entered_store c st m)
  unfolding entered entered_store passed
  entered-none g h e = let z = eq-eqb c.max_messages 0 h in (rw (z, e), rw z)

  module _ (k : ℕ) (d : MessageCache) (some : c.max_messages ≡ 0 → ⊥) (ek : k ≡ (c.count + 1) - c.max_messages) (ed : d ≡ dropped k c) where
    pub enter-room : Placed c st → Placed d st × (d.count < d.max_messages)
    unfolding dropped
    enter-room ok =
        let w = ok.within in
        let n : d.count ≡ c.count - k = ap (λ (x : MessageCache). x.count) ed in
        let x : d.max_messages ≡ c.max_messages = ap (λ (x : MessageCache). x.max_messages) ed in
        (rw ed (kept-dropped k c st ok (omega (arith, some))), omega (arith, some))

    pub enter-found : (n : ℕ) (a b : List ℕ) → Found (mode_of c.flags) m n a b → Found (mode_of d.flags) m n a b
    unfolding dropped
    enter-found n a b f = subst (λ (x : MessageCache). Found (mode_of x.flags) m n a b) (sym ed) f

    pub entered-some : (r : MessageCache) (st2 : List ℕ) → r ≡ appended m id d → st2 ≡ sets st (place_of (ring_of d) d.count * message_size) m
        → (r ≡ entered m id c) × (st2 ≡ entered_store c st m)
    unfolding entered entered_store dropped
    entered-some r st2 er es =
        let z = ne_eqb c.max_messages 0 some in
        let w : d ≡ dropped ((c.count + 1) - c.max_messages) c = ed ∙ ap (λ (i : ℕ). dropped i c) ek in
        (rw z (er ∙ ap (appended m id) w), rw z (es ∙ ap (λ (x : MessageCache). sets st (place_of (ring_of x) x.count * message_size) m) w))

-- ---- finding
pub index_is : (c : MessageCache) (id : List ℕ) (r : ℕ) → r ≡ 0 + index_of id (drop 0 (ids_in message_id_size (ring_of c) c.id_len c.ids)) → r ≡
    index_in c id
unfolding index_in
index_is c id r e = e ∙ zero-add (index_of id (ids_in message_id_size (ring_of c) c.id_len c.ids))

-- ---- a window later
pub stale-within : (history : ℕ) (ring : Ring) (l : List ℕ) (k : ℕ) → k ≡ stale history (in_use ring l) → k ≤ ring.count
stale-within history ring l k e = let h = stale_in history ring l in omega arith

pub shifted-is : (c : MessageCache) (k : ℕ) (w : List ℕ) (r : MessageCache) → k ≡ stale c.history_len (in_use (ring_of c) c.window) → w ≡ map
    older c.window
    → r ≡ dropped k (record {
      history_len = c.history_len;
      max_messages = c.max_messages;
      next_generation = c.next_generation;
      start =
          c.start;
      count = c.count;
      generation = c.generation;
      window = w;
      len = c.len;
      id_len = c.id_len;
      ids = c.ids;
      topic_count = c.topic_count;
      topic_start = c.topic_start;
      topic_len = c.topic_len;
      flags = c.flags;
    })
    → r ≡ shifted c
unfolding shifted aged
shifted-is c k w r ek ew e = e ∙ rw (ew, ek)

-- ---- telling
told-rows : (c : MessageCache) (st topic : List ℕ) (windows n : ℕ) (rows : List ℕ) (l : List ℕ) → l ≡ gossip_list c st topic windows → n ≡ length l →
    rows ≡ l ++ drop n (replicate message_limit 0)
    → (n ≡ length (gossip_list c st topic windows)) × (rows ≡ gossip_array c st topic windows)
unfolding gossip_array
told-rows c st topic windows n rows l e f g = (rw (← e) f, rw (← e) (g ∙ ap (λ (k : ℕ). l ++ drop k (replicate message_limit 0)) f))

module _ (c : MessageCache) (st topic : List ℕ) (windows : ℕ) where
  pub tells-rows : (n : ℕ) (rows l : List ℕ) → rows_lie (ring_of c) ≡ true → l ≡ gossip_list c st topic windows → n ≡ length l → rows ≡ l ++ drop n
      (replicate message_limit 0)
      → TellsRows c st topic windows (record { answer = Ok tt; count = n; rows = rows })
  unfolding tell_answer tell_count tell_rows
  tells-rows n rows l h e f g = let q = told-rows c st topic windows n rows l e f g in record {
    answer = rw h;
    count = rw h q.0;
    rows = rw h q.1;
  }

  pub tells_none : (r : GossipIds) → rows_lie (ring_of c) ≡ false → (r.answer ≡ Err (gossip.Faulty fault.Malformed)) × ((r.count ≡ 0) × (r.rows ≡ replicate message_limit
      0)) → TellsRows c st topic windows r
  unfolding tell_answer tell_count tell_rows
  tells_none r h e = record { answer = rw h e.0; count = rw h e.1.0; rows = rw h e.1.1 }
