-- The test of a lent node asks exactly what the clauses of WellFormed say, and every state that the calls reach passes
-- it.
use Prim.Native.Nat.{ℕ, zero, suc, ◌-◌, ◌*◌, ◌≤◌, ◌<◌}
use Rattle.std.specs.Prelude.{Result, Ok, Err, ◌≡◌, List, [], ◌∷◌, ◌++◌, map, Bool, true, cond, ◌&&◌, ◌↔◌, drop, get_or, leb}
use Rattle.std.proofs.Math.Path.{refl}
use Rattle.std.proofs.Common.{◌∙◌, arith, zero-lt-suc, le-leb, leb-true}
use Rattle.std.proofs.lemmas.List.{map-append}
use Rattle.std.proofs.Math.ListN.{length}
use Rattle.basis.specs.Dialect.{mode_of}
use Rattle.basis.specs.declared.Edition.{Edition}
use Rattle.basis.specs.Cases.{either, both}
use Rattle.rows.specs.declared.Ring.{Ring}
use Rattle.rows.specs.Rows.{tab, place_of, rows_in, newest}
use Rattle.rows.specs.RowsLaws.{length-tab, get_d_tab}
use Rattle.rows.specs.ListLaws.{map-drop}
use Rattle.rows.specs.Store.{in_use, all_up_to}
use Rattle.admission.specs.Admission.{topic_places, gives_id}
use Rattle.seen.specs.declared.SeenCache.{SeenCache}
use Rattle.seen.specs.Entries.{Entry, holds, until, inserted, live}
use Rattle.seen.specs.State.{entries_in, id_size, max_ids}
use Rattle.seen.specs.Calls.{lent_of as seenLentOf, insert_cache, insert_store}
use Rattle.seen.specs.WellFormed.{Sized}
use Rattle.seen.specs.EntriesLaws.{until-later, expiries-entries}
use Rattle.seen.specs.Laws.{fresh-fine, fresh-sized, insert_fine, insert_sized, insert_length}
use Rattle.seen.specs.Laws.{well_formed-exactly as seen-exactly}
use Rattle.mcache.specs.declared.MessageCache.{MessageCache}
use Rattle.mcache.specs.State.{legal, message_in, table_of, topics_at, message_size, message_id_size}
use Rattle.mcache.specs.WellFormed.{row_of, Typed as cacheTyped}
use Rattle.mcache.specs.Calls.{lent_of as cacheLentOf, kept_under, shifted}
use Rattle.mcache.specs.FineLaws.{upto-drop, upto_snoc, fresh-first, fresh-typed, start_fine, shifted-fine}
use Rattle.mcache.specs.FineLaws.{shifted-typed, under-fine, under-typed}
use Rattle.mcache.specs.WellFormedLaws.{fine-well_formed, well_formed-fine}
use Rattle.node.specs.declared.Node.{Node}
use Rattle.node.specs.declared.BeatError.TheVariants as beat
use Rattle.node.specs.declared.BeatError.{BeatError}
use Rattle.node.specs.Gateway.{Gateway, form_of, started, after_admit, after_beat}
use Rattle.node.specs.State.{gateway_in, legal_settings, fresh_node, rises_from, seen_ring}
use Rattle.node.specs.Calls.{lent_of, later_node, Plan, no, taken, planned, swept, held_at, admit_node, admit_seen}
use Rattle.node.specs.Calls.{admit_cache, beat_answer, beat_node}
use Rattle.node.specs.WellFormed.{Typed, WellFormed, Reached, begun, admitted, beaten}
use Rattle.node.specs.StateLaws.{Tests, fine-tests, tests-fine, room_whole}
use Rattle.node.specs.Laws.{fresh-gateway, plan_takes, entries-swept, swept-fine, swept-sized, seen-inserted}
use Rattle.node.specs.Laws.{store-inserted, admit-gateway, beat-done, beat-gateway, takes-small, takes-id-small}
use Rattle.node.specs.Laws.{takes-own}

-- ---- expiries that never fall
rises_next : (least : ℕ) (l : List ℕ) (i : ℕ) → rises_from least l ≡ true → suc i < length l
    → get_or l i 0 ≤ get_or l (suc i) 0
unfolding rises_from
rises_next least [] i f h = absurd (omega arith)
rises_next least (e ∷ []) i f h = absurd (omega arith)
rises_next least (e ∷ d ∷ l) zero f h =
    leb-true e d (both (leb e d) (rises_from d l) (both (leb least e) (leb e d && rises_from d l) f).1).0
rises_next least (e ∷ d ∷ l) (suc i) f h = rises_next e (d ∷ l) i (both (leb least e) (leb e d && rises_from d l) f).1
    (omega arith)

next-rises : (least : ℕ) (l : List ℕ) → (0 < length l → least ≤ get_or l 0 0)
    → ((i : ℕ) → suc i < length l → get_or l i 0 ≤ get_or l (suc i) 0) → rises_from least l ≡ true
unfolding rises_from
next-rises least [] a f = refl
next-rises least (e ∷ l) a f =
    rw (le-leb least e (a (zero-lt-suc (length l)))) (next-rises e l (λ h. f 0 (omega arith))
    (λ i h. f (suc i) (omega arith)))

module _ (l : List ℕ) (ring : Ring) where
  abbrev row : ℕ → ℕ
  row i = get_or l (place_of ring i) 0

  rises-rows : rises_from 0 (in_use ring l) ≡ true → (i : ℕ) → suc i < ring.count
      → get_or l (place_of ring i) 0 ≤ get_or l (place_of ring (suc i)) 0
  unfolding in_use rows_in
  rises-rows f i h =
      let k : suc i < length (tab row ring.count) = rw (length-tab row ring.count) h in
      let r = rises_next 0 (tab row ring.count) i f k in
      rw (get_d_tab row ring.count (suc i) 0 h, get_d_tab row ring.count i 0 (omega arith)) at r

  rows_rise : ((i : ℕ) → suc i < ring.count → get_or l (place_of ring i) 0 ≤ get_or l (place_of ring (suc i)) 0)
      → rises_from 0 (in_use ring l) ≡ true
  unfolding in_use rows_in
  rows_rise f =
      next-rises 0 (tab row ring.count) (λ h. omega arith)
      (λ i h. let k : suc i < ring.count = rw (length-tab row ring.count) at h in
      rw (get_d_tab row ring.count (suc i) 0 k, get_d_tab row ring.count i 0 (omega arith)) (f i k))

-- ---- well formed, exactly
module _ (n : Node) (ss cs : List ℕ) where
  pub fine-well_formed-node : Typed n → lent_of n ss cs ≡ Ok tt → WellFormed n ss cs
  fine-well_formed-node y f =
      let t = fine-tests n ss cs f in
      record {
        room = t.room;
        few = t.few;
        ids = (seen-exactly n.seen ss).0 t.ids;
        rises = rises-rows n.seen.expiry (seen_ring n) t.rises;
        messages = fine-well_formed n.cache cs y.messages t.messages;
      }

  pub well_formed-node-fine : WellFormed n ss cs → lent_of n ss cs ≡ Ok tt
  well_formed-node-fine w =
      tests-fine n ss cs
      record {
        room = w.room;
        few = w.few;
        ids = (seen-exactly n.seen ss).1 w.ids;
        rises = rows_rise n.seen.expiry (seen_ring n) w.rises;
        messages = well_formed-fine n.cache cs w.messages;
      }

  pub well_formed-exactly : Typed n → (lent_of n ss cs ≡ Ok tt) ↔ WellFormed n ss cs
  well_formed-exactly y = (fine-well_formed-node y, well_formed-node-fine)

-- ---- the ids seen are in the order of their expiries, and none expires later than one that comes now
abbrev pub expiries_of : List Entry → List ℕ
expiries_of es = map (λ (e : Entry). e.expiry) es

pub record InOrder (most : ℕ) (es : List Entry) : Type 0 where
  pub rises : rises_from 0 (expiries_of es) ≡ true
  pub upto : all_up_to most (expiries_of es) ≡ true

pub rises_less : (less least : ℕ) (l : List ℕ) → less ≤ least → rises_from least l ≡ true → rises_from less l ≡ true
unfolding rises_from
rises_less less least [] h f = refl
rises_less less least (e ∷ l) h f =
    let b = both (leb least e) (rises_from e l) f in
    let k = leb-true least e b.0 in
    rw (le-leb less e (omega arith)) b.1

rises-least : (least : ℕ) (l : List ℕ) → rises_from least l ≡ true → (i : ℕ) → i < length l → least ≤ get_or l i 0
unfolding rises_from
rises-least least [] f i h = absurd (omega arith)
rises-least least (e ∷ l) f zero h = leb-true least e (both (leb least e) (rises_from e l) f).0
rises-least least (e ∷ l) f (suc i) h =
    let b = both (leb least e) (rises_from e l) f in
    let k = leb-true least e b.0 in
    let r = rises-least e l b.1 i (omega arith) in
    omega arith

pub first-least : (l : List ℕ) → rises_from 0 l ≡ true → (i : ℕ) → i < length l → get_or l 0 0 ≤ get_or l i 0
unfolding rises_from
first-least [] f i h = absurd (omega arith)
first-least (e ∷ l) f zero h = omega arith
first-least (e ∷ l) f (suc i) h = rises-least e l (both (leb 0 e) (rises_from e l) f).1 i (omega arith)

rises-drop : (least k : ℕ) (l : List ℕ) → rises_from least l ≡ true → rises_from least (drop k l) ≡ true
unfolding rises_from
rises-drop least zero l f = f
rises-drop least (suc k) [] f = refl
rises-drop least (suc k) (e ∷ l) f =
    let b = both (leb least e) (rises_from e l) f in
    rises-drop least k l (rises_less least e l (leb-true least e b.0) b.1)

rises_snoc : (least e : ℕ) (l : List ℕ) → rises_from least l ≡ true → least ≤ e → all_up_to e l ≡ true
    → rises_from least (l ++ (e ∷ [])) ≡ true
unfolding rises_from all_up_to
rises_snoc least e [] f h u = rw (le-leb least e h)
rises_snoc least e (x ∷ l) f h u =
    let b = both (leb least x) (rises_from x l) f in
    let d = both (leb x e) (all_up_to e l) u in
    rw b.0 (rises_snoc x e l b.1 (leb-true x e d.0) d.1)

upto-more : (most more : ℕ) (l : List ℕ) → most ≤ more → all_up_to most l ≡ true → all_up_to more l ≡ true
unfolding all_up_to
upto-more most more [] h u = refl
upto-more most more (x ∷ l) h u =
    let b = both (leb x most) (all_up_to most l) u in
    let k = leb-true x most b.0 in
    rw (le-leb x more (omega arith)) (upto-more most more l h b.1)

module _ (most : ℕ) (es : List Entry) (o : InOrder most es) where
  order-more : (more : ℕ) → most ≤ more → InOrder more es
  order-more more h = record { rises = o.rises; upto = upto-more most more (expiries_of es) h o.upto }

  order-drop : (k : ℕ) → InOrder most (drop k es)
  order-drop k =
      let e = map-drop (λ (x : Entry). x.expiry) k es in
      record {
        rises = rw e (rises-drop 0 k (expiries_of es) o.rises);
        upto = rw e (upto-drop most k (expiries_of es) o.upto);
      }

  order_snoc : (id : List ℕ) → InOrder most (es ++ (record { id = id; expiry = most } ∷ []))
  order_snoc id =
      let e = map-append (λ (x : Entry). x.expiry) es (record { id = id; expiry = most } ∷ []) in
      record {
        rises = rw e (rises_snoc 0 most (expiries_of es) o.rises (omega arith) o.upto);
        upto = rw e (upto_snoc most most (expiries_of es) (omega arith) o.upto);
      }

-- a clean-up, and an insert with an expiry not below the others
order-live : (most at : ℕ) (es : List Entry) → InOrder most es → InOrder most (live at es)
unfolding live
order-live most at [] o = o
order-live most at (e ∷ es) o =
    either (leb e.expiry at)
    (λ t. rw t (order-live most at es (order-drop most (e ∷ es) o 1)))
    (λ t. rw t o)

order-inserted : (most max at ttl : ℕ) (id : List ℕ) (es : List Entry) → most ≤ until at ttl → InOrder most es
    → InOrder (until at ttl) (inserted max id at ttl es)
unfolding inserted newest
order-inserted most max at ttl id es h o =
    let p = order-more most es o (until at ttl) h in
    let l : List Entry = es ++ (record { id = id; expiry = until at ttl } ∷ []) in
    either (holds id es) (λ t. rw t p)
    (λ t. rw t (order-drop (until at ttl) l (order_snoc (until at ttl) es p id) (length l - max)))

-- of a gateway
abbrev pub Ordered : Gateway → Type 0
Ordered g = InOrder (until g.clock g.ttl) g.seen

module _ (at : ℕ) (g : Gateway) (h : g.clock ≤ at) (o : Ordered g) where
  pub admit-ordered : (m id : List ℕ) → Ordered (after_admit at m id g)
  unfolding after_admit
  admit-ordered m id =
      order-inserted (until g.clock g.ttl) g.max_seen at g.ttl (form_of (mode_of g.flags) m id)
      (live at g.seen)
      (until-later g.clock at g.ttl h)
      (order-live (until g.clock g.ttl) at g.seen o)

  pub beat-ordered : Ordered (after_beat at g)
  unfolding after_beat
  beat-ordered =
      order-more (until g.clock g.ttl) (live at g.seen) (order-live (until g.clock g.ttl) at g.seen o)
      (until at g.ttl) (until-later g.clock at g.ttl h)

pub started-ordered : (ttl max_seen history max flags : ℕ) → Ordered (started ttl max_seen history max flags)
unfolding started rises_from all_up_to
started-ordered ttl max_seen history max flags = record { rises = refl; upto = refl }

-- ---- every state that the calls reach
entries_rise : (n : Node) (ss cs : List ℕ) → Ordered (gateway_in n ss cs)
    → rises_from 0 (in_use (seen_ring n) n.seen.expiry) ≡ true
unfolding gateway_in
entries_rise n ss cs o = rw (← expiries-entries n.max_seen n.seen ss) o.rises

-- what is kept
pub record Keeps (n : Node) (ss cs : List ℕ) : Type 0 where
  pub fine : lent_of n ss cs ≡ Ok tt
  pub typed : Typed n
  pub ordered : Ordered (gateway_in n ss cs)

later-fine : (n : Node) (ss cs ss2 cs2 : List ℕ) (at : ℕ) (c : SeenCache) (d : MessageCache) → Tests n ss cs
    → length ss2 ≡ length ss → seenLentOf c ss2 ≡ Ok tt
    → rises_from 0 (expiries_of (entries_in n.max_seen c ss2)) ≡ true → cacheLentOf d cs2 ≡ Ok tt
    → lent_of (later_node at c d n) ss2 cs2 ≡ Ok tt
unfolding later_node
later-fine n ss cs ss2 cs2 at c d t e f r g =
    tests-fine (later_node at c d n) ss2 cs2
    (record {
      room = e ∙ t.room;
      few = t.few;
      ids = f;
      rises = rw (← expiries-entries n.max_seen c ss2) r;
      messages = g;
    })

later-typed : (n : Node) (at : ℕ) (c : SeenCache) (d : MessageCache) → Sized c → cacheTyped d
    → Typed (later_node at c d n)
unfolding later_node
later-typed n at c d z y = record { ids = z; messages = y }

later-rises : (n : Node) (ss cs : List ℕ) (at : ℕ) (c : SeenCache) (d : MessageCache)
    → Ordered (gateway_in (later_node at c d n) ss cs) → rises_from 0 (expiries_of (entries_in n.max_seen c ss)) ≡ true
unfolding gateway_in later_node
later-rises n ss cs at c d o = o.rises

pub begun-keeps : (ttl max_seen history max flags : ℕ) (ss cs : List ℕ)
    → legal_settings max_seen history max flags ≡ true
    → length ss ≡ max_seen * id_size → length cs ≡ max * message_size
    → Keeps (fresh_node ttl max_seen history max flags) ss cs
unfolding fresh_node legal_settings
begun-keeps ttl max_seen history max flags ss cs l r s =
    let b = both (leb max_seen max_ids) (legal history max flags) l in
    let few = leb-true max_seen max_ids b.0 in
    let n = fresh_node ttl max_seen history max flags in
    let o : Ordered (gateway_in n ss cs) =
    rw (fresh-gateway ttl max_seen history max flags ss cs) (started-ordered ttl max_seen history max flags) in
    record {
      fine = tests-fine n ss cs
          (record {
            room = r;
            few = few;
            ids = fresh-fine ss (room_whole n ss r few);
            rises = entries_rise n ss cs o;
            messages = start_fine history max flags cs b.1 s;
          });
      typed = record {
        ids = fresh-sized;
        messages = rw (fresh-first history max flags) (fresh-typed 0 history max flags (omega arith));
      };
      ordered = o;
    }

-- what an admit leaves, as the seen cache's insert and the message cache's put leave it
module _ (n : Node) (ss cs : List ℕ) (at : ℕ) (m id : List ℕ) (typed : Typed n) (fine : lent_of n ss cs ≡ Ok tt)
    (k : length id ≤ message_id_size) where
  abbrev seen_after : SeenCache
  seen_after = insert_cache n.max_seen at n.ttl (swept n at) ss (form_of (mode_of n.cache.flags) m id)

  abbrev store_after : List ℕ
  store_after = insert_store n.max_seen (swept n at) ss (form_of (mode_of n.cache.flags) m id)

  abbrev cache_after : MessageCache
  cache_after = cond (held_at n ss at (form_of (mode_of n.cache.flags) m id)) n.cache (kept_under m id n.cache)

  node-after : admit_node n ss at (taken m id) ≡ later_node at seen_after cache_after n
  node-after =
      rw (← seen-inserted n ss cs fine at typed.ids (form_of (mode_of n.cache.flags) m id) (omega arith))
      (either (held_at n ss at (form_of (mode_of n.cache.flags) m id)) (λ u. rw u) (λ u. rw u))

  store_after_lem : admit_seen n ss at (taken m id) ≡ store_after
  store_after_lem = store-inserted n ss cs fine at typed.ids (form_of (mode_of n.cache.flags) m id) (omega arith)

  taken-keeps : length m ≤ message_size → gives_id n.cache.flags m id ≡ true
      → Ordered (gateway_in (admit_node n ss at (taken m id)) (admit_seen n ss at (taken m id))
      (admit_cache n ss cs at (taken m id)))
      → Keeps (admit_node n ss at (taken m id)) (admit_seen n ss at (taken m id)) (admit_cache n ss cs at (taken m id))
  taken-keeps small own o =
      let t = fine-tests n ss cs fine in
      let f = swept-fine n ss cs fine at typed.ids in
      let z = swept-sized n ss cs fine at typed.ids in
      let stores : cacheLentOf cache_after (admit_cache n ss cs at (taken m id)) ≡ (Ok tt) =
      either (held_at n ss at (form_of (mode_of n.cache.flags) m id)) (λ u. rw u t.messages)
      (λ u. rw u (under-fine n.cache cs m id t.messages typed.messages.sized small k own)) in
      let types : cacheTyped cache_after = either (held_at n ss at (form_of (mode_of n.cache.flags) m id))
      (λ u. rw u typed.messages)
      (λ u. rw u (under-typed m id n.cache typed.messages)) in
      let p = rw (node-after, store_after_lem) at o in
      rw (node-after, store_after_lem)
      (record {
        fine =
            later-fine n ss cs store_after (admit_cache n ss cs at (taken m id)) at seen_after cache_after t
            (insert_length n.max_seen (swept n at) ss (form_of (mode_of n.cache.flags) m id)).0
            (insert_fine (swept n at) ss f z n.max_seen at n.ttl (form_of (mode_of n.cache.flags) m id))
            (later-rises n store_after (admit_cache n ss cs at (taken m id)) at seen_after cache_after p)
            stores;
        typed = later-typed n at seen_after cache_after (insert_sized (swept n at) ss f z n.max_seen at n.ttl
            (form_of (mode_of n.cache.flags) m id)) types;
        ordered = p;
      })

gateway-forward : (n : Node) (ss cs : List ℕ) (at : ℕ) → n.clock ≤ at → (gateway_in n ss cs).clock ≤ at
unfolding gateway_in
gateway-forward n ss cs at h = h

pub admitted-keeps : (n : Node) (ss cs : List ℕ) (ed : Edition) (body : List ℕ) (i : ℕ) (word : Bool) (at : ℕ)
    → Keeps n ss cs → (r : Plan)
    → planned n ss cs ed body i word at ≡ r
    → Keeps (admit_node n ss at r) (admit_seen n ss at r) (admit_cache n ss cs at r)
admitted-keeps n ss cs ed body i word at k (no r) e = k
admitted-keeps n ss cs ed body i word at k (taken m id) e =
    let t = (plan_takes n ss cs ed body i word at m id).0 e in
    let g = rw e at (admit-gateway n ss cs ed body i word at m id k.typed e) in
    let o = rw (← g) at (admit-ordered at (gateway_in n ss cs) (gateway-forward n ss cs at t.forward)
    k.ordered m id) in
    taken-keeps n ss cs at m id k.typed t.fine (takes-id-small t) (takes-small t) (takes-own t) o

-- a heartbeat that is done leaves a node that passes, whatever node it was given
rises-live : (at : ℕ) (es : List Entry) → rises_from 0 (expiries_of es) ≡ true
    → rises_from 0 (expiries_of (live at es)) ≡ true
unfolding live rises_from
rises-live at [] r = refl
rises-live at (e ∷ es) r =
    either (leb e.expiry at)
    (λ t. rw t (rises-live at es
    (rises_less 0 e.expiry (expiries_of es) (omega arith)
    (both (leb 0 e.expiry) (rises_from e.expiry (expiries_of es)) r).1)))
    (λ t. rw t r)

module _ (n : Node) (ss cs : List ℕ) (at : ℕ) (typed : Typed n) (done : beat_answer n ss cs at ≡ Ok tt) where
  pub beat-fine : lent_of (beat_node n ss cs at) ss cs ≡ Ok tt
  unfolding beat_node
  beat-fine =
      let f = (beat-done n ss cs at done).0 in
      let t = fine-tests n ss cs f in
      rw done
      (later-fine n ss cs ss cs at (swept n at) (shifted n.cache) t refl (swept-fine n ss cs f at typed.ids)
      (rw (entries-swept n ss cs f at)
      (rises-live at (entries_in n.max_seen n.seen ss)
      (rw (expiries-entries n.max_seen n.seen ss) t.rises)))
      (shifted-fine n.cache cs t.messages typed.messages.sized))

  pub beat-typed : Typed (beat_node n ss cs at)
  unfolding beat_node
  beat-typed =
      rw done (later-typed n at (swept n at) (shifted n.cache)
      (swept-sized n ss cs (beat-done n ss cs at done).0 at typed.ids)
      (shifted-typed n.cache typed.messages))

pub beaten-keeps : (n : Node) (ss cs : List ℕ) (at : ℕ) → Keeps n ss cs → (r : Result (Unit {0}) BeatError) → beat_answer n ss cs at ≡ r
    → Keeps (beat_node n ss cs at) ss cs
unfolding beat_node
beaten-keeps n ss cs at k (Err (beat.Faulty why)) e = rw e k
beaten-keeps n ss cs at k (Err (beat.ClockBack clock)) e = rw e k
beaten-keeps n ss cs at k (Ok _) e =
    record {
      fine = beat-fine n ss cs at k.typed e;
      typed = beat-typed n ss cs at k.typed e;
      ordered = rw (beat-gateway n ss cs at k.typed e)
          (beat-ordered at (gateway_in n ss cs) (gateway-forward n ss cs at (beat-done n ss cs at e).1) k.ordered);
    }

pub reached_keeps : {n : Node} {ss cs : List ℕ} → Reached n ss cs → Keeps n ss cs
reached_keeps (begun ttl max_seen history max flags ss cs t l r s) =
    begun-keeps ttl max_seen history max flags ss cs l r s
reached_keeps (admitted {n} {ss} {cs} r ed body i word at h) =
    admitted-keeps n ss cs ed body i word at (reached_keeps r) (planned n ss cs ed body i word at) refl
reached_keeps (beaten {n} {ss} {cs} r at h) = beaten-keeps n ss cs at (reached_keeps r) (beat_answer n ss cs at) refl

pub reached_fine : {n : Node} {ss cs : List ℕ} → Reached n ss cs → lent_of n ss cs ≡ Ok tt
reached_fine r = (reached_keeps r).fine

pub reached_typed : {n : Node} {ss cs : List ℕ} → Reached n ss cs → Typed n
reached_typed r = (reached_keeps r).typed

pub reached_well_formed : {n : Node} {ss cs : List ℕ} → Reached n ss cs → WellFormed n ss cs
reached_well_formed {n} {ss} {cs} r = fine-well_formed-node n ss cs (reached_typed r) (reached_fine r)

-- after any history, evictions, windows opened and places used again too, the places kept beside a message are those of
-- its topics
pub reached_topics : {n : Node} {ss cs : List ℕ} → Reached n ss cs → (i : ℕ) → i < n.cache.count
    → topics_at (table_of n.cache) (row_of n.cache i)
    ≡ topic_places (mode_of n.cache.flags) (message_in n.cache.len cs (row_of n.cache i))
reached_topics r = (reached_well_formed r).messages.topics
