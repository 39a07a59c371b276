-- What `gossip_ids` tells of: exactly the ids of the messages that carry the topic in the windows asked for, in byte
-- order, each once.
use Rattle.std.specs.Prelude.{Ok, Err, Result, ◌≡◌, ℕ, zero, suc, ◌<◌, ◌≤◌, Bool, true, false, cond, ◌&&◌, ◌||◌, ◌↔◌, List, [], ◌∷◌, map, length, get_or, take, drop, replicate, nat_lt, slice_index, slice_index_or, refl}
use Rattle.std.proofs.Common.{sym, ap, subst, ◌∙◌, arith}
use mathlib.Core.List.Memᴰ
use mathlib.Core.List.{Memᴰ}
use Rattle.std.proofs.Math.Bool.{or-true, or_self_left}
use Rattle.std.proofs.Math.Logic.{⊎_elim}
use Rattle.std.proofs.lemmas.List.{length-map}
use Rattle.std.proofs.Math.ListN.{get_or-append}
use Rattle.std.proofs.Math.Seq.{take-append_seam}
use borrow.Author.Tests.{ltb-true, ltb-false, lt-ltb, le-ltb}
use Rattle.basis.specs.declared.Mode.{Mode}
use Rattle.basis.specs.Dialect.{mode_of}
use Rattle.basis.specs.Cases.{either, clash, both}
use Rattle.basis.specs.Writing.{answer, written}
use Rattle.rows.specs.Rows.{tab, place_of, rows_in}
use Rattle.rows.specs.RowsLaws.{length-tab, get_d_tab, map_ring}
use Rattle.rows.specs.Ids.{same_bytes, precedes_bytes, among, distinct}
use Rattle.rows.specs.IdsLaws.{same_self, same_equal, order_irreflexive, order-total, order_trans, each-distinct}
use Rattle.rows.specs.Store.{id_at, ids_in}
use Rattle.admission.specs.Admission.{topics_of}
use Rattle.admission.specs.TopicLaws.{cut-topics}
use Rattle.mcache.specs.declared.MessageCache.{MessageCache}
use Rattle.mcache.specs.declared.GossipIds.{GossipIds}
use Rattle.basis.specs.declared.ShortRoom.{ShortRoom}
use Rattle.mcache.specs.declared.GossipError.TheVariants as gossip
use Rattle.mcache.specs.Messages.{Cached, topics, ids_of, held, carrying, enter_id, in_order, gossip_ids}
use Rattle.mcache.specs.State.{message_in, cached_at, cached_in, has_topic, told, insert_row, gather_into, message_id_size}
use Rattle.mcache.specs.State.{message_limit, ring_of, table_of}
use Rattle.mcache.specs.Calls.{lent_of, gossip_list, gossip_array, gossip_answer, gossip_count, gossip_rows}
use Rattle.mcache.specs.Unique.{Gossips, WritesId}
use Rattle.mcache.specs.StateLaws.{Tests, fine-tests, row-topics}

-- ---- an id among others, exactly
pub among_in : (x : List ℕ) (l : List (List ℕ)) → among x l ≡ true → Memᴰ x l
unfolding among
among_in x [] h = clash (cc)
among_in x (y ∷ l) h = either (same_bytes y x) (λ t. Memᴰ.head (sym (same_equal y x t)))
    (λ t. Memᴰ.tail (among_in x l (simp t at h)))

pub in_among : (x : List ℕ) (l : List (List ℕ)) → Memᴰ x l → among x l ≡ true
unfolding among
in_among x [] m = absurd (Memᴰ.not-nil m)
in_among x (y ∷ l) m =
    ⊎_elim (λ (e : x ≡ y). rw (e, same_self y)) (λ (r : Memᴰ x l). rw (in_among x l r) (or-true (same_bytes y x)))
    (Memᴰ.cases_cons m)

-- ---- an id entered
same_false : (a b : List ℕ) → precedes_bytes a b ≡ true → (same_bytes a b ≡ false) × (same_bytes b a ≡ false)
same_false a b h = (
  either (same_bytes a b)
      (λ t. clash (let e = same_equal a b t in let k = order_irreflexive b in let g = rw e at h in cc)) (λ t. t),
  either (same_bytes b a)
      (λ t. clash (let e = same_equal b a t in let k = order_irreflexive a in let g = rw e at h in cc)) (λ t. t),
)

-- of two ids one comes first, or they are the same
pub order-cases : {A : Type 0} (a b : List ℕ) → (a ≡ b → A) → (precedes_bytes a b ≡ true → A)
    → (precedes_bytes b a ≡ true → A) → A
order-cases a b f g h =
    either (same_bytes a b) (λ t. f (same_equal a b t))
    (λ t. either (precedes_bytes a b) g
    (λ u. h (either (precedes_bytes b a) (λ v. v)
    (λ v. clash (let e = order-total a b t in let w = rw (u, v) at e in cc)))))

precedes_not : (a b : List ℕ) → precedes_bytes a b ≡ true → precedes_bytes b a ≡ false
precedes_not a b h =
    either (precedes_bytes b a) (λ t. clash (let e = order_trans a b a h t in let k = order_irreflexive a in cc))
    (λ t. t)

enter-nil : (i : List ℕ) → enter_id i [] ≡ i ∷ []
unfolding enter_id
enter-nil i = refl

-- the three cases of entering
module _ (i j : List ℕ) (js : List (List ℕ)) where
  pub enter-same : i ≡ j → enter_id i (j ∷ js) ≡ j ∷ js
  unfolding enter_id
  enter-same e = rw (e, same_self j)

  pub enter-past : precedes_bytes j i ≡ true → enter_id i (j ∷ js) ≡ j ∷ enter_id i js
  unfolding enter_id
  enter-past h = rw ((same_false j i h).0, h)

  pub enter-front : precedes_bytes i j ≡ true → enter_id i (j ∷ js) ≡ i ∷ j ∷ js
  unfolding enter_id
  enter-front h = rw ((same_false i j h).1, precedes_not i j h)

or_swap : (a b c : Bool) → (a || (b || c)) ≡ (b || (a || c))
or_swap true true c = refl
or_swap true false c = refl
or_swap false b c = refl

pub among-enter : (x i : List ℕ) (l : List (List ℕ)) → among x (enter_id i l) ≡ (same_bytes i x || among x l)
unfolding among
among-enter x i [] = rw (enter-nil i)
among-enter x i (j ∷ l) =
    order-cases i j
    (λ (e : i ≡ j). rw (enter-same i j l e, e) (sym (or_self_left (same_bytes j x) (among x l))))
    (λ h. rw (enter-front i j l h))
    (λ h. rw (enter-past i j l h, among-enter x i l) (or_swap (same_bytes j x) (same_bytes i x) (among x l)))

-- the order of entering does not matter
enter-first : (i j : List ℕ) (l : List (List ℕ)) → precedes_bytes i j ≡ true
    → enter_id i (enter_id j l) ≡ enter_id j (enter_id i l)
enter-first i j [] h = rw (enter-nil j, enter-nil i, enter-front i j [] h, enter-past j i [] h, enter-nil j)
enter-first i j (k ∷ l) h =
    order-cases i k
    (λ (e : i ≡ k).
    let g : precedes_bytes k j ≡ true = rw e at h in
    rw (enter-past j k l g, enter-same i k l e, enter-same i k (enter_id j l) e, enter-past j k l g))
    (λ (a : precedes_bytes i k ≡ true).
    rw (enter-front i k l a, enter-past j i (k ∷ l) h)
    (order-cases j k
    (λ (e : j ≡ k). rw (enter-same j k l e, enter-front i k l a))
    (λ (b : precedes_bytes j k ≡ true). rw (enter-front j k l b, enter-front i j (k ∷ l) h))
    (λ (b : precedes_bytes k j ≡ true). rw (enter-past j k l b, enter-front i k (enter_id j l) a))))
    (λ (a : precedes_bytes k i ≡ true).
    let b = order_trans k i j a h in
    rw (
      enter-past j k l b,
      enter-past i k (enter_id j l) a,
      enter-past i k l a,
      enter-past j k (enter_id i l) b,
      enter-first i j l h,
    ))

pub enter_swap : (i j : List ℕ) (l : List (List ℕ)) → enter_id i (enter_id j l) ≡ enter_id j (enter_id i l)
enter_swap i j l = order-cases i j (λ (e : i ≡ j). rw e) (λ h. enter-first i j l h) (λ h. sym (enter-first j i l h))

-- ids entered among others, the last first
enter_on : List (List ℕ) → List (List ℕ) → List (List ℕ)
enter_on l [] = l
enter_on l (i ∷ is) = enter_id i (enter_on l is)

enter-through : (i : List ℕ) (l is : List (List ℕ)) → enter_on (enter_id i l) is ≡ enter_id i (enter_on l is)
unfolding enter_on
enter-through i l [] = refl
enter-through i l (j ∷ is) = ap (enter_id j) (enter-through i l is) ∙ enter_swap j i (enter_on l is)

enter-order : (is : List (List ℕ)) → enter_on [] is ≡ in_order is
unfolding in_order enter_on
enter-order [] = refl
enter-order (i ∷ is) = ap (enter_id i) (enter-order is)

-- ---- the rows' way: a row inserted is its id entered, where it is not there yet
pub insert_enter : (id : ℕ → List ℕ) (p : ℕ) (qs : List ℕ) → among (id p) (map id qs) ≡ false
    → map id (insert_row id p qs) ≡ enter_id (id p) (map id qs)
unfolding insert_row among
insert_enter id p [] n = sym (enter-nil (id p))
insert_enter id p (q ∷ qs) n =
    order-cases (id p) (id q)
    (λ (e : id p ≡ id q). clash (let s = same_self (id q) in let k = rw (e, s) at n in cc))
    (λ h. rw (precedes_not (id p) (id q) h, enter-front (id p) (id q) (map id qs) h))
    (λ h. let s = (same_false (id q) (id p) h).0 in
    rw (h, enter-past (id p) (id q) (map id qs) h, insert_enter id p qs (simp s at n)))

-- those that are told of
chosen : (ℕ → Bool) → List ℕ → List ℕ
chosen t [] = []
chosen t (p ∷ ps) = cond (t p) (p ∷ chosen t ps) (chosen t ps)

Apart : List (List ℕ) → List (List ℕ) → Type 0
Apart a b = (x : List ℕ) → among x a ≡ true → among x b ≡ false

gather-enter : (t : ℕ → Bool) (id : ℕ → List ℕ) (qs ps : List ℕ) → distinct (map id ps) ≡ true
    → Apart (map id ps) (map id qs)
    → map id (gather_into t id qs ps) ≡ enter_on (map id qs) (map id (chosen t ps))
unfolding gather_into distinct among enter_on chosen Apart
gather-enter t id qs [] d a = refl
gather-enter t id qs (p ∷ ps) d a =
    let n : among (id p) (map id ps) ≡ false =
    either (among (id p) (map id ps)) (λ u. clash (let z = simp u at d in cc)) (λ u. u) in
    let e : distinct (map id ps) ≡ true = simp n at d in
    let own : among (id p) (map id qs) ≡ false = a (id p) (rw (same_self (id p))) in
    let r = insert_enter id p qs own in
    either (t p)
    (λ u.
    rw u
    (gather-enter t id (insert_row id p qs) ps e
    (λ x m. rw (r, among-enter x (id p) (map id qs))
    (either (same_bytes (id p) x)
    (λ v. clash (let w = same_equal (id p) x v in let y = rw w at n in cc))
    (λ v. rw v (a x (rw (m) (or-true (same_bytes (id p) x)))))))
    ∙ ap (λ (l : List (List ℕ)). enter_on l (map id (chosen t ps))) r
    ∙ enter-through (id p) (map id qs) (map id (chosen t ps))))
    (λ u. rw u (gather-enter t id qs ps e (λ x m. a x (rw (m) (or-true (same_bytes (id p) x))))))

-- ---- the messages that carry a topic are those in the rows that are told of
-- by the topics that the message itself has
abbrev carried : MessageCache → List ℕ → List ℕ → ℕ → ℕ → Bool
carried c st topic windows p =
    nat_lt (slice_index c.window p) windows && among topic (topics_of (mode_of c.flags) (message_in c.len st p))

carrying-rows : (c : MessageCache) (st topic : List ℕ) (windows : ℕ) (ps : List ℕ)
    → ids_of (carrying (mode_of c.flags) topic windows (map (cached_at c st) ps))
    ≡ map (id_at message_id_size c.id_len c.ids)
    (chosen (carried c st topic windows) ps)
unfolding carrying chosen cached_at
carrying-rows c st topic windows [] = refl
carrying-rows c st topic windows (p ∷ ps) =
    let r = carrying-rows c st topic windows ps in
    either (nat_lt (slice_index c.window p) windows && among topic (topics_of (mode_of c.flags) (message_in c.len st p)))
    (λ t. rw t (ap (λ (l : List (List ℕ)). id_at message_id_size c.id_len c.ids p ∷ l) r))
    (λ t. rw t r)

-- in a tested state the kept places say the same
pub topic-kept : (c : MessageCache) (st topic : List ℕ) (i : ℕ) → Tests c st → i < c.count
    → has_topic c.len (table_of c) st topic (place_of (ring_of c) i)
    ≡ among topic (topics_of (mode_of c.flags) (message_in c.len st (place_of (ring_of c) i)))
topic-kept c st topic i t h =
    rw (row-topics c st t i h, cut-topics (mode_of c.flags) (message_in c.len st (place_of (ring_of c) i)))

told-kept : (c : MessageCache) (st topic : List ℕ) (windows i : ℕ) → Tests c st → i < c.count
    → told c.window c.len (table_of c) st windows topic (place_of (ring_of c) i)
    ≡ carried c st topic windows (place_of (ring_of c) i)
unfolding told
told-kept c st topic windows i t h = rw (topic-kept c st topic i t h)

chosen-same : (t u : ℕ → Bool) (ps : List ℕ) → ((i : ℕ) → i < length ps → t (slice_index ps i) ≡ u (slice_index ps i))
    → chosen t ps ≡ chosen u ps
unfolding chosen
chosen-same t u [] h = refl
chosen-same t u (p ∷ ps) h = rw (h 0 (omega arith), chosen-same t u ps (λ i k. h (suc i) (omega arith)))

told-rows : (c : MessageCache) (st topic : List ℕ) (windows : ℕ) → Tests c st
    → chosen (told c.window c.len (table_of c) st windows topic) (rows_in (λ (p : ℕ). p) (ring_of c))
    ≡ chosen (carried c st topic windows) (rows_in (λ (p : ℕ). p) (ring_of c))
unfolding rows_in
told-rows c st topic windows t =
    let g : ℕ → ℕ = λ (i : ℕ). place_of (ring_of c) i in
    chosen-same _ _ (tab g c.count)
    (λ i k. let l : i < c.count = rw (length-tab g c.count) at k in
    rw (get_d_tab g c.count i 0 l) (told-kept c st topic windows i t l))

pub gossip_ids_lem : (c : MessageCache) (st topic : List ℕ) (windows : ℕ) → lent_of c st ≡ Ok tt
    → map (id_at message_id_size c.id_len c.ids) (gossip_list c st topic windows)
    ≡ gossip_ids (mode_of c.flags) topic windows
    (cached_in c st)
unfolding gossip_list gossip_ids cached_in Apart among ids_in
gossip_ids_lem c st topic windows f =
    let ps = rows_in (λ (p : ℕ). p) (ring_of c) in
    let id = id_at message_id_size c.id_len c.ids in
    let t = told c.window c.len (table_of c) st windows topic in
    gather-enter t id [] ps
    (rw (map_ring id (λ (p : ℕ). p) (ring_of c)) (fine-tests c st f).once)
    (λ x m. refl)
    ∙ enter-order (map id (chosen t ps))
    ∙ ap (λ (qs : List ℕ). in_order (map id qs)) (told-rows c st topic windows (fine-tests c st f))
    ∙ ap in_order (sym (carrying-rows c st topic windows ps))
    ∙ ap (λ (ms : List Cached). in_order (ids_of (carrying (mode_of c.flags) topic windows ms)))
    (map_ring (cached_at c st) (λ (p : ℕ). p) (ring_of c))

-- ---- what the call answers: of the rows that it gives, the first `count` hold those ids
map_at : (f : ℕ → List ℕ) (l : List ℕ) (i : ℕ) → i < length l → slice_index_or (map f l) i [] ≡ f (slice_index l i)
map_at f [] i h = absurd (omega arith)
map_at f (x ∷ l) zero h = refl
map_at f (x ∷ l) (suc i) h = map_at f l i (omega arith)

module _ (c : MessageCache) (st topic : List ℕ) (fine : lent_of c st ≡ Ok tt) where
  answer-says : gossip_answer c st topic ≡ cond (nat_lt 1024 (length topic)) (Err (gossip.TopicTooLong (length topic))) (Ok tt)
  unfolding gossip_answer
  answer-says = rw fine

  pub gossip_told_lem : (windows : ℕ) → length topic ≤ 1024
      → map (id_at message_id_size c.id_len c.ids)
      (take (gossip_count c st topic windows) (gossip_rows c st topic windows))
      ≡ gossip_ids (mode_of c.flags) topic windows
      (cached_in c st)
  unfolding gossip_count gossip_rows gossip_array
  gossip_told_lem windows h =
      let l = gossip_list c st topic windows in
      rw (answer-says, le-ltb 1024 (length topic) h, take-append_seam l (drop (length l) (replicate message_limit 0)))
      (gossip_ids_lem c st topic windows fine)

  -- ---- the i-th place holds the i-th id
  module _ (windows : ℕ) where
    too_long : 1024 < length topic → gossip_count c st topic windows ≡ 0
    unfolding gossip_count
    too_long h = rw (answer-says, lt-ltb 1024 (length topic) h)

    list_counts : length topic ≤ 1024 → gossip_count c st topic windows ≡ length (gossip_list c st topic windows)
    unfolding gossip_count
    list_counts h = rw (answer-says, le-ltb 1024 (length topic) h)

    list_rows : length topic ≤ 1024 → (i : ℕ) → i < length (gossip_list c st topic windows)
        → slice_index (gossip_rows c st topic windows) i ≡ slice_index (gossip_list c st topic windows) i
    unfolding gossip_rows gossip_array
    list_rows h i k =
        let l = gossip_list c st topic windows in
        rw (answer-says, le-ltb 1024 (length topic) h)
        (get_or-append l (drop (length l) (replicate message_limit 0)) 0 i k)

    place-id : (i : ℕ) → i < gossip_count c st topic windows
        → id_at message_id_size c.id_len c.ids (slice_index (gossip_rows c st topic windows) i)
        ≡ slice_index_or (gossip_ids (mode_of c.flags) topic windows (cached_in c st)) i []
    place-id i k =
        let id = id_at message_id_size c.id_len c.ids in
        let l = gossip_list c st topic windows in
        either (nat_lt 1024 (length topic))
        (λ t. absurd (let z = too_long (ltb-true 1024 (length topic) t) in omega arith))
        (λ t.
        let h = ltb-false 1024 (length topic) t in
        let n : i < length l = omega (arith, list_counts h) in
        ap id (list_rows h i n) ∙ sym (map_at id l i n)
        ∙ ap (λ (m : List (List ℕ)). get_or m i []) (gossip_ids_lem c st topic windows fine))

    module _ (r : GossipIds) (g : Gossips c st topic windows r) where
      -- as many as there are ids
      pub gossip_counts : length topic ≤ 1024 → r.count
          ≡ length (gossip_ids (mode_of c.flags) topic windows (cached_in c st))
      gossip_counts h =
          let l = gossip_list c st topic windows in
          g.count ∙ list_counts h ∙ sym (length-map l (id_at message_id_size c.id_len c.ids))
          ∙ ap (λ (m : List (List ℕ)). length m) (gossip_ids_lem c st topic windows fine)

      -- `id_at` of the i-th place that `gossip_ids` answers writes the i-th id
      pub gossip_id_at : (i : ℕ) → i < r.count → (out : List ℕ) (w : Result ℕ ShortRoom) (left : List ℕ)
          → WritesId c (slice_index r.rows i) out w left
          → (w ≡ answer (slice_index_or (gossip_ids (mode_of c.flags) topic windows (cached_in c st)) i []) out)
          × (left ≡ written (slice_index_or (gossip_ids (mode_of c.flags) topic windows (cached_in c st)) i []) out)
      gossip_id_at i k out w left d =
          let e = ap (λ (l : List ℕ). id_at message_id_size c.id_len c.ids (slice_index l i)) g.rows
          ∙ place-id i (rw g.count at k) in (
            d.answer ∙ ap (λ (x : List ℕ). answer x out) e,
            d.buffer ∙ ap (λ (x : List ℕ). written x out) e,
          )

-- ---- in byte order, each once
-- each comes before the next, the first after `i`
rises_from : List ℕ → List (List ℕ) → Bool
rises_from i [] = true
rises_from i (j ∷ js) = precedes_bytes i j && rises_from j js

rises : List (List ℕ) → Bool
rises [] = true
rises (i ∷ is) = rises_from i is

rises-past : (j i : List ℕ) (js : List (List ℕ)) → precedes_bytes j i ≡ true → rises_from j js ≡ true
    → rises_from j (enter_id i js) ≡ true
unfolding rises_from
rises-past j i [] h r = rw (enter-nil i, h)
rises-past j i (k ∷ js) h r =
    let b = both (precedes_bytes j k) (rises_from k js) r in
    order-cases i k
    (λ (e : i ≡ k). rw (enter-same i k js e) r)
    (λ (a : precedes_bytes i k ≡ true). rw (enter-front i k js a, h, a) b.1)
    (λ (a : precedes_bytes k i ≡ true). rw (enter-past i k js a, b.0) (rises-past k i js a b.1))

rises-enter : (i : List ℕ) (l : List (List ℕ)) → rises l ≡ true → rises (enter_id i l) ≡ true
unfolding rises rises_from
rises-enter i [] r = rw (enter-nil i)
rises-enter i (k ∷ js) r =
    order-cases i k
    (λ (e : i ≡ k). rw (enter-same i k js e) r)
    (λ (a : precedes_bytes i k ≡ true). rw (enter-front i k js a, a) r)
    (λ (a : precedes_bytes k i ≡ true). rw (enter-past i k js a) (rises-past k i js a r))

rises-order : (is : List (List ℕ)) → rises (in_order is) ≡ true
unfolding in_order rises
rises-order [] = refl
rises-order (i ∷ is) = rises-enter i (in_order is) (rises-order is)

from_each : (i : List ℕ) (l : List (List ℕ)) (b : ℕ) → rises_from i l ≡ true → b < length l
    → precedes_bytes i (slice_index_or l b []) ≡ true
unfolding rises_from
from_each i [] b r h = absurd (omega arith)
from_each i (j ∷ l) zero r h = (both (precedes_bytes i j) (rises_from j l) r).0
from_each i (j ∷ l) (suc b) r h =
    let q = both (precedes_bytes i j) (rises_from j l) r in
    order_trans i j (slice_index_or l b []) q.0 (from_each j l b q.1 (omega arith))

from-rises : (i : List ℕ) (l : List (List ℕ)) → rises_from i l ≡ true → rises l ≡ true
unfolding rises_from rises
from-rises i [] r = refl
from-rises i (j ∷ l) r = (both (precedes_bytes i j) (rises_from j l) r).1

rises-each : (l : List (List ℕ)) (a b : ℕ) → rises l ≡ true → a < b → b < length l
    → precedes_bytes (slice_index_or l a []) (slice_index_or l b []) ≡ true
unfolding rises
rises-each [] a b r h k = absurd (omega arith)
rises-each (i ∷ l) a zero r h k = absurd (omega arith)
rises-each (i ∷ l) zero (suc b) r h k = from_each i l b r (omega arith)
rises-each (i ∷ l) (suc a) (suc b) r h k = rises-each l a b (from-rises i l r) (omega arith) (omega arith)

-- of two ids that are told of, the first comes first in byte order
pub gossip_sorted : (mode : Mode) (topic : List ℕ) (windows : ℕ) (ms : List Cached) (a b : ℕ) → a < b
    → b < length (gossip_ids mode topic windows ms)
    → precedes_bytes (slice_index_or (gossip_ids mode topic windows ms) a []) (slice_index_or (gossip_ids mode topic windows ms) b []) ≡ true
unfolding gossip_ids
gossip_sorted mode topic windows ms a b h k =
    rises-each (in_order (ids_of (carrying mode topic windows ms))) a b
    (rises-order (ids_of (carrying mode topic windows ms))) h k

-- ---- exactly those
-- some message of ms has the id, stands in one of the newest windows and carries the topic
pub record Tells (mode : Mode) (i topic : List ℕ) (windows : ℕ) (ms : List Cached) : Type 0 where
  pub entry : Cached
  pub cached : Memᴰ entry ms
  pub named : entry.id ≡ i
  pub recent : entry.window < windows
  pub carries : Memᴰ topic (topics mode entry)

pub among-order : (x : List ℕ) (is : List (List ℕ)) → among x (in_order is) ≡ among x is
unfolding in_order among
among-order x [] = refl
among-order x (i ∷ is) = among-enter x i (in_order is) ∙ ap (λ (b : Bool). same_bytes i x || b) (among-order x is)

abbrev picks : Mode → List ℕ → ℕ → Cached → Bool
picks mode topic windows m = nat_lt m.window windows && among topic (topics mode m)

module _ (mode : Mode) (i topic : List ℕ) (windows : ℕ) where
  tells_more : (m : Cached) (ms : List Cached) → Tells mode i topic windows ms → Tells mode i topic windows (m ∷ ms)
  tells_more m ms t =
      record {
        entry = t.entry;
        cached = Memᴰ.tail t.cached;
        named = t.named;
        recent = t.recent;
        carries = t.carries;
      }

  carrying-tells : (ms : List Cached) → among i (ids_of (carrying mode topic windows ms)) ≡ true
      → Tells mode i topic windows ms
  unfolding carrying among
  carrying-tells [] h = clash (cc)
  carrying-tells (m ∷ ms) h =
      either (picks mode topic windows m)
      (λ t.
      let b = both (nat_lt m.window windows) (among topic (topics mode m)) t in
      let g : (same_bytes m.id i || among i (ids_of (carrying mode topic windows ms))) ≡ true = rw t at h in
      either (same_bytes m.id i)
      (λ u. record {
        entry = m;
        cached = Memᴰ.head refl;
        named = same_equal m.id i u;
        recent = ltb-true m.window windows b.0;
        carries = among_in topic (topics mode m) b.1;
      })
      (λ u. tells_more m ms (carrying-tells ms (simp u at g))))
      (λ t. tells_more m ms (carrying-tells ms (rw t at h)))

  tells-carrying : (ms : List Cached) (m : Cached) → Memᴰ m ms → m.id ≡ i → picks mode topic windows m ≡ true
      → among i (ids_of (carrying mode topic windows ms)) ≡ true
  unfolding carrying among
  tells-carrying [] m d e t = absurd (Memᴰ.not-nil d)
  tells-carrying (n ∷ ms) m d e t =
      ⊎_elim
      (λ (g : m ≡ n). let u : picks mode topic windows n ≡ true = rw g at t in let v : n.id ≡ i = rw g at e in
      rw (u, v, same_self i))
      (λ (r : Memᴰ m ms).
      let k = tells-carrying ms m r e t in
      either (picks mode topic windows n) (λ u. rw (u, k) (or-true (same_bytes n.id i))) (λ u. rw u k))
      (Memᴰ.cases_cons d)

  pub gossip_exactly : (ms : List Cached) → (among i (gossip_ids mode topic windows ms)
      ≡ true) ↔ Tells mode i topic windows ms
  unfolding gossip_ids
  gossip_exactly ms = (
    λ h. carrying-tells ms (sym (among-order i (ids_of (carrying mode topic windows ms))) ∙ h),
    λ t. among-order i (ids_of (carrying mode topic windows ms))
        ∙ tells-carrying ms t.entry t.cached t.named
        (rw (lt-ltb t.entry.window windows t.recent) (in_among topic (topics mode t.entry) t.carries)),
  )

-- ---- what is told of is sorted, and so no id is there twice
pub told-distinct : (mode : Mode) (topic : List ℕ) (windows : ℕ) (ms : List Cached)
    → distinct (gossip_ids mode topic windows ms) ≡ true
told-distinct mode topic windows ms =
    let l = gossip_ids mode topic windows ms in
    each-distinct l
    (λ i j h k e.
    let p = gossip_sorted mode topic windows ms i j h k in
    let z : precedes_bytes (slice_index_or l j []) (slice_index_or l j []) ≡ true =
    subst (λ (x : List ℕ). precedes_bytes x (slice_index_or l j []) ≡ true) e p in
    let y = order_irreflexive (slice_index_or l j []) in
    clash (cc))

-- and it is cached
pub mem_held : (m : Cached) (ms : List Cached) → Memᴰ m ms → held m.id ms ≡ true
unfolding held among
mem_held m [] d = absurd (Memᴰ.not-nil d)
mem_held m (k ∷ ms) d =
    ⊎_elim
    (λ (e : m ≡ k). rw (e, same_self k.id))
    (λ (r : Memᴰ m ms). either (same_bytes k.id m.id) (λ t. simp t) (λ t. simp t (mem_held m ms r)))
    (Memᴰ.cases_cons d)

pub told-held : (mode : Mode) (topic : List ℕ) (windows : ℕ) (ms : List Cached) (i : List ℕ)
    → among i (gossip_ids mode topic windows ms) ≡ true → held i ms ≡ true
told-held mode topic windows ms i h =
    let t = (gossip_exactly mode i topic windows ms).0 h in
    subst (λ (x : List ℕ). held x ms ≡ true) t.named (mem_held t.entry ms t.cached)
