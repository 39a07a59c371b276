-- What is told depends only on which ids there are: two lists of ids put in order are the same where the same ids are
-- among them.
use Rattle.std.specs.Prelude.{ℕ, ◌<◌, ◌≡◌, refl, Bool, true, false, ◌||◌, ◌↔◌}
use Rattle.std.proofs.Common.{sym, ap, ◌∙◌}
use Rattle.std.proofs.Math.Bool.{or-true}
use mathlib.Core.List.{List, [], ◌∷◌, ◌++◌, append-nil, Memᴰ}
use Rattle.basis.specs.declared.Mode.{Mode}
use Rattle.basis.specs.Cases.{either, clash}
use Rattle.rows.specs.Ids.{same_bytes, precedes_bytes, among}
use Rattle.rows.specs.IdsLaws.{same_self, same_equal}
use Rattle.mcache.specs.Messages.{Cached, topics, ids_of, carrying, enter_id, in_order, gossip_ids}
use Rattle.mcache.specs.GossipLaws.{order-cases, enter-same, enter-past, enter-front, enter_swap, among-enter}
use Rattle.mcache.specs.GossipLaws.{gossip_exactly}

-- ---- an id entered twice is entered once
enter-twice : (i : List ℕ) (l : List (List ℕ)) → enter_id i (enter_id i l) ≡ enter_id i l
unfolding enter_id
enter-twice i [] = enter-same i i [] refl
enter-twice i (j ∷ l) =
    order-cases i j
    (λ (e : i ≡ j). rw (enter-same i j l e, enter-same i j l e))
    (λ (h : precedes_bytes i j ≡ true). rw (enter-front i j l h) (enter-same i i (j ∷ l) refl))
    (λ (h : precedes_bytes j i ≡ true). rw (enter-past i j l h, enter-past i j (enter_id i l) h, enter-twice i l))

-- an id that is there already changes nothing
enter-there : (i : List ℕ) (is : List (List ℕ)) → among i (in_order is) ≡ true → enter_id i (in_order is) ≡ in_order is
unfolding in_order among
enter-there i [] h = clash (cc)
enter-there i (j ∷ is) h =
    let g : (same_bytes j i || among i (in_order is)) ≡ true = sym (among-enter i j (in_order is)) ∙ h in
    either (same_bytes j i)
    (λ t. rw (same_equal j i t) (enter-twice i (in_order is)))
    (λ t. enter_swap i j (in_order is) ∙ ap (enter_id j) (enter-there i is (simp t at g)))

-- ---- ids that are all there already change nothing
absorbed : (is js : List (List ℕ)) → ((i : List ℕ) → among i (in_order is) ≡ true → among i (in_order js) ≡ true)
    → in_order (is ++ js) ≡ in_order js
unfolding in_order
absorbed [] js h = refl
absorbed (i ∷ is) js h =
    ap (enter_id i) (absorbed is js (λ x m. h x (rw (among-enter x i (in_order is), m) (or-true (same_bytes i x)))))
    ∙ enter-there i js (h i (rw (among-enter i i (in_order is), same_self i)))

-- which come first does not matter
order_middle : (is js : List (List ℕ)) (j : List ℕ) → in_order (is ++ (j ∷ js)) ≡ enter_id j (in_order (is ++ js))
unfolding in_order
order_middle [] js j = refl
order_middle (i ∷ is) js j = ap (enter_id i) (order_middle is js j) ∙ enter_swap i j (in_order (is ++ js))

order_swap : (is js : List (List ℕ)) → in_order (is ++ js) ≡ in_order (js ++ is)
unfolding in_order
order_swap [] js = ap in_order (sym (append-nil js))
order_swap (i ∷ is) js = ap (enter_id i) (order_swap is js) ∙ sym (order_middle js is i)

-- two lists in order with the same ids are the same
pub ordered_same : (is js : List (List ℕ)) → ((i : List ℕ) → among i (in_order is) ≡ among i (in_order js))
    → in_order is ≡ in_order js
ordered_same is js h =
    sym (absorbed js is (λ i m. h i ∙ m)) ∙ order_swap js is ∙ absorbed is js (λ i m. sym (h i) ∙ m)

-- ---- what two caches tell is the same where the same ids are told
pub told_same : (mode : Mode) (topic : List ℕ) (windows windows2 : ℕ) (ms ks : List Cached)
    → ((i : List ℕ) → among i (gossip_ids mode topic windows ms) ≡ among i (gossip_ids mode topic windows2 ks))
    → gossip_ids mode topic windows ms ≡ gossip_ids mode topic windows2 ks
unfolding gossip_ids
told_same mode topic windows windows2 ms ks h =
    ordered_same (ids_of (carrying mode topic windows ms)) (ids_of (carrying mode topic windows2 ks)) h

-- ---- where all windows are asked for, every message that carries the topic is told of
pub record Carried (mode : Mode) (i topic : List ℕ) (ms : List Cached) : Type 0 where
  pub entry : Cached
  pub cached : Memᴰ entry ms
  pub named : entry.id ≡ i
  pub carries : Memᴰ topic (topics mode entry)

pub told-all : (mode : Mode) (i topic : List ℕ) (windows : ℕ) (ms : List Cached)
    → ((m : Cached) → Memᴰ m ms → m.window < windows)
    → (among i (gossip_ids mode topic windows ms) ≡ true) ↔ Carried mode i topic ms
told-all mode i topic windows ms all = (
  λ h. let t = (gossip_exactly mode i topic windows ms).0 h in
      record { entry = t.entry; cached = t.cached; named = t.named; carries = t.carries },
  λ (c : Carried mode i topic ms). (gossip_exactly mode i topic windows ms).1
      (record {
        entry = c.entry;
        cached = c.cached;
        named = c.named;
        recent = all c.entry c.cached;
        carries = c.carries;
      }),
)

-- ---- two caches, all of whose windows are asked for, tell the same where they have the same ids that carry the topic
same_test : (a b : Bool) → (a ≡ true → b ≡ true) → (b ≡ true → a ≡ true) → a ≡ b
same_test true b f g = sym (f refl)
same_test false true f g = g refl
same_test false false f g = refl

pub told-carried : (mode : Mode) (topic : List ℕ) (windows windows2 : ℕ) (ms ks : List Cached)
    → ((m : Cached) → Memᴰ m ms → m.window < windows)
    → ((m : Cached) → Memᴰ m ks → m.window < windows2)
    → ((i : List ℕ) → Carried mode i topic ms ↔ Carried mode i topic ks)
    → gossip_ids mode topic windows ms ≡ gossip_ids mode topic windows2 ks
told-carried mode topic windows windows2 ms ks all all2 h =
    told_same mode topic windows windows2 ms ks
    (λ i.
    let t = told-all mode i topic windows ms all in
    let u = told-all mode i topic windows2 ks all2 in
    same_test (among i (gossip_ids mode topic windows ms)) (among i (gossip_ids mode topic windows2 ks))
    (λ e. u.1 ((h i).0 (t.0 e)))
    (λ e. t.1 ((h i).1 (u.0 e))))
