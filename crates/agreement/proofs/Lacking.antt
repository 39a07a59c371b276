-- The ids that are asked for are those of the messages that the asker lacks, each once; and of each the teller has the
-- message.
use Rattle.std.specs.Prelude.{Ok, ℕ, ◌≤◌, ◌<◌, ◌≡◌, refl, true, false, not, ◌&&◌, length}
use Rattle.std.proofs.Math.Path.{sym, ap}
use Rattle.std.proofs.Common.{◌∙◌, ⊎_elim, arith, lt-ltb}
use Rattle.std.proofs.Math.Bool.{or-true, and-true, and-false}
use mathlib.Core.List.Memᴰ
use mathlib.Core.List.{List, [], ◌∷◌, Memᴰ}
use Rattle.std.proofs.lemmas.List.{length-map}
use Rattle.basis.specs.declared.Mode.{Mode}
use Rattle.basis.specs.Dialect.{mode_of}
use Rattle.basis.specs.Cases.{either, clash}
use Rattle.rows.specs.Ids.{same_bytes, among, distinct}
use Rattle.rows.specs.IdsLaws.{same_self, same_equal, all-few}
use Rattle.seen.specs.Entries.{Entry}
use Rattle.mcache.specs.Messages.{Cached, topics, ids_of, held, get, carrying, gossip_ids}
use Rattle.mcache.specs.StateLaws.{fine-tests}
use Rattle.mcache.specs.CachedLaws.{ids-cached}
use Rattle.mcache.specs.GossipLaws.{among-order, told-distinct, told-held}
use Rattle.node.specs.Gateway.{Gateway, told_of, knows, lacking}
use Rattle.node.specs.State.{gateway_in}
use Rattle.node.specs.Calls.{lent_of}
use Rattle.node.specs.StateLaws.{fine-tests as node-tests}
use Rattle.node.specs.Readers.{asked-exactly}
use Rattle.history.specs.History.{State, gateway_of, Settings}
use Rattle.agreement.specs.Round.{missing, lacked}
use Rattle.agreement.specs.Rows.{Rows, none, row}
use Rattle.agreement.specs.Holding.{Holding}
use Rattle.agreement.specs.HandOver.{lacking-distinct}
use Rattle.agreement.specs.Lacking.{Got}

-- ---- what the rows say of a cached message
pub rows-young : {flags least most : ℕ} {ms : List (List ℕ)} {es : List Entry} {cs : List Cached} (c : Cached)
    → Rows flags least most ms es cs → Memᴰ c cs → c.window ≤ most
rows-young c none d = absurd (Memᴰ.not-nil d)
rows-young c (row {c = k} x rs) d =
    ⊎_elim (λ (e : c ≡ k). rw e x.young) (λ r. rows-young c rs r) (Memᴰ.cases_cons d)

got-more : {flags : ℕ} {i m : List ℕ} (k : List ℕ) (got : List (List ℕ)) → Got flags i m got → Got flags i m (k ∷ got)
unfolding among
got-more {flags} {i} {m} k got g = record { among-got = rw g.among-got (or-true (same_bytes k m)); own = g.own }

pub rows_get : {flags least most : ℕ} {ms : List (List ℕ)} {es : List Entry} {cs : List Cached} (i : List ℕ)
    → Rows flags least most ms es cs → held i cs ≡ true → Got flags i (get i cs) ms
unfolding held get among
rows_get i none h = clash (cc)
rows_get i (row {m} {e} {c} {ms} {es} {cs} x rs) h =
    either (same_bytes c.id i)
    (λ t.
    let w = same_equal c.id i t in
    simp t (record { among-got = rw x.message (simp (same_self m)); own = rw (x.message, ← w) x.own }))
    (λ t. simp t (got-more m ms (rows_get i rs (simp t at h))))

-- ---- the messages that are missing: none of them is held
missing-not-held : (mode : Mode) (topic i : List ℕ) (g : Gateway) (cs : List Cached) → knows g i ≡ true
    → among i (ids_of (missing mode topic g cs)) ≡ false
unfolding missing among
missing-not-held mode topic i g [] h = refl
missing-not-held mode topic i g (c ∷ cs) h =
    let r = missing-not-held mode topic i g cs h in
    either (same_bytes c.id i)
    (λ u. let z : knows g c.id ≡ true = rw (same_equal c.id i u) h in
    either (among topic (topics mode c)) (λ t. simp (t, z) r) (λ t. simp t r))
    (λ u. either (among topic (topics mode c) && not (knows g c.id)) (λ t. simp (t, u) r)
    (λ t. simp t r))

-- those that carry the topic and are not held are missing
missing-among : (mode : Mode) (topic i : List ℕ) (g : Gateway) (windows : ℕ) (cs : List Cached)
    → ((c : Cached) → Memᴰ c cs → c.window < windows)
    → knows g i ≡ false → among i (ids_of (carrying mode topic windows cs)) ≡ among i
    (ids_of (missing mode topic g cs))
unfolding carrying missing among
missing-among mode topic i g windows [] young h = refl
missing-among mode topic i g windows (c ∷ cs) young h =
    let r = missing-among mode topic i g windows cs (λ k d. young k (Memᴰ.tail d)) h in
    let w = lt-ltb c.window windows (young c (Memᴰ.head refl)) in
    either (among topic (topics mode c))
    (λ t. either (same_bytes c.id i)
    (λ u. let z : knows g c.id ≡ false = rw (same_equal c.id i u) h in simp (w, t, u, z))
    (λ u. either (knows g c.id) (λ v. simp (w, t, u, v) r) (λ v. simp (w, t, u, v) r)))
    (λ t. simp (w, t) r)

-- their ids are some of those cached, and so differ where those do
missing-held : (mode : Mode) (topic i : List ℕ) (g : Gateway) (cs : List Cached) → among i (ids_of cs) ≡ false
    → among i (ids_of (missing mode topic g cs)) ≡ false
unfolding missing among
missing-held mode topic i g [] h = refl
missing-held mode topic i g (c ∷ cs) h =
    either (same_bytes c.id i) (λ u. clash (let z = simp u at h in cc))
    (λ u.
    let r = missing-held mode topic i g cs (simp u at h) in
    either (among topic (topics mode c) && not (knows g c.id)) (λ t. simp (t, u) r) (λ t. simp t r))

missing-distinct : (mode : Mode) (topic : List ℕ) (g : Gateway) (cs : List Cached) → distinct (ids_of cs) ≡ true
    → distinct (ids_of (missing mode topic g cs)) ≡ true
unfolding missing distinct
missing-distinct mode topic g [] d = refl
missing-distinct mode topic g (c ∷ cs) d =
    either (among c.id (ids_of cs)) (λ u. clash (let z = simp u at d in cc))
    (λ u.
    let r = missing-distinct mode topic g cs (simp u at d) in
    let n = missing-held mode topic c.id g cs u in
    either (among topic (topics mode c) && not (knows g c.id)) (λ t. simp (t, n) r) (λ t. simp t r))

-- ---- what is asked for
module _ {set : List (List ℕ)} {y : Settings} {first past left : ℕ} {rs : List ℕ} {got : List (List ℕ)} {b : State}
    (h : Holding set y first past rs left got b)
    (topic : List ℕ) (windows : ℕ) (wide : y.history_len ≤ windows) where
  pub fine : lent_of b.node b.ids b.messages ≡ Ok tt
  fine = h.kept.fine

  -- all windows are told of
  pub all-recent : (c : Cached) → Memᴰ c (gateway_of b).cache → c.window < windows
  all-recent c d = let w = rows-young c h.held.rows d in let f = h.ahead.few in omega arith

  cached-distinct : distinct (ids_of (gateway_of b).cache) ≡ true
  unfolding gateway_in
  cached-distinct = ap distinct (ids-cached b.node.cache b.messages)
      ∙ (fine-tests b.node.cache b.messages (node-tests b.node b.ids b.messages fine).messages).once

  abbrev told : List (List ℕ)
  told = told_of topic windows (gateway_of b)

  -- of each id told, b has the message
  pub told-got : (i : List ℕ) → among i (told_of topic windows (gateway_of b)) ≡ true
      → Got y.flags i (get i (gateway_of b).cache) got
  told-got i t = rows_get i h.held.rows (told-held (mode_of (gateway_of b).flags) topic windows
      (gateway_of b).cache i t)

  module _ (a : State) where
    abbrev wants : List (List ℕ)
    wants = lacking (gateway_of a) (told_of topic windows (gateway_of b))

    -- exactly the ids of the messages that a lacks
    pub wants-exactly : (i : List ℕ) → among i (lacking (gateway_of a) (told_of topic windows (gateway_of b))) ≡ among i
        (ids_of (lacked topic a b))
    unfolding gossip_ids
    wants-exactly i =
        asked-exactly (gateway_of a) i told
        ∙ either (knows (gateway_of a) i)
        (λ t. simp t (and-false (among i told) ∙ sym
        (missing-not-held (mode_of (gateway_of b).flags) topic i (gateway_of a) (gateway_of b).cache t)))
        (λ t. simp t (and-true (among i told) ∙ among-order i
        (ids_of (carrying (mode_of (gateway_of b).flags) topic windows (gateway_of b).cache))
        ∙ missing-among (mode_of (gateway_of b).flags) topic i (gateway_of a) windows (gateway_of b).cache all-recent t))

    pub wants-once : distinct (lacking (gateway_of a) (told_of topic windows (gateway_of b))) ≡ true
    wants-once = lacking-distinct (gateway_of a) told
        (told-distinct (mode_of (gateway_of b).flags) topic windows (gateway_of b).cache)

    -- as many as a lacks
    pub wants-count : length (lacking (gateway_of a) (told_of topic windows (gateway_of b))) ≡ length (lacked topic a b)
    wants-count =
        let l = ids_of (lacked topic a b) in
        let m = all-few l wants wants-once (λ i t. sym (wants-exactly i) ∙ t) in
        let n = all-few wants l (missing-distinct (mode_of (gateway_of b).flags) topic (gateway_of a)
        (gateway_of b).cache cached-distinct)
        (λ i t. wants-exactly i ∙ t) in
        let k = length-map (lacked topic a b) (λ (c : Cached). c.id) in
        omega arith
