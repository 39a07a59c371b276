-- What the two marks promise: a claim without a signature does not keep the message with one from being called new, nor the
-- other way round; the cache, which goes by the id alone, keeps whichever came first; and which marks ask looks for.
use Rattle.std.specs.Prelude.{Ok, ℕ, zero, suc, ◌-◌, ◌≤◌, ◌≡◌, Bool, true, not, ◌||◌, length, drop, leb}
use Rattle.std.proofs.Math.Path.{refl, ap}
use Rattle.std.proofs.Common.{◌∙◌, arith, drop_of_length-le}
use mathlib.Core.List.{List, [], ◌∷◌, ◌++◌, map-append}
use Rattle.std.proofs.Math.Bool.{false}
use borrow.Author.Tests.{leb-true, le-leb}
use Rattle.basis.specs.Dialect.{mode_of}
use Rattle.basis.specs.declared.Edition.{Edition}
use Rattle.basis.specs.Cases.{either, clash}
use Rattle.rows.specs.Rows.{newest}
use Rattle.rows.specs.Ids.{same_bytes, among}
use Rattle.rows.specs.IdsLaws.{among-append}
use Rattle.admission.specs.Flags.{allows_unsigned}
use Rattle.admission.specs.Admission.{is_signed}
use Rattle.seen.specs.Entries.{Entry, ids_of, holds, until, inserted, live}
use Rattle.mcache.specs.Messages.{held, put}
use Rattle.mcache.specs.State.{cached_in}
use Rattle.node.specs.declared.Node.{Node}
use Rattle.node.specs.declared.Novelty.TheVariants as novelty
use Rattle.node.specs.Gateway.{Gateway, marked, form_of, is_new, after_admit, knows, having}
use Rattle.node.specs.State.{gateway_in}
use Rattle.node.specs.Calls.{taken, planned, admit_answer, admit_node, admit_seen, admit_cache, cached_of}
use Rattle.node.specs.WellFormed.{Typed}
use Rattle.node.specs.Laws.{plan_takes, admit-says, admit-gateway, cached-gateway}
use Rattle.node.specs.Readers.{new-is-served}
use Rattle.node.specs.WrapLaws.{admit-typed}

-- ---- ids that are not seen at a reading
module _ (k : List ℕ) (later : ℕ) where
  -- none of some ids, none of those that live
  live-without : (es : List Entry) → holds k es ≡ false → holds k (live later es) ≡ false
  unfolding live holds among
  live-without [] h = refl
  live-without (e ∷ es) h =
      either (same_bytes e.id k) (λ t. clash (let z = simp t at h in cc))
      (λ t. either (leb e.expiry later) (λ u. simp u (live-without es (simp t at h))) (λ u. simp u h))

  -- nor after an earlier clean-up
  live-twice : (at : ℕ) (es : List Entry) → at ≤ later → live later (live at es) ≡ live later es
  unfolding live
  live-twice at [] l = refl
  live-twice at (e ∷ es) l =
      either (leb e.expiry at)
      (λ t. let x = leb-true e.expiry at t in
      simp (t, le-leb e.expiry later (omega arith)) (live-twice at es l))
      (λ t. simp t)

  -- nor without the oldest
  live-tail : (e : Entry) (es : List Entry) → holds k (live later (e ∷ es)) ≡ false → holds k (live later es) ≡ false
  unfolding live holds among
  live-tail e es h =
      either (leb e.expiry later) (λ t. simp t at h)
      (λ t. either (same_bytes e.id k) (λ u. clash (let z = simp (t, u) at h in cc))
      (λ u. live-without es (simp (t, u) at h)))

  live-drop : (n : ℕ) (es : List Entry) → holds k (live later es) ≡ false → holds k (live later (drop n es)) ≡ false
  live-drop n [] h = rw (drop_of_length-le {A = Entry} [] {i = n} (omega arith)) h
  live-drop zero (e ∷ es) h = h
  live-drop (suc n) (e ∷ es) h = live-drop n es (live-tail e es h)

  -- nor where another comes in
  live_snoc : (es : List Entry) (x : Entry) → same_bytes x.id k ≡ false → holds k (live later es) ≡ false
      → holds k (live later (es ++ (x ∷ []))) ≡ false
  unfolding live holds among
  live_snoc [] x n h = either (leb x.expiry later) (λ t. simp t) (λ t. simp (t, n))
  live_snoc (e ∷ es) x n h =
      either (leb e.expiry later) (λ t. simp t (live_snoc es x n (simp t at h)))
      (λ t.
      let a : among k (ids_of (e ∷ es)) ≡ false = simp t at h in
      let b = map-append (λ (y : Entry). y.id) (e ∷ es) (x ∷ []) in
      simp t (ap (among k) b ∙ among-append k (ids_of (e ∷ es)) (x.id ∷ []) ∙ rw (a, n)))

  live-inserted : (max : ℕ) (j : List ℕ) (at ttl : ℕ) (es : List Entry) → same_bytes j k ≡ false
      → holds k (live later es) ≡ false → holds k (live later (inserted max j at ttl es)) ≡ false
  unfolding inserted newest
  live-inserted max j at ttl es n h =
      let x : Entry = record { id = j; expiry = until at ttl } in
      let l = es ++ (x ∷ []) in
      either (holds j es) (λ t. simp t h) (λ t. simp t (live-drop (length l - max) l (live_snoc es x n h)))

-- ---- another form is another id
forms_differ : (a b : Bool) (id : List ℕ) → not a ≡ b → same_bytes (marked a id) (marked b id) ≡ false
unfolding same_bytes
forms_differ true true id h = clash (cc)
forms_differ true false id h = refl
forms_differ false true id h = refl
forms_differ false false id h = clash (cc)

-- ---- one of m and u has a signature and the other has none: after an admit of u, at its reading or a later one, m is new
-- wherever it was
pub other_mark-new : (at later : ℕ) (u m id : List ℕ) (g : Gateway) → at ≤ later
    → not (is_signed (mode_of g.flags) u) ≡ is_signed (mode_of g.flags) m
    → is_new later m id g ≡ true → is_new later m id (after_admit at u id g) ≡ true
unfolding is_new after_admit
other_mark-new at later u m id g l n h =
    let k = form_of (mode_of g.flags) m id in
    let a : holds k (live later g.seen) ≡ false =
    either (holds k (live later g.seen)) (λ t. clash (let z = simp t at h in cc)) (λ t. t) in
    let b : holds k (live later (live at g.seen)) ≡ false = rw (live-twice k later at g.seen l) a in
    ap not (live-inserted k later g.max_seen (form_of (mode_of g.flags) u id) at g.ttl (live at g.seen)
    (forms_differ (is_signed (mode_of g.flags) u) (is_signed (mode_of g.flags) m) id n) b)

-- of the calls
gateway_mode : (n : Node) (ss cs : List ℕ) → mode_of (gateway_in n ss cs).flags ≡ mode_of n.cache.flags
unfolding gateway_in
gateway_mode n ss cs = refl

module _ (n : Node) (ss cs : List ℕ) (ed : Edition) (body : List ℕ) (i : ℕ) (word : Bool) (at : ℕ) (u id : List ℕ)
    (typed : Typed n) (plan : planned n ss cs ed body i word at ≡ taken u id) where
  abbrev next_node : Node
  next_node = admit_node n ss at (planned n ss cs ed body i word at)

  abbrev next_seen : List ℕ
  next_seen = admit_seen n ss at (planned n ss cs ed body i word at)

  abbrev next_cache : List ℕ
  next_cache = admit_cache n ss cs at (planned n ss cs ed body i word at)

  next-clock : next_node.clock ≡ at
  unfolding gateway_in after_admit
  next-clock = ap (λ (g : Gateway). g.clock) (admit-gateway n ss cs ed body i word at u id typed plan)

  pub other_mark-told : (ed2 : Edition) (body2 : List ℕ) (j : ℕ) (word2 : Bool) (later : ℕ) (m : List ℕ)
      → not (is_signed (mode_of n.cache.flags) u) ≡ is_signed (mode_of n.cache.flags) m
      → planned next_node next_seen next_cache ed2 body2 j word2 later ≡ taken m id
      → is_new later m id (gateway_in n ss cs) ≡ true
      → admit_answer next_node next_seen later (planned next_node next_seen next_cache ed2 body2 j word2 later) ≡ Ok novelty.New
  other_mark-told ed2 body2 j word2 later m differ plan2 new =
      let t = (plan_takes next_node next_seen next_cache ed2 body2 j word2 later m id).0 plan2 in
      let l : at ≤ later = omega (arith, next-clock, t.forward) in
      let g = admit-gateway n ss cs ed body i word at u id typed plan in
      let a : is_new later m id (gateway_in next_node next_seen next_cache) ≡ true =
      ap (is_new later m id) g
      ∙ other_mark-new at later u m id (gateway_in n ss cs) l (rw (gateway_mode n ss cs) differ) new in
      admit-says next_node next_seen next_cache ed2 body2 j word2 later m id (admit-typed n ss cs typed ed body i word at)
      plan2 ∙ rw a

-- ---- the cache keeps whichever came first
-- an admit under an id that is cached leaves what is served of it
pub kept-first : (at : ℕ) (m id : List ℕ) (g : Gateway) → held id g.cache ≡ true
    → having (after_admit at m id g) (id ∷ []) ≡ having g (id ∷ [])
unfolding having after_admit put
kept-first at m id g h = either (is_new at m id g) (λ t. simp (t, h)) (λ t. simp (t, h))

-- what is served is cached
served-held : (id u : List ℕ) (g : Gateway) → having g (id ∷ []) ≡ u ∷ [] → held id g.cache ≡ true
unfolding having
served-held id u g h =
    either (held id g.cache) (λ t. t) (λ t. clash (let z : [] ≡ u ∷ [] = simp t at h in cc))

-- so after a new message u and then m under the same id, u is served
pub first-served : (at later : ℕ) (u m id : List ℕ) (g : Gateway) → (g.max_messages ≡ 0 → ⊥)
    → held id g.cache ≡ false → is_new at u id g ≡ true
    → having (after_admit later m id (after_admit at u id g)) (id ∷ []) ≡ u ∷ []
first-served at later u m id g some h new =
    let s = new-is-served at u id g new some h in
    kept-first later m id (after_admit at u id g) (served-held id u (after_admit at u id g) s) ∙ s

-- the same of the calls: after both admits a serve of the id finds u
module _ (n : Node) (ss cs : List ℕ) (ed : Edition) (body : List ℕ) (i : ℕ) (word : Bool) (at : ℕ) (u id : List ℕ)
    (typed : Typed n) (plan : planned n ss cs ed body i word at ≡ taken u id) where
  pub first-told : (ed2 : Edition) (body2 : List ℕ) (j : ℕ) (word2 : Bool) (later : ℕ) (m : List ℕ)
      → let n2 = admit_node n ss at (planned n ss cs ed body i word at) in
      let s2 = admit_seen n ss at (planned n ss cs ed body i word at) in
      let c2 = admit_cache n ss cs at (planned n ss cs ed body i word at) in
      let plan2 = planned n2 s2 c2 ed2 body2 j word2 later in
      plan2 ≡ taken m id → (n.cache.max_messages ≡ 0 → ⊥) → held id (cached_in n.cache cs) ≡ false
      → is_new at u id (gateway_in n ss cs) ≡ true
      → cached_of (admit_node n2 s2 later plan2).cache (admit_cache n2 s2 c2 later plan2) (id ∷ []) ≡ u ∷ []
  unfolding gateway_in
  first-told ed2 body2 j word2 later m plan2 some h new =
      let n2 = admit_node n ss at (planned n ss cs ed body i word at) in
      let s2 = admit_seen n ss at (planned n ss cs ed body i word at) in
      let c2 = admit_cache n ss cs at (planned n ss cs ed body i word at) in
      let p2 = planned n2 s2 c2 ed2 body2 j word2 later in
      cached-gateway (admit_node n2 s2 later p2) (admit_seen n2 s2 later p2) (admit_cache n2 s2 c2 later p2) (id ∷ [])
      ∙ ap (λ (g : Gateway). having g (id ∷ []))
      (admit-gateway n2 s2 c2 ed2 body2 j word2 later m id (admit-typed n ss cs typed ed body i word at) plan2
      ∙ ap (after_admit later m id) (admit-gateway n ss cs ed body i word at u id typed plan))
      ∙ first-served at later u m id (gateway_in n ss cs) some h new

-- ---- which ids ask counts as held
-- with the flag off those of signed messages, whatever else is in the store
pub knows_off : (g : Gateway) (i : List ℕ) → allows_unsigned g.flags ≡ false
    → knows g i ≡ holds (marked true i) g.seen
unfolding knows
knows_off g i h = either (holds (marked true i) g.seen) (λ t. rw t) (λ t. rw (t, h))

-- with it on those of either
pub knows_on : (g : Gateway) (i : List ℕ) → allows_unsigned g.flags ≡ true
    → knows g i ≡ (holds (marked true i) g.seen || holds (marked false i) g.seen)
unfolding knows
knows_on g i h = rw h
