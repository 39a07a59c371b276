-- The answers, case by case as the code comes to them.
use Prim.Native.Nat.{ℕ, suc, ◌+◌, ◌-◌, ◌*◌, ◌/◌, ◌%◌, ◌≤◌, ◌<◌}
use mathlib.Core.Path.{◌≡◌, refl, sym, ap, ap₂, ◌∙◌}
use mathlib.Core.List.{List, [], ◌∷◌, ◌++◌, append-nil}
use mathlib.Core.Bool.{Bool, true, false, cond}
use native.Mathlib.Omega.{arith}
use native.Mathlib.Numerals.{add-one}
use lib.ListN.{length, take, drop, length-drop}
use lib.Seq.{sets, sets-eq, length-sets, take_at, take_all}
use lib.Dec.{leb, eqb}
use borrow.Author.Tests.{eq-eqb, ne_eqb, le-leb, lt-leb, leb-true, leb-false, lt-ltb, le-ltb}
use Rattle.std.specs.Prelude.{Result, Ok, Err, is_err}
use Rattle.basis.specs.declared.Mode.{Mode}
use Rattle.basis.specs.declared.Edition.{Edition}
use Rattle.basis.specs.Dialect.{mode_of, spoken}
use Rattle.basis.specs.Cases.{either, clash}
use Rattle.basis.specs.Writing.{answer, written}
use Rattle.rows.specs.Store.{InStore, Sound, in_use}
use Rattle.seen.specs.declared.SeenCache.{SeenCache}
use Rattle.seen.specs.Entries.{until}
use Rattle.seen.specs.WellFormed.{Sized as IdsSized}
use Rattle.seen.specs.State.{well_formed as seenWellFormed, fresh as noIds, spent, ring_of as seenRingOf}
use Rattle.seen.specs.StateLaws.{spent_in, sound-dropped}
use Rattle.seen.specs.Calls.{cap_of, whole_rows, lent_of as seenLentOf, held_in, cleaned, entered, entered_store}
use Rattle.seen.specs.Unique.{Enters}
use Rattle.seen.specs.Laws.{lent-sound, sound_enters, enters_can}
use Rattle.mcache.specs.declared.MessageCache.{MessageCache}
use Rattle.mcache.specs.declared.PutDone.{PutDone}
use Rattle.mcache.specs.WellFormed.{Sized as MessagesSized}
use Rattle.mcache.specs.State.{legal, well_formed as cacheWellFormed, fresh as noMessages, Usable}
use Rattle.mcache.specs.Unique.{Keeps, Forms}
use Rattle.mcache.specs.GuardLaws.{keep_usable, form-fit}
use Rattle.mcache.specs.declared.Offer.{Offer}
use Rattle.mcache.specs.Calls.{start_answer as cacheStartAnswer, start_cache, lent_of as cacheLentOf, kept_under, stored_under, shifted, offer_in}
use Rattle.protobuf.specs.declared.Refusal.{Refusal as Placed}
use Rattle.protobuf.specs.Walk.{between}
use Rattle.schema.specs.Accept.{accept_of}
use Rattle.ids.specs.Ids.{message_at, id_bytes, mark}
use Rattle.admission.specs.declared.Unfit.{Unfit}
use Rattle.admission.specs.Flags.{known_flags, allows_unsigned}
use Rattle.admission.specs.Admission.{admission_of, is_signed}
use Rattle.admission.specs.AdmissionLaws.{fit-limits, fit-id, fit-signed}
use Rattle.node.specs.declared.Node.{Node}
use Rattle.node.specs.declared.Started.{Started}
use Rattle.node.specs.State.{legal_settings, fresh_node, rises_from, seen_fits, well_formed, Ready, seen_ring}
use Rattle.node.specs.declared.Admitted.{Admitted}
use Rattle.basis.specs.declared.Fault.TheVariants as fault
use Rattle.basis.specs.declared.Fault.{Fault}
use Rattle.node.specs.declared.AdmitError.TheVariants as admit
use Rattle.node.specs.declared.AdmitError.{AdmitError}
use Rattle.node.specs.declared.AdvertiseError.TheVariants as advertise
use Rattle.node.specs.declared.AdvertiseError.{AdvertiseError}
use Rattle.node.specs.declared.BeatError.TheVariants as beat
use Rattle.node.specs.declared.BeatError.{BeatError}
use Rattle.node.specs.declared.ExplainError.TheVariants as explain
use Rattle.node.specs.declared.ExplainError.{ExplainError}
use Rattle.node.specs.declared.Novelty.TheVariants as novelty
use Rattle.node.specs.declared.Novelty.{Novelty}
use Rattle.node.specs.Gateway.{form_of}
use Rattle.node.specs.Unique.{Starts, Admits, Beats, Advertises, Explains}
use Rattle.node.specs.Calls.{start_answer, start_node, right_sizes, lent_of, later_node, Plan, no, taken, plan_fit, planned, swept, held_at, admit_answer, admit_node, admit_seen, admit_cache, beat_answer, beat_node, advertise_bytes, advertised, advertise_answer, advertise_left, explain_answer}
use Rattle.node.specs.StateLaws.{room_cap, room_whole, lent_ready}

-- an answer that is no error
pub no-error : (r : Result (Unit {0}) Fault) → is_err r ≡ false → Ok tt ≡ r
no-error (Ok _) h = refl
no-error (Err why) h = clash (cc)

-- ---- start
pub fresh-is : (ttl m h x f : ℕ) (s : SeenCache) (c : MessageCache) → s ≡ noIds → c ≡ noMessages h x f
    → ◌≡◌ {A = Node} (record { ttl = ttl; max_seen = m; clock = 0; seen = s; cache = c }) (fresh_node ttl m h x f)
unfolding fresh_node
fresh-is ttl m h x f s c e g = rw (e, g)

pub default_cache : start_cache 1 0 0 ≡ noMessages 1 0 0
unfolding start_cache legal known_flags
default_cache = refl

module _ (ttl m h x flags : ℕ) where
  cache_illegal : (r : Result (Unit {0}) Fault) → r ≡ cacheStartAnswer h x flags → is_err r ≡ true → legal h x flags ≡ false
  unfolding cacheStartAnswer
  cache_illegal (Ok _) e i = clash (cc)
  cache_illegal (Err why) e i = either (legal h x flags) (λ t. clash (let z = simp t at e in cc)) (λ t. t)

  cache-legal : (Ok tt) ≡ cacheStartAnswer h x flags → legal h x flags ≡ true
  unfolding cacheStartAnswer
  cache-legal e = either (legal h x flags) (λ t. t) (λ t. clash (let z = simp t at e in cc))

  refused_as : legal_settings m h x flags ≡ false → {r : Started} → (r.answer ≡ Err fault.BadSetting) × (r.node ≡ fresh_node 0 0 1 0 0) → Starts ttl m h x flags r
  unfolding start_answer start_node
  refused_as e w = record { answer = rw e w.0; node = rw e w.1 }

  pub start-refused : (a : Result (Unit {0}) Fault) → a ≡ cacheStartAnswer h x flags → is_err a ≡ true
      → {r : Started} → (r.answer ≡ Err fault.BadSetting) × (r.node ≡ fresh_node 0 0 1 0 0) → Starts ttl m h x flags r
  unfolding legal_settings
  start-refused a e i w = refused_as (either (leb m 256) (λ t. simp (t, cache_illegal a e i)) (λ t. simp t)) w

  pub start-many : 256 < m → {r : Started} → (r.answer ≡ Err fault.BadSetting) × (r.node ≡ fresh_node 0 0 1 0 0) → Starts ttl m h x flags r
  unfolding legal_settings
  start-many k w = refused_as (simp (lt-leb m 256 k)) w

  pub start_fits : (Ok tt) ≡ cacheStartAnswer h x flags → m ≤ 256 → (s : SeenCache) (c : MessageCache) → s ≡ noIds → c ≡ start_cache h x flags
      → Starts ttl m h x flags (record { answer = Ok tt; node = record { ttl = ttl; max_seen = m; clock = 0; seen = s; cache = c } })
  unfolding start_answer start_node legal_settings start_cache
  start_fits e k s c p q =
      let g = cache-legal e in
      let l = le-leb m 256 k in
      let r : c ≡ noMessages h x flags = simp g at q in
      record { answer = simp (l, g); node = simp (l, g) (fresh-is ttl m h x flags s c p r) }

-- ---- whether the ids seen are well formed
module _ (n : Node) (ss : List ℕ) (room : length ss ≡ n.max_seen * 129) where
  abbrev ids : Bool
  ids = seenWellFormed n.max_seen n.seen ss

  abbrev rises : Bool
  rises = rises_from 0 (in_use (seen_ring n) n.seen.expiry)

  -- the seen cache's own test
  own : n.max_seen ≤ 256 → seenLentOf n.seen ss ≡ cond ids (Ok tt) (Err fault.Malformed)
  unfolding seenLentOf
  own f = rw (room_whole n ss room f, room_cap n ss room)

  many : 256 < n.max_seen → seenLentOf n.seen ss ≡ Err fault.BadStore
  unfolding seenLentOf whole_rows cap_of
  many f = simp (eq-eqb (length ss % 129) 0 (omega arith), lt-leb (length ss / 129) 256 (omega arith))

  pub fits-refused : (r : Result (Unit {0}) Fault) → r ≡ seenLentOf n.seen ss → is_err r ≡ true → false ≡ seen_fits n ss
  unfolding seen_fits
  fits-refused (Ok _) e h = clash (cc)
  fits-refused (Err why) e h =
      either (leb n.max_seen 256)
      (λ t. let o = own (leb-true n.max_seen 256 t) in either ids (λ u. clash (let z = simp u at o in cc)) (λ u. sym (simp (t, u))))
      (λ t. sym (simp t))

  fine-few : (Ok tt) ≡ seenLentOf n.seen ss → n.max_seen ≤ 256
  fine-few e = either (leb n.max_seen 256) (λ t. leb-true n.max_seen 256 t) (λ t. clash (let o = many (leb-false n.max_seen 256 t) in cc))

  pub fits-fine : (Ok tt) ≡ seenLentOf n.seen ss → (r : Bool) → r ≡ rises → r ≡ seen_fits n ss
  unfolding seen_fits
  fits-fine e r h =
      let f = fine-few e in
      let o = own f in
      either ids (λ u. h ∙ sym (simp (le-leb n.max_seen 256 f, u))) (λ u. clash (let z = simp u at o in cc))

  pub fits_ring : (Ok tt) ≡ seenLentOf n.seen ss → length n.seen.expiry ≡ 256 → length n.seen.len ≡ 256 → InStore (seen_ring n) n.seen.expiry
  fits_ring e y z =
      let f = fine-few e in
      let s : Sound 129 (seen_ring n) n.seen.len ss = rw (← room_cap n ss room) (lent-sound n.seen ss (sym e) (y, z)) in
      record { starts = s.rows.starts; within = s.rows.within; size = omega arith }

-- ---- the lent node and its stores
module _ (n : Node) (ss cs : List ℕ) where
  pub lent_setting : length ss / 129 < n.max_seen → Err fault.BadSetting ≡ lent_of n ss cs
  unfolding lent_of cap_of
  lent_setting h = simp (lt-ltb (length ss / 129) n.max_seen h)

  module _ (a : n.max_seen ≤ length ss / 129) where
    store-bad : right_sizes n ss cs ≡ false → Err fault.BadStore ≡ lent_of n ss cs
    unfolding lent_of cap_of
    store-bad h = simp (le-ltb (length ss / 129) n.max_seen a, h)

    pub lent-more : n.max_seen < length ss / 129 → Err fault.BadStore ≡ lent_of n ss cs
    unfolding right_sizes
    lent-more h = store-bad (simp (ne_eqb (length ss) (n.max_seen * 129) (λ e. omega arith)))

    pub lent-part : (length ss % 129 ≡ 0 → ⊥) → Err fault.BadStore ≡ lent_of n ss cs
    unfolding right_sizes
    lent-part h = store-bad (simp (ne_eqb (length ss) (n.max_seen * 129) (λ e. h (omega arith))))

    module _ (b : length ss / 129 ≤ n.max_seen) (w : length ss % 129 ≡ 0) where
      pub lent-room : length ss ≡ n.max_seen * 129
      lent-room = omega arith

      same : eqb (length ss) (n.max_seen * 129) ≡ true
      same = eq-eqb (length ss) (n.max_seen * 129) lent-room

      abbrev held : Bool
      held = eqb (length cs) (n.cache.max_messages * 4096)

      pub lent-refused : (why : Fault) → Err why ≡ cacheLentOf n.cache cs → Err why ≡ lent_of n ss cs
      unfolding lent_of cap_of right_sizes well_formed cacheLentOf
      lent-refused why e =
          either held
          (λ t. either (cacheWellFormed n.cache cs) (λ u. clash (let z = simp (t, u) at e in cc))
          (λ u. simp (le-ltb (length ss / 129) n.max_seen a, same, t, u) (simp (t, u) at e)))
          (λ t. simp (le-ltb (length ss / 129) n.max_seen a, same, t) (simp t at e))

      cache-fine : (Ok tt) ≡ cacheLentOf n.cache cs → (held ≡ true) × (cacheWellFormed n.cache cs ≡ true)
      unfolding cacheLentOf
      cache-fine e =
          either held
          (λ t. either (cacheWellFormed n.cache cs) (λ u. (t, u)) (λ u. clash (let z = simp (t, u) at e in cc)))
          (λ t. clash (let z = simp t at e in cc))

      pub lent-unfit : (Ok tt) ≡ cacheLentOf n.cache cs → seen_fits n ss ≡ false → Err fault.Malformed ≡ lent_of n ss cs
      unfolding lent_of cap_of right_sizes well_formed
      lent-unfit e h = let f = cache-fine e in simp (le-ltb (length ss / 129) n.max_seen a, same, f.0, f.1, h)

      pub lent-fine : (Ok tt) ≡ cacheLentOf n.cache cs → seen_fits n ss ≡ true → Ok tt ≡ lent_of n ss cs
      unfolding lent_of cap_of right_sizes well_formed
      lent-fine e h = let f = cache-fine e in simp (le-ltb (length ss / 129) n.max_seen a, same, f.0, f.1, h)

-- ---- the arrays of a node have their sizes
module _ (n : Node)
    (e : length n.seen.expiry ≡ 256) (l : length n.seen.len ≡ 256)
    (g : length n.cache.generation ≡ 64) (w : length n.cache.window ≡ 64) (m : length n.cache.len ≡ 64) (i : length n.cache.id_len ≡ 64) (r : length n.cache.ids ≡ 8192)
    (x : length n.cache.topic_count ≡ 64) (y : length n.cache.topic_start ≡ 256) (z : length n.cache.topic_len ≡ 256) where
  pub sizes : IdsSized n.seen × MessagesSized n.cache
  sizes = ((e, l), record { generations = g; windows = w; lengths = m; id-lengths = i; id-room = r; topics = record { counts = x; starts = y; sizes = z } })

-- ---- a node that was tested is ready for every step
module _ (n : Node) (ss cs : List ℕ) (h : (Ok tt) ≡ lent_of n ss cs)
    (e : length n.seen.expiry ≡ 256) (l : length n.seen.len ≡ 256)
    (g : length n.cache.generation ≡ 64) (w : length n.cache.window ≡ 64) (m : length n.cache.len ≡ 64) (i : length n.cache.id_len ≡ 64) (r : length n.cache.ids ≡ 8192)
    (x : length n.cache.topic_count ≡ 64) (y : length n.cache.topic_start ≡ 256) (z : length n.cache.topic_len ≡ 256) where
  pub tested : Ready n ss cs
  tested = let s = sizes n e l g w m i r x y z in lent_ready n ss cs (sym h) s.0 s.1

-- ---- admit
abbrev AdmitsBy : Node → List ℕ → List ℕ → ℕ → Plan → Result Novelty AdmitError → Node → List ℕ → List ℕ → Type 0
AdmitsBy n ss cs at plan a r s t = (a ≡ admit_answer n ss at plan) × ((r ≡ admit_node n ss at plan) × ((s ≡ admit_seen n ss at plan) × (t ≡ admit_cache n ss cs at plan)))

module _ (n : Node) (ss cs : List ℕ) (at : ℕ) where
  pub admits-no : (plan : Plan) (a : Result Novelty AdmitError) → plan ≡ no a → AdmitsBy n ss cs at plan a n ss cs
  admits-no plan a e = (rw e, (rw e, (rw e, rw e)))

  pub admits_as : (plan other : Plan) {a : Result Novelty AdmitError} {r : Node} {s t : List ℕ} → plan ≡ other → AdmitsBy n ss cs at other a r s t → AdmitsBy n ss cs at plan a r s t
  admits_as plan other e p = (rw e p.0, (rw e p.1.0, (rw e p.1.1.0, rw e p.1.1.1)))

  -- as the contract has it
  pub admits-all : (ed : Edition) (body : List ℕ) (i : ℕ) (word : Bool) (r : Admitted) {s t : List ℕ}
      → AdmitsBy n ss cs at (planned n ss cs ed body i word at) r.answer r.node s t → Admits n ss cs ed body i word at r s t
  admits-all ed body i word r p = record { answer = p.0; node = p.1.0; seen = p.1.1.0; cache = p.1.1.1 }

  -- the ids that are seen after the clean-up, and a key in its marked form
  module _ (d : SeenCache) (ed : d ≡ cleaned n.max_seen at n.seen) where
    pub swept-sound : Sound 129 (seen_ring n) n.seen.len ss → Sound 129 (seenRingOf n.max_seen d) d.len ss
    unfolding cleaned
    swept-sound s =
        rw ed
        (sound-dropped n.max_seen (spent at (in_use (seen_ring n) n.seen.expiry)) n.seen ss s
        (spent_in at (seen_ring n) n.seen.expiry))

    -- an id enters
    pub swept_enters : Ready n ss cs → (key : List ℕ) → length key ≤ 129 → (x : ℕ) (s : SeenCache) (left : List ℕ)
        → Enters n.max_seen n.max_seen x d ss key s left
        → (s ≡ entered n.max_seen n.max_seen (length key) x d) × (left ≡ entered_store n.max_seen n.max_seen d ss key)
    swept_enters y key k x s left e =
        let m = n.max_seen in
        enters_can m m x d ss key s left (sound_enters m m d ss key (omega arith) k (swept-sound y.rows) y.few) e

    module _ (part key : List ℕ) (ek : key ≡ form_of (mode_of n.cache.flags) part (drop 1 key)) where
      abbrev form : List ℕ
      form = form_of (mode_of n.cache.flags) part (drop 1 key)

      held-is : held_in n.max_seen d ss key ≡ held_at n ss at form
      unfolding held_at swept
      held-is = ap (λ (x : SeenCache). held_in n.max_seen x ss key) ed ∙ ap (λ (k : List ℕ). held_in n.max_seen (cleaned n.max_seen at n.seen) ss k) ek

      pub admits-held : (h : Bool) → h ≡ held_in n.max_seen d ss key → h ≡ true → (r : Node) → r ≡ later_node at d n.cache n
          → AdmitsBy n ss cs at (taken part (drop 1 key)) (Ok novelty.Duplicate) r ss cs
      unfolding swept
      admits-held h e t r f =
          let k : held_at n ss at form ≡ true = sym held-is ∙ sym e ∙ t in
          (rw k, (rw k (f ∙ ap (λ (x : SeenCache). later_node at x n.cache n) ed), (rw k, rw k)))

      -- what is behind the mark, as it is lent
      behind : take (length key - 1) (drop 1 key) ≡ drop 1 key
      behind = take_all (length key - 1) (drop 1 key) (rw (length-drop 1 key) (omega arith))

      pub admits-new : (h : Bool) → h ≡ held_in n.max_seen d ss key → h ≡ false → (x : ℕ) → x ≡ until at n.ttl
          → (s : SeenCache) (ss2 : List ℕ) → (s ≡ entered n.max_seen n.max_seen (length key) x d) × (ss2 ≡ entered_store n.max_seen n.max_seen d ss key)
          → (c : MessageCache) (cs2 : List ℕ) → (c ≡ kept_under part (take (length key - 1) (drop 1 key)) n.cache) × (cs2 ≡ stored_under n.cache cs part (take (length key - 1) (drop 1 key)))
          → (r : Node) → r ≡ later_node at s c n → AdmitsBy n ss cs at (taken part (drop 1 key)) (Ok novelty.New) r ss2 cs2
      unfolding swept
      admits-new h e t x ex s ss2 ws c cs2 wc r f =
          let m = n.max_seen in
          let k : held_at n ss at form ≡ false = sym held-is ∙ sym e ∙ t in
          let es : s ≡ entered m m (length form) (until at n.ttl) (cleaned m at n.seen) =
          ws.0
          ∙ ap (λ (y : List ℕ). entered m m (length y) x d) ek
          ∙ ap (λ (y : ℕ). entered m m (length form) y d) ex
          ∙ ap (λ (y : SeenCache). entered m m (length form) (until at n.ttl) y) ed in
          let et : ss2 ≡ entered_store m m (cleaned m at n.seen) ss form =
          ws.1 ∙ ap (λ (y : List ℕ). entered_store m m d ss y) ek ∙ ap (λ (y : SeenCache). entered_store m m y ss form) ed in
          let ec : c ≡ kept_under part (drop 1 key) n.cache = wc.0 ∙ ap (λ (y : List ℕ). kept_under part y n.cache) behind in
          let eu : cs2 ≡ stored_under n.cache cs part (drop 1 key) = wc.1 ∙ ap (stored_under n.cache cs part) behind in (
            rw k,
            (
              rw k (f ∙ ap (λ (y : SeenCache). later_node at y c n) es ∙ ap (λ (y : MessageCache). later_node at (entered m m (length form) (until at n.ttl) (cleaned m at n.seen)) y n) ec),
              (rw k et, rw k eu),
            ),
          )

pub key-long : (mode : Mode) (part key : List ℕ) → key ≡ form_of mode part (drop 1 key) → 1 ≤ length key
key-long mode part key e = let l = ap length e in omega arith

pub key-small : (mode : Mode) (part key : List ℕ) → key ≡ form_of mode part (drop 1 key) → length key ≤ 129 → length (take (length key - 1) (drop 1 key)) ≤ 128
key-small mode part key e h = let l = ap length e in rw (take_all (length key - 1) (drop 1 key) (rw (length-drop 1 key) (omega arith))) (omega arith)

-- what is behind the mark is the id under which a message is kept
pub keeps-under : (c : MessageCache) (cs part key : List ℕ) → Usable c cs → length part ≤ 4096 → key ≡ form_of (mode_of c.flags) part (drop 1 key)
    → length key ≤ 129 → (r : PutDone) (left : List ℕ) → Keeps c cs part (take (length key - 1) (drop 1 key)) r left
    → (r.cache ≡ kept_under part (take (length key - 1) (drop 1 key)) c) × (left ≡ stored_under c cs part (take (length key - 1) (drop 1 key)))
keeps-under c cs part key u p e k r left w =
    (keep_usable c cs part (take (length key - 1) (drop 1 key)) p (key-small (mode_of c.flags) part key e k) u r left w).1

-- ---- the message in a part
pub plan_unfit : (g : Node) (at : ℕ) (p : List ℕ) (word : Bool) (why : Unfit) → Err why ≡ admission_of g.cache.flags p word
    → plan_fit g at p (admission_of g.cache.flags p word) ≡ no (Err (admit.Unfit why))
plan_unfit g at p word why e = rw (← e)

module _ (flags : ℕ) (p : List ℕ) (word : Bool) (a e b f : ℕ) (h : admission_of flags p word ≡ Ok ((a, e), (b, f))) where
  pub plan_back : (g : Node) (at : ℕ) → at < g.clock → plan_fit g at p (admission_of flags p word) ≡ no (Err (admit.ClockBack g.clock))
  plan_back g at k = rw (h, lt-ltb at g.clock k)

  plan_taken : (g : Node) (at : ℕ) → g.clock ≤ at → plan_fit g at p (admission_of flags p word) ≡ taken p (id_bytes p a e b f)
  plan_taken g at k = rw (h, le-ltb at g.clock k)

  -- where unsigned messages are not allowed it has a signature
  pub has-signature : allows_unsigned flags ≡ false → is_signed (mode_of flags) p ≡ true
  has-signature off = fit-signed flags p word a e b f h off

  -- the id was formed behind the mark
  module _ (first_byte : ℕ) (is-mark : first_byte ≡ mark (is_signed (mode_of flags) p)) (n : ℕ) (first y : List ℕ) (z : length first ≡ 128)
      (k : Forms p a e b f first n y) where
    counted : (n ≡ length (id_bytes p a e b f)) × (y ≡ sets first 0 (id_bytes p a e b f))
    counted = form-fit flags p word a e b f first n y h (let l = fit-id flags p word a e b f h in omega (arith, l.1)) k

    abbrev key : List ℕ
    key = take (n + 1) (first_byte ∷ (y ++ []))

    formed : take n y ≡ id_bytes p a e b f
    formed =
        let l = fit-id flags p word a e b f h in
        rw (counted.1, sets-eq (id_bytes p a e b f) first 0 (omega arith)) (take_at (id_bytes p a e b f) (drop (0 + length (id_bytes p a e b f)) first) n (sym counted.0))

    pub formed-small : n ≤ 128
    formed-small = let l = fit-id flags p word a e b f h in omega (arith, counted.0)

    pub formed-room : n + 1 ≤ suc (length (y ++ []))
    formed-room =
        let l : length y ≡ length first = ap length counted.1 ∙ length-sets first 0 (id_bytes p a e b f) in
        let s = formed-small in
        rw (append-nil y) (omega arith)

    formed-key : key ≡ form_of (mode_of flags) p (id_bytes p a e b f)
    formed-key = rw (append-nil y, add-one n) (ap₂ (λ (c : ℕ) (x : List ℕ). c ∷ x) is-mark formed)

    pub formed-counts : n + 1 ≡ length key
    formed-counts = let l = ap length formed-key in omega (arith, counted.0)

    pub formed-fits : (length p ≤ 4096) × (length key ≤ 129) × (key ≡ form_of (mode_of flags) p (drop 1 key))
    formed-fits = ((fit-limits flags p word a e b f h).small, omega (arith, formed-counts, formed-small), formed-key ∙ ap (λ (x : List ℕ). form_of (mode_of flags) p (drop 1 x)) (sym formed-key))

    pub admits-formed : (g : Node) (ss cs : List ℕ) (at : ℕ) → g.clock ≤ at → {r : Result Novelty AdmitError} {g2 : Node} {s t : List ℕ}
        → AdmitsBy g ss cs at (taken p (drop 1 key)) r g2 s t → AdmitsBy g ss cs at (plan_fit g at p (admission_of flags p word)) r g2 s t
    admits-formed g ss cs at c w =
        admits_as g ss cs at (plan_fit g at p (admission_of flags p word)) (taken p (drop 1 key)) (plan_taken g at c ∙ ap (λ (x : List ℕ). taken p (drop 1 x)) (sym formed-key)) w

-- ---- the message at an index of a body
module _ (n : Node) (ss cs : List ℕ) (ed : Edition) (body : List ℕ) (i : ℕ) (word : Bool) (at : ℕ) where
  pub plan_faulty : (why : Fault) → Err why ≡ lent_of n ss cs → planned n ss cs ed body i word at ≡ no (Err (admit.Faulty why))
  unfolding planned
  plan_faulty why e = rw (← e)

  pub plan_refused : {mode : Mode} (why : Placed) → Ok tt ≡ lent_of n ss cs → mode ≡ mode_of n.cache.flags → Err why ≡ accept_of (spoken mode ed) body
      → planned n ss cs ed body i word at ≡ no (Err (admit.Refused why))
  unfolding planned
  plan_refused why e m f = rw (← e, ← m, ← f)

  pub plan_missing : {mode : Mode} (k : ℕ) → Ok tt ≡ lent_of n ss cs → mode ≡ mode_of n.cache.flags → Ok tt ≡ accept_of (spoken mode ed) body → Err k ≡ message_at mode body i
      → planned n ss cs ed body i word at ≡ no (Err (admit.NoMessage k))
  unfolding planned
  plan_missing k e m f g = rw (← e, ← m, ← f, ← m, ← g)

  pub plan_at_lem : {mode : Mode} (a b : ℕ) → Ok tt ≡ lent_of n ss cs → mode ≡ mode_of n.cache.flags → Ok tt ≡ accept_of (spoken mode ed) body → Ok (a, b) ≡ message_at mode body i
      → planned n ss cs ed body i word at ≡ plan_fit n at (between body a b) (admission_of n.cache.flags (between body a b) word)
  unfolding planned
  plan_at_lem a b e m f g = rw (← e, ← m, ← f, ← m, ← g)

-- ---- heartbeat
module _ (n : Node) (ss cs : List ℕ) (at : ℕ) where
  pub beat-faulty : (why : Fault) → Err why ≡ lent_of n ss cs → Err (beat.Faulty why) ≡ beat_answer n ss cs at
  unfolding beat_answer
  beat-faulty why e = rw (← e)

  pub beat-back : Ok tt ≡ lent_of n ss cs → at < n.clock → Err (beat.ClockBack n.clock) ≡ beat_answer n ss cs at
  unfolding beat_answer
  beat-back e k = rw (← e, lt-ltb at n.clock k)

  pub beat-on : Ok tt ≡ lent_of n ss cs → n.clock ≤ at → Ok tt ≡ beat_answer n ss cs at
  unfolding beat_answer
  beat-on e k = rw (← e, le-ltb at n.clock k)

  pub beat-stays : (r : Result (Unit {0}) BeatError) → r ≡ beat_answer n ss cs at → is_err r ≡ true
      → Beats n ss cs at (record { answer = r; node = n })
  unfolding beat_node
  beat-stays (Ok _) e h = clash (cc)
  beat-stays (Err why) e h = record { answer = e; node = rw (← e) }

  pub beat-done : (r : Result (Unit {0}) BeatError) → r ≡ beat_answer n ss cs at → is_err r ≡ false
      → (s : SeenCache) → s ≡ cleaned n.max_seen at n.seen → (c : MessageCache) → c ≡ shifted n.cache
      → (d : Node) → d ≡ later_node at s c n → Beats n ss cs at (record { answer = r; node = d })
  unfolding beat_node swept
  beat-done (Err why) e h s es c ec d f = clash (cc)
  beat-done (Ok _) e h s es c ec d f =
      record {
        answer = e;
        node = rw (← e) (f ∙ ap (λ (x : SeenCache). later_node at x c n) es ∙ ap (λ (x : MessageCache). later_node at (cleaned n.max_seen at n.seen) x n) ec);
      }

-- ---- advertise
module _ (n : Node) (ss cs topic : List ℕ) (windows : ℕ) (out : List ℕ) where
  abbrev Advertising : Result ℕ AdvertiseError → List ℕ → Type 0
  Advertising a o = (a ≡ advertise_answer n ss cs topic windows out) × (o ≡ advertise_left n ss cs topic windows out)

  pub advertise-faulty : (why : Fault) → Err why ≡ lent_of n ss cs → Advertising (Err (advertise.Faulty why)) out
  unfolding advertise_answer advertise_left
  advertise-faulty why e = (rw (← e), rw (← e))

  pub advertise-long : Ok tt ≡ lent_of n ss cs → 1024 < length topic → Advertising (Err (advertise.TopicTooLong (length topic))) out
  unfolding advertise_answer advertise_left
  advertise-long e k = let t = lt-ltb 1024 (length topic) k in (rw (← e, t), rw (← e, t))

  pub advertise_told_lem : Ok tt ≡ lent_of n ss cs → length topic ≤ 1024 → (r : Result ℕ AdvertiseError) (o : List ℕ)
      → (r ≡ advertised (answer (advertise_bytes n cs topic windows) out)) × (o ≡ written (advertise_bytes n cs topic windows) out) → Advertising r o
  unfolding advertise_answer advertise_left
  advertise_told_lem e k r o w = let t = le-ltb 1024 (length topic) k in (rw (← e, t) w.0, rw (← e, t) w.1)

-- ---- explain
module _ (n : Node) (ss cs id topic : List ℕ) (windows : ℕ) where
  pub explain-faulty : (why : Fault) → Err why ≡ lent_of n ss cs → Err (explain.Faulty why) ≡ explain_answer n ss cs id topic windows
  unfolding explain_answer
  explain-faulty why e = rw (← e)

  pub explain-long : Ok tt ≡ lent_of n ss cs → 1024 < length topic
      → Err (explain.TopicTooLong (length topic)) ≡ explain_answer n ss cs id topic windows
  unfolding explain_answer
  explain-long e k = rw (← e, lt-ltb 1024 (length topic) k)

  pub explain_why : Ok tt ≡ lent_of n ss cs → length topic ≤ 1024 → (o : Offer) → o ≡ offer_in n.cache cs id topic windows
      → Ok o ≡ explain_answer n ss cs id topic windows
  unfolding explain_answer
  explain_why e k o w = rw (← e, le-ltb 1024 (length topic) k, w)
