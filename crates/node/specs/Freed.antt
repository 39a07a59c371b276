-- Freed places are used again, on the node's own path: where an admit that is answered new writes the id and the
-- message, after its clean-up.
use Rattle.std.specs.Prelude.{Ok, ℕ, ◌≡◌, List, Bool}
use Rattle.std.proofs.Math.Path.{sym}
use Rattle.std.proofs.Common.{◌∙◌, arith}
use Rattle.std.proofs.Math.Bool.{true, false}
use Rattle.std.proofs.Math.Dec.{ltb}
use borrow.Author.Tests.{eq-eqb}
use Rattle.basis.specs.Dialect.{mode_of}
use Rattle.basis.specs.declared.Edition.{Edition}
use Rattle.basis.specs.Cases.{either, clash}
use Rattle.seen.specs.Entries.{until}
use Rattle.seen.specs.Calls.{entered_store}
use Rattle.seen.specs.Laws.{well_formed-exactly as seen-exactly}
use Rattle.seen.specs.Freed as seen
use Rattle.mcache.specs.Messages.{held}
use Rattle.mcache.specs.State.{cached_in}
use Rattle.mcache.specs.Calls.{index_in, plan_under, keep, kept_under, stored_under, entered_store as stored_at}
use Rattle.mcache.specs.Calls.{planned as putPlanned}
use Rattle.mcache.specs.Laws.{held-index, put_plan}
use Rattle.mcache.specs.Readers as mcache
use Rattle.node.specs.declared.Node.{Node}
use Rattle.node.specs.declared.Novelty.TheVariants as novelty
use Rattle.node.specs.Gateway.{form_of}
use Rattle.node.specs.Calls.{taken, planned, swept, held_at, admit_answer, admit_node, admit_seen}
use Rattle.node.specs.Calls.{admit_cache, later_node}
use Rattle.node.specs.WellFormed.{Typed}
use Rattle.node.specs.StateLaws.{fine-tests, room_cap}
use Rattle.node.specs.Laws.{Takes, plan_takes, takes-true, swept-fine}

-- n, ss and cs before, d, ss2 and cs2 after; m is taken under id at a reading
pub record Freed (n : Node) (ss cs : List ℕ) (at : ℕ) (m id : List ℕ) (d : Node) (ss2 cs2 : List ℕ) : Type 0 where
  -- the marked id goes to one place of the seen store, which no id kept after the clean-up and the eviction holds
  pub seen : (n.max_seen ≡ 0 → ⊥) → seen.Written n.max_seen (swept n at) d.seen ss ss2
      (form_of (mode_of n.cache.flags) m id)
  pub seen_none : n.max_seen ≡ 0 → ss2 ≡ ss
  -- the message to one place of the cache store, which no message kept holds
  pub cache : (n.cache.max_messages ≡ 0 → ⊥) → held id (cached_in n.cache cs) ≡ false
      → mcache.Written n.cache d.cache cs cs2 m
  pub cache-none : n.cache.max_messages ≡ 0 → cs2 ≡ cs
  -- where the cache still holds the id, it stays as it is
  pub cache-held : held id (cached_in n.cache cs) ≡ true → (d.cache ≡ n.cache) × (cs2 ≡ cs)

-- what an admit takes, a put of the same message would put
pub plan_put : {n : Node} {ss cs : List ℕ} {ed : Edition} {body : List ℕ} {i : ℕ} {word : Bool} {at : ℕ}
    {m id : List ℕ} → Takes n ss cs ed body i word at m id
    → putPlanned n.cache cs ed body i ≡ plan_under n.cache m id
plan_put {n} {ss} {cs} {ed} {body} {i} {word} {at} {m} {id} t =
    let f = fine-tests n ss cs t.fine in
    let p = put_plan n.cache cs ed body i t.start t.next t.from_start t.from_end t.seqno-start
    t.seqno-end f.messages t.accepted t.there (rw t.bytes at (takes-true t)) in
    rw (← t.bytes, ← t.named, held-index n.cache cs id) at p

-- an admit is answered new only where it takes a message
new_plan : (n : Node) (ss : List ℕ) (at : ℕ) (m id : List ℕ) → admit_answer n ss at (taken m id) ≡ Ok novelty.New
    → held_at n ss at (form_of (mode_of n.cache.flags) m id) ≡ false
new_plan n ss at m id h = either (held_at n ss at (form_of (mode_of n.cache.flags) m id))
    (λ t. clash (let z = rw t at h in cc)) (λ t. t)

module _ (n : Node) (ss cs : List ℕ) (ed : Edition) (body : List ℕ) (i : ℕ) (word : Bool) (at : ℕ) (m id : List ℕ)
    (typed : Typed n) (plan : planned n ss cs ed body i word at ≡ taken m id)
    (new : held_at n ss at (form_of (mode_of n.cache.flags) m id) ≡ false) where
  ids-written : (n.max_seen ≡ 0 → ⊥)
      → seen.Written n.max_seen (swept n at) (admit_node n ss at (taken m id)).seen ss
      (admit_seen n ss at (taken m id)) (form_of (mode_of n.cache.flags) m id)
  unfolding later_node
  ids-written some =
      let t = (plan_takes n ss cs ed body i word at m id).0 plan in
      let f = fine-tests n ss cs t.fine in
      let w = (seen-exactly (swept n at) ss).0 (swept-fine n ss cs t.fine at typed.ids) in
      let c = room_cap n ss f.room in
      rw new (seen.entered-written n.max_seen n.max_seen (swept n at) ss
      (form_of (mode_of n.cache.flags) m id) (until at n.ttl)
      (omega (arith, w.starts)) (omega (arith, w.within)) (omega arith) some)

  ids-none : n.max_seen ≡ 0 → admit_seen n ss at (taken m id) ≡ ss
  unfolding entered_store
  ids-none z = rw (new, eq-eqb n.max_seen 0 z)

  message-written : (n.cache.max_messages ≡ 0 → ⊥) → held id (cached_in n.cache cs) ≡ false
      → mcache.Written n.cache (admit_node n ss at (taken m id)).cache cs (admit_cache n ss cs at (taken m id)) m
  unfolding later_node kept_under stored_under
  message-written some h =
      let t = (plan_takes n ss cs ed body i word at m id).0 plan in
      let f = fine-tests n ss cs t.fine in
      let u : ltb (index_in n.cache id) n.cache.count ≡ false = sym (held-index n.cache cs id) ∙ h in
      let p : putPlanned n.cache cs ed body i ≡ keep m id = rw u at (plan_put t) in
      rw (new, u)
      (rw p at (mcache.freed-place-used n.cache cs ed body m id i f.messages typed.messages.sized some p))

  message-none : n.cache.max_messages ≡ 0 → admit_cache n ss cs at (taken m id) ≡ cs
  unfolding stored_under stored_at
  message-none z =
      rw new (either (ltb (index_in n.cache id) n.cache.count) (λ t. rw t)
      (λ t. rw (t, eq-eqb n.cache.max_messages 0 z)))

  message-held : held id (cached_in n.cache cs) ≡ true → ((admit_node n ss at (taken m id)).cache ≡ n.cache)
      × (admit_cache n ss cs at (taken m id) ≡ cs)
  unfolding later_node kept_under stored_under
  message-held h =
      let u : ltb (index_in n.cache id) n.cache.count ≡ true = sym (held-index n.cache cs id) ∙ h in
      (rw (new, u), rw (new, u))

pub admit-freed : (n : Node) (ss cs : List ℕ) (ed : Edition) (body : List ℕ) (i : ℕ) (word : Bool) (at : ℕ)
    (m id : List ℕ) → Typed n → planned n ss cs ed body i word at ≡ taken m id
    → admit_answer n ss at (planned n ss cs ed body i word at) ≡ Ok novelty.New
    → Freed n ss cs at m id (admit_node n ss at (planned n ss cs ed body i word at))
    (admit_seen n ss at (planned n ss cs ed body i word at)) (admit_cache n ss cs at (planned n ss cs ed body i word at))
admit-freed n ss cs ed body i word at m id typed plan h =
    let new = new_plan n ss at m id (rw plan at h) in
    rw plan
    (record {
      seen = ids-written n ss cs ed body i word at m id typed plan new;
      seen_none = ids-none n ss cs ed body i word at m id typed plan new;
      cache = message-written n ss cs ed body i word at m id typed plan new;
      cache-none = message-none n ss cs ed body i word at m id typed plan new;
      cache-held = message-held n ss cs ed body i word at m id typed plan new;
    })
