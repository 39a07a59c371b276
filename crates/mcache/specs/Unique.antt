-- The contract of each call that answers in parts or leaves something, as a record of what it says of the answer, the
-- cache that comes back and every lent byte; and that it leaves no choice: two results that meet it are the same.
use Rattle.std.specs.Prelude.{Result, ◌≡◌, ℕ, List}
use Rattle.std.proofs.Common.{sym, ap, ap₂, ◌∙◌}
use Rattle.basis.specs.declared.Edition.{Edition}
use Rattle.basis.specs.Writing.{answer, written}
use Rattle.rows.specs.Store.{id_at}
use Rattle.mcache.specs.declared.MessageCache.{MessageCache}
use Rattle.mcache.specs.declared.Started.{Started}
use Rattle.mcache.specs.declared.PutDone.{PutDone}
use Rattle.mcache.specs.declared.Shifted.{Shifted}
use Rattle.mcache.specs.declared.GossipIds.{GossipIds}
use Rattle.basis.specs.declared.ShortRoom.{ShortRoom}
use Rattle.basis.specs.declared.Fault.{Fault}
use Rattle.mcache.specs.declared.GossipError.{GossipError}
use Rattle.mcache.specs.declared.Kept.{Kept}
use Rattle.mcache.specs.declared.PutError.{PutError}
use Rattle.mcache.specs.State.{message_id_size}
use Rattle.mcache.specs.Calls.{start_answer, start_cache, lent_of, shift_cache, plan_kept, planned, answered, kept_in}
use Rattle.mcache.specs.Calls.{stored_in, gossip_answer, gossip_count, gossip_rows, tell_answer, tell_count, tell_rows}
use Rattle.mcache.specs.Calls.{form_count, form_left}

-- ---- the contracts; the last argument is the lent bytes as they are left
pub record Starts (history max flags : ℕ) (r : Started) : Type 0 where
  pub answer : r.answer ≡ start_answer history max flags
  pub cache : r.cache ≡ start_cache history max flags

pub record Puts (c : MessageCache) (st : List ℕ) (e : Edition) (body : List ℕ) (i : ℕ) (r : PutDone) (left : List ℕ)
    : Type 0 where
  pub answer : r.answer ≡ answered (planned c st e body i)
  pub cache : r.cache ≡ kept_in c (planned c st e body i)
  pub store : left ≡ stored_in c st (planned c st e body i)

pub record Keeps (c : MessageCache) (st m id : List ℕ) (r : PutDone) (left : List ℕ) : Type 0 where
  pub answer : r.answer ≡ answered (plan_kept c st m id)
  pub cache : r.cache ≡ kept_in c (plan_kept c st m id)
  pub store : left ≡ stored_in c st (plan_kept c st m id)

pub record Shifts (c : MessageCache) (st : List ℕ) (r : Shifted) : Type 0 where
  pub answer : r.answer ≡ lent_of c st
  pub cache : r.cache ≡ shift_cache c st

pub record Gossips (c : MessageCache) (st topic : List ℕ) (windows : ℕ) (r : GossipIds) : Type 0 where
  pub answer : r.answer ≡ gossip_answer c st topic
  pub count : r.count ≡ gossip_count c st topic windows
  pub rows : r.rows ≡ gossip_rows c st topic windows

pub record TellsRows (c : MessageCache) (st topic : List ℕ) (windows : ℕ) (r : GossipIds) : Type 0 where
  pub answer : r.answer ≡ tell_answer c
  pub count : r.count ≡ tell_count c st topic windows
  pub rows : r.rows ≡ tell_rows c st topic windows

pub record Forms (part : List ℕ) (a e b f : ℕ) (out : List ℕ) (r : ℕ) (left : List ℕ) : Type 0 where
  pub count : r ≡ form_count part a e b f out
  pub buffer : left ≡ form_left part a e b f out

-- the id in a place, for every state and place
pub record WritesId (c : MessageCache) (row : ℕ) (out : List ℕ) (r : Result ℕ ShortRoom) (left : List ℕ) : Type 0 where
  pub answer : r ≡ answer (id_at message_id_size c.id_len c.ids row) out
  pub buffer : left ≡ written (id_at message_id_size c.id_len c.ids row) out

-- ---- no choice
same-put : (r s : PutDone) → r.answer ≡ s.answer → r.cache ≡ s.cache → r ≡ s
same-put r s a b = ap₂ (λ (x : Result Kept PutError) (d : MessageCache). record { answer = x; cache = d }) a b

same-told : (r s : GossipIds) → r.answer ≡ s.answer → r.count ≡ s.count → r.rows ≡ s.rows → r ≡ s
same-told r s a b d =
    ap₂ (λ (x : Result (Unit {0}) GossipError) (k : ℕ). record { answer = x; count = k; rows = r.rows }) a b
    ∙ ap (λ (l : List ℕ). record { answer = s.answer; count = s.count; rows = l }) d

pub one-start : (history max flags : ℕ) (r s : Started) → Starts history max flags r → Starts history max flags s
    → r ≡ s
one-start history max flags r s a b =
    ap₂ (λ (x : Result (Unit {0}) Fault) (d : MessageCache). record { answer = x; cache = d }) (a.answer ∙ sym b.answer)
    (a.cache ∙ sym b.cache)

pub one-put : (c : MessageCache) (st : List ℕ) (e : Edition) (body : List ℕ) (i : ℕ) (r s : PutDone)
    (left left2 : List ℕ) → Puts c st e body i r left → Puts c st e body i s left2 → (r ≡ s) × (left ≡ left2)
one-put c st e body i r s left left2 a b = (
  same-put r s (a.answer ∙ sym b.answer) (a.cache ∙ sym b.cache),
  a.store ∙ sym b.store,
)

pub one-keep : (c : MessageCache) (st m id : List ℕ) (r s : PutDone) (left left2 : List ℕ) → Keeps c st m id r left
    → Keeps c st m id s left2 → (r ≡ s) × (left ≡ left2)
one-keep c st m id r s left left2 a b = (
  same-put r s (a.answer ∙ sym b.answer) (a.cache ∙ sym b.cache),
  a.store ∙ sym b.store,
)

pub one_shift : (c : MessageCache) (st : List ℕ) (r s : Shifted) → Shifts c st r → Shifts c st s → r ≡ s
one_shift c st r s a b =
    ap₂ (λ (x : Result (Unit {0}) Fault) (d : MessageCache). record { answer = x; cache = d }) (a.answer ∙ sym b.answer)
    (a.cache ∙ sym b.cache)

pub one_gossip : (c : MessageCache) (st topic : List ℕ) (windows : ℕ) (r s : GossipIds) → Gossips c st topic windows r
    → Gossips c st topic windows s → r ≡ s
one_gossip c st topic windows r s a b =
    same-told r s (a.answer ∙ sym b.answer) (a.count ∙ sym b.count) (a.rows ∙ sym b.rows)

pub one_tell : (c : MessageCache) (st topic : List ℕ) (windows : ℕ) (r s : GossipIds) → TellsRows c st topic windows r
    → TellsRows c st topic windows s → r ≡ s
one_tell c st topic windows r s a b =
    same-told r s (a.answer ∙ sym b.answer) (a.count ∙ sym b.count) (a.rows ∙ sym b.rows)

pub one_form : (part : List ℕ) (a e b f : ℕ) (out : List ℕ) (r s : ℕ) (left left2 : List ℕ)
    → Forms part a e b f out r left → Forms part a e b f out s left2 → (r ≡ s) × (left ≡ left2)
one_form part a e b f out r s left left2 x y = (x.count ∙ sym y.count, x.buffer ∙ sym y.buffer)

pub one-id : (c : MessageCache) (row : ℕ) (out : List ℕ) (r s : Result ℕ ShortRoom) (left left2 : List ℕ)
    → WritesId c row out r left → WritesId c row out s left2 → (r ≡ s) × (left ≡ left2)
one-id c row out r s left left2 a b = (a.answer ∙ sym b.answer, a.buffer ∙ sym b.buffer)
