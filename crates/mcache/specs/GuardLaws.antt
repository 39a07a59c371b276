-- What `keep`, `tell` and `form_id` ask first: a tested state and a message that may be taken meet it, so that callers
-- which tested are led back to the definitions without it.
use Rattle.std.specs.Prelude.{Ok, ◌≡◌, ℕ, ◌+◌, ◌-◌, ◌*◌, ◌≤◌, Bool, true, List, length}
use Rattle.std.proofs.Common.{arith, length-append, leb-true, le-leb, eqb-true, eq-eqb}
use Rattle.std.proofs.lemmas.List.Edits.{sets}
use Rattle.basis.specs.Dialect.{mode_of}
use Rattle.basis.specs.Cases.{both}
use Rattle.rows.specs.declared.Ring.{Ring}
use Rattle.protobuf.specs.Walk.{between}
use Rattle.protobuf.specs.WalkLaws.{between-length}
use Rattle.ids.specs.Ids.{id_bytes}
use Rattle.ids.specs.IdLaws.{id-fits}
use Rattle.admission.specs.Admission.{admission_of}
use Rattle.admission.specs.AdmissionLaws.{fit_parts}
use Rattle.mcache.specs.declared.MessageCache.{MessageCache}
use Rattle.mcache.specs.declared.PutDone.{PutDone}
use Rattle.mcache.specs.declared.GossipIds.{GossipIds}
use Rattle.mcache.specs.State.{Usable, message_size, message_id_size, message_limit, ring_of}
use Rattle.mcache.specs.Calls.{lent_of, gossip_list, gossip_array, answered, plan_under, kept_under}
use Rattle.mcache.specs.Calls.{stored_under, rows_lie, keepable, plan_kept, tell_answer, tell_count, tell_rows}
use Rattle.mcache.specs.Calls.{formable, form_count, form_left}
use Rattle.mcache.specs.Unique.{Keeps, TellsRows, Forms}
use Rattle.mcache.specs.StateLaws.{fine-tests}

-- ---- the rows
pub rows_lie_lem : (ring : Ring) → ring.cap ≤ message_limit → ring.start ≤ ring.cap → ring.count ≤ ring.cap
    → rows_lie ring ≡ true
unfolding rows_lie
rows_lie_lem ring a b d =
    simp (le-leb ring.cap message_limit a, le-leb ring.start ring.cap b, le-leb ring.count ring.cap d)

pub lie_rows : (ring : Ring) → rows_lie ring ≡ true → (ring.cap ≤ message_limit) × (ring.start ≤ ring.cap)
    × (ring.count ≤ ring.cap)
unfolding rows_lie
lie_rows ring h =
    let a = both _ _ h in
    let b = both _ _ a.1 in (
      leb-true ring.cap message_limit a.0,
      leb-true ring.start ring.cap b.0,
      leb-true ring.count ring.cap b.1,
    )

pub usable_lies : (c : MessageCache) (st : List ℕ) → Usable c st → rows_lie (ring_of c) ≡ true
usable_lies c st u = rows_lie_lem (ring_of c) u.rows.few u.rows.starts u.rows.within

pub fine_lies : (c : MessageCache) (st : List ℕ) → lent_of c st ≡ Ok tt → rows_lie (ring_of c) ≡ true
fine_lies c st f = let t = fine-tests c st f in rows_lie_lem (ring_of c) t.few t.starts t.within

-- ---- keep
pub keeps_when : (ring : Ring) (s m i : ℕ) → rows_lie ring ≡ true → s ≡ ring.cap * message_size → m ≤ message_size
    → i ≤ message_id_size → keepable ring s m i ≡ true
unfolding keepable
keeps_when ring s m i h e a b =
    simp (h, eq-eqb s (ring.cap * message_size) e, le-leb m message_size a, le-leb i message_id_size b)

pub when_keeps : (ring : Ring) (s m i : ℕ) → keepable ring s m i ≡ true → (rows_lie ring ≡ true)
    × (s ≡ ring.cap * message_size) × (m ≤ message_size) × (i ≤ message_id_size)
unfolding keepable
when_keeps ring s m i h =
    let a = both _ _ h in
    let b = both _ _ a.1 in
    let d = both _ _ b.1 in
    (a.0, eqb-true s (ring.cap * message_size) b.0, leb-true m message_size d.0, leb-true i message_id_size d.1)

module _ (c : MessageCache) (st m id : List ℕ) (small : length m ≤ message_size)
    (short : length id ≤ message_id_size) where
  kept_plan : rows_lie (ring_of c) ≡ true → length st ≡ c.max_messages * message_size
      → plan_kept c st m id ≡ plan_under c m id
  unfolding plan_kept
  kept_plan l r = rw (keeps_when (ring_of c) (length st) (length m) (length id) l r small short)

  pub plan_usable : Usable c st → plan_kept c st m id ≡ plan_under c m id
  plan_usable u = kept_plan (usable_lies c st u) u.rows.room

  as_under : plan_kept c st m id ≡ plan_under c m id → (r : PutDone) (left : List ℕ) → Keeps c st m id r left
      → (r.answer ≡ answered (plan_under c m id)) × ((r.cache ≡ kept_under m id c) × (left ≡ stored_under c st m id))
  unfolding kept_under stored_under
  as_under e r left k = (rw (← e) k.answer, (rw (← e) k.cache, rw (← e) k.store))

  -- `keep` on a tested state
  pub keep_usable : Usable c st → (r : PutDone) (left : List ℕ) → Keeps c st m id r left
      → (r.answer ≡ answered (plan_under c m id)) × ((r.cache ≡ kept_under m id c) × (left ≡ stored_under c st m id))
  keep_usable u = as_under (plan_usable u)

-- ---- tell
module _ (c : MessageCache) (st topic : List ℕ) (windows : ℕ) where
  as_told : rows_lie (ring_of c) ≡ true → (r : GossipIds) → TellsRows c st topic windows r → (r.answer ≡ Ok tt)
      × ((r.count ≡ length (gossip_list c st topic windows)) × (r.rows ≡ gossip_array c st topic windows))
  unfolding tell_answer tell_count tell_rows
  as_told h r t = (rw h at t.answer, (rw h at t.count, rw h at t.rows))

  -- `tell` on a tested state
  pub tell_usable : Usable c st → (r : GossipIds) → TellsRows c st topic windows r → (r.answer ≡ Ok tt)
      × ((r.count ≡ length (gossip_list c st topic windows)) × (r.rows ≡ gossip_array c st topic windows))
  tell_usable u = as_told (usable_lies c st u)

  pub tell_fine : lent_of c st ≡ Ok tt → (r : GossipIds) → TellsRows c st topic windows r → (r.answer ≡ Ok tt)
      × ((r.count ≡ length (gossip_list c st topic windows)) × (r.rows ≡ gossip_array c st topic windows))
  tell_fine f = as_told (fine_lies c st f)

-- ---- form_id
pub forms_when : (n a e b f m : ℕ) → a ≤ e → e ≤ n → b ≤ f → f ≤ n → (e - a) + (f - b) ≤ m
    → formable n a e b f m ≡ true
unfolding formable
forms_when n a e b f m h i j k l =
    simp (le-leb a e h, le-leb e n i, le-leb b f j, le-leb f n k, le-leb ((e - a) + (f - b)) m l)

pub when_forms : (n a e b f m : ℕ) → formable n a e b f m ≡ true → (a ≤ e) × (e ≤ n) × (b ≤ f) × (f ≤ n)
    × ((e - a) + (f - b) ≤ m)
unfolding formable
when_forms n a e b f m h =
    let p = both _ _ h in
    let q = both _ _ p.1 in
    let r = both _ _ q.1 in
    let s = both _ _ r.1 in (
      leb-true a e p.0,
      leb-true e n q.0,
      leb-true b f r.0,
      leb-true f n s.0,
      leb-true ((e - a) + (f - b)) m s.1,
    )

pub id-length : (p : List ℕ) (a e b f : ℕ) → e ≤ length p → f ≤ length p
    → length (id_bytes p a e b f) ≡ (e - a) + (f - b)
id-length p a e b f h k =
    let n = length-append (between p a e) (between p b f) in
    let x = between-length p a e h in
    let y = between-length p b f k in
    omega arith

-- of a message that may be taken, where there is room
pub form-fit : (flags : ℕ) (p : List ℕ) (word : Bool) (a e b f : ℕ) (out : List ℕ) (n : ℕ) (left : List ℕ)
    → admission_of flags p word ≡ Ok ((a, e), (b, f)) → length (id_bytes p a e b f) ≤ length out
    → Forms p a e b f out n left → (n ≡ length (id_bytes p a e b f)) × (left ≡ sets out 0 (id_bytes p a e b f))
unfolding form_count form_left
form-fit flags p word a e b f out n left h room k =
    let w = id-fits (mode_of flags) p a e b f (fit_parts flags p word a e b f h) in
    let l = id-length p a e b f w.from.1 w.seqno.1 in
    let t = forms_when (length p) a e b f (length out) w.from.0 w.from.1 w.seqno.0 w.seqno.1
    (omega arith) in
    (rw t at k.count, rw t at k.buffer)
