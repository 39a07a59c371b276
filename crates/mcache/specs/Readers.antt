-- Short theorems on the message cache, for readers.
use Rattle.std.specs.Prelude.{Result, Err, Ok, ◌≡◌, ℕ, suc, ◌+◌, ◌-◌, ◌*◌, ◌<◌, ◌≤◌, true, false, List, [], ◌∷◌, ◌++◌, length, drop, ◌==◌, ◌≢◌, refl}
use Rattle.std.proofs.Common.{ap, ◌∙◌, ⊎_elim, arith}
use Rattle.std.proofs.lemmas.List.Edits.{sets}
use Rattle.basis.specs.declared.Edition.{Edition}
use Rattle.basis.specs.Dialect.{mode_of, spoken}
use Rattle.basis.specs.Cases.{either}
use Rattle.basis.specs.Told.{done}
use Rattle.rows.specs.declared.Ring.{Ring}
use Rattle.rows.specs.Rows.{place_of, without, one_more}
use Rattle.rows.specs.RowsLaws.{place_is, place-le, newest-more}
use Rattle.protobuf.specs.Walk.{between}
use Rattle.schema.specs.Accept.{accept_of}
use Rattle.ids.specs.Ids.{message_at, id_bytes}
use Rattle.admission.specs.Admission.{topic_places, admission_of}
use Rattle.mcache.specs.declared.MessageCache.{MessageCache}
use Rattle.basis.specs.declared.Fault.{Fault}
use Rattle.mcache.specs.declared.Kept.TheVariants as kept
use Rattle.mcache.specs.Told.{put_told}
use Rattle.mcache.specs.Messages.{Cached, held, put as put_in}
use Rattle.mcache.specs.State.{cached_in, message_size, table_of, topics_at, legal, fresh, dropped, appended}
use Rattle.mcache.specs.State.{passed, aged}
use Rattle.mcache.specs.Calls.{lent_of, Plan, no, keep, answered, kept_in, stored_in, planned, start_cache}
use Rattle.mcache.specs.Calls.{when_fine, entered, shifted, shift_cache}
use Rattle.mcache.specs.WellFormed.{Sized, row_of}
use Rattle.mcache.specs.StateLaws.{fine-tests}
use Rattle.mcache.specs.CachedLaws.{new, leaving, spot, stays, spot_in_lem, spot-free, grown, entered-some}
use Rattle.mcache.specs.CachedLaws.{stored_some, rest, new-topics}
use Rattle.mcache.specs.TableLaws.{kept-all}
use Rattle.mcache.specs.FineLaws.{Enters, planned-keeps}
use Rattle.mcache.specs.Laws.{put_plan, put-cached}

-- ---- the messages
-- with room, all stay
pub room-keeps-all : (max : ℕ) (id m : List ℕ) (ms : List Cached) → held id ms ≡ false → length ms < max
    → put_in max id m ms ≡ ms ++ (new id m ∷ [])
unfolding put_in
room-keeps-all max id m ms h r =
    let e : (length ms + 1) - max ≡ 0 = omega arith in
    rw h (newest-more max ms (new id m) (λ z. omega arith) ∙ ap (λ (n : ℕ). drop n ms ++ (new id m ∷ [])) e)

-- a full cache loses its oldest, and the others stay
pub oldest_leaves : (max : ℕ) (id m : List ℕ) (oldest : Cached) (ms : List Cached) → held id (oldest ∷ ms) ≡ false
    → length (oldest ∷ ms) ≡ max
    → put_in max id m (oldest ∷ ms) ≡ ms ++ (new id m ∷ [])
unfolding put_in
oldest_leaves max id m oldest ms h f =
    let e : (suc (length ms) + 1) - max ≡ 1 = omega arith in
    rw h (newest-more max (oldest ∷ ms) (new id m) (λ z. omega arith)
    ∙ ap (λ (n : ℕ). drop n (oldest ∷ ms) ++ (new id m ∷ [])) e)

-- ---- the calls
module _
    (c : MessageCache) (st : List ℕ) (ed : Edition) (body : List ℕ) (i a e x y z w : ℕ)
    (fine : lent_of c st ≡ Ok tt)
    (ok : accept_of (spoken (mode_of c.flags) ed) body ≡ Ok tt)
    (there : message_at (mode_of c.flags) body i ≡ Ok (a, e))
    (fit : admission_of c.flags (between body a e) true ≡ Ok ((x, y), (z, w)))
  where
    -- a put of a held id answers so and changes nothing, also where the message is another one with that id
    pub held-not_replaced : held (id_bytes (between body a e) x y z w) (cached_in c st) ≡ true
        → (put_told (answered (planned c st ed body i)) ≡ done (0 ∷ [])) × (kept_in c (planned c st ed body i) ≡ c)
        × (stored_in c st (planned c st ed body i) ≡ st)
    held-not_replaced h =
        let p : planned c st ed body i ≡ no (Ok kept.Held) =
        rw h at (put_plan c st ed body i a e x y z w fine ok there fit) in
        (ap (λ (r : Plan). put_told (answered r)) p, ap (kept_in c) p, ap (stored_in c st) p)

    -- a put into a full cache: the oldest goes, the others stay, and the message is the newest
    pub oldest_leaves-put : Sized c → (oldest : Cached) (ms : List Cached) → cached_in c st ≡ oldest ∷ ms
        → length (oldest ∷ ms) ≡ c.max_messages
        → held (id_bytes (between body a e) x y z w) (oldest ∷ ms) ≡ false
        → cached_in (kept_in c (planned c st ed body i)) (stored_in c st (planned c st ed body i)) ≡ ms
        ++ (new (id_bytes (between body a e) x y z w) (between body a e) ∷ [])
    oldest_leaves-put s oldest ms at_first full h =
        put-cached c st ed body i a e x y z w fine ok there fit s
        ∙ ap (put_in c.max_messages (id_bytes (between body a e) x y z w) (between body a e)) at_first
        ∙ oldest_leaves c.max_messages (id_bytes (between body a e) x y z w) (between body a e) oldest ms h full

-- ---- where a message is written: c and st before, d and st2 after
pub record Written (c d : MessageCache) (st st2 m : List ℕ) : Type 0 where
  pub place : ℕ
  -- it is the newest row's place
  pub last : place ≡ row_of d (d.count - 1)
  pub in_range : place < d.max_messages
  -- and of no other row
  pub free : (j : ℕ) → j < d.count - 1 → row_of d j ≢ place
  -- of a full cache it is the place that the oldest left
  pub freed : c.count ≡ c.max_messages → place ≡ row_of c 0
  -- and the message is all that is written
  pub stored : st2 ≡ sets st (place * message_size) m
  -- its topics' places stand beside it, whatever stood there before
  pub topics : topics_at (table_of d) place ≡ topic_places (mode_of c.flags) m

full_place : (ring : Ring) → ring.start ≤ ring.cap → 1 ≤ ring.cap
    → place_of (without 1 ring) (ring.cap - 1) ≡ place_of ring 0
full_place ring a b =
    let l = place-le ring 1 a b in
    ⊎_elim
    (λ u. ⊎_elim (λ v. ⊎_elim (λ r. omega arith) (λ r. omega arith) (place_is ring 0 a))
    (λ v. ⊎_elim (λ r. omega arith) (λ r. omega arith) (place_is ring 0 a))
    (place_is (without 1 ring) (ring.cap - 1) l))
    (λ u. ⊎_elim (λ v. ⊎_elim (λ r. omega arith) (λ r. omega arith) (place_is ring 0 a))
    (λ v. ⊎_elim (λ r. omega arith) (λ r. omega arith) (place_is ring 0 a))
    (place_is (without 1 ring) (ring.cap - 1) l))
    (place_is ring 1 a)

spot-freed : (c : MessageCache) → c.start ≤ c.max_messages → (c.max_messages ≢ 0)
    → c.count ≡ c.max_messages → spot c ≡ row_of c 0
unfolding spot
spot-freed c a some full =
    let k : (c.count + 1) - c.max_messages ≡ 1 = omega arith in
    rw (k, full) (full_place (record { cap = c.max_messages; start = c.start; count = c.max_messages }) a
    (omega (arith, some)))

spot_is : (c : MessageCache) → spot c ≡ place_of (one_more (rest c)) (c.count - leaving c)
unfolding spot place_of
spot_is c = refl

stays-row : (c : MessageCache) (j : ℕ) → stays c j ≡ place_of (one_more (rest c)) j
unfolding stays place_of
stays-row c j = refl

grown-written : (c : MessageCache) (st m id : List ℕ) → lent_of c st ≡ Ok tt → Sized c
    → (c.max_messages ≢ 0) → Enters c m id → Written c (grown m id c) st (sets st (spot c * message_size) m) m
unfolding grown
grown-written c st m id fine z some k =
    let t = fine-tests c st fine in
    let n : ((c.count - leaving c) + 1) - 1 ≡ c.count - leaving c = omega arith in
    record {
      place = spot c;
      last = rw n (spot_is c);
      in_range = spot_in_lem c t.starts t.within some;
      free = λ j h e. spot-free c t.starts t.within some j (omega arith) (stays-row c j ∙ e);
      freed = spot-freed c t.starts some;
      stored = refl;
      topics = new-topics c st m id t z k.id-small k.small some ∙ kept-all c.flags m id k.own;
    }

pub freed-place-used : (c : MessageCache) (st : List ℕ) (ed : Edition) (body m id : List ℕ) (i : ℕ)
    → lent_of c st ≡ Ok tt → Sized c → (c.max_messages ≢ 0) → planned c st ed body i ≡ keep m id
    → Written c (kept_in c (planned c st ed body i)) st (stored_in c st (planned c st ed body i)) m
freed-place-used c st ed body m id i fine z some e =
    rw (e, entered-some m id c some, stored_some c st m some)
    (grown-written c st m id fine z some (planned-keeps c st ed body m id i fine e))

-- ---- the flags, and with them the mode, are those of the start
pub start-flags : (history max flags : ℕ) → legal history max flags ≡ true
    → (start_cache history max flags).flags ≡ flags
unfolding start_cache fresh
start-flags history max flags h = rw h

plan_flags : (c : MessageCache) (r : Plan) → (kept_in c r).flags ≡ c.flags
unfolding entered passed appended dropped
plan_flags c (no r) = refl
plan_flags c (keep m id) = either (c.max_messages == 0) (λ t. rw t) (λ t. rw t)

pub put-flags : (c : MessageCache) (st : List ℕ) (ed : Edition) (body : List ℕ) (i : ℕ)
    → (kept_in c (planned c st ed body i)).flags ≡ c.flags
put-flags c st ed body i = plan_flags c (planned c st ed body i)

when_flags : (c : MessageCache) (r : Result (Unit {0}) Fault) → (when_fine r (shifted c) c).flags ≡ c.flags
unfolding shifted aged dropped
when_flags c (Ok tt) = refl
when_flags c (Err why) = refl

pub shift-flags : (c : MessageCache) (st : List ℕ) → (shift_cache c st).flags ≡ c.flags
unfolding shift_cache
shift-flags c st = when_flags c (lent_of c st)
