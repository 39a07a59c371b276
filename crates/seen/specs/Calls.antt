-- What each call on the seen cache answers and leaves. Refusals come in the order of the scope's table: 40, 41, 42, 33;
-- a refused call leaves the cache and the store as they were.
use Rattle.std.specs.Prelude.{Option, Some, None, Result, Ok, Err, ℕ, ◌+◌, ◌-◌, ◌*◌, ◌/◌, ◌%◌, List, Bool, cond, ◌&&◌, length, get_or, leb, ltb, eqb}
use Rattle.std.proofs.lemmas.List.Edits.{sets}
use Rattle.std.specs.Result.{result_and}
use Rattle.basis.specs.declared.Fault.{Fault}
use Rattle.basis.specs.declared.Fault.TheVariants.{BadSetting, BadStore, Malformed}
use Rattle.basis.specs.Told.{fine_told}
use Rattle.rows.specs.declared.Ring.{Ring}
use Rattle.rows.specs.Rows.{place_of}
use Rattle.rows.specs.Ids.{among}
use Rattle.rows.specs.Store.{ids_in, in_use}
use Rattle.seen.specs.declared.SeenCache.{SeenCache}
use Rattle.seen.specs.declared.Entry.{Entry}
use Rattle.seen.specs.declared.Entry.TheVariants.{Fresh, Held}
use Rattle.seen.specs.declared.SeenError.{SeenError}
use Rattle.seen.specs.declared.SeenError.TheVariants as error
use Rattle.seen.specs.Told.{insert_told, gc_told}
use Rattle.seen.specs.Entries.{until}
use Rattle.seen.specs.State.{well_formed, spent, dropped, appended, id_size, max_ids, ring_of}

-- ---- the scope's numbers
abbrev pub lent_number : Result (Unit {0}) Fault → ℕ
lent_number r = (fine_told r).number

abbrev pub insert_number : Result Entry SeenError → ℕ
insert_number r = (insert_told r).number

abbrev pub gc_number : Result ℕ Fault → ℕ
gc_number r = (gc_told r).number

-- ---- the lent state: 41, 42
-- how many places a store has
unfoldable pub cap_of : List ℕ → ℕ
cap_of st = length st / id_size

-- whole rows, and at most 256
unfoldable pub whole_rows : List ℕ → Bool
whole_rows st = eqb (length st % id_size) 0 && leb (cap_of st) max_ids

unfoldable pub lent_of : SeenCache → List ℕ → Result (Unit {0}) Fault
lent_of c st = cond (whole_rows st) (cond (well_formed (cap_of st) c st) (Ok tt) (Err Malformed)) (Err BadStore)

-- what is wrong with the lent state is told first
abbrev pub faulty : Fault → SeenError
faulty fault = error.Fault fault

abbrev pub on_lent : {A : Type 0} → Result (Unit {0}) Fault → Result A SeenError → Result A SeenError
on_lent (Ok _) r = r
on_lent (Err fault) r = Err (faulty fault)

-- ---- the calls on a state that was tested
unfoldable pub held_in : ℕ → SeenCache → List ℕ → List ℕ → Bool
held_in cap c st id = among id (ids_in id_size (ring_of cap c) c.len st)

unfoldable pub cleaned : ℕ → ℕ → SeenCache → SeenCache
cleaned cap at c = dropped cap (spent at (in_use (ring_of cap c) c.expiry)) c

-- the oldest leave, so that with one more at most `max` remain; then a row for an id of n bytes. With max 0 all leave,
-- and none comes.
unfoldable pub entered : ℕ → ℕ → ℕ → ℕ → SeenCache → SeenCache
entered cap max n e c =
    cond (eqb max 0) (dropped cap c.count c) (appended cap n e (dropped cap ((c.count + 1) - max) c))

-- the bytes of the id are written where that row is, and no others
unfoldable pub entered_store : ℕ → ℕ → SeenCache → List ℕ → List ℕ → List ℕ
entered_store cap max c st id =
    cond (eqb max 0) st
    (let d = dropped cap ((c.count + 1) - max) c in sets st (place_of (ring_of cap d) d.count * id_size) id)

-- whether that can be: the rows in use lie in the arrays and in a store of `room` bytes, max is at most their number,
-- and an id of n bytes fits a row. A state that was tested passes (`lent_enters` of Laws).
unfoldable pub can_enter : ℕ → Ring → ℕ → ℕ → Bool
can_enter max ring room n =
    leb ring.start ring.cap
    && (leb ring.count ring.cap
    && (leb ring.cap max_ids && (leb (ring.cap * id_size) room && (leb max ring.cap && leb n id_size))))

-- ---- insert: 40, 41, 42, 33
unfoldable pub insert_answer : ℕ → SeenCache → List ℕ → List ℕ → Result Entry SeenError
insert_answer max c st id =
    cond (ltb (cap_of st) max) (Err (faulty BadSetting))
    (on_lent (lent_of c st) (cond (ltb id_size (length id)) (Err (error.TooLong (length id)))
    (Ok (cond (held_in (cap_of st) c st id) Held Fresh))))

-- only a fresh id changes anything
abbrev pub when_fresh : {A : Type 0} → Result Entry SeenError → A → A → A
when_fresh (Ok Fresh) new old = new
when_fresh (Ok Held) new old = old
when_fresh (Err _) new old = old

unfoldable pub insert_cache : ℕ → ℕ → ℕ → SeenCache → List ℕ → List ℕ → SeenCache
insert_cache max at ttl c st id =
    when_fresh (insert_answer max c st id) (entered (cap_of st) max (length id) (until at ttl) c) c

unfoldable pub insert_store : ℕ → SeenCache → List ℕ → List ℕ → List ℕ
insert_store max c st id = when_fresh (insert_answer max c st id) (entered_store (cap_of st) max c st id) st

-- ---- contains: 41, 42, 33
unfoldable pub contains_answer : SeenCache → List ℕ → List ℕ → Result Bool SeenError
contains_answer c st id =
    on_lent (lent_of c st) (cond (ltb id_size (length id)) (Err (error.TooLong (length id)))
    (Ok (held_in (cap_of st) c st id)))

-- ---- clean-up: 41, 42
abbrev pub when_fine : {A : Type 0} → Result (Unit {0}) Fault → A → A → A
when_fine (Ok _) new old = new
when_fine (Err _) new old = old

unfoldable pub gc_answer : ℕ → SeenCache → List ℕ → Result ℕ Fault
gc_answer at c st = result_and (lent_of c st) (Ok (cleaned (cap_of st) at c).count)

unfoldable pub gc_cache : ℕ → SeenCache → List ℕ → SeenCache
gc_cache at c st = when_fine (lent_of c st) (cleaned (cap_of st) at c) c

-- ---- the next expiry: 41, 42
unfoldable pub next_answer : SeenCache → List ℕ → Result (Option ℕ) Fault
next_answer c st =
    result_and (lent_of c st)
    (Ok (cond (eqb c.count 0) None (Some (get_or c.expiry (place_of (ring_of (cap_of st) c) 0) 0))))
