-- What a state that was tested is, and what an insert leaves.
use Rattle.std.specs.Prelude.{Result, Ok, Err}
use Prim.Native.Nat.{ℕ, ◌/◌}
use mathlib.Core.Path.{◌≡◌, refl, sym, ap, ◌∙◌}
use mathlib.Core.List.{List}
use native.Mathlib.Omega.{arith}
use lib.Dec.{ltb}
use lib.ListN.{length}
use Rattle.basis.specs.Cases.{either, clash}
use Rattle.basis.specs.declared.Fault.{Fault}
use Rattle.rows.specs.Store.{InStore, Sound}
use Rattle.seen.specs.declared.SeenCache.{SeenCache}
use Rattle.seen.specs.declared.Entry.{Entry}
use Rattle.seen.specs.declared.Entry.TheVariants.{Fresh}
use Rattle.seen.specs.declared.SeenError.{SeenError}
use Rattle.seen.specs.Entries.{until}
use Rattle.seen.specs.State.{id_size, max_ids, ring_of}
use Rattle.seen.specs.Calls.{cap_of, lent_of, on_lent, entered, insert_answer, insert_cache, insert_store}
use Rattle.seen.specs.Laws.{lent-sound, lent_enters, enters_can, fresh-tests, not-fresh-stays}
use Rattle.seen.specs.Unique.{Inserts, Enters}

-- a state that was tested
module _ (c : SeenCache) (st : List ℕ) (fine : Ok tt ≡ lent_of c st) (y : length c.expiry ≡ max_ids) (z : length c.len ≡ max_ids) where
  tested : Sound id_size (ring_of (length st / id_size) c) c.len st
  unfolding cap_of
  tested = lent-sound c st (sym fine) (y, z)

  pub tested_ring : InStore (ring_of (length st / id_size) c) c.expiry
  tested_ring =
      let r = tested.rows in
      record { starts = r.starts; within = r.within; size = omega (arith, r.size) }

-- a fresh answer is one of a state that was tested
through : (l : Result (Unit {0}) Fault) (r : Result Entry SeenError) → on_lent l r ≡ Ok Fresh → l ≡ Ok tt
through (Ok _) r h = refl
through (Err f) r h = clash (cc)

fresh-lent : (max : ℕ) (c : SeenCache) (st id : List ℕ) → insert_answer max c st id ≡ Ok Fresh → lent_of c st ≡ Ok tt
unfolding insert_answer
fresh-lent max c st id h =
    either (ltb (cap_of st) max) (λ t. clash (let z = simp t at h in cc)) (λ t. through (lent_of c st) _ (simp t at h))

module _ (max at ttl : ℕ) (c : SeenCache) (st id : List ℕ) (a : Result Entry SeenError) (e : a ≡ insert_answer max c st id) where
  -- an answer that is not fresh
  pub insert-stays : (a ≡ Ok Fresh → ⊥) → Inserts max at ttl c st id (record { answer = a; cache = c }) st
  insert-stays n = let k = not-fresh-stays max at ttl c st id a (sym e) n in record { answer = e; cache = sym k.0; store = sym k.1 }

  pub insert-enters : a ≡ Ok Fresh → (u : ℕ) → u ≡ until at ttl → (r : SeenCache) (st2 : List ℕ)
      → Enters (length st / id_size) max u c st id r st2 → Inserts max at ttl c st id (record { answer = a; cache = r }) st2
  unfolding insert_cache insert_store cap_of
  insert-enters f u eu r st2 en =
      let i : insert_answer max c st id ≡ Ok Fresh = sym e ∙ f in
      let f = fresh-lent max c st id i in
      let t = fresh-tests max c st id f i in
      let w = enters_can (length st / id_size) max u c st id r st2 (lent_enters (length st / id_size) max c st id t.0 t.1 f refl) en in
      record {
        answer = e;
        cache = rw i (w.0 ∙ ap (λ (x : ℕ). entered (length st / id_size) max (length id) x c) eu);
        store = rw i w.1;
      }
