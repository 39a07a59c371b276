-- The contract of each call that answers and leaves something, as a record of what it says of the answer, the cache
-- that comes back and the lent store; and that it leaves no choice: two results that meet it are the same.
use Rattle.std.specs.Prelude.{Result, ℕ, ◌≡◌, cond, List, length}
use Rattle.std.proofs.Common.{sym, ap₂, ◌∙◌}
use Rattle.basis.specs.declared.Fault.{Fault}
use Rattle.seen.specs.declared.SeenCache.{SeenCache}
use Rattle.seen.specs.declared.Entry.{Entry}
use Rattle.seen.specs.declared.SeenError.{SeenError}
use Rattle.seen.specs.declared.Inserted.{Inserted}
use Rattle.seen.specs.declared.Cleaned.{Cleaned}
use Rattle.seen.specs.State.{ring_of}
use Rattle.seen.specs.Calls.{can_enter, entered, entered_store, insert_answer, insert_cache, insert_store, gc_answer}
use Rattle.seen.specs.Calls.{gc_cache}

-- `left` is the store as it is left
pub record Inserts (max at ttl : ℕ) (c : SeenCache) (st id : List ℕ) (r : Inserted) (left : List ℕ) : Type 0 where
  pub answer : r.answer ≡ insert_answer max c st id
  pub cache : r.cache ≡ insert_cache max at ttl c st id
  pub store : left ≡ insert_store max c st id

pub one_insert : (max at ttl : ℕ) (c : SeenCache) (st id : List ℕ) (r s : Inserted) (left left2 : List ℕ)
    → Inserts max at ttl c st id r left → Inserts max at ttl c st id s left2 → (r ≡ s) × (left ≡ left2)
one_insert max at ttl c st id r s left left2 a b = (
  ap₂ (λ (x : Result Entry SeenError) (d : SeenCache). record { answer = x; cache = d }) (a.answer ∙ sym b.answer)
      (a.cache ∙ sym b.cache),
  a.store ∙ sym b.store,
)

-- a clean-up is not given the store to write
pub record Cleans (at : ℕ) (c : SeenCache) (st : List ℕ) (r : Cleaned) : Type 0 where
  pub answer : r.answer ≡ gc_answer at c st
  pub cache : r.cache ≡ gc_cache at c st

pub one_gc : (at : ℕ) (c : SeenCache) (st : List ℕ) (r s : Cleaned) → Cleans at c st r → Cleans at c st s → r ≡ s
one_gc at c st r s a b =
    ap₂ (λ (x : Result ℕ Fault) (d : SeenCache). record { answer = x; cache = d }) (a.answer ∙ sym b.answer)
    (a.cache ∙ sym b.cache)

-- an id enters where it can; otherwise nothing changes
pub record Enters (cap max e : ℕ) (c : SeenCache) (st id : List ℕ) (r : SeenCache) (left : List ℕ) : Type 0 where
  pub cache : r ≡ cond (can_enter max (ring_of cap c) (length st) (length id)) (entered cap max (length id) e c) c
  pub store : left ≡ cond (can_enter max (ring_of cap c) (length st) (length id)) (entered_store cap max c st id) st

pub one-enter : (cap max e : ℕ) (c : SeenCache) (st id : List ℕ) (r s : SeenCache) (left left2 : List ℕ)
    → Enters cap max e c st id r left → Enters cap max e c st id s left2 → (r ≡ s) × (left ≡ left2)
one-enter cap max e c st id r s left left2 a b = (a.cache ∙ sym b.cache, a.store ∙ sym b.store)
