-- Rows gathered in the order of their ids: how many there are, and what holds of each.
use Rattle.std.specs.Prelude.{◌≡◌, ℕ, zero, suc, ◌+◌, ◌<◌, ◌≤◌, Bool, List, [], ◌∷◌, length, slice_index, refl}
use Rattle.std.proofs.Common.{ap, arith}
use Rattle.basis.specs.Cases.{either}
use Rattle.rows.specs.Ids.{precedes_bytes}
use Rattle.mcache.specs.State.{insert_row, gather_into}

-- ---- what holds of each
abbrev pub Each : (ℕ → Type 0) → List ℕ → Type 0
Each P l = (i : ℕ) → i < length l → P (slice_index l i)

each-cons : (P : ℕ → Type 0) (x : ℕ) (l : List ℕ) → P x → Each P l → Each P (x ∷ l)
each-cons P x l h k zero j = h
each-cons P x l h k (suc i) j = k i (omega arith)

pub each-rest : (P : ℕ → Type 0) (x : ℕ) (l : List ℕ) → Each P (x ∷ l) → Each P l
each-rest P x l h i j = h (suc i) (omega arith)

pub each_insert : (P : ℕ → Type 0) (id : ℕ → List ℕ) (p : ℕ) (l : List ℕ) → P p → Each P l → Each P (insert_row id p l)
unfolding insert_row
each_insert P id p [] h k = each-cons P p [] h k
each_insert P id p (q ∷ l) h k =
    either (precedes_bytes (id q) (id p))
    (λ t. rw t (each-cons P q (insert_row id p l) (k 0 (omega arith)) (each_insert P id p l h (each-rest P q l k))))
    (λ t. rw t (each-cons P p (q ∷ l) h k))

pub length_insert : (id : ℕ → List ℕ) (p : ℕ) (l : List ℕ) → length (insert_row id p l) ≡ suc (length l)
unfolding insert_row
length_insert id p [] = refl
length_insert id p (q ∷ l) = either (precedes_bytes (id q) (id p)) (λ t. rw t (ap suc (length_insert id p l)))
    (λ t. rw t)

pub each-gather : (P : ℕ → Type 0) (t : ℕ → Bool) (id : ℕ → List ℕ) (qs ps : List ℕ) → Each P qs → Each P ps
    → Each P (gather_into t id qs ps)
unfolding gather_into
each-gather P t id qs [] h k = h
each-gather P t id qs (p ∷ ps) h k =
    either (t p)
    (λ u. rw u (each-gather P t id (insert_row id p qs) ps (each_insert P id p qs (k 0 (omega arith)) h)
    (each-rest P p ps k)))
    (λ u. rw u (each-gather P t id qs ps h (each-rest P p ps k)))

pub length-gather : (t : ℕ → Bool) (id : ℕ → List ℕ) (qs ps : List ℕ)
    → length (gather_into t id qs ps) ≤ length qs + length ps
unfolding gather_into
length-gather t id qs [] = omega arith
length-gather t id qs (p ∷ ps) =
    either (t p)
    (λ u. rw u (omega (arith, length-gather t id (insert_row id p qs) ps, length_insert id p qs)))
    (λ u. rw u (omega (arith, length-gather t id qs ps)))
