-- Definitions over a message and its submessages: `step` says what is to be for a message, given what is for its
-- submessages. They recurse on how deep submessages are looked into, and the kind's rank is always enough: `unfolds`
-- says so, once for all of them. And induction over the kinds: what holds of a kind where it holds of those that rank
-- lower holds of all.
use Prim.Native.Nat.{ℕ, zero, suc, ◌≤◌, ◌<◌}
use Rattle.std.specs.Prelude.{◌≡◌}
use Rattle.std.proofs.Math.Path.{refl}
use Rattle.std.proofs.Common.{◌∙◌, arith}
use Rattle.schema.specs.declared.Kind.{Kind}
use Rattle.schema.specs.Schema.{rank}

-- what is looked into no more is `none`
unfoldable pub to_depth : {I A : Type 0} → ((Kind → I → A) → Kind → I → A) → A → ℕ → Kind → I → A
to_depth step none zero k x = step (λ j y. none) k x
to_depth step none (suc d) k x = step (to_depth step none d) k x

unfoldable pub over_kinds : {I A : Type 0} → ((Kind → I → A) → Kind → I → A) → A → Kind → I → A
over_kinds step none k x = to_depth step none (rank k) k x

-- a message's step looks only at kinds that rank lower
abbrev pub Looks : {I A : Type 0} → ((Kind → I → A) → Kind → I → A) → Type 0
Looks {I} {A} step = (f g : Kind → I → A) (k : Kind) (x : I) → ((j : Kind) (y : I) → rank j < rank k → f j y ≡ g j y)
    → step f k x ≡ step g k x

module _ {I A : Type 0} (step : (Kind → I → A) → Kind → I → A) (none : A) (looks : Looks step) where
  deep : (d e : ℕ) (k : Kind) (x : I) → rank k ≤ d → rank k ≤ e → to_depth step none d k x ≡ to_depth step none e k x
  unfolding to_depth
  deep zero zero k x p q = refl
  deep zero (suc e) k x p q = looks (λ j y. none) (to_depth step none e) k x (λ j y h. absurd (omega arith))
  deep (suc d) zero k x p q = looks (to_depth step none d) (λ j y. none) k x (λ j y h. absurd (omega arith))
  deep (suc d) (suc e) k x p q = looks (to_depth step none d) (to_depth step none e) k x
      (λ j y h. deep d e j y (omega arith) (omega arith))

  pub unfolds : (k : Kind) (x : I) → over_kinds step none k x ≡ step (over_kinds step none) k x
  unfolding over_kinds to_depth
  unfolds k x =
      deep (rank k) (suc (rank k)) k x (omega arith) (omega arith)
      ∙ looks (to_depth step none (rank k)) (over_kinds step none) k x
      (λ j y h. deep (rank k) (rank j) j y (omega arith) (omega arith))

-- ---- induction over the kinds
module _ (P : Kind → Type 0) (h : (k : Kind) → ((j : Kind) → rank j < rank k → P j) → P k) where
  to : (d : ℕ) (k : Kind) → rank k < d → P k
  to zero k l = absurd (omega arith)
  to (suc d) k l = h k (λ j m. to d j (omega arith))

  pub by_rank : (k : Kind) → P k
  by_rank k = to (suc (rank k)) k (omega arith)
