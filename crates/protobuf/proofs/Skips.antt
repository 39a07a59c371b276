-- Past a group, by the tag that is read in it: each answer as the code gives it.
use Prim.Native.Nat.{ℕ}
use mathlib.Core.Path.{◌≡◌, sym, ap, ◌∙◌}
use mathlib.Core.List.{List}
use borrow.Author.Tests.{eq-eqb, ne_eqb}
use Rattle.std.specs.Prelude.{Result, Ok, Err, Option, Some}
use Rattle.basis.specs.declared.Mode.TheVariants.{Groups}
use Rattle.protobuf.specs.declared.WireError.TheVariants.{EndGroup}
use Rattle.protobuf.specs.declared.WireError.{WireError}
use Rattle.protobuf.specs.Field.{read_tag}
use Rattle.protobuf.specs.Field.{and_on, in_group, skip_group, skip_field}
use Rattle.protobuf.specs.Laws.{group-step}

-- ---- in a group n, from the tag at a place
module _ (l : ℕ) (s : List ℕ) (at n : ℕ) where
  pub in_group_lem : (r : Result (Option (ℕ × ℕ × ℕ)) WireError) → r ≡ read_tag s at
      → in_group (λ j. skip_group j s) l s n r ≡ skip_group l s at n
  in_group_lem r q = ap (in_group (λ j. skip_group j s) l s n) q ∙ sym (group-step l s at n)

  module _ (m type to : ℕ) (q : Ok (Some (m, type, to)) ≡ read_tag s at) where
    pub closes : type ≡ 4 → m ≡ n → Ok to ≡ skip_group l s at n
    closes e f = simp (eq-eqb type 4 e, eq-eqb m n f) at (in_group_lem (Ok (Some (m, type, to))) q)

    pub other_end : type ≡ 4 → (m ≡ n → ⊥) → Err EndGroup ≡ skip_group l s at n
    other_end e f = simp (eq-eqb type 4 e, ne_eqb m n f) at (in_group_lem (Ok (Some (m, type, to))) q)

    -- a field of the group, and then on
    pub goes_on : (r : Result ℕ WireError) → (type ≡ 4 → ⊥) → r ≡ skip_field Groups l s to m type
        → and_on (λ e. skip_group l s e n) r ≡ skip_group l s at n
    unfolding skip_field
    goes_on r e p =
        ap (and_on (λ e. skip_group l s e n)) p ∙ simp (ne_eqb type 4 e) at (in_group_lem (Ok (Some (m, type, to))) q)
