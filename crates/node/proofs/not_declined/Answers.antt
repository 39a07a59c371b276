-- `not_declined` meets its contract: the ids in the IDONTWANTs of the second body, none where it is empty, and the parts
-- that are not among them.
use mathlib.Core.Path.{◌≡◌, refl, sym, ap, ◌∙◌}
use mathlib.Core.List.{List, [], ◌∷◌}
use Prim.Native.Nat.{ℕ}
use native.Mathlib.Omega.{arith}
use lib.ListN.{length}
use Rattle.basis.specs.declared.Mode.{Mode}
use Rattle.node.specs.Parts.{parts_in, without}
use Rattle.node.specs.PartsLaws.{parts_none}
use Rattle.node.specs.Calls.{unwanted_in}
use Rattle.node.specs.Declined.{empty-declines}
use Rattle.node.proofs.Asking.{named-room, named-is}
use Rattle.node.proofs.not_declined.Goals as goal

none_declined : (mode : Mode) (s t : List ℕ) → length s ≡ 0 → parts_in s t 0 ≡ unwanted_in mode s
unfolding parts_in
none_declined mode [] t h = sym (empty-declines mode)
none_declined mode (x ∷ s) t h = absurd (omega arith)

pub returns-then-unwanted-eq0 : goal.returns-then-unwanted-eq0
returns-then-unwanted-eq0 c =
    let q = c.parts_without.ensures in
    let u = none_declined c.args.mode c.args.unwanted.now c.args.from.now c.if-unwanted-eq0.true in record {
      result_after = q.result_after ∙ ap (λ (l : List (List ℕ)). without l (parts_in c.args.body.now c.args.from.now c.args.n)) u;
      parts_2 = q.parts_3;
      upper_bound = q.upper_bound;
    }

pub parts_at-m-requires : goal.parts_at-m-requires
parts_at-m-requires c =
    record {
      start_le_end = (omega arith, omega arith);
      parts = parts_none _ _;
      end_in_bounds = named-room refl (3 ∷ 5 ∷ 1 ∷ []) c.args.unwanted.now c.requires.unwanted_len_bound;
    }

pub returns : goal.returns
unfolding unwanted_in
returns c =
    let q = c.parts_without-2.ensures in
    let u = named-is refl (3 ∷ 5 ∷ 1 ∷ []) c.args.unwanted.now c.requires.unwanted_len_bound _ _ _ c.parts_at-m.ensures.result_after in record {
      result_after = q.result_after ∙ ap (λ (l : List (List ℕ)). without l (parts_in c.args.body.now c.args.from.now c.args.n)) u;
      parts_2 = q.parts_3;
      upper_bound = q.upper_bound;
    }
