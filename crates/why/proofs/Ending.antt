-- The tests of a record, one after the other.
use Prim.Native.Nat.{ℕ, ◌≤◌}
use mathlib.Core.Path.{◌≡◌}
use mathlib.Core.List.{List}
use mathlib.Core.Logic.{◌≢◌}
use mathlib.Core.Bool.{Bool, true, false}
use lib.ListN.{length}
use lib.Dec.{ltb}
use borrow.Author.Tests.{ltb-false, ne_eqb}
use Rattle.stored.specs.Layout.{node_size}
use Rattle.play.specs.Ends.{no_question, is_bad}
use Rattle.why.specs.Ends.{ends_run}

module _ (started : Bool) (kind : ℕ) (s : List ℕ) where
  pub no_node : kind ≡ 13 → ltb (length s) node_size ≡ ends_run started kind s
  unfolding ends_run
  no_node e = rw e

  pub has-node : ends_run started kind s ≡ false → kind ≡ 13 → node_size ≤ length s
  unfolding ends_run
  has-node h e = ltb-false (length s) node_size (rw e at h)

  pub cut : (r : Bool) → kind ≡ 12 → started ≡ true → r ≡ no_question s → r ≡ ends_run started kind s
  unfolding ends_run
  cut r e t q = rw (e, t, q)

  pub early : kind ≡ 12 → started ≡ false → true ≡ ends_run started kind s
  unfolding ends_run
  early e t = rw (e, t)

  pub as_trace : (r : Bool) → kind ≢ 13 → kind ≢ 12 → r ≡ is_bad started kind s → r ≡ ends_run started kind s
  unfolding ends_run
  as_trace r a b q = simp (ne_eqb _ _ a, ne_eqb _ _ b, q)
