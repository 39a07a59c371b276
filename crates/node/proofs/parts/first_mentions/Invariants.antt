-- `first_mentions` meets its contract. The outer loop's invariant: the parts kept, and then those from i on that are not among them, are all of the
-- parts once. The inner loop's: a part is among those kept where it is among those from j on.
use mathlib.Core.Path.{◌≡◌}
use lib.ListN.{drop}
use Rattle.protobuf.specs.Walk.{between}
use Rattle.rows.specs.Ids.{among}
use Rattle.node.specs.Parts.{parts_in}
use Rattle.node.proofs.Turns.{Named}
use Rattle.node.proofs.parts.first_mentions.Given as goal

abbrev pub invariant-named : goal.invariant-named
invariant-named l = Named l.body l.from l.n l.to l.k l.i

abbrev pub invariant-loop-j : goal.invariant-loop-j
invariant-loop-j l =
    among (between l.body l.a l.e) (drop l.j (parts_in l.body l.to l.k)) ≡ among (between l.body l.a l.e) (parts_in l.body l.to l.k)
