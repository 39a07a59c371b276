use mathlib.Core.Path.{◌≡◌}
use mathlib.Core.Bool.{true}
use lib.ListN.{length, drop}
use Rattle.rows.specs.Ids.{distinct}
use Rattle.rows.specs.Store.{ids_in}
use Rattle.rows.specs.Buckets.{buckets}
use Rattle.rows.specs.BucketsLaws.{Met}
use Rattle.rows.proofs.Store.differ.Given as goal

abbrev pub invariant-loop-i : goal.invariant-loop-i
invariant-loop-i l =
    record {
      flags : length l.met ≡ buckets;
      once : distinct (drop l.i (ids_in l.self.size l.ring l.self.lens.now l.self.ids.now)) ≡ true;
      met : Met l.met (drop l.i (ids_in l.self.size l.ring l.self.lens.now l.self.ids.now));
    }
