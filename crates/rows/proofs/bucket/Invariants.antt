use Prim.Native.Nat.{◌<◌}
use mathlib.Core.Path.{◌≡◌}
use lib.ListN.{drop}
use Rattle.rows.specs.Buckets.{buckets, bucket_of}
use Rattle.rows.proofs.bucket.Given as goal

abbrev pub invariant-loop-i : goal.invariant-loop-i
invariant-loop-i l = (l.x < buckets) × (l.x ≡ bucket_of (drop l.i l.id))
