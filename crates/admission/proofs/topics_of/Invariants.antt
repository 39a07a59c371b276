-- `admission::topics_of` meets its contract.
use Prim.Native.Nat.{◌+◌, ◌-◌, ◌≤◌}
use mathlib.Core.Path.{◌≡◌}
use lib.ListN.{length}
use lib.Seq.{sets}
use Rattle.protobuf.specs.Walk.{walk_at}
use Rattle.admission.specs.Admission.{topics_along, topics_of, places_along, topic_places, starts_of, sizes_of, first_long}
use Rattle.admission.proofs.Turns.{long_from}
use Rattle.admission.proofs.topics_of.Given as goal

abbrev pub invariant-loop-f : goal.invariant-loop-f
invariant-loop-f l =
    let ts = topics_along l.part (walk_at l.mode l.part l.at) in
    let ps = places_along (walk_at l.mode l.part l.at) in
    (l.at ≤ length l.part) × (l.n ≤ l.at) × (length (topics_of l.mode l.part) ≡ l.n + length ts) × (first_long (topics_of l.mode l.part) ≡ long_from l.long ts)
    × (sets l.starts l.n (starts_of ps) ≡ sets l.initial.starts 0 (starts_of (topic_places l.mode l.part))) × (sets l.sizes l.n (sizes_of ps) ≡ sets l.initial.sizes 0 (sizes_of (topic_places l.mode
    l.part)))
    × (length l.starts ≡ length l.initial.starts) × (length l.sizes ≡ length l.initial.sizes)

abbrev pub decreases-loop-f : goal.decreases-loop-f
decreases-loop-f l = length l.part - l.at
