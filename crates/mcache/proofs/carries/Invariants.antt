-- `mcache::carries` meets its contract: the topic is among the parts from here on exactly where it is among all.
use Rattle.std.proofs.Common.{◌≡◌, map, drop}
use Rattle.rows.specs.Ids.{among}
use Rattle.admission.specs.Admission.{cut, spans_in}
use Rattle.mcache.proofs.carries.Given as goal

abbrev pub invariant-loop-i : goal.invariant-loop-i
invariant-loop-i l =
    let ps = map (cut l.message) (spans_in l.starts l.sizes l.n) in
    among l.topic (drop l.i ps) ≡ among l.topic ps
