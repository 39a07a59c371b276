-- `admission::same_spans` meets its contract.
use mathlib.Core.Path.{◌≡◌}
use lib.ListN.{drop}
use Rattle.admission.specs.Admission.{spans_in, same_spans}
use Rattle.admission.proofs.same_spans.Given as goal

abbrev pub invariant-loop-i : goal.invariant-loop-i
invariant-loop-i l =
    let a = spans_in l.starts l.sizes l.n in
    let b = spans_in l.kept_starts l.kept_sizes l.n in
    same_spans (drop l.i a) (drop l.i b) ≡ same_spans a b
