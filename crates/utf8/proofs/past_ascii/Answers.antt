-- `utf8::past_ascii` meets its contract.
use mathlib.Core.Path.{◌∙◌}
use native.Mathlib.Omega.{arith}
use Rattle.utf8.proofs.past_ascii.Goals as goal

pub returns : goal.returns
returns c =
    let a = c.past-i.ensures in
    let b = c.past-j.ensures in
    let d = c.past.ensures in record {
      lower_bound = omega (arith, a.lower_bound, b.lower_bound, d.lower_bound);
      upper_bound = d.upper_bound;
      s_value = a.s_value ∙ b.s_value ∙ d.s_value;
    }
