-- `pradulins::tell` meets its contract: the values, and then the place.
use mathlib.Core.Path.{refl}
use Rattle.pradulins.proofs.Told.{told-both}
use Rattle.pradulins.proofs.tell.Goals as goal

pub returns : goal.returns
returns c =
    let a = c.args in record {
      value = refl;
      values_after = told-both a.t a.values.now c.tell_values.ensures c.tell_spot.ensures;
    }
