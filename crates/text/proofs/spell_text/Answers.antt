-- `text::spell_text` meets its contract: a copy into the part from `at` on is a run of stores.
use mathlib.Core.Path.{refl}
use native.Mathlib.Omega.{arith}
use Rattle.text.proofs.Copy.{copied}
use Rattle.text.proofs.spell_text.Goals as goal

pub returns : goal.returns
returns c =
    record { bytes = copied _ _ _ c.args.at c.requires c.copy_from_slice.ensures.after; place = refl; small = omega arith }
