-- `admission::allows_unsigned` meets its contract.
use mathlib.Core.Path.{refl}
use Rattle.admission.specs.Flags.{allows_unsigned}
use Rattle.admission.proofs.allows_unsigned.Goals as goal

pub returns : goal.returns
unfolding allows_unsigned
returns c = refl
