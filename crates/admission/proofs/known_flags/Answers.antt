-- `admission::known_flags` meets its contract.
use mathlib.Core.Path.{refl}
use Rattle.admission.specs.Flags.{known_flags}
use Rattle.admission.proofs.known_flags.Goals as goal

pub returns : goal.returns
unfolding known_flags
returns c = refl
