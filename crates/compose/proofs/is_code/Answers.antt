-- `compose::is_code` meets its contract: a code of 1 to 10 is that of the kind that it stands for.
use Rattle.compose.proofs.Parts.{row-code}
use Rattle.compose.proofs.is_code.Goals as goal

pub returns : goal.returns
returns c = let a = c.args in row-code a.records.now a.i a.code c.requires.1 c.requires.2
