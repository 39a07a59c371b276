-- `text::spell_refused` meets its contract: the word, the number and the values, one after the other.
use Rattle.text.specs.Line.{refused}
use Rattle.text.specs.Laws.{puts_then}
use Rattle.text.proofs.spell_refused.Goals as goal

pub returns : goal.returns
unfolding refused
returns c = puts_then c.spell_text-i.ensures (puts_then c.spell_number-j.ensures c.spell_numbers.ensures)
