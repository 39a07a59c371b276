-- `text::next_header` meets its contract: a header allows no longer content.
use Rattle.text.specs.Laws.{header_within}
use Rattle.text.proofs.next_header.Goals as goal

pub returns : goal.returns
returns c = rw c.read_header.ensures (header_within c.args.most _)
