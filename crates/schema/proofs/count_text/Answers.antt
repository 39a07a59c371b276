-- `schema::count_text` meets its contract: the test of UTF-8 picks the case.
use Rattle.std.proofs.Common.{rules}
use Rattle.schema.specs.Count.{text_count}
use Rattle.schema.proofs.count_text.Goals as goal

pub returns-then-is_utf8 : goal.returns-then-is_utf8
unfolding text_count
returns-then-is_utf8 c = search rules

pub returns-else-is_utf8 : goal.returns-else-is_utf8
unfolding text_count
returns-else-is_utf8 c = search rules
