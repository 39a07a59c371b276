-- `inspect::reply_line` is safe: a line is put where there is an answer.
use mathlib.Core.Path.{sym, ◌∙◌}
use native.Mathlib.Omega.{arith}
use borrow.Author.Tests.{ltb-true}
use Rattle.inspect.proofs.reply_line.Goals as goal

pub line-k-requires : goal.line-k-requires
line-k-requires c =
    record {
      nonzero = ltb-true _ _ (sym c.has_answer.ensures ∙ c.if-has_answer.true);
      content_len_bound = omega arith;
      in_bounds = omega arith;
    }
