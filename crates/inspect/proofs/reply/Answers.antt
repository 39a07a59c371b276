-- `inspect::reply` is safe: what is read and printed lies within what is lent.
use native.Mathlib.Omega.{arith}
use Rattle.lines.specs.Laws.{prefix}
use Rattle.inspect.proofs.Answering.{front-small}
use borrow.Author.Rules.{rules}
use Rattle.inspect.proofs.reply.Goals as goal

pub slice_bounds-read_full-end-2 : goal.slice_bounds-read_full-end-2
slice_bounds-read_full-end-2 c = prefix _ _ (search rules)

pub reply_body-requires : goal.reply_body-requires
reply_body-requires c =
    front-small c.args.len _ _ (omega arith)

pub reply_lists-requires : goal.reply_lists-requires
reply_lists-requires c =
    front-small c.args.len _ _ (omega arith)

pub reply_spoken-requires : goal.reply_spoken-requires
reply_spoken-requires c =
    front-small c.args.len _ _ (omega arith)

pub reply_line-requires : goal.reply_line-requires
reply_line-requires c =
    front-small c.args.len _ _ (omega arith)
