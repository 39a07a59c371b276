-- `inspect::reply_body` is safe: each buffer is a part of what is lent.
use native.Mathlib.Omega.{arith}
use Rattle.lines.specs.Laws.{prefix}
use Rattle.inspect.proofs.Answering.{front-small}
use Rattle.inspect.proofs.reply_body.Goals as goal

pub slice_bounds-reply_encode-end-in-2 : goal.slice_bounds-reply_encode-end-in-2
slice_bounds-reply_encode-end-in-2 c = prefix 65536 c.args.made.now (omega arith)

pub reply_encode-requires : goal.reply_encode-requires
reply_encode-requires c =
    front-small 65536 65600 c.args.made.now (omega arith)

pub slice_bounds-reply_id-end-in_default : goal.slice_bounds-reply_id-end-in_default
slice_bounds-reply_id-end-in_default c = prefix 65536 c.args.made.now (omega arith)

pub reply_id-requires : goal.reply_id-requires
reply_id-requires c =
    front-small 65536 65600 c.args.made.now (omega arith)
