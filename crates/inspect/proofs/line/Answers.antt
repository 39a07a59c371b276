-- `inspect::line` meets its contract: the number, the answer and a newline, at the front.
use native.Mathlib.Omega.{arith}
use Rattle.lines.specs.Laws.{wrote_puts}
use Rattle.inspect.proofs.Answering.{line_put}
use Rattle.inspect.proofs.line.Goals as goal

pub returns : goal.returns
returns c =
    let a = c.args in
    line_put a.n a.kind a.content.now
    c.requires.nonzero (wrote_puts
    (omega arith) c.start_line-i.ensures)
    c.answer-j.ensures (wrote_puts (omega arith) c.end_line.ensures)
    (omega arith) c.requires.in_bounds
