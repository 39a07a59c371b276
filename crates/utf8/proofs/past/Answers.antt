-- `utf8::past` meets its contract: a block of ASCII bytes can be left out.
use mathlib.Core.Path.{◌∙◌}
use native.Mathlib.Omega.{arith}
use Rattle.utf8.proofs.Leave.{block}
use borrow.Author.Rules.{rules}
use Rattle.utf8.proofs.past.Goals as goal

pub loop-i-preserved : goal.loop-i-preserved
loop-i-preserved c =
    let l = c.loop-i.invariant in record {
      lower_bound = omega arith;
      upper_bound = c.loop-i-test.true;
      s_value = l.s_value ∙ block c.args.s.now _ c.loop-i.i c.args.n c.loop-i-test.true (search rules) (c.ascii.ensures c.if-ascii.true);
    }
