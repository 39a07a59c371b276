-- `stored::write_halves` meets its contract. The invariant: to write the numbers that are left is to write them all.
use Prim.Native.Nat.{◌+◌, ◌*◌, ◌≤◌}
use native.Mathlib.Omega.{arith}
use lib.ListN.{length}
use Rattle.stored.proofs.Steps.{spread-turn, spread-done}
use borrow.Author.Rules.{rules}
use Rattle.stored.proofs.write_halves.Goals as goal

pub loop-i-preserved : goal.loop-i-preserved
loop-i-preserved c =
    let l = c.loop-i in
    let room : c.args.at + l.i * 2 + 2 ≤ length l.out = omega arith in
    spread-turn 2 _ l.out c.put_little.new.out c.args.values.now
    c.args.at l.i (search rules) l.invariant room c.put_little.ensures.lent

pub returns : goal.returns
returns c =
    let l = c.loop-i in spread-done 2 _ l.out c.args.values.now (c.args.at + l.i * 2) l.i (search rules) l.invariant
