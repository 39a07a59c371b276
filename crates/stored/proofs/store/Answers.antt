-- `stored::store` meets its contract.
use native.Mathlib.Omega.{arith}
use Rattle.stored.specs.Layout.{head_of}
use Rattle.stored.proofs.Parts.{node-written}
use Rattle.stored.proofs.store.Goals as goal

pub returns : goal.returns
unfolding head_of
returns c =
    let n = c.args.node in
    node-written n c.args.out.now _ _ _ _ _ _ _ _ _ _ _ _ (omega arith)
    (omega arith)
    (omega arith)
    (omega arith)
    (omega arith)
    (omega arith)
    (omega arith)
    (omega arith)
    (omega arith)
    (omega arith)
    (omega arith)
    c.write_words.ensures
    c.write_words-2.ensures
    c.write_words-3.ensures
    c.write_halves.ensures
    c.put_bytes.ensures.lent
    c.put_bytes-2.ensures.lent
    c.put_bytes-3.ensures.lent
    c.put_bytes-4.ensures.lent
    c.put_bytes-5.ensures.lent
    c.write_halves-2.ensures
    c.write_halves-3.ensures
    c.put_little.ensures.lent
