-- `stored::load` meets its contract.
use Rattle.stored.proofs.Parts.{node-read}
use Rattle.stored.proofs.load.Goals as goal

pub returns : goal.returns
returns c =
    node-read c.args.bytes.now _ _ _ _ _ c.read_word.ensures c.read_word-2.ensures c.read_word-3.ensures c.seen_in.ensures c.cache_in.ensures
