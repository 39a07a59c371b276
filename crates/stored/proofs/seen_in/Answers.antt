-- `stored::seen_in` meets its contract.
use mathlib.Core.Path.{refl}
use Rattle.stored.proofs.Parts.{seen_read}
use Rattle.stored.proofs.seen_in.Goals as goal

pub returns : goal.returns
returns c =
    seen_read c.args.s.now _ _ _ _ _ c.requires c.read_word.ensures c.read_word-2.ensures c.read_words.ensures refl c.put_bytes.ensures.lent
