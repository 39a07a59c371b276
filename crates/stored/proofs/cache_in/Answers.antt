-- `stored::cache_in` meets its contract.
use mathlib.Core.Path.{refl}
use Rattle.stored.proofs.Parts.{cache-read}
use borrow.Author.Rules.{rules}
use Rattle.stored.proofs.cache_in.Goals as goal

pub read_word-requires-6 : goal.read_word-requires-6
read_word-requires-6 c = let whole = c.requires in search rules

pub returns : goal.returns
returns c =
    cache-read c.args.s.now _ _ _ _ _ _ _ _ _ _ _ _ _ _ _ c.requires
    c.read_word.ensures
    c.read_word-2.ensures
    c.read_word-3.ensures
    c.read_word-4.ensures
    c.read_word-5.ensures
    c.read_words.ensures
    c.read_halves.ensures
    c.column_at.ensures
    c.column_at-2.ensures
    refl
    c.put_bytes.ensures.lent
    c.column_at-3.ensures
    c.slots_at.ensures
    c.slots_at-2.ensures
    c.read_word-6.ensures
