-- `MessageCache::ids_fit` meets its contract.
use Rattle.std.proofs.Common.{sym, ◌∙◌, rules}
use Rattle.mcache.proofs.Answers.{roomy, rows_of}
use Rattle.mcache.proofs.MessageCache.ids_fit.Goals as goal

pub messages_fit-requires : goal.messages_fit-requires
messages_fit-requires c =
    rw c.ring-ring.ensures
    (rows_of c.args.self.now c.args.store.now c.requires.0 c.requires.1 c.requires.2 (search rules) (search rules) (search rules)
    (roomy c.args.self.now (search rules) (search rules) (search rules)) c.requires.3
    (sym (rw c.ring-ring.ensures at c.all_within.ensures) ∙ c.if-all_within.true))
