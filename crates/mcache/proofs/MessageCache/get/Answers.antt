-- `MessageCache::get` meets its contract.
use Rattle.std.specs.Prelude.{Ok, ◌≡◌}
use Rattle.std.proofs.Common.{sym, ◌∙◌, rules}
use Rattle.mcache.specs.Calls.{lent_of}
use Rattle.mcache.proofs.Answers.{roomy, no_fault, tested, get-fault, get-found}
use Rattle.mcache.proofs.MessageCache.get.Goals.{Else-is_err}
use Rattle.mcache.proofs.MessageCache.get.Goals as goal

fine : (c : Else-is_err) → Ok tt ≡ lent_of c.args.self c.args.store.now
fine c = no_fault c.lent.result (sym c.is_err.ensures.value ∙ c.if-is_err.false) ∙ c.lent.ensures

pub returns-then-is_err : goal.returns-then-is_err
returns-then-is_err c =
    get-fault c.args.self c.args.store.now c.args.id.now c.lent.result c.lent.ensures
    (sym c.is_err.ensures.value ∙ c.if-is_err.true)

pub message_of-requires : goal.message_of-requires
message_of-requires c =
    tested c.args.self c.args.store.now (fine c) (search rules) (search rules) (search rules) (search rules)
    (search rules) (roomy c.args.self (search rules) (search rules) (search rules))

pub returns : goal.returns
returns c =
    get-found c.args.self c.args.store.now c.args.id.now (fine (goal.at.returns c).Else-is_err) _ c.message_of.ensures
