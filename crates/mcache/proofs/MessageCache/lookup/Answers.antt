-- `MessageCache::lookup` meets its contract.
use Rattle.std.specs.Prelude.{Err}
use Rattle.std.proofs.Common.{ap, ◌∙◌}
use Rattle.std.proofs.lemmas.Result.{err_from_is_err_and}
use Rattle.mcache.proofs.Answers.{lookup_fault, lookup_found}
use Rattle.mcache.proofs.MessageCache.lookup.Goals as goal

pub returns-in_err-lent : goal.returns-in_err-lent
returns-in_err-lent c =
    let p = err_from_is_err_and c.from_residual.result c.from_residual.ensures.1 in
    p.1 ∙ ap Err p.2 ∙ lookup_fault c.args.self c.args.store.now c.args.id.now _ c.in_err-lent.ensures

pub returns : goal.returns
returns c = lookup_found c.args.self c.args.store.now c.args.id.now c.in_ok-lent.ensures c.find.result c.find.ensures
