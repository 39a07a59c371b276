-- `compose::write_rpc` meets its contract: one test after the other.
use Rattle.std.proofs.lemmas.Result.{err_from_is_err_and}
use Rattle.compose.proofs.Answers.{lists-inside, write_flags, write_lists, write_unfit, write_fit}
use Rattle.compose.proofs.write_rpc.Goals as goal

pub returns-then-not-known_flags : goal.returns-then-not-known_flags
returns-then-not-known_flags c = write_flags _ _ _ _ c.known_flags.ensures c.if-not-known_flags.true

pub messages_fine-requires : goal.messages_fine-requires
messages_fine-requires c = lists-inside _ _ c.in_ok-lists_of.ensures

pub write_tested-requires : goal.write_tested-requires
write_tested-requires c = lists-inside _ _ c.in_ok-lists_of.ensures

pub returns-in_err-lists_of : goal.returns-in_err-lists_of
returns-in_err-lists_of c =
    let p = err_from_is_err_and c.from_residual.result c.from_residual.ensures.1 in
    rw (p.1, p.2) (write_lists _ _ _ _ c.known_flags.ensures c.if-not-known_flags.false c.in_err-lists_of.ensures)

pub returns-in_err-messages_fine : goal.returns-in_err-messages_fine
returns-in_err-messages_fine c =
    let r = c.from_residual-in_err-messages_fine in
    let p = err_from_is_err_and r.result r.ensures.1 in
    rw (p.1, p.2) (write_unfit _ _ _ _ c.known_flags.ensures c.if-not-known_flags.false c.in_ok-lists_of.ensures c.in_err-messages_fine.ensures)

pub returns : goal.returns
returns c =
    write_fit _ _ _ _ c.known_flags.ensures c.if-not-known_flags.false c.in_ok-lists_of.ensures c.in_ok-messages_fine.ensures
    _ _ c.write_tested.ensures
