-- `schema::accept` meets its contract: the number of records, or the refusal, picks the case.
use Rattle.std.proofs.Common.{rules}
use Rattle.schema.specs.Accept.{accept_of}
use Rattle.schema.proofs.accept.Goals as goal

pub returns-in_err-body_records : goal.returns-in_err-body_records
unfolding accept_of
returns-in_err-body_records c = search rules

pub returns : goal.returns
unfolding accept_of
returns c = search rules
