-- `schema::body_records` meets its contract: the length, the count and the number of records pick the case.
use Rattle.std.proofs.Common.{rules}
use Rattle.schema.specs.Accept.{body_records}
use Rattle.schema.proofs.body_records.Goals as goal

pub returns-then-body-gt-MAX_RPC_SIZE : goal.returns-then-body-gt-MAX_RPC_SIZE
unfolding body_records
returns-then-body-gt-MAX_RPC_SIZE c = search rules

pub returns-in_err-n : goal.returns-in_err-n
unfolding body_records
returns-in_err-n c = search rules

pub returns-then-n-gt-MAX_RECORDS : goal.returns-then-n-gt-MAX_RECORDS
unfolding body_records
returns-then-n-gt-MAX_RECORDS c = search rules

pub returns : goal.returns
unfolding body_records
returns c = search rules
