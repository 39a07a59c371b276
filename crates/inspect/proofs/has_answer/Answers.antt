-- `inspect::has_answer` meets its contract: the kind picks the call.
use native.Mathlib.Omega.{arith}
use Rattle.inspect.proofs.Answering.{has-walk, has-varint, has_utf8, has_key, has-peer, has-spoken, has-none}
use Rattle.inspect.proofs.has_answer.Goals as goal

pub returns-in-5 : goal.returns-in-5
returns-in-5 c = has-walk _ _ c.in-5.is

pub returns-in-6 : goal.returns-in-6
returns-in-6 c = has-varint _ _ c.in-6.is

pub returns-in-7 : goal.returns-in-7
returns-in-7 c = has_utf8 _ _ c.in-7.is

pub returns-in-8 : goal.returns-in-8
returns-in-8 c = has_key _ _ c.in-8.is

pub returns-in-9 : goal.returns-in-9
returns-in-9 c = has-peer _ _ c.in-9.is

pub returns-in-25 : goal.returns-in-25
returns-in-25 c = has-spoken _ _ c.in-25.is c.has_spoken.ensures

pub returns-in_default : goal.returns-in_default
returns-in_default c =
    has-none _ _ (λ e. omega arith) (λ e. omega arith) (λ e. omega arith) (λ e. omega arith) (λ e. omega arith) (λ e. omega arith)
