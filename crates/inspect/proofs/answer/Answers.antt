-- `inspect::answer` meets its contract: the kind picks the call.
use native.Mathlib.Omega.{arith}
use Rattle.text.specs.Laws.{puts_none, puts_as}
use Rattle.inspect.proofs.Answering.{kind_walk, kind_varint, kind_utf8, kind_key, kind_peer, kind_spoken, kind_unknown}
use Rattle.inspect.proofs.answer.Goals as goal

pub returns-in-5 : goal.returns-in-5
returns-in-5 c = puts_as (kind_walk _ _ c.in-5.is) (omega arith) c.answer_walk.ensures

pub returns-in-6 : goal.returns-in-6
returns-in-6 c = puts_as (kind_varint _ _ c.in-6.is) (omega arith) c.answer_varint.ensures

pub returns-in-7 : goal.returns-in-7
returns-in-7 c = puts_as (kind_utf8 _ _ c.in-7.is) (omega arith) c.answer_utf8.ensures

pub returns-in-8 : goal.returns-in-8
returns-in-8 c = puts_as (kind_key _ _ c.in-8.is) (omega arith) c.answer_key.ensures

pub returns-in-9 : goal.returns-in-9
returns-in-9 c = puts_as (kind_peer _ _ c.in-9.is) (omega arith) c.answer_peer.ensures

pub returns-in-25 : goal.returns-in-25
returns-in-25 c = puts_as (kind_spoken _ _ c.in-25.is) (omega arith) c.answer_spoken.ensures

pub returns-in_default : goal.returns-in_default
returns-in_default c =
    puts_as (kind_unknown _ _ (λ e. omega arith) (λ e. omega arith) (λ e. omega arith) (λ e. omega arith) (λ e. omega arith) (λ e. omega arith)) (omega arith) (puts_none _ _)
