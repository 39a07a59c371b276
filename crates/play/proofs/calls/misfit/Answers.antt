-- `play::calls::misfit` meets its contract: the kind picks the test.
use native.Mathlib.Omega.{arith}
use Rattle.play.proofs.Ending.{settings, admit, beat, advertise, ask, serve, unknown}
use Rattle.play.proofs.calls.misfit.Goals as goal

pub returns-in-1 : goal.returns-in-1
returns-in-1 c = settings _ _ c.in-1.is

pub returns-in-2 : goal.returns-in-2
returns-in-2 c = admit _ _ c.in-2.is

pub returns-in-3 : goal.returns-in-3
returns-in-3 c = beat _ _ c.in-3.is

pub returns-in-4 : goal.returns-in-4
returns-in-4 c = advertise _ _ c.in-4.is

pub returns-in-5 : goal.returns-in-5
returns-in-5 c = ask _ _ c.in-5.is

pub returns-in-6 : goal.returns-in-6
returns-in-6 c = serve _ _ c.in-6.is

pub returns-in_default : goal.returns-in_default
returns-in_default c =
    unknown _ _ (λ e. omega arith) (λ e. omega arith) (λ e. omega arith) (λ e. omega arith) (λ e. omega arith) (λ e. omega arith)
