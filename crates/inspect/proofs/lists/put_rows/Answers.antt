-- `inspect::lists::put_rows` meets its contract: the rows that are left end where all of them do, and with the words before them in the table their words are all.
use Prim.Native.Nat.{◌+◌, ◌-◌, ◌*◌}
use mathlib.Core.Path.{◌≡◌, sym, ◌∙◌}
use native.Mathlib.Omega.{arith}
use Rattle.inspect.proofs.Rows.{rows-turn, rows-bad, rows-refused, rows-done}
use Rattle.inspect.proofs.lists.put_rows.Goals as goal

pub returns-in_err-p : goal.returns-in_err-p
returns-in_err-p c =
    let l = c.loop-row in
    rw c.from_residual.ensures
    (rows-refused _ _ _ _ (rows-bad (c.args.count - l.row) (c.args.count - (l.row + 1)) _ l.p (omega arith) (sym c.put_row.ensures.answer ∙ c.in_err-p.was) ∙ l.invariant.0))

pub loop-row-preserved : goal.loop-row-preserved
loop-row-preserved c =
    let l = c.loop-row in
    let e = sym c.put_row.ensures.answer ∙ c.in_ok-p.was in
    let t = rows-turn (c.args.count - l.row) (c.args.count - (l.row + 1)) _ l.p _ (20 * l.row) _ l.table _ (omega arith) (omega arith) e (c.put_row.ensures.words _ e) (omega arith) in
    (t.0 ∙ l.invariant.0, t.1 ∙ l.invariant.1)

pub returns : goal.returns
returns c =
    let l = c.loop-row in
    let t = rows-done (c.args.count - l.row) c.args.s.now l.p (20 * l.row) l.table (omega arith) in
    let k : 20 * l.row ≡ 20 * c.args.count = omega arith in
    record { answer = t.0 ∙ l.invariant.0; words = λ p h. rw (← k) (t.1 ∙ l.invariant.1) }
