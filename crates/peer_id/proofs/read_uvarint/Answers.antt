-- `peer_id::read_uvarint` meets its contract: the value so far, and what the bytes from k on give above it, make what all of them give.
use Prim.Native.Nat.{◌+◌}
use mathlib.Core.Path.{◌≡◌, refl, sym, ap, ◌∙◌}
use native.Mathlib.Omega.{arith}
use lib.ListN.{drop, get_or}
use Rattle.std.specs.Prelude.{Ok}
use Rattle.std.proofs.lemmas.Result.{err_from_is_err_and}
use Rattle.peer_id.specs.declared.Group.TheVariants as group
use Rattle.peer_id.specs.Uvarint.{group_of, read_from}
use Rattle.peer_id.proofs.Shift.{start, shift-below, turn, ended, Fit, last_fits, Grows, more-fits}
use Rattle.peer_id.proofs.read_uvarint.Goals as goal
use Rattle.peer_id.proofs.read_uvarint.Goals.{In-Last, In-More}

-- what the byte says is what the definition says of it
last : (c : In-Last) → Ok group.Last ≡ group_of c.loop-k.k (get_or c.args.input.now c.loop-k.k 0)
last c = ap Ok (sym c.in-Last.is) ∙ c.in_ok-group_says.ensures

more : (c : In-More) → Ok group.More ≡ group_of c.loop-k.k (get_or c.args.input.now c.loop-k.k 0)
more c = ap Ok (sym c.in-More.is) ∙ c.in_ok-group_says.ensures

-- a last byte fits, and a further one leaves room
fit : (c : In-Last) → Fit c.loop-k.value c.loop-k.weight (get_or c.args.input.now c.loop-k.k 0)
fit c = let l = c.loop-k in last_fits l.k l.value l.weight _ l.invariant.0 l.invariant.1 l.invariant.2 (last c)

grows : (c : In-More) → Grows c.loop-k.k c.loop-k.value c.loop-k.weight (get_or c.args.input.now c.loop-k.k 0)
grows c = let l = c.loop-k in more-fits l.k l.value l.weight _ l.invariant.0 l.invariant.1 l.invariant.2 (more c)

pub loop-k-init : goal.loop-k-init
loop-k-init c = (omega arith, refl, omega arith, start _)

pub returns-in_err-group_says : goal.returns-in_err-group_says
returns-in_err-group_says c =
    let l = c.loop-k in
    let p = err_from_is_err_and c.from_residual.result c.from_residual.ensures.1 in
    rw (p.1, p.2) (sym (l.invariant.3 ∙ turn _ l.k l.value l.weight _ c.loop-k-test.true (c.in_err-group_says.ensures)))

pub overflow_mul-result : goal.overflow_mul-result
overflow_mul-result c = record { fits = (fit c).product }

pub overflow_add-result : goal.overflow_add-result
overflow_add-result c = record { fits = (fit c).sum }

pub returns-in-Last : goal.returns-in-Last
returns-in-Last c =
    let l = c.loop-k in
    sym (l.invariant.3 ∙ turn _ l.k l.value l.weight _ c.loop-k-test.true (last c))

pub overflow_mul-value : goal.overflow_mul-value
overflow_mul-value c = record { fits = (grows c).fits }

pub overflow_add-value : goal.overflow_add-value
overflow_add-value c = omega (arith, grows c)

pub overflow_mul-weight : goal.overflow_mul-weight
overflow_mul-weight c = omega (arith, grows c)

pub loop-k-preserved : goal.loop-k-preserved
loop-k-preserved c =
    let l = c.loop-k in (
      omega (arith, grows c),
      (grows c).power,
      (grows c).sum,
      l.invariant.3 ∙ turn _ l.k l.value l.weight _ c.loop-k-test.true (more c)
          ∙ shift-below l.value l.weight l.k (get_or c.args.input.now l.k 0) (read_from (l.k + 1) (drop (l.k + 1) c.args.input.now)),
    )

pub returns : goal.returns
returns c = let l = c.loop-k in sym (l.invariant.3 ∙ ended _ l.k l.value l.weight c.loop-k-test.false)
