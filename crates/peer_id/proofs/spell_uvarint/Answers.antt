-- `peer_id::spell_uvarint` meets its contract: what is left to write at i makes what all of the value at `at` makes.
use mathlib.Core.Path.{refl, sym, ap, ◌∙◌}
use native.Mathlib.Omega.{arith}
use native.Mathlib.Numerals.{add-one}
use lib.ListN.{length, length-set}
use lib.Seq.{sets}
use Rattle.peer_id.specs.Laws.{uvarint-small, uvarint_big}
use Rattle.peer_id.proofs.spell_uvarint.Goals as goal

pub loop-v-init : goal.loop-v-init
loop-v-init c = (refl, refl, refl)

pub bounds-out-i : goal.bounds-out-i
bounds-out-i c = omega (arith, ap length (uvarint_big c.loop-v.v c.loop-v-test.true))

pub overflow_add-i : goal.overflow_add-i
overflow_add-i c = omega (arith, ap length (uvarint_big c.loop-v.v c.loop-v-test.true))

pub loop-v-preserved : goal.loop-v-preserved
loop-v-preserved c =
    let l = c.loop-v in
    let e = uvarint_big l.v c.loop-v-test.true in
    (omega (arith, ap length e), simp length-set l.invariant.1, rw (add-one l.i) (sym (ap (sets l.out l.i) e) ∙ l.invariant.2))

pub bounds-out-i-2 : goal.bounds-out-i-2
bounds-out-i-2 c = omega (arith, ap length (uvarint-small c.loop-v.v c.loop-v-test.false))

pub overflow_add-result : goal.overflow_add-result
overflow_add-result c = omega (arith, ap length (uvarint-small c.loop-v.v c.loop-v-test.false))

pub shape_of-out : goal.shape_of-out
shape_of-out c = simp length-set c.loop-v.invariant.1

pub returns : goal.returns
returns c =
    let l = c.loop-v in
    let e = uvarint-small l.v c.loop-v-test.false in record {
      value = omega (arith, ap length e);
      out_after = sym (ap (sets l.out l.i) e) ∙ l.invariant.2;
    }
