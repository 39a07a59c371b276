use Prim.Native.Nat.{ℕ, ◌+◌, ◌-◌, ◌≤◌, ◌<◌}
use mathlib.Core.Bool.{true}
use mathlib.Core.Path.{◌≡◌, refl, sym, ◌∙◌}
use lib.ListN.{length-set}
use native.Mathlib.Omega.{arith}
use Rattle.rows.specs.IdsLaws.{among_none}
use Rattle.rows.specs.Store.{ids_in}
use Rattle.rows.specs.StoreLaws.{row_before, differ-more, differ-not, ids-end, differ-none, differ-all}
use Rattle.rows.specs.BucketsLaws.{bucket_in, met_again, met_more}
use Rattle.rows.proofs.Store.differ.Goals as goal

-- the row before the i-th, and one further
last : (i : ℕ) → 0 < i → (i - 1) + 1 ≡ i
last i h = omega arith

pub loop-i-init : goal.loop-i-init
loop-i-init c =
    let a = c.args in
    let e = ids-end a.self.size a.ring a.self.lens.now a.self.ids.now in
    record { flags = refl; once = differ-none _ e; met = λ id z. sym (among_none id _ _ e refl) }

pub returns-then-again : goal.returns-then-again
returns-then-again c =
    let a = c.args in
    differ-not a.self.size a.ring a.self.lens.now a.self.ids.now c.loop-i.i c.place-p.result c.loop-i-test.true (omega arith)
    c.place-p.ensures c.id_at-id.result.now c.id_at-id.ensures
    (sym (met_again c.loop-i.met _ c.id_at-id.result.now c.bucket-b.result c.loop-i.invariant.met c.bucket-b.ensures)
    ∙ sym (rw (last c.loop-i.i c.loop-i-test.true) at c.again.ensures) ∙ c.if-again.true)

pub bounds-met-b : goal.bounds-met-b
bounds-met-b c = bucket_in _ c.bucket-b.result c.bucket-b.ensures

pub bounds-met-b-in-loop-i : goal.bounds-met-b-in-loop-i
bounds-met-b-in-loop-i c = bucket_in _ c.bucket-b.result c.bucket-b.ensures

pub loop-i-preserved : goal.loop-i-preserved
loop-i-preserved c =
    let a = c.args in
    let m = c.loop-i.invariant.met in
    let h : c.loop-i.i ≤ a.ring.count = omega arith in
    record {
      flags = length-set c.loop-i.met c.bucket-b.result true ∙ c.loop-i.invariant.flags;
      once = differ-more a.self.size a.ring a.self.lens.now a.self.ids.now c.loop-i.i c.place-p.result c.loop-i-test.true h
          c.place-p.ensures c.id_at-id.result.now c.id_at-id.ensures
          (sym (met_again c.loop-i.met _ c.id_at-id.result.now c.bucket-b.result m c.bucket-b.ensures)
          ∙ sym (rw (last c.loop-i.i c.loop-i-test.true) at c.again.ensures) ∙ c.if-again.false)
          c.loop-i.invariant.once;
      met = met_more c.loop-i.met c.bucket-b.result _ _ _
          (row_before a.self.size a.ring a.self.lens.now a.self.ids.now c.loop-i.i c.place-p.result c.loop-i-test.true h
          c.place-p.ensures c.id_at-id.result.now c.id_at-id.ensures)
          c.bucket-b.ensures c.loop-i.invariant.flags m;
    }

pub returns : goal.returns
returns c =
    let a = c.args in
    differ-all c.loop-i.i (ids_in a.self.size a.ring a.self.lens.now a.self.ids.now) c.loop-i-test.false c.loop-i.invariant.once
