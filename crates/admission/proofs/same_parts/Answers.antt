-- `admission::same_parts` meets its contract.
use Prim.Native.Nat.{◌-◌}
use lib.Seq.{length-take-le}
use mathlib.Core.Path.{sym, ◌∙◌}
use Rattle.admission.proofs.Turns.{parts-short, parts_first, parts-differ}
use Rattle.admission.proofs.same_parts.Goals as goal

pub returns-then-id-from_len : goal.returns-then-id-from_len
returns-then-id-from_len c =
    let a = c.args in
    let pre = c.requires in
    parts-short (a.part.now) (a.id.now) a.a a.e a.b a.f (pre.0) (pre.1) c.if-id-from_len.true

pub slice_bounds-same-end-2 : goal.slice_bounds-same-end-2
slice_bounds-same-end-2 c = sym (length-take-le (c.args.e - c.args.a) (c.args.id.now) c.if-id-from_len.false)

pub returns-then-same : goal.returns-then-same
returns-then-same c =
    parts_first (c.args.part.now)
    (c.args.id.now)
    c.args.a
    c.args.e
    c.args.b
    c.args.f
    (c.requires.0)
    (c.requires.1) _ (sym c.same.ensures
    ∙ c.if-same.true) c.same-then-same.ensures

pub returns : goal.returns
returns c =
    parts-differ (c.args.part.now)
    (c.args.id.now) c.args.a
    c.args.e c.args.b
    c.args.f (c.requires.0)
    (c.requires.1) (sym c.same.ensures ∙ c.if-same.false)
