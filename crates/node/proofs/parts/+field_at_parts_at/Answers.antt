use Rattle.std.proofs.Common.{◌≡◌, List, ◌++◌, ◌≤◌, ℕ, length, sym, ap, ◌∙◌, arith}
use borrow.Author.Rules.{rules}
use Rattle.std.specs.Prelude.{Ok, Some, None}
use Rattle.protobuf.specs.Laws.{field-stands}
use Rattle.protobuf.specs.Walk.{between}
use Rattle.protobuf.specs.WalkLaws.{between-length}
use Rattle.node.specs.Parts.{parts_in}
use Rattle.node.specs.PartsLaws.{path-end, path-refused, path-done}
use Rattle.node.proofs.Turns.{tail-size, field-inside, field-there, one-room, one_more_lem, walked_all, walked-done, walked-room, walked-turn}
use Rattle.node.proofs.parts.+field_at_parts_at.Goals as goal

pub field_at-parts_at-requires : goal.field_at-parts_at-requires
field_at-parts_at-requires t c =
    let a = c.args in
    let q = c.requires in
    let k = tail-size a.path.now in
    let e = field-there a.body.now a.start a.end a.path.now a.f q.field_within (q.start_le_end.0, q.start_le_end.1) a.mode c.if-f-eq-WIRE_LEN.true c.if-f-path.true in (
      omega arith,
      (
        field-inside a.body.now a.start a.end a.path.now a.f q.field_within (q.start_le_end.0, q.start_le_end.1),
        (q.parts, omega (arith, ap length e, q.f_in_bounds)),
      ),
    )

pub field_at-returns-then-f-path-clause-result_after : goal.field_at-returns-then-f-path-clause-result_after
field_at-returns-then-f-path-clause-result_after t c =
    let a = c.args in
    let q = c.requires in
    let e = field-there a.body.now a.start a.end a.path.now a.f q.field_within (q.start_le_end.0, q.start_le_end.1) a.mode c.if-f-eq-WIRE_LEN.true c.if-f-path.true in
    c.parts_at.ensures.result_after ∙ ap (λ (l : List (List ℕ)). parts_in a.body.now a.table.now a.n ++ l) (sym e)

pub parts_at-add_part-requires : goal.parts_at-add_part-requires
parts_at-add_part-requires t c =
    let a = c.args in
    one-room a.mode a.body.now a.path.now a.table.now a.n a.start a.end c.if-path-eq0.true c.requires.end_in_bounds

pub parts_at-returns-then-path-eq0-clause-result_after : goal.parts_at-returns-then-path-eq0-clause-result_after
parts_at-returns-then-path-eq0-clause-result_after t c =
    let a = c.args in
    (one_more_lem a.mode a.body.now a.path.now a.table.now a.n a.start a.end c.if-path-eq0.true c.requires.end_in_bounds c.requires.parts c.requires.start_le_end _ _ c.add_part.ensures.value c.add_part.ensures.table_after).0

pub parts_at-returns-then-path-eq0-clause-parts_2 : goal.parts_at-returns-then-path-eq0-clause-parts_2
parts_at-returns-then-path-eq0-clause-parts_2 t c =
    let a = c.args in
    (one_more_lem a.mode a.body.now a.path.now a.table.now a.n a.start a.end c.if-path-eq0.true c.requires.end_in_bounds c.requires.parts c.requires.start_le_end _ _ c.add_part.ensures.value c.add_part.ensures.table_after).1

pub parts_at-loop-at-init : goal.parts_at-loop-at-init
parts_at-loop-at-init t c =
    let a = c.args in
    walked_all a.mode a.body.now a.start a.end a.path.now a.table.now a.n c.requires.parts c.if-path-eq0.false

pub parts_at-returns-in-Ok-None-clause-result_after : goal.parts_at-returns-in-Ok-None-clause-result_after
parts_at-returns-in-Ok-None-clause-result_after t c =
    let a = c.args in
    let l = c.loop-at in
    (walked-done a.mode _ _ _ _ _ _ _ _ _ l.invariant (path-end a.mode a.path.now (between a.body.now a.start a.end) l.at (let e : c.read_field-step.result ≡ Ok None = search rules in sym e ∙ c.read_field-step.ensures))).0

pub parts_at-returns-in-Ok-None-clause-parts_2 : goal.parts_at-returns-in-Ok-None-clause-parts_2
parts_at-returns-in-Ok-None-clause-parts_2 t c = c.loop-at.invariant.parts

pub parts_at-returns-in-Err-clause-result_after : goal.parts_at-returns-in-Err-clause-result_after
parts_at-returns-in-Err-clause-result_after t c =
    let a = c.args in
    let l = c.loop-at in
    (walked-done a.mode _ _ _ _ _ _ _ _ _ l.invariant (path-refused a.mode a.path.now (between a.body.now a.start a.end) l.at _ c.in-Err.ensures)).0

pub parts_at-returns-in-Err-clause-parts_2 : goal.parts_at-returns-in-Err-clause-parts_2
parts_at-returns-in-Err-clause-parts_2 t c = c.loop-at.invariant.parts

pub parts_at-field_at-k-requires : goal.parts_at-field_at-k-requires
parts_at-field_at-k-requires t c =
    let a = c.args in
    let l = c.loop-at in
    let q = c.requires in
    let i : c.read_field-step.result ≡ Ok (Some c.in-Ok-Some.f) = search rules in
    let e = sym i ∙ c.read_field-step.ensures in
    let m = field-stands a.mode (between a.body.now a.start a.end) l.at _ e in
    let s : length l.table ≡ length a.table.now = c.loop-at.auto.table in (
      omega arith,
      (
        (q.start_le_end.0, q.start_le_end.1, omega (arith, c.if-path-eq0.false)),
        (
          record { order = m.ends; fits = m.within },
          (l.invariant.parts, walked-room _ _ _ _ _ _ _ _ _ _ l.invariant _ e s q.end_in_bounds),
        ),
      ),
    )

pub parts_at-loop-at-smaller : goal.parts_at-loop-at-smaller
parts_at-loop-at-smaller t c =
    let a = c.args in
    let m = field-stands a.mode (between a.body.now a.start a.end) c.loop-at.at _ (let e : c.read_field-step.result ≡ Ok (Some c.in-Ok-Some.f) = search rules in sym e ∙ c.read_field-step.ensures) in
    omega (arith, m.tagged, m.begins, m.ends, c.loop-at-test.true)

pub parts_at-loop-at-preserved : goal.parts_at-loop-at-preserved
parts_at-loop-at-preserved t c =
    let k = c.field_at-k in
    walked-turn _ _ _ _ _ _ _ _ _ _ c.loop-at.invariant _ (let e : c.read_field-step.result ≡ Ok (Some c.in-Ok-Some.f) = search rules in sym e ∙ c.read_field-step.ensures) _ _ k.ensures.result_after k.ensures.parts_2

pub parts_at-returns-clause-result_after : goal.parts_at-returns-clause-result_after
parts_at-returns-clause-result_after t c =
    let a = c.args in
    let l = c.loop-at in
    let z = between-length a.body.now a.start a.end c.requires.start_le_end.1 in
    let h : length (between a.body.now a.start a.end) ≤ l.at = omega arith in
    (walked-done a.mode _ _ _ _ _ _ _ _ _ l.invariant (path-done a.mode a.path.now (between a.body.now a.start a.end) l.at h)).0

pub parts_at-returns-clause-parts_2 : goal.parts_at-returns-clause-parts_2
parts_at-returns-clause-parts_2 t c = c.loop-at.invariant.parts
