-- `schema::has_field` meets its contract: what is left of the walk has the answer for all of it.
use Rattle.std.specs.Prelude.{ℕ, ◌≡◌, refl, List, Bool, true, false, eqb, Ok, Err, Some, None}
use Rattle.std.proofs.Common.{sym, ap, ◌∙◌, arith, rules, eq-eqb, ne_eqb}
use Rattle.basis.specs.declared.Mode.{Mode}
use Rattle.protobuf.specs.declared.WireError.{WireError}
use Rattle.protobuf.specs.declared.Field.{Field}
use Rattle.protobuf.specs.Field.{read_field}
use Rattle.protobuf.specs.Laws.{field-stands}
use Rattle.protobuf.specs.Walk.{walk_at}
use Rattle.protobuf.specs.WalkLaws.{walk_on}
use Rattle.schema.specs.Slots.{has_along, has_field}
use Rattle.schema.proofs.has_field.Goals as goal
use Rattle.schema.proofs.has_field.Goals.{else-f-eq-WIRE_LEN-via-then-f-eq-WIRE_LEN+else-f-n}
use Rattle.schema.proofs.has_field.Goals.{else-f-eq-WIRE_LEN-via-else-f-eq-WIRE_LEN}

module _ (mode : Mode) (n : ℕ) (s : List ℕ) (at : ℕ) (x : Bool) (i : has_along n (walk_at mode s at) ≡ x) where
  ends : Ok None ≡ read_field mode s at → false ≡ x
  ends e = sym (ap (has_along n) (walk_on mode s at (Ok None) e)) ∙ i

  refuses : (why : WireError) → Err why ≡ read_field mode s at → false ≡ x
  refuses why e = sym (ap (has_along n) (walk_on mode s at (Err why) e)) ∙ i

  module _ (f : Field) (e : Ok (Some f) ≡ read_field mode s at) where
    found : eqb f.wire_type 2 ≡ true → eqb f.field n ≡ true → true ≡ x
    found a b = simp (a, b) at (sym (ap (has_along n) (walk_on mode s at (Ok (Some f)) e)) ∙ i)

    other_field : eqb f.wire_type 2 ≡ true → eqb f.field n ≡ false → has_along n (walk_at mode s f.next) ≡ x
    other_field a b = simp (a, b) at (sym (ap (has_along n) (walk_on mode s at (Ok (Some f)) e)) ∙ i)

    other_type : eqb f.wire_type 2 ≡ false → has_along n (walk_at mode s f.next) ≡ x
    other_type a = simp a at (sym (ap (has_along n) (walk_on mode s at (Ok (Some f)) e)) ∙ i)

pub loop-f-init : goal.loop-f-init
unfolding has_field
loop-f-init c = refl

pub returns-then-f-n : goal.returns-then-f-n
returns-then-f-n c =
    let a = c.args in
    let l = c.loop-f in
    let e = ap Ok (sym c.in-Ok-Some.field-0-is) ∙ c.in-Ok-Some.ensures in
    found a.mode a.n a.input.now l.at _ l.invariant _ e (eq-eqb _ _ c.if-f-eq-WIRE_LEN.true) (eq-eqb _ _ c.if-f-n.true)

pub loop-f-smaller : goal.loop-f-smaller
loop-f-smaller c =
    let a = c.args in
    let e = ap Ok (sym c.in-Ok-Some.field-0-is) ∙ c.in-Ok-Some.ensures in
    omega (arith, field-stands a.mode a.input.now c.loop-f.at _ e)

pub loop-f-preserved : goal.loop-f-preserved
loop-f-preserved c =
    let a = c.args in
    let l = c.loop-f in
    let e = ap Ok (sym c.in-Ok-Some.field-0-is) ∙ c.in-Ok-Some.ensures in
    elim c.else-f-eq-WIRE_LEN.branch [
      | else-f-eq-WIRE_LEN-via-then-f-eq-WIRE_LEN+else-f-n w ↦
          other_field a.mode a.n a.input.now l.at _ l.invariant _ e (eq-eqb _ _ w.if-f-eq-WIRE_LEN.true)
          (ne_eqb _ _ w.if-f-n.false)
      | else-f-eq-WIRE_LEN-via-else-f-eq-WIRE_LEN w ↦
          other_type a.mode a.n a.input.now l.at _ l.invariant _ e (ne_eqb _ _ w.if-f-eq-WIRE_LEN.false)
    ]

pub returns-in_default : goal.returns-in_default
returns-in_default c =
    let a = c.args in
    let l = c.loop-f in
    let e : Ok None ≡ read_field a.mode a.input.now l.at = search rules in
    ends a.mode a.n a.input.now l.at _ l.invariant e

pub returns-in_default-2 : goal.returns-in_default-2
returns-in_default-2 c =
    let a = c.args in
    let l = c.loop-f in
    refuses a.mode a.n a.input.now l.at _ l.invariant _ (sym c.in_default.is ∙ c.read_field.ensures)
