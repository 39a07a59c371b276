-- The cycle {emit_anew, emit_held, emit_message, emit_sub} meets its contracts.
use Prim.Native.Nat.{ℕ}
use mathlib.Core.Path.{◌≡◌, sym, ap, subst, ◌∙◌}
use mathlib.Core.List.{List, []}
use mathlib.Core.Logic.{inl, inr}
use native.Mathlib.Omega.{arith}
use borrow.Author.Rules.{rules}
use Rattle.std.specs.Prelude.{Ok, None}
use Rattle.protobuf.specs.Field.{read_field}
use Rattle.protobuf.specs.Walk.{value_in}
use Rattle.protobuf.specs.Encode.{bytes_field}
use Rattle.basis.specs.declared.Mode.TheVariants.{Groups}
use Rattle.basis.specs.Cases.{clash}
use Rattle.schema.specs.declared.Held.{Held}
use Rattle.schema.specs.declared.Held.TheVariants.{Nothing}
use Rattle.schema.specs.Schema.{row_of, held_of}
use Rattle.schema.specs.Slots.{slots_of}
use Rattle.schema.specs.SlotsLaws.{SlotsInside}
use Rattle.schema.proofs.SlotsLaws.{slots_inside}
use Rattle.canon.specs.Canon.{own_part, each_of, held_part, part_with, canon}
use Rattle.canon.specs.CanonLaws.{canon-fields}
use Rattle.encode.specs.Puts.{Puts, puts_none, puts_same, fits-same, fits-first, going-same, going-all}
use Rattle.encode.proofs.Parts.{field-yes, field-no, few-rows, rows_all, rows-done, rows-fits, rows-turn, depth, depth-rank, held-is, own-fits, held_fits, row_puts}
use Rattle.encode.proofs.Parts.{walk-end, walk-refused, walk-within, walk-moves, walk-fits, walk-turn, measure_fits, head-fits, value-fits, sum_fits, field_puts, field-short}
use Rattle.encode.proofs.+emit_anew_emit_held_emit_message_emit_sub.Goals.{emit_message-in-Nothing, emit_message-in_default, emit_message-then-not-matches, emit_message-else-not-matches}
use Rattle.encode.proofs.+emit_anew_emit_held_emit_message_emit_sub.Goals as goal

pub emit_anew-loop-f-init : goal.emit_anew-loop-f-init
emit_anew-loop-f-init t c =
    let a = c.args in
    going-all a.out.now a.at (each_of Groups (λ p. bytes_field a.n (canon Groups a.kind p)) a.n a.input.now) c.requires.1

pub emit_anew-returns-in_default : goal.emit_anew-returns-in_default
emit_anew-returns-in_default t c =
    let a = c.args in
    let e : Ok None ≡ read_field Groups a.input.now c.loop-f.i = cc in
    walk-end (λ p. bytes_field a.n (canon Groups a.kind p)) a.n a.input.now _ _ _ _ _ _ c.loop-f.invariant e

pub emit_anew-returns-in_default-2 : goal.emit_anew-returns-in_default-2
emit_anew-returns-in_default-2 t c =
    let a = c.args in walk-refused (λ p. bytes_field a.n (canon Groups a.kind p)) a.n a.input.now _ _ _ _ _ _ c.loop-f.invariant _ (sym c.in_default.is ∙ c.read_field.ensures)

pub emit_anew-emit_sub-end-requires : goal.emit_anew-emit_sub-end-requires
emit_anew-emit_sub-end-requires t c =
    let a = c.args in
    let e = ap Ok (sym c.in-Ok-Some.field-0-is) ∙ c.in-Ok-Some.ensures in
    (omega (arith, c.decreases), (c.requires.0, walk-within (λ p. bytes_field a.n (canon Groups a.kind p)) a.n a.input.now _ _ _ _ _ _ c.loop-f.invariant _ e, walk-fits (λ p. bytes_field a.n (canon Groups a.kind p)) a.n a.input.now _ _ _ _ _ _ c.loop-f.invariant _ e))

pub emit_anew-loop-f-smaller : goal.emit_anew-loop-f-smaller
emit_anew-loop-f-smaller t c =
    let a = c.args in
    walk-moves (λ p. bytes_field a.n (canon Groups a.kind p)) a.n a.input.now _ _ _ _ _ _ c.loop-f.invariant _ (ap Ok (sym c.in-Ok-Some.field-0-is) ∙ c.in-Ok-Some.ensures)

pub emit_anew-loop-f-preserved : goal.emit_anew-loop-f-preserved
emit_anew-loop-f-preserved t c =
    let a = c.args in
    let e = ap Ok (sym c.in-Ok-Some.field-0-is) ∙ c.in-Ok-Some.ensures in
    walk-turn (λ p. bytes_field a.n (canon Groups a.kind p)) a.n a.input.now _ _ _ _ _ _ c.loop-f.invariant _ e _ _ c.emit_sub-end.ensures

pub emit_held-emit_whole-requires : goal.emit_held-emit_whole-requires
unfolding held_part
emit_held-emit_whole-requires t c =
    let a = c.args in (c.requires.0, fits-same a.at _ _ (held-is Groups a.n a.input.now a.held _ c.in-Whole.is) c.requires.1)

pub emit_held-emit_anew-requires : goal.emit_held-emit_anew-requires
unfolding held_part
emit_held-emit_anew-requires t c =
    let a = c.args in
    let d = ap depth c.in-Anew.is in
    (omega (arith, c.decreases), (c.requires.0, fits-same a.at _ _ (held-is Groups a.n a.input.now a.held _ c.in-Anew.is) c.requires.1))

pub emit_held-returns-in-Nothing : goal.emit_held-returns-in-Nothing
unfolding held_part
emit_held-returns-in-Nothing t c =
    let a = c.args in
    let e : held_part Groups (canon Groups) a.n a.input.now a.held ≡ [] = elim c.in-Nothing.is [ inl h ↦ rw h | inr h ↦ rw h.1 ] in
    puts_same a.out.now a.at _ _ _ _ (sym e) (puts_none a.out.now a.at)

pub emit_held-returns-in-Whole : goal.emit_held-returns-in-Whole
unfolding held_part
emit_held-returns-in-Whole t c =
    let a = c.args in
    puts_same a.out.now a.at _ _ _ _ (sym (held-is Groups a.n a.input.now a.held _ c.in-Whole.is)) c.emit_whole.ensures

pub emit_held-returns-in-Anew : goal.emit_held-returns-in-Anew
unfolding held_part
emit_held-returns-in-Anew t c =
    let a = c.args in
    puts_same a.out.now a.at _ _ _ _ (sym (held-is Groups a.n a.input.now a.held _ c.in-Anew.is)) c.emit_anew.ensures

pub emit_message-loop-n-init : goal.emit_message-loop-n-init
emit_message-loop-n-init t c =
    let a = c.args in
    going-same a.out.now a.at _ _ (canon-fields Groups a.kind a.part.now ∙ rows_all (part_with Groups (canon Groups) a.kind a.part.now) a.kind) c.requires

pub emit_message-emit_own-end-requires : goal.emit_message-emit_own-end-requires
emit_message-emit_own-end-requires t c =
    let a = c.args in
    let l = c.loop-n in
    let r = c.row_of-role.ensures in
    let part = part_with Groups (canon Groups) a.kind a.part.now in
    let q = c.slots_of-slots.ensures in
    let m = few-rows a.kind in (
      omega (arith, c.rows-n-end.ensures),
      subst (SlotsInside a.part.now) (sym q) (slots_inside Groups a.kind a.part.now),
      own-fits Groups _ a.kind a.part.now l.n _ q r _
          (fits-first _ (own_part (slots_of Groups a.kind a.part.now) l.n a.part.now (row_of a.kind l.n))
          (held_part Groups (canon Groups) l.n a.part.now (held_of (row_of a.kind l.n)))
          (rows-fits part a.kind _ _ _ _ _ _ l.invariant (omega (arith, c.rows-n-end.ensures)))),
    )

pub emit_message-emit_held-end-requires : goal.emit_message-emit_held-end-requires
emit_message-emit_held-end-requires t c =
    let a = c.args in
    let l = c.loop-n in
    let r = c.row_of-role.ensures in
    let part = part_with Groups (canon Groups) a.kind a.part.now in
    let q = c.slots_of-slots.ensures in
    let m = few-rows a.kind in
    let h = c.held_of-held.ensures ∙ ap held_of r in
    let z = depth-rank a.kind l.n _ h in (
      omega (arith, c.decreases),
      (
        omega (arith, c.rows-n-end.ensures),
        held_fits Groups _ a.kind a.part.now l.n _ q r _ h c.emit_own-end.ensures
            (rows-fits part a.kind _ _ _ _ _ _ l.invariant (omega (arith, c.rows-n-end.ensures))),
      ),
    )

-- nothing is held
puts_nothing : (n : ℕ) (s : List ℕ) (held : Held) (out : List ℕ) (at : ℕ) → held ≡ Nothing → Puts out at (held_part Groups (canon Groups) n s held) out at
unfolding held_part
puts_nothing n s held out at e = puts_same out at _ _ _ _ (sym (held-is Groups n s held _ e)) (puts_none out at)

-- what one way of two leaves
puts_left : (out : List ℕ) (at : ℕ) (xs after left : List ℕ) (end stop : ℕ) → left ≡ after → stop ≡ end → Puts out at xs after end → Puts out at xs left stop
puts_left out at xs after left end stop e f h = rw (e, f) h

pub emit_message-loop-n-preserved : goal.emit_message-loop-n-preserved
emit_message-loop-n-preserved t c =
    let a = c.args in
    let l = c.loop-n in
    let r = c.row_of-role.ensures in
    let part = part_with Groups (canon Groups) a.kind a.part.now in
    let q = c.slots_of-slots.ensures in
    let h = c.held_of-held.ensures ∙ ap held_of r in
    let o = c.emit_own-end.ensures in
    let p : Puts l.out l.end (part l.n) c.if-not-matches.out c.if-not-matches.end =
    elim c.if-not-matches.branch [
      | emit_message-then-not-matches w ↦ puts_left _ _ _ _ _ _ _ w.out-is w.end-is
          (row_puts Groups _ a.kind a.part.now l.n _ q r _ h o w.emit_held-end.ensures)
      | emit_message-else-not-matches w ↦ puts_left _ _ _ _ _ _ _ w.out-is w.end-is
          (row_puts Groups _ a.kind a.part.now l.n _ q r _ h o (puts_nothing l.n a.part.now _ _ _
          (elim c.match-matches.branch [ emit_message-in-Nothing v ↦ v.in-Nothing.is | emit_message-in_default v ↦ clash (let t = w.if-not-matches.false in let u = v.matches-is in cc) ])))
    ] in
    let n = rows-turn part a.kind _ _ _ _ _ _ l.invariant (omega (arith, c.rows-n-end.ensures)) _ _ p in
    n

pub emit_message-returns-after-not-matches : goal.emit_message-returns-after-not-matches
emit_message-returns-after-not-matches t c =
    let a = c.args in
    let l = c.loop-n in
    let r = c.row_of-role.ensures in
    let part = part_with Groups (canon Groups) a.kind a.part.now in
    let q = c.slots_of-slots.ensures in
    let h = c.held_of-held.ensures ∙ ap held_of r in
    let o = c.emit_own-end.ensures in
    let p : Puts l.out l.end (part l.n) c.if-not-matches.out c.if-not-matches.end =
    elim c.if-not-matches.branch [
      | emit_message-then-not-matches w ↦ puts_left _ _ _ _ _ _ _ w.out-is w.end-is
          (row_puts Groups _ a.kind a.part.now l.n _ q r _ h o w.emit_held-end.ensures)
      | emit_message-else-not-matches w ↦ puts_left _ _ _ _ _ _ _ w.out-is w.end-is
          (row_puts Groups _ a.kind a.part.now l.n _ q r _ h o (puts_nothing l.n a.part.now _ _ _
          (elim c.match-matches.branch [ emit_message-in-Nothing v ↦ v.in-Nothing.is | emit_message-in_default v ↦ clash (let t = w.if-not-matches.false in let u = v.matches-is in cc) ])))
    ] in
    let n = rows-turn part a.kind _ _ _ _ _ _ l.invariant (omega (arith, c.rows-n-end.ensures)) _ _ p in
    rows-done part a.kind _ _ _ _ _ _ n (omega (arith, c.rows-n-end.ensures))

pub emit_message-returns : goal.emit_message-returns
emit_message-returns t c =
    let a = c.args in
    rows-done (part_with Groups (canon Groups) a.kind a.part.now) a.kind _ _ _ _ _ _ c.loop-n.invariant (omega (arith, c.rows-n-end.ensures))

pub emit_sub-emit_message-len-requires : goal.emit_sub-emit_message-len-requires
emit_sub-emit_message-len-requires t c =
    let a = c.args in
    let d = canon Groups a.kind (value_in a.input.now a.f) in
    let y = field-yes a.n a.f (bytes_field a.n d) (sym c.is_bytes.ensures ∙ c.if-not-is_bytes.false) in
    (omega (arith, c.decreases), measure_fits a.n _ d a.at y c.requires.2)

pub emit_sub-emit_head-i-requires : goal.emit_sub-emit_head-i-requires
emit_sub-emit_head-i-requires t c =
    let a = c.args in
    let d = canon Groups a.kind (value_in a.input.now a.f) in
    let y = field-yes a.n a.f (bytes_field a.n d) (sym c.is_bytes.ensures ∙ c.if-not-is_bytes.false) in
    (c.requires.0, head-fits a.n _ d a.at y c.requires.2 _ _ _ c.emit_message-len.ensures)

pub emit_sub-overflow_add-i : goal.emit_sub-overflow_add-i
emit_sub-overflow_add-i t c =
    let a = c.args in
    let d = canon Groups a.kind (value_in a.input.now a.f) in
    let y = field-yes a.n a.f (bytes_field a.n d) (sym c.is_bytes.ensures ∙ c.if-not-is_bytes.false) in
    let s = sum_fits a.n _ d a.at y c.requires.2 _ _ _ c.emit_message-len.ensures _ _ _ c.emit_head-i.ensures in
    omega arith

pub emit_sub-overflow_add-result : goal.emit_sub-overflow_add-result
emit_sub-overflow_add-result t c =
    let a = c.args in
    let d = canon Groups a.kind (value_in a.input.now a.f) in
    let y = field-yes a.n a.f (bytes_field a.n d) (sym c.is_bytes.ensures ∙ c.if-not-is_bytes.false) in
    let s = sum_fits a.n _ d a.at y c.requires.2 _ _ _ c.emit_message-len.ensures _ _ _ c.emit_head-i.ensures in
    omega arith

pub emit_sub-returns-then-out-i : goal.emit_sub-returns-then-out-i
emit_sub-returns-then-out-i t c =
    let a = c.args in
    let d = canon Groups a.kind (value_in a.input.now a.f) in
    let y = field-yes a.n a.f (bytes_field a.n d) (sym c.is_bytes.ensures ∙ c.if-not-is_bytes.false) in
    field-short a.n _ d a.at y c.requires.2 _ _ _ c.emit_message-len.ensures _ _ _ c.emit_head-i.ensures (search rules) c.if-out-i.true

pub emit_sub-emit_message-requires : goal.emit_sub-emit_message-requires
emit_sub-emit_message-requires t c =
    let a = c.args in
    let d = canon Groups a.kind (value_in a.input.now a.f) in
    let y = field-yes a.n a.f (bytes_field a.n d) (sym c.is_bytes.ensures ∙ c.if-not-is_bytes.false) in
    (omega (arith, c.decreases), value-fits a.n _ d a.at y c.requires.2 _ _ _ c.emit_message-len.ensures _ _ _ c.emit_head-i.ensures)

pub emit_sub-returns : goal.emit_sub-returns
emit_sub-returns t c =
    let a = c.args in
    let d = canon Groups a.kind (value_in a.input.now a.f) in
    let y = field-yes a.n a.f (bytes_field a.n d) (sym c.is_bytes.ensures ∙ c.if-not-is_bytes.false) in
    field_puts a.n _ d a.at y c.requires.2 _ _ _ c.emit_message-len.ensures _ _ _ c.emit_head-i.ensures _ _ c.emit_message.ensures

pub emit_sub-returns-then-not-is_bytes : goal.emit_sub-returns-then-not-is_bytes
emit_sub-returns-then-not-is_bytes t c =
    let a = c.args in
    field-no a.n a.f (bytes_field a.n (canon Groups a.kind (value_in a.input.now a.f))) (sym c.is_bytes.ensures ∙ c.if-not-is_bytes.true) a.out.now a.at
