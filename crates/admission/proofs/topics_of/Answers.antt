-- `admission::topics_of` meets its contract.
use Prim.Native.Nat.{◌-◌}
use Rattle.std.specs.Prelude.{◌≡◌, Ok, Some, None, refl}
use Rattle.std.proofs.Common.{sym, ap, ◌∙◌, arith}
use Rattle.basis.specs.Cases.{at_most}
use Rattle.protobuf.specs.Field.{read_field}
use Rattle.protobuf.specs.Walk.{is_bytes}
use Rattle.protobuf.specs.Laws.{Stands, field-stands}
use Rattle.admission.specs.Admission.{topics_of, Span, topic_places}
use Rattle.admission.proofs.Turns.{topics-end, topics-refused, count-more, long-more, topics-done}
use Rattle.admission.proofs.Turns.{places-end, places-refused, note_more, note_done, note_length}
use Rattle.admission.proofs.topics_of.Goals.{In-Ok-Some}
use Rattle.admission.proofs.topics_of.Goals as goal

field_read : (c : In-Ok-Some) → Ok (Some c.in-Ok-Some.f) ≡ read_field c.args.mode c.args.part.now c.loop-f.at
field_read c = ap Ok (sym c.in-Ok-Some.field-0-is) ∙ c.in-Ok-Some.ensures

stands : (c : In-Ok-Some) → Stands c.args.part.now c.loop-f.at c.in-Ok-Some.f
stands c = field-stands c.args.mode c.args.part.now c.loop-f.at _ (field_read c)

pub loop-f-init : goal.loop-f-init
unfolding topics_of topic_places
loop-f-init c = (omega arith, omega arith, omega arith, refl, refl, refl, refl, refl)

pub overflow_sub-len : goal.overflow_sub-len
overflow_sub-len c = (stands (goal.at.overflow_sub-len c).In-Ok-Some).ends

pub loop-f-smaller : goal.loop-f-smaller
loop-f-smaller c = let m = stands (goal.at.loop-f-smaller c).In-Ok-Some in omega (arith, m)

pub loop-f-preserved : goal.loop-f-preserved
loop-f-preserved c =
    let l = c.loop-f in
    let a = c.args in
    let f = c.in-Ok-Some.f in
    let there = c.is_topic-there in
    let p = (goal.at.loop-f-preserved c).In-Ok-Some in
    let e = field_read p in
    let st = stands p in
    let n = c.count_after-n in
    let k = at_most (is_bytes 4 f) l.n n.result n.ensures in (
      st.within,
      omega arith,
      l.invariant.2 ∙ count-more a.mode a.part.now l.at l.n n.result f e n.ensures,
      l.invariant.3 ∙ long-more a.mode a.part.now l.at l.long c.long_after-long.result f e st c.long_after-long.ensures,
      sym (note_more (λ (s : Span). s.start) a.mode a.part.now l.at f _ _ _ _ _ e there.ensures c.note.ensures
          n.ensures) ∙ l.invariant.4,
      sym (note_more (λ (s : Span). s.size) a.mode a.part.now l.at f _ _ _ _ _ e there.ensures
          c.note-in-Ok-Some.ensures n.ensures) ∙ l.invariant.5,
      note_length there.result l.starts _ l.n f.start _ c.note.ensures l.invariant.6,
      note_length there.result l.sizes _ l.n (f.next - f.start) _ c.note-in-Ok-Some.ensures l.invariant.7,
    )

pub returns-in_default : goal.returns-in_default
returns-in_default c =
    let l = c.loop-f in
    let a = c.args in
    let e : Ok None ≡ read_field a.mode a.part.now l.at = cc in record {
      topics = topics-done a.mode _ _ _ _ (topics-end a.mode _ _ e) l.invariant.2 l.invariant.3;
      starts = note_done (λ (s : Span). s.start) _ _ _ _ (places-end a.mode _ _ e) l.invariant.4;
      sizes = note_done (λ (s : Span). s.size) _ _ _ _ (places-end a.mode _ _ e) l.invariant.5;
    }

pub returns-in_default-2 : goal.returns-in_default-2
returns-in_default-2 c =
    let l = c.loop-f in
    let a = c.args in
    let e = sym c.in_default.is ∙ c.read_field.ensures in record {
      topics = topics-done a.mode _ _ _ _ (topics-refused a.mode _ _ _ e) l.invariant.2 l.invariant.3;
      starts = note_done (λ (s : Span). s.start) _ _ _ _ (places-refused a.mode _ _ _ e) l.invariant.4;
      sizes = note_done (λ (s : Span). s.size) _ _ _ _ (places-refused a.mode _ _ _ e) l.invariant.5;
    }
