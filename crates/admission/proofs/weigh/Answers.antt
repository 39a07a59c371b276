-- `admission::weigh` meets its contract: the id's places pick the case, and the sender is tested before the seqno is looked at.
use Rattle.std.specs.Prelude.{Err, ℕ, ◌≡◌, refl}
use Rattle.std.proofs.Common.{sym, ap, ◌∙◌, rules}
use Rattle.std.proofs.lemmas.Result.{err_from_is_err_and}
use Rattle.basis.specs.declared.Mode.{Mode}
use Rattle.basis.specs.Dialect.{mode_of}
use Rattle.ids.specs.declared.IdError.TheVariants as noid
use Rattle.ids.specs.IdLaws.{Fits, id-fits}
use Rattle.protobuf.specs.Walk.{between}
use Rattle.admission.specs.declared.Unfit.TheVariants as unfit
use Rattle.admission.specs.Admission.{topics_in, admission_of}
use Rattle.admission.proofs.Turns.{admit_on, admit_err, first-inside, fifth-inside, parts-of, peer_on, peer-not, signed_on, passed, tests_signed, tests_limits}
use Rattle.admission.proofs.weigh.Goals as goal

-- from and seqno lie within the message
inside : (c : goal.Else-not-known-2) → Fits c.args.part.now c.in-Ok.a c.in-Ok.e c.in-Ok.b c.in-Ok.f
inside c =
    id-fits _ _ _ _ _ _ (parts-of _ _ _ c.slots_of-from.ensures _ _ _ _ _ c.id_of.ensures c.in-Ok.is)

pub known-requires : goal.known-requires
known-requires c = first-inside _ _ _ c.slots_of-from.ensures

pub known-requires-in-Ok : goal.known-requires-in-Ok
known-requires-in-Ok c = first-inside _ _ _ c.slots_of-from.ensures

pub slice_bounds-signed-count : goal.slice_bounds-signed-count
slice_bounds-signed-count c = (inside c).from.0

pub slice_bounds-signed-start : goal.slice_bounds-signed-start
slice_bounds-signed-start c = let h = (inside c).from in search rules

pub slice_bounds-signed-end : goal.slice_bounds-signed-end
slice_bounds-signed-end c = let h = (inside c).from in search rules

pub signed-requires : goal.signed-requires
signed-requires c = fifth-inside _ _ _ c.slots_of-from.ensures

pub limits-requires : goal.limits-requires
limits-requires c = c.requires ∙ ap (λ (m : Mode). topics_in m c.args.part.now) (sym c.mode_of-mode.ensures)

pub returns-then-not-known : goal.returns-then-not-known
returns-then-not-known c =
    let slots = rw c.mode_of-mode.ensures at c.slots_of-from.ensures in
    let w = c.in-Err-InvalidSeqno in
    peer-not _ _ _ slots _ _ c.known.ensures c.if-not-known.true
    ∙ admit_err _ _ _ _ _ _ _ slots c.id_of.ensures w.is w.field-0-is

pub returns-else-not-known : goal.returns-else-not-known
returns-else-not-known c =
    let slots = rw c.mode_of-mode.ensures at c.slots_of-from.ensures in
    let w = c.in-Err-InvalidSeqno in
    peer_on _ _ _ slots _ _ c.known.ensures _ c.if-not-known.false refl
    ∙ admit_err _ _ _ _ _ _ _ slots c.id_of.ensures w.is w.field-0-is

pub returns-then-not-known-2 : goal.returns-then-not-known-2
returns-then-not-known-2 c =
    let slots = rw c.mode_of-mode.ensures at c.slots_of-from.ensures in
    peer-not _ _ _ slots _ _ c.known-in-Ok.ensures c.if-not-known-2.true
    ∙ admit_on _ _ _ _ _ _ slots c.id_of.ensures c.in-Ok.is

pub returns-in_err-signed-in-Ok : goal.returns-in_err-signed-in-Ok
returns-in_err-signed-in-Ok c =
    let moded = c.mode_of-mode.ensures in
    let a = c.args in
    let o = c.in-Ok in
    let s = c.slots_of-from.result in
    let slots = rw moded at c.slots_of-from.ensures in
    let parts = parts-of (mode_of a.flags) _ _ slots _ _ _ _ _ c.id_of.ensures o.is in
    let p = err_from_is_err_and c.from_residual.result c.from_residual.ensures.1 in
    p.1 ∙ ap Err p.2 ∙ peer_on _ _ _ slots _ _ c.known-in-Ok.ensures _ c.if-not-known-2.false
    (signed_on (mode_of a.flags) a.part.now _ slots _ _ _ _ _ _ _ _ _ parts c.allows_unsigned.ensures
    (tests_signed c.allows_unsigned.result s.fourth s.fifth (mode_of a.flags) a.part.now (between a.part.now o.a o.e) a.verified ((o.a, o.e), (o.b, o.f)) _ c.in_err-signed-in-Ok.ensures))
    ∙ admit_on _ _ _ _ _ _ slots c.id_of.ensures o.is

pub returns-in_err-limits-in-Ok : goal.returns-in_err-limits-in-Ok
returns-in_err-limits-in-Ok c =
    let moded = c.mode_of-mode.ensures in
    let a = c.args in
    let o = c.in-Ok in
    let s = c.slots_of-from.result in
    let slots = rw moded at c.slots_of-from.ensures in
    let parts = parts-of (mode_of a.flags) _ _ slots _ _ _ _ _ c.id_of.ensures o.is in
    let r = c.from_residual-in_err-limits-in-Ok in
    let p = err_from_is_err_and r.result r.ensures.1 in
    p.1 ∙ ap Err p.2 ∙ peer_on _ _ _ slots _ _ c.known-in-Ok.ensures _ c.if-not-known-2.false
    (signed_on (mode_of a.flags) a.part.now _ slots _ _ _ _ _ _ _ _ _ parts c.allows_unsigned.ensures
    (tests_limits c.allows_unsigned.result s.fourth s.fifth (mode_of a.flags) a.part.now (between a.part.now o.a o.e) a.verified ((o.a, o.e), (o.b, o.f)) (Err _) c.in_ok-signed-in-Ok.ensures (rw moded at c.in_err-limits-in-Ok.ensures)))
    ∙ admit_on _ _ _ _ _ _ slots c.id_of.ensures o.is

pub returns-in_ok-limits-in-Ok : goal.returns-in_ok-limits-in-Ok
returns-in_ok-limits-in-Ok c =
    let moded = c.mode_of-mode.ensures in
    let a = c.args in
    let o = c.in-Ok in
    let s = c.slots_of-from.result in
    let slots = rw moded at c.slots_of-from.ensures in
    let parts = parts-of (mode_of a.flags) _ _ slots _ _ _ _ _ c.id_of.ensures o.is in
    peer_on _ _ _ slots _ _ c.known-in-Ok.ensures _ c.if-not-known-2.false
    (signed_on (mode_of a.flags) a.part.now _ slots _ _ _ _ _ _ _ _ _ parts c.allows_unsigned.ensures
    (tests_limits c.allows_unsigned.result s.fourth s.fifth (mode_of a.flags) a.part.now (between a.part.now o.a o.e) a.verified ((o.a, o.e), (o.b, o.f)) passed c.in_ok-signed-in-Ok.ensures (rw moded at c.in_ok-limits-in-Ok.ensures)))
    ∙ admit_on _ _ _ _ _ _ slots c.id_of.ensures o.is

pub returns-in-Err-MissingFrom : goal.returns-in-Err-MissingFrom
returns-in-Err-MissingFrom c =
    let w = c.in-Err-MissingFrom in
    admit_err _ _ _ _ _ _ _ (rw c.mode_of-mode.ensures at c.slots_of-from.ensures) c.id_of.ensures w.is w.field-0-is

pub returns-in-Err-InvalidFrom : goal.returns-in-Err-InvalidFrom
returns-in-Err-InvalidFrom c =
    let a = c.args in
    let w = c.in-Err-InvalidFrom in
    let e : Err (unfit.InvalidFrom w.n) ≡ admission_of a.flags a.part.now a.verified =
    admit_err a.flags a.part.now a.verified _ _ w.field-0 (noid.InvalidFrom w.n)
    (rw c.mode_of-mode.ensures at c.slots_of-from.ensures) c.id_of.ensures w.is w.field-0-is in
    ap (λ (n : ℕ). Err (unfit.InvalidFrom n)) w.n-is ∙ e
