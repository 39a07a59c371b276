-- `admission::signed` meets its contract.
use Rattle.std.specs.Prelude.{Err}
use Rattle.std.proofs.Common.{sym, ap, ◌∙◌}
use Rattle.std.proofs.lemmas.Result.{err_from_is_err_and}
use borrow.Author.Tests.{eq-eqb, ne_eqb}
use Rattle.admission.specs.Admission.{on_word}
use Rattle.admission.proofs.Turns.{passed, key_by, word_by}
use Rattle.admission.proofs.signed.Goals as goal

pub returns-then-unsigned : goal.returns-then-unsigned
returns-then-unsigned c = simp (c.in_default.is, c.in-Absent.is, c.if-unsigned.true)

pub returns-in-Absent : goal.returns-in-Absent
returns-in-Absent c = simp (c.in_default.is, c.in-Absent.is, c.if-unsigned.false)

pub returns-in_default : goal.returns-in_default
returns-in_default c = simp (c.in_default.is, c.in_default-key.is)

pub returns-then-len-ne-SIGNATURE_LEN : goal.returns-then-len-ne-SIGNATURE_LEN
returns-then-len-ne-SIGNATURE_LEN c =
    simp (c.in-Present.is, c.span-len.ensures, ne_eqb _ _ (λ z. c.if-len-ne-SIGNATURE_LEN.true (c.span-len.ensures ∙ z)))

pub returns-in_err-keyed : goal.returns-in_err-keyed
returns-in_err-keyed c =
    let p = err_from_is_err_and c.from_residual.result c.from_residual.ensures.1 in
    let a = c.args in
    p.1 ∙ ap Err p.2 ∙ key_by a.part.now a.sender.now a.key _ (on_word a.verified passed) c.in_err-keyed.ensures
    ∙ simp (c.in-Present.is, eq-eqb _ _ (sym c.span-len.ensures ∙ c.if-len-ne-SIGNATURE_LEN.false))

pub returns-then-not-verified : goal.returns-then-not-verified
returns-then-not-verified c =
    word_by _ _ c.if-not-verified.true ∙ key_by _ _ _ _ _ c.in_ok-keyed.ensures
    ∙ simp (c.in-Present.is, eq-eqb _ _ (sym c.span-len.ensures ∙ c.if-len-ne-SIGNATURE_LEN.false))

pub returns : goal.returns
returns c =
    word_by _ _ c.if-not-verified.false ∙ key_by _ _ _ _ _ c.in_ok-keyed.ensures
    ∙ simp (c.in-Present.is, eq-eqb _ _ (sym c.span-len.ensures ∙ c.if-len-ne-SIGNATURE_LEN.false))
