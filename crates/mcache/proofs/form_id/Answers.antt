use Rattle.std.proofs.Common.{sym, ◌∙◌}
use Rattle.mcache.proofs.Walks.{formed, formed-not}
use Rattle.mcache.proofs.form_id.Goals as goal

pub returns-then-can_form : goal.returns-then-can_form
returns-then-can_form c =
    let a = c.args in formed
    a.part.now a.a a.e a.b a.f a.out.now c.put_bytes-i.result _
    c.put_bytes.result _ (sym
    c.can_form.ensures
    ∙ c.if-can_form.true)
    c.put_bytes-i.ensures c.put_bytes.ensures

pub returns : goal.returns
returns c =
    let a = c.args in formed-not a.part.now a.a a.e a.b a.f a.out.now (sym
    c.can_form.ensures ∙ c.if-can_form.false)
