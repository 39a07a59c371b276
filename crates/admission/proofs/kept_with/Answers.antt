-- `admission::kept_with` meets its contract: it is read, its topics' places are compared, and then it is admitted and its id compared.
use Rattle.std.specs.Prelude.{refl}
use Rattle.std.proofs.Common.{sym, ◌∙◌, ⊎_elim, arith}
use Rattle.basis.specs.Dialect.{mode_of}
use Rattle.admission.specs.Admission.{spans_in}
use Rattle.admission.specs.TopicLaws.{counts-places, length_spans}
use Rattle.admission.proofs.Turns.{read_in, spans_found, kept-unread, kept_other, kept-count, kept-many, kept-names}
use Rattle.admission.proofs.kept_with.Goals as goal

pub returns-then-is_err : goal.returns-then-is_err
returns-then-is_err c =
    let a = c.args in
    kept-unread a.flags a.part.now a.id.now (spans_in a.kept_starts.now a.kept_sizes.now a.n) _
    (read_in _ _ c.mode_of-mode.ensures c.count.ensures) (sym c.is_err.ensures.value ∙ c.if-is_err.true)

pub returns-then-t-n : goal.returns-then-t-n
returns-then-t-n c =
    let a = c.args in
    let found = rw c.mode_of-mode.ensures at c.topics_of-t.ensures in
    let n-places = counts-places (mode_of a.flags) a.part.now found.topics in
    ⊎_elim
    (λ u. kept-count _ a.part.now a.id.now (spans_in a.kept_starts.now a.kept_sizes.now a.n)
    (λ z. u (n-places ∙ z ∙ length_spans _ _ _)))
    (λ u. kept-many _ a.part.now a.id.now (spans_in a.kept_starts.now a.kept_sizes.now a.n)
    (omega (arith, n-places, u.0, u.1))) c.then-t-n.either

pub names-requires : goal.names-requires
names-requires c = (rw c.mode_of-mode.ensures at c.topics_of-t.ensures).topics

pub returns-then-same_spans : goal.returns-then-same_spans
returns-then-same_spans c =
    let a = c.args in
    let found = rw c.mode_of-mode.ensures at c.topics_of-t.ensures in
    let n-places = counts-places (mode_of a.flags) a.part.now found.topics in
    let read = read_in _ _ c.mode_of-mode.ensures c.count.ensures in
    let spans = spans_found (mode_of a.flags) a.part.now _ _ _ _ _ _ n-places c.if-t-n.false
    c.if-n-gt-MAX_TOPICS.false refl refl found.starts found.sizes in
    kept-names _ a.part.now a.id.now (spans_in a.kept_starts.now a.kept_sizes.now a.n) _ _ read
    (sym c.is_err.ensures.value ∙ c.if-is_err.false) (sym (rw spans at c.same_spans.ensures) ∙ c.if-same_spans.true)
    c.names.ensures

pub returns-else-same_spans : goal.returns-else-same_spans
returns-else-same_spans c =
    let a = c.args in
    let found = rw c.mode_of-mode.ensures at c.topics_of-t.ensures in
    let n-places = counts-places (mode_of a.flags) a.part.now found.topics in
    let spans = spans_found (mode_of a.flags) a.part.now _ _ _ _ _ _ n-places c.if-t-n.false
    c.if-n-gt-MAX_TOPICS.false refl refl found.starts found.sizes in
    c.if-same_spans.false
    ∙ kept_other _ a.part.now a.id.now (spans_in a.kept_starts.now a.kept_sizes.now a.n)
    (sym (rw spans at c.same_spans.ensures) ∙ c.if-same_spans.false)
