-- `node::Node::admit_part` meets its contract: a message that may be taken has its id formed behind the mark, and is inserted.
use mathlib.Core.Path.{refl, sym, ap, ◌∙◌}
use native.Mathlib.Omega.{arith}
use Rattle.ids.specs.Ids.{mark}
use Rattle.node.proofs.Answers.{admits-no, plan_unfit, plan_back, has-signature, formed-small, formed-room, formed-counts, formed-fits, admits-formed}
use Rattle.node.proofs.Node.admit_part.Goals as goal

pub returns-then-at-self : goal.returns-then-at-self
returns-then-at-self c =
    let a = c.args in let h = admits-no a.self a.seen_store.now a.cache_store.now a.at _ _
    (plan_back _ a.part.now a.verified _ _ _ _ (sym c.admit.ensures ∙ c.in-Ok.is) a.self a.at c.if-at-self.true) in record { answer_value = h.0; node_value = h.1.0; seen_store_after = h.1.1.0; cache_store_after = h.1.1.1 }

pub has_signature-requires : goal.has_signature-requires
has_signature-requires c = has-signature _ c.args.part.now _ _ _ _ _ (sym c.admit.ensures ∙ c.in-Ok.is)

pub overflow_add-key : goal.overflow_add-key
overflow_add-key c =
    let a = c.args in
    let h = sym c.admit.ensures ∙ c.in-Ok.is in
    let is-mark = c.mark_of.ensures ∙ ap mark c.has_signature.ensures in
    let l = formed-small _ a.part.now a.verified _ _ _ _ h _ is-mark c.form_id-n.result _ _ refl c.form_id-n.ensures in
    omega (arith, l)

pub slice_bounds-key-end-in-Ok : goal.slice_bounds-key-end-in-Ok
slice_bounds-key-end-in-Ok c =
    let a = c.args in
    let h = sym c.admit.ensures ∙ c.in-Ok.is in
    let is-mark = c.mark_of.ensures ∙ ap mark c.has_signature.ensures in
    formed-room _ a.part.now a.verified _ _ _ _ h _ is-mark c.form_id-n.result _ _ refl c.form_id-n.ensures

pub slice_bounds-insert-end : goal.slice_bounds-insert-end
slice_bounds-insert-end c =
    let a = c.args in
    let h = sym c.admit.ensures ∙ c.in-Ok.is in
    let is-mark = c.mark_of.ensures ∙ ap mark c.has_signature.ensures in
    formed-counts _ a.part.now a.verified _ _ _ _ h _ is-mark c.form_id-n.result _ _ refl c.form_id-n.ensures

pub insert-requires : goal.insert-requires
insert-requires c =
    let a = c.args in
    let h = sym c.admit.ensures ∙ c.in-Ok.is in
    let is-mark = c.mark_of.ensures ∙ ap mark c.has_signature.ensures in record {
      ready = c.requires;
      part_len_bound = formed-fits _ a.part.now a.verified _ _ _ _ h _ is-mark c.form_id-n.result _ _ refl c.form_id-n.ensures;
    }

pub returns-in-Err : goal.returns-in-Err
returns-in-Err c =
    let a = c.args in let h = admits-no a.self a.seen_store.now a.cache_store.now a.at _ _
    (plan_unfit a.self a.at a.part.now a.verified _ (sym c.in-Err.is ∙ c.admit.ensures)) in record { answer_value = h.0; node_value = h.1.0; seen_store_after = h.1.1.0; cache_store_after = h.1.1.1 }

pub returns-else-at-self : goal.returns-else-at-self
returns-else-at-self c =
    let a = c.args in
    let h = sym c.admit.ensures ∙ c.in-Ok.is in
    let is-mark = c.mark_of.ensures ∙ ap mark c.has_signature.ensures in let h = admits-formed _ a.part.now a.verified _ _ _ _ h _ is-mark c.form_id-n.result _ _ refl c.form_id-n.ensures a.self a.seen_store.now
    a.cache_store.now a.at c.if-at-self.false (c.insert.ensures.answer_value, (c.insert.ensures.node_value, (c.insert.ensures.seen_store_after, c.insert.ensures.cache_store_after))) in record { answer_value = h.0; node_value = h.1.0; seen_store_after = h.1.1.0; cache_store_after = h.1.1.1 }
