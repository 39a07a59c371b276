-- `node::Node::serve_answer` meets its contract: the lent node and its stores, the bodies, and then the reply.
use mathlib.Core.Path.{ap, sym, ◌∙◌}
use Rattle.std.specs.Prelude.{Err}
use Rattle.std.proofs.lemmas.Result.{err_from_is_err_and}
use Rattle.basis.specs.Dialect.{spoken}
use Rattle.node.specs.PartsLaws.{path-accepted, idontwant-accepted}
use Rattle.node.specs.StateLaws.{lent_ready}
use Rattle.node.proofs.Asking.{few_as}
use Rattle.node.proofs.Serving.{serves-faulty, serves-refused, serves-declined, serves-done}
use Rattle.node.proofs.Node.serve_answer.Goals as goal

pub reply_to-requires : goal.reply_to-requires
reply_to-requires c =
    let a = c.args in
    let r = lent_ready a.self.now a.seen_store.now a.cache_store.now (sym c.in_ok-tested.ensures) c.requires.0 c.requires.1 in
    let mode = c.mode_of-mode in
    let e = sym c.in_ok-accept.ensures in
    let f = sym c.in_ok-accept-2.ensures in
    record {
      usable = r.kept;
      body_len_bound = (
        few_as mode.ensures _ a.body.now (path-accepted (spoken mode.result a.edition) a.body.now e).1,
        few_as mode.ensures _ a.unwanted.now (idontwant-accepted mode.result a.unwanted.now f),
      );
    }

pub returns-in_err-tested : goal.returns-in_err-tested
returns-in_err-tested c =
    let a = c.args in
    let p = err_from_is_err_and c.from_residual.result c.from_residual.ensures.1 in
    let r = serves-faulty a.self.now a.seen_store.now a.cache_store.now a.edition a.body.now a.unwanted.now a.out.now _ c.in_err-tested.ensures in
    record { value = p.1 ∙ ap Err p.2 ∙ r.0; out_after = r.1 }

pub returns-in_err-accept : goal.returns-in_err-accept
returns-in_err-accept c =
    let a = c.args in
    let q = c.from_residual-in_err-accept in
    let p = err_from_is_err_and q.result q.ensures.1 in
    let r = serves-refused a.self.now a.seen_store.now a.cache_store.now a.edition a.body.now a.unwanted.now a.out.now c.in_ok-tested.ensures
    c.mode_of-mode.ensures _ c.in_err-accept.ensures in
    record { value = p.1 ∙ ap Err p.2 ∙ r.0; out_after = r.1 }

pub returns-in_err-accept-2 : goal.returns-in_err-accept-2
returns-in_err-accept-2 c =
    let a = c.args in
    let q = c.from_residual-in_err-accept-2 in
    let p = err_from_is_err_and q.result q.ensures.1 in
    let r = serves-declined a.self.now a.seen_store.now a.cache_store.now a.edition a.body.now a.unwanted.now a.out.now c.in_ok-tested.ensures
    c.mode_of-mode.ensures c.in_ok-accept.ensures _ c.in_err-accept-2.ensures in
    record { value = p.1 ∙ ap Err p.2 ∙ r.0; out_after = r.1 }

pub returns : goal.returns
returns c =
    let a = c.args in
    let r = serves-done a.self.now a.seen_store.now a.cache_store.now a.edition a.body.now a.unwanted.now a.out.now c.in_ok-tested.ensures
    c.mode_of-mode.ensures c.in_ok-accept.ensures c.in_ok-accept-2.ensures _ _ (c.reply_to.ensures.value, c.reply_to.ensures.out_after) in
    record { value = r.0; out_after = r.1 }
