-- `node::Node::ask_answer` meets its contract: the lent node and its stores, the body, and then the request.
use mathlib.Core.Path.{ap, sym, ◌∙◌}
use Rattle.std.specs.Prelude.{Err}
use Rattle.std.proofs.lemmas.Result.{err_from_is_err_and}
use Rattle.basis.specs.Dialect.{spoken}
use Rattle.schema.specs.AcceptLaws.{accept_small}
use Rattle.node.specs.PartsLaws.{path-accepted}
use Rattle.node.specs.StateLaws.{lent_ready}
use Rattle.node.proofs.Asking.{few_as, asks-faulty, asks-refused, asks-done}
use Rattle.node.proofs.Node.ask_answer.Goals as goal

pub request_for-requires : goal.request_for-requires
request_for-requires c =
    let a = c.args in
    let r = lent_ready a.self.now a.seen_store.now a.cache_store.now (sym c.in_ok-tested.ensures) c.requires.0 c.requires.1 in
    let e = sym c.in_ok-accept.ensures in
    let d = spoken c.mode_of-mode.result a.edition in
    record {
      sound = r.rows;
      body_len_bound = (accept_small d a.body.now e, few_as c.mode_of-mode.ensures _ a.body.now (path-accepted d a.body.now e).0);
    }

pub returns-in_err-tested : goal.returns-in_err-tested
returns-in_err-tested c =
    let a = c.args in
    let p = err_from_is_err_and c.from_residual.result c.from_residual.ensures.1 in
    let r = asks-faulty a.self.now a.seen_store.now a.cache_store.now a.edition a.body.now a.out.now _ c.in_err-tested.ensures in
    record { value = p.1 ∙ ap Err p.2 ∙ r.0; out_after = r.1 }

pub returns-in_err-accept : goal.returns-in_err-accept
returns-in_err-accept c =
    let a = c.args in
    let q = c.from_residual-in_err-accept in
    let p = err_from_is_err_and q.result q.ensures.1 in
    let r = asks-refused a.self.now a.seen_store.now a.cache_store.now a.edition a.body.now a.out.now c.in_ok-tested.ensures
    c.mode_of-mode.ensures _ c.in_err-accept.ensures in
    record { value = p.1 ∙ ap Err p.2 ∙ r.0; out_after = r.1 }

pub returns : goal.returns
returns c =
    let a = c.args in
    let r = asks-done a.self.now a.seen_store.now a.cache_store.now a.edition a.body.now a.out.now c.in_ok-tested.ensures
    c.mode_of-mode.ensures c.in_ok-accept.ensures _ _ c.request_for.ensures.value c.request_for.ensures.out_after in
    record { value = r.0; out_after = r.1 }
