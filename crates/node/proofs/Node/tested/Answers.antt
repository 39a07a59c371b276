-- `node::Node::tested` meets its contract: the settings, the stores' lengths, the message cache and then the ids seen.
use mathlib.Core.Path.{refl, sym, ◌∙◌}
use Rattle.std.proofs.lemmas.Result.{err_from_is_err_and}
use Rattle.node.proofs.Answers.{lent_setting, lent-more, lent-part, lent-room, lent-refused, lent-unfit, lent-fine}
use Rattle.node.proofs.Node.tested.Goals as goal

pub returns-then-cap-max_seen : goal.returns-then-cap-max_seen
returns-then-cap-max_seen c = let a = c.args in lent_setting a.self.now a.seen_store.now a.cache_store.now c.if-cap-max_seen.true

pub returns-then-max_seen-cap : goal.returns-then-max_seen-cap
returns-then-max_seen-cap c =
    let a = c.args in lent-more a.self.now a.seen_store.now a.cache_store.now c.if-cap-max_seen.false c.if-max_seen-cap.true

pub returns-then-seen_store-ne0 : goal.returns-then-seen_store-ne0
returns-then-seen_store-ne0 c =
    let a = c.args in lent-part a.self.now a.seen_store.now a.cache_store.now c.if-cap-max_seen.false c.if-seen_store-ne0.true

pub seen_fits-requires : goal.seen_fits-requires
seen_fits-requires c =
    let a = c.args in
    lent-room a.self.now a.seen_store.now a.cache_store.now c.if-cap-max_seen.false
    c.if-max_seen-cap.false c.if-seen_store-ne0.false

pub returns-in_err-lent : goal.returns-in_err-lent
returns-in_err-lent c =
    let a = c.args in
    let p = err_from_is_err_and c.from_residual.result c.from_residual.ensures.1 in
    rw (p.1, p.2) (lent-refused a.self.now a.seen_store.now a.cache_store.now c.if-cap-max_seen.false
    c.if-max_seen-cap.false c.if-seen_store-ne0.false _ c.in_err-lent.ensures)

pub returns-then-seen_fits : goal.returns-then-seen_fits
returns-then-seen_fits c =
    let a = c.args in
    lent-fine a.self.now a.seen_store.now a.cache_store.now c.if-cap-max_seen.false
    c.if-max_seen-cap.false c.if-seen_store-ne0.false c.in_ok-lent.ensures (sym (c.seen_fits.ensures a.self.now refl refl) ∙ c.if-seen_fits.true)

pub returns : goal.returns
returns c =
    let a = c.args in
    lent-unfit a.self.now a.seen_store.now a.cache_store.now c.if-cap-max_seen.false
    c.if-max_seen-cap.false c.if-seen_store-ne0.false c.in_ok-lent.ensures (sym (c.seen_fits.ensures a.self.now refl refl) ∙ c.if-seen_fits.false)
