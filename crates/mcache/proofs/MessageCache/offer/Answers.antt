-- `MessageCache::offer` meets its contract: the row with the id is found, and it is said of its message.
use Rattle.std.proofs.Common.{ℕ, sym, ap, ◌∙◌, arith}
use Rattle.rows.specs.declared.Ring.{Ring}
use Rattle.mcache.specs.Messages.{offer_for}
use Rattle.mcache.proofs.Answers.{roomy, offer_not, offer_lost, offer_found}
use Rattle.mcache.proofs.Walks.{row_in}
use borrow.Author.Rules.{rules}
use Rattle.mcache.proofs.MessageCache.offer.Goals as goal

pub has_topic-carried-requires : goal.has_topic-carried-requires
has_topic-carried-requires c =
    let a = c.args in
    let ring = c.ring-ring in
    let p = c.place-p in
    let l = sym c.rows_lie.ensures ∙ c.if-rows_lie.true in
    let h = c.if-row-ring.true in (
      (row_in ring.result c.find-row.result p.result l h p.ensures).0,
      roomy a.self (search rules)
          (search rules)
          (search rules),
    )

pub returns-then-row-ring : goal.returns-then-row-ring
returns-then-row-ring c =
    let a = c.args in
    let ring = c.ring-ring in
    let l = sym c.rows_lie.ensures ∙ c.if-rows_lie.true in
    let row = c.find-row in
    let h = c.if-row-ring.true in
    let p = c.place-p in
    let t = c.has_topic-carried in
    let w = c.at_or-age in
    offer_found a.self a.store.now a.id.now a.topic.now a.windows (rw ring.ensures at l) row.result row.ensures
    (omega (arith, h, ap (λ (r : Ring). r.count) ring.ensures)) p.result (rw ring.ensures at p.ensures) t.result t.ensures _
    (c.offer_for.ensures ∙ ap (λ (k : ℕ). offer_for t.result k a.windows) w.ensures)

pub returns-else-row-ring : goal.returns-else-row-ring
returns-else-row-ring c =
    let a = c.args in
    let ring = c.ring-ring in
    let l = sym c.rows_lie.ensures ∙ c.if-rows_lie.true in
    let row = c.find-row in
    offer_lost a.self a.store.now a.id.now a.topic.now a.windows (rw ring.ensures at l) row.result row.ensures
    (omega (arith, c.if-row-ring.false, ap (λ (r : Ring). r.count) ring.ensures))

pub returns-else-rows_lie : goal.returns-else-rows_lie
returns-else-rows_lie c =
    let a = c.args in
    offer_not a.self a.store.now a.id.now a.topic.now a.windows
    (rw c.ring-ring.ensures at (sym c.rows_lie.ensures ∙ c.if-rows_lie.false))
