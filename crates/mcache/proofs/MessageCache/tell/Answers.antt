-- `MessageCache::tell` meets its contract: each row in use is looked at once, and goes into its spot where it is told of.
use Rattle.std.proofs.Common.{◌<◌, length, sym, refl, ◌∙◌, arith, rules}
use Rattle.mcache.specs.Calls.{gossip_list}
use Rattle.mcache.specs.GuardLaws.{lie_rows}
use Rattle.mcache.proofs.Answers.{roomy}
use Rattle.mcache.proofs.Walks.{row_in}
use Rattle.mcache.proofs.Listing.{gather-turn, gather-done}
use Rattle.mcache.proofs.Steps.{tells-rows, tells_none}
use Rattle.mcache.proofs.MessageCache.tell.Goals as goal

pub loop-i-init : goal.loop-i-init
loop-i-init c = (omega arith, record { size = refl; behind = refl; goes = refl })

pub is_told-there-requires : goal.is_told-there-requires
is_told-there-requires c = (
  (row_in c.ring-ring.result c.loop-i.i c.place-p.result (sym c.rows_lie.ensures ∙ c.if-rows_lie.true) c.loop-i-test.true c.place-p.ensures).0,
  roomy c.args.self (search rules) (search rules) (search rules),
)

pub tell_row-count-requires : goal.tell_row-count-requires
tell_row-count-requires c =
    let w = row_in c.ring-ring.result c.loop-i.i c.place-p.result (sym c.rows_lie.ensures ∙ c.if-rows_lie.true) c.loop-i-test.true c.place-p.ensures in
    (omega arith, w.0)

pub loop-i-preserved : goal.loop-i-preserved
loop-i-preserved c =
    let w = row_in c.ring-ring.result c.loop-i.i c.place-p.result (sym c.rows_lie.ensures ∙ c.if-rows_lie.true) c.loop-i-test.true c.place-p.ensures in
    let few : c.loop-i.count < length c.loop-i.rows = omega arith in
    let k = rw c.is_told-there.ensures at c.tell_row-count.ensures in
    gather-turn _ _ _ _ c.ring-ring.result c.loop-i.i c.place-p.result c.loop-i.count c.loop-i.rows c.loop-i-test.true c.place-p.ensures few
    c.tell_row-count.result _ c.loop-i.invariant.0 c.loop-i.invariant.1 (k.value, k.rows_after)

pub returns-then-rows_lie : goal.returns-then-rows_lie
unfolding gossip_list
returns-then-rows_lie c =
    let a = c.args in
    let l = sym c.rows_lie.ensures ∙ c.if-rows_lie.true in
    let t = lie_rows c.ring-ring.result l in
    let r = rw c.ring-ring.ensures at (gather-done _ _ _ _ c.ring-ring.result c.loop-i.i c.loop-i.count c.loop-i.rows c.loop-i-test.false (omega arith) c.loop-i.invariant.1) in
    tells-rows a.self a.store.now a.topic.now a.windows c.loop-i.count _ _ (rw c.ring-ring.ensures at l) refl r.0 r.1

pub returns : goal.returns
returns c =
    tells_none c.args.self c.args.store.now c.args.topic.now c.args.windows _
    (rw c.ring-ring.ensures at (sym c.rows_lie.ensures ∙ c.if-rows_lie.false)) (c.untold.ensures.answer_value, (c.untold.ensures.count_value, c.untold.ensures.rows_value))
