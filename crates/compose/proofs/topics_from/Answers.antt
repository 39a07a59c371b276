-- `compose::topics_from` meets its contract: the topics that were counted, and those from row i on, are those from the first row on.
use Prim.Native.Nat.{◌+◌}
use native.Mathlib.Omega.{arith}
use lib.ListN.{length}
use Rattle.meaning.specs.ReadBack.{raw_of}
use Rattle.compose.specs.Lent.{rows_from}
use Rattle.compose.specs.Said.{topics_from}
use Rattle.compose.proofs.Parts.{row_inside-is}
use Rattle.compose.proofs.Tests.{inside-row, long-now, long-later, long-before, counted-done, counted_same, counted-more}
use Rattle.compose.proofs.Tests.{topics-end, topics-stop, topics_skip, topics-one, raw-length}
use Rattle.compose.proofs.topics_from.Goals.{then-is_code-2+then-long-eq0+then-len-gt-MAX_TOPIC_SIZE, then-is_code-2+else-long-eq0, else-is_code-2}
use Rattle.compose.proofs.topics_from.Goals.{else-long-eq0-via-then-long-eq0+else-len-gt-MAX_TOPIC_SIZE, else-long-eq0-via-else-long-eq0}
use Rattle.compose.proofs.topics_from.Goals as goal

pub returns-then-is_code : goal.returns-then-is_code
returns-then-is_code c =
    let a = c.args in
    counted-done _ _ _ _ c.loop-i.invariant.1
    (topics-stop a.records.now a.bytes.now c.loop-i.i c.loop-i-test.true c.is_code.ensures c.if-is_code.true)

pub overflow_sub-len : goal.overflow_sub-len
overflow_sub-len c =
    (row_inside-is (length c.args.bytes.now) _
    (inside-row c.args.records.now c.args.bytes.now c.loop-i.i _ c.requires c.loop-i-test.true c.row_at-r.ensures)).0

pub loop-i-preserved : goal.loop-i-preserved
loop-i-preserved c =
    let t = c.args.records.now in
    let b = c.args.bytes.now in
    let l = c.loop-i in
    let h = c.loop-i-test.true in
    let e = c.is_code.ensures in
    let f = c.is_code-in-loop-i.ensures in
    let g = l.invariant.1 in
    let rest = topics_from b (rows_from t (l.i + 1)) in
    elim c.if-is_code-2.branch [
      | then-is_code-2+then-long-eq0+then-len-gt-MAX_TOPIC_SIZE w ↦
          let r = w.row_at-r in (
            omega arith,
            counted-more _ _ _ _ g (raw_of b r.result) rest _ _
                (topics-one t b l.i h e c.if-is_code.false f w.if-is_code-2.true r.result r.ensures) w.count-is
                (long-now _ rest _ (raw-length t b l.i h r.result c.requires r.ensures) _ _ w.if-long-eq0.true w.if-len-gt-MAX_TOPIC_SIZE.true w.long-is),
          )
      | then-is_code-2+else-long-eq0 w ↦
          let r = w.row_at-r in
          let s = raw-length t b l.i h r.result c.requires r.ensures in (
            omega arith,
            counted-more _ _ _ _ g (raw_of b r.result) rest _ _
                (topics-one t b l.i h e c.if-is_code.false f w.if-is_code-2.true r.result r.ensures) w.count-is
                (elim w.else-long-eq0.branch [
                  | else-long-eq0-via-then-long-eq0+else-len-gt-MAX_TOPIC_SIZE u ↦ long-later _ rest _ s _ _ u.if-long-eq0.true u.if-len-gt-MAX_TOPIC_SIZE.false w.long-is
                  | else-long-eq0-via-else-long-eq0 u ↦ long-before _ rest _ s _ _ u.if-long-eq0.false w.long-is
                ]),
          )
      | else-is_code-2 w ↦
          (omega arith, counted_same _ _ _ _ g rest _ _ (topics_skip t b l.i h e c.if-is_code.false f w.if-is_code-2.false) w.count-is w.long-is)
    ]

pub returns : goal.returns
returns c =
    let a = c.args in
    counted-done _ _ _ _ c.loop-i.invariant.1 (topics-end a.records.now a.bytes.now c.loop-i.i c.loop-i-test.false)
