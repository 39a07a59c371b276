-- `compose::emit_topics` meets its contract: what is left of the topics, written where those before end, makes all of them; it ends at a message or with the rows.
use mathlib.Core.Path.{sym, ◌∙◌}
use Rattle.compose.specs.Puts.{going-none, going-part}
use Rattle.compose.proofs.Parts.{topics_over, topics-stop, topics-next}
use Rattle.compose.proofs.emit_topics.Goals as goal

pub returns-then-is_code : goal.returns-then-is_code
returns-then-is_code c =
    let a = c.args in let l = c.loop-i in
    going-none _ _ _ _ _ _ l.invariant (topics-stop a.records.now a.bytes.now l.i c.loop-i-test.true (sym c.is_code.ensures ∙ c.if-is_code.true))

pub loop-i-preserved : goal.loop-i-preserved
loop-i-preserved c =
    let a = c.args in let l = c.loop-i in
    going-part _ _ _ _ _ _ l.invariant _ _ (topics-next a.records.now a.bytes.now l.i c.loop-i-test.true (sym c.is_code.ensures ∙ c.if-is_code.false)) _ _ c.emit_topic_at-end.ensures

pub returns : goal.returns
returns c =
    let a = c.args in let l = c.loop-i in
    going-none _ _ _ _ _ _ l.invariant (topics_over a.records.now a.bytes.now l.i c.loop-i-test.false)
