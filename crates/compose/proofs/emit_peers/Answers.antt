-- `compose::emit_peers` meets its contract: what is left of the peers, written where those before end, makes all of them; it ends at a prune or with the rows.
use mathlib.Core.Path.{sym, ◌∙◌}
use Rattle.compose.specs.Puts.{going-none, going-part}
use Rattle.compose.proofs.Parts.{peers_over, peers-stop, peers-next}
use Rattle.compose.proofs.emit_peers.Goals as goal

pub returns-then-is_code : goal.returns-then-is_code
returns-then-is_code c =
    let a = c.args in let l = c.loop-i in
    going-none _ _ _ _ _ _ l.invariant (peers-stop a.records.now a.bytes.now l.i c.loop-i-test.true (sym c.is_code.ensures ∙ c.if-is_code.true))

pub loop-i-preserved : goal.loop-i-preserved
loop-i-preserved c =
    let a = c.args in let l = c.loop-i in
    going-part _ _ _ _ _ _ l.invariant _ _ (peers-next a.records.now a.bytes.now l.i c.loop-i-test.true (sym c.is_code.ensures ∙ c.if-is_code.false)) _ _ c.emit_peer_at-end.ensures

pub returns : goal.returns
returns c =
    let a = c.args in let l = c.loop-i in
    going-none _ _ _ _ _ _ l.invariant (peers_over a.records.now a.bytes.now l.i c.loop-i-test.false)
