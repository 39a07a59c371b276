-- `pradulins::pradulins_heartbeat` meets its contract: what the stored node answers is told, and the new node stored.
use mathlib.Core.Path.{ap, ◌∙◌}
use Rattle.node.specs.Told.{beat_told}
use Rattle.stored.specs.Layout.{node_bytes}
use Rattle.pradulins.proofs.Told.{told_as}
use Rattle.pradulins.proofs.pradulins_heartbeat.Goals as goal

pub returns : goal.returns
returns c =
    let node = c.load-n.ensures in
    let did = c.heartbeat-r.ensures in
    let t = told_as beat_told c.args.values.now
    (rw node at did.answer) c.told_beat.ensures (c.tell.ensures.value, c.tell.ensures.values_after) in
    record {
      number = t.0;
      values = t.1;
      node = c.store.ensures ∙ ap node_bytes (rw node at did.node);
    }
