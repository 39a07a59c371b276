-- `pradulins::pradulins_admit` meets its contract: what the stored node answers is told, and the new node stored.
use mathlib.Core.Path.{ap, ◌∙◌}
use Rattle.node.specs.Told.{admit_told}
use Rattle.stored.specs.Layout.{node_bytes}
use Rattle.pradulins.proofs.Told.{told_as}
use Rattle.pradulins.proofs.pradulins_admit.Goals as goal

pub returns : goal.returns
returns c =
    let node = c.load-n.ensures in
    let edition = c.edition_of-spoken.ensures in
    let did = c.admit-r.ensures in
    let t = told_as admit_told c.args.values.now (rw (node, edition) at did.answer)
    c.told_admit.ensures (c.tell.ensures.value, c.tell.ensures.values_after) in
    record {
      number = t.0;
      values = t.1;
      node = c.store.ensures ∙ ap node_bytes (rw (node, edition) at did.node);
      seen = rw (node, edition) at did.seen;
      cache = rw (node, edition) at did.cache;
    }
