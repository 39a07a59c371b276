-- `seen::SeenCache::holds` meets its contract: by `find_from`, from the oldest on.
use mathlib.Core.Path.{◌∙◌}
use native.Mathlib.Nat.{zero-add}
use Rattle.seen.proofs.Steps.{held-is}
use Rattle.seen.proofs.SeenCache.holds.Goals as goal

pub returns : goal.returns
returns c =
    let a = c.args in
    rw c.ring-ring.ensures (held-is a.cap c.find_from.result a.self a.store.now a.id.now (rw c.ring-ring.ensures at c.find_from.ensures ∙ zero-add _))
