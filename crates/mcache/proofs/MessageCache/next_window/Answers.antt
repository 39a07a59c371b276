use Rattle.mcache.proofs.Steps.{stale-within, shifted-is}
use Rattle.mcache.specs.State.{ring_of}
use Rattle.mcache.proofs.MessageCache.next_window.Goals as goal

pub without-requires : goal.without-requires
without-requires c =
    stale-within c.args.self.history_len
    (ring_of c.args.self)
    c.args.self.window c.stale_rows-k.result
    (rw c.ring-ring.ensures at c.stale_rows-k.ensures)

pub returns : goal.returns
returns c =
    let stale-rows = c.stale_rows-k in
    let ring = c.ring-ring in
    let a = c.args in
    shifted-is a.self stale-rows.result _ _ (rw ring.ensures at stale-rows.ensures) c.age_windows.ensures
    c.without.ensures
