-- `MessageCache::tell` meets its contract: each row in use is looked at once, and goes into its spot where it is told of.
use Rattle.std.proofs.Common.{[], ℕ, ◌≤◌, drop}
use Rattle.rows.specs.Rows.{rows_in}
use Rattle.rows.specs.Store.{id_at}
use Rattle.mcache.specs.State.{table, told, gather_into, message_id_size}
use Rattle.mcache.proofs.Listing.{Gathering}
use Rattle.mcache.proofs.MessageCache.tell.Given as goal

abbrev pub invariant-loop-i : goal.invariant-loop-i
invariant-loop-i l =
    let t = told l.window l.lens (table l.counts l.starts l.sizes) l.store l.windows l.topic in
    let d = id_at message_id_size l.id_lens l.ids in
    let all = rows_in (λ (p : ℕ). p) l.ring in
    (l.count ≤ l.i) × Gathering t d (gather_into t d [] all) l.initial.rows (drop l.i all) l.count l.rows
