-- `mcache::messages_fit` meets its contract.
use Rattle.std.proofs.Common.{◌≡◌, drop}
use Rattle.rows.specs.Rows.{rows_in}
use Rattle.mcache.specs.State.{table, gives_at, all_true, gives_in}
use Rattle.mcache.proofs.messages_fit.Given as goal

abbrev pub invariant-loop-i : goal.invariant-loop-i
invariant-loop-i l =
    let t = table l.counts l.starts l.sizes in
    all_true (drop l.i (rows_in (gives_at l.flags l.lens l.id_lens l.ids t l.store) l.ring)) ≡ gives_in l.flags l.ring l.lens l.id_lens l.ids t l.store
