-- `seen::write_id` meets its contract: a copy into the part from `at` on is a run of stores.
use Rattle.seen.proofs.Steps.{sets-part}
use Rattle.seen.proofs.write_id.Goals as goal

pub returns : goal.returns
returns c = sets-part c.args.store.now c.args.id.now _ c.args.at c.requires c.copy_from_slice.ensures.after
