use Rattle.mcache.proofs.Listing.{put_moved}
use Rattle.mcache.proofs.put_row.Goals as goal

pub returns : goal.returns
returns c = put_moved c.args.at c.args.p c.args.n c.args.rows.now _ c.requires.0 c.requires.1 c.copy_within.ensures.after
