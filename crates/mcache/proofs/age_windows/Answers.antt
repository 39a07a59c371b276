use Rattle.std.proofs.Common.{◌≡◌, ℕ, ◌+◌, ◌<◌, ◌≤◌, min, length, get_or, arith}
use Rattle.std.proofs.lemmas.Grind.{common_steps}
use Rattle.std.proofs.lemmas.List.{get_or_default}
use Rattle.std.proofs.lemmas.List.Edits.{map_over_more}
use Rattle.mcache.specs.State.{older}
use Rattle.mcache.proofs.age_windows.Goals as goal

one_more : (w : ℕ) → w ≤ 255 → min (w + 1) 255 ≡ older w
unfolding older
one_more w h = grind (arith, common_steps)

pub loop-age-preserved : goal.loop-age-preserved
loop-age-preserved c =
    let l = c.loop-age in
    let k : l.age-index < length l.window = omega arith in
    rw (c.saturating_add.ensures, one_more (get_or l.window l.age-index 0) (omega arith))
    (map_over_more older c.args.window.now l.window l.age-index _ (omega arith) l.invariant (get_or_default l.window l.age-index 0 _ k))
