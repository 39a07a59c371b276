-- `caches::seen_part::insert` is safe: the line lies within the buffer.
use native.Mathlib.Omega.{arith}
use Rattle.caches.proofs.seen_part.insert.Goals as goal

pub print_line-go-requires : goal.print_line-go-requires
print_line-go-requires c = omega (arith, c.insert_line-k.ensures.small)
