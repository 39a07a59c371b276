-- `node::expiries_rise` meets its contract: the expiries rise exactly where they are sorted.
use Prim.Native.Nat.{ℕ, ◌<◌}
use mathlib.Core.Path.{◌≡◌}
use lib.ListN.{length}
use Rattle.rows.specs.Rows.{place_of}
use native.Mathlib.Omega.{arith}
use Rattle.std.proofs.Common.{rules, tests}
use Rattle.std.proofs.lemmas.Iterator.{serves_from_Range}
use Rattle.rows.specs.StoreLaws.{place_in}
use Rattle.node.proofs.Steps.{expiry_at, rises-run}
use Rattle.node.proofs.expiries_rise.Goals as goal

pub is_sorted_by_key-requires-clause-callable : goal.is_sorted_by_key-requires-clause-callable
is_sorted_by_key-requires-clause-callable c =
    serves_from_Range (λ x q k. search (rules, tests)) (λ x l h.
    let inside : (p : ℕ) → p ≡ place_of c.args.ring x → (p < c.args.ring.cap) × (p < length c.args.expiry.now) =
    λ p e. place_in c.requires x p (omega (arith, c.requires.within)) e in
    search (rules, inside))

pub returns : goal.returns
returns c =
    let run = c.is_sorted_by_key.ensures.runs in
    rises-run c.args.ring c.args.expiry.now _ run.0 run.1 run.2.0 (run.2.1 (expiry_at c.args.ring c.args.expiry.now) (λ x r q k. search (rules, tests))).0
