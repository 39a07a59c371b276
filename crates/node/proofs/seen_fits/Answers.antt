-- `node::seen_fits` meets its contract: the seen cache's own test, and then the expiries.
use Prim.Native.Nat.{ℕ, ◌*◌}
use mathlib.Core.Path.{sym, ap, ap₂, ◌∙◌}
use borrow.Author.Rules.{rules}
use Rattle.rows.specs.Store.{in_use}
use Rattle.seen.specs.declared.SeenCache.{SeenCache}
use Rattle.seen.specs.State.{ring_of}
use Rattle.seen.specs.Calls.{lent_of}
use Rattle.mcache.specs.State.{fresh}
use Rattle.node.specs.declared.Node.{Node}
use Rattle.node.specs.State.{rises_from}
use Rattle.node.proofs.Answers.{fits-refused, no-error, fits-fine, fits_ring}
use Rattle.node.proofs.seen_fits.Goals as goal

-- a node with these ids, and nothing else
abbrev node_of : ℕ → SeenCache → Node
node_of m s = record { ttl = 0; max_seen = m; clock = 0; seen = s; cache = fresh 1 0 0 }

pub expiries_rise-requires : goal.expiries_rise-requires
expiries_rise-requires c =
    let a = c.args in
    let f = no-error _ (sym c.is_err.ensures.value ∙ c.if-is_err.false) ∙ c.lent.ensures in
    rw c.ring.ensures (fits_ring (node_of a.max_seen a.seen.now) a.seen_store.now c.requires f (search rules) (search rules))

pub returns-then-is_err : goal.returns-then-is_err
returns-then-is_err c =
    let a = c.args in λ n e f.
    fits-refused n a.seen_store.now (c.requires ∙ ap (λ (m : ℕ). m * 129) (sym f)) _
    (c.lent.ensures ∙ ap (λ (s : SeenCache). lent_of s a.seen_store.now) (sym e)) (sym c.is_err.ensures.value ∙ c.if-is_err.true)

pub returns : goal.returns
returns c =
    let a = c.args in
    let g = no-error _ (sym c.is_err.ensures.value ∙ c.if-is_err.false) ∙ c.lent.ensures in λ n e f.
    fits-fine n a.seen_store.now (c.requires ∙ ap (λ (m : ℕ). m * 129) (sym f)) (g ∙ ap (λ (s : SeenCache). lent_of s a.seen_store.now) (sym e)) _
    (rw c.ring.ensures at c.expiries_rise.ensures
    ∙ ap₂ (λ (m : ℕ) (s : SeenCache). rises_from 0 (in_use (ring_of m s) s.expiry)) (sym f) (sym e))
