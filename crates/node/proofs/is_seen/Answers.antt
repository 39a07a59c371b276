-- `node::is_seen` meets its contract: an id above 128 bytes is in no row; another is looked for behind its mark.
use mathlib.Core.Path.{refl, ◌∙◌}
use lib.ListN.{length, replicate}
use native.Mathlib.Omega.{arith}
use Rattle.basis.specs.Lists.{set-fits}
use Rattle.node.proofs.Steps.{key-holds, key_counts, long_unseen, seen-or-not}
use Rattle.node.proofs.is_seen.Goals as goal

pub returns-then-n-gt-MESSAGE_ID_SIZE : goal.returns-then-n-gt-MESSAGE_ID_SIZE
returns-then-n-gt-MESSAGE_ID_SIZE c =
    let a = c.args in
    long_unseen a.signed a.ring a.lens.now a.store.now a.id.now c.requires c.if-n-gt-MESSAGE_ID_SIZE.true

pub slice_bounds-find_from-end : goal.slice_bounds-find_from-end
slice_bounds-find_from-end c =
    let few = c.if-n-gt-MESSAGE_ID_SIZE.false in
    let a = c.args in
    key_counts a.signed _ (replicate 129 0) a.id.now _ (length a.id.now) refl refl few c.mark_of.ensures
    (c.put_bytes.ensures.lent ∙ set-fits _ _ _ _ (omega (arith, few)))

pub returns : goal.returns
returns c =
    let few = c.if-n-gt-MESSAGE_ID_SIZE.false in
    let a = c.args in
    seen-or-not a.signed a.ring a.lens.now a.store.now a.id.now _ c.find_from.result
    (key-holds a.signed _ (replicate 129 0) a.id.now _ (length a.id.now) refl refl few c.mark_of.ensures
    (c.put_bytes.ensures.lent ∙ set-fits _ _ _ _ (omega (arith, few)))) c.find_from.ensures
