-- `admission::keyed` meets its contract.
use Rattle.std.proofs.Common.{rules}
use Rattle.admission.proofs.Turns.{inside_on, inside-not, there-bad, there-not, there_on}
use Rattle.admission.proofs.keyed.Goals as goal

pub returns-then-not-key_inside : goal.returns-then-not-key_inside
returns-then-not-key_inside c = inside-not _ _ _ _ c.in_default.is c.key_inside.ensures c.if-not-key_inside.true

pub returns-in_default : goal.returns-in_default
returns-in_default c = inside_on _ _ _ _ c.in_default.is c.key_inside.ensures c.if-not-key_inside.false

pub slice_bounds-is_key-count : goal.slice_bounds-is_key-count
slice_bounds-is_key-count c = (c.requires _ _ c.in-Present.is).0

pub slice_bounds-is_key-start : goal.slice_bounds-is_key-start
slice_bounds-is_key-start c = let h = c.requires _ _ c.in-Present.is in search rules

pub slice_bounds-is_key-end : goal.slice_bounds-is_key-end
slice_bounds-is_key-end c = let h = c.requires _ _ c.in-Present.is in search rules

pub slice_bounds-key_matches-count : goal.slice_bounds-key_matches-count
slice_bounds-key_matches-count c = (c.requires _ _ c.in-Present.is).0

pub slice_bounds-key_matches-start : goal.slice_bounds-key_matches-start
slice_bounds-key_matches-start c = let h = c.requires _ _ c.in-Present.is in search rules

pub slice_bounds-key_matches-end : goal.slice_bounds-key_matches-end
slice_bounds-key_matches-end c = let h = c.requires _ _ c.in-Present.is in search rules

pub returns-then-not-is_key : goal.returns-then-not-is_key
returns-then-not-is_key c = there-bad _ _ _ _ _ _ c.in-Present.is c.is_key.ensures c.if-not-is_key.true

pub returns-then-not-key_matches : goal.returns-then-not-key_matches
returns-then-not-key_matches c =
    there-not _ _ _ _ _ _ c.in-Present.is c.is_key.ensures _ c.key_matches.ensures c.if-not-is_key.false
    c.if-not-key_matches.true

pub returns : goal.returns
returns c =
    there_on _ _ _ _ _ _ c.in-Present.is c.is_key.ensures _ c.key_matches.ensures c.if-not-is_key.false
    c.if-not-key_matches.false
