-- `admission::known` meets its contract.
use Rattle.admission.proofs.Turns.{bytes_case}
use borrow.Author.Rules.{rules}
use Rattle.admission.proofs.known.Goals as goal

pub returns-in_default : goal.returns-in_default
returns-in_default c = bytes_case _ _ _ _ c.in_default.is c.is_peer_id.ensures

pub slice_bounds-is_peer_id-count : goal.slice_bounds-is_peer_id-count
slice_bounds-is_peer_id-count c = (c.requires _ _ c.in-Present.is).0

pub slice_bounds-is_peer_id-start : goal.slice_bounds-is_peer_id-start
slice_bounds-is_peer_id-start c = let h = c.requires _ _ c.in-Present.is in search rules

pub slice_bounds-is_peer_id-end-2 : goal.slice_bounds-is_peer_id-end-2
slice_bounds-is_peer_id-end-2 c = let h = c.requires _ _ c.in-Present.is in search rules

pub returns : goal.returns
returns c = bytes_case _ _ _ _ c.in-Present.is c.is_peer_id-2.ensures
