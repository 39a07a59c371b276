-- `admission::key_matches` meets its contract.
use Rattle.std.specs.Prelude.{◌≡◌, Some, ℕ, List}
use Rattle.std.proofs.Common.{sym, ap, ◌∙◌, rules}
use Rattle.peer_id.specs.PeerId.{from_bytes}
use Rattle.peer_id.specs.declared.PeerId.TheVariants as who
use Rattle.rows.specs.Ids.{same_bytes}
use Rattle.admission.proofs.Turns.{has-digest, matches_case, digest-part}
use Rattle.admission.proofs.key_matches.Goals.{In-Some-Identity}
use Rattle.admission.proofs.key_matches.Goals as goal

identity : (c : In-Some-Identity) → Some who.Identity ≡ from_bytes c.args.sender.now
identity c = ap Some (sym c.in-Some-Identity.field-0-is) ∙ c.in-Some-Identity.ensures

pub slice_bounds-same-count : goal.slice_bounds-same-count
slice_bounds-same-count c = has-digest _ (identity c)

pub slice_bounds-same-start : goal.slice_bounds-same-start
slice_bounds-same-start c = let h = has-digest _ (identity c) in search rules

pub returns-in-Some-Identity : goal.returns-in-Some-Identity
returns-in-Some-Identity c =
    c.same.ensures ∙ ap (λ (l : List ℕ). same_bytes l c.args.key.now) (digest-part c.args.sender.now)
    ∙ matches_case _ _ _ (identity (goal.at.returns-in-Some-Identity c).In-Some-Identity)

pub returns-in-Some-Sha256 : goal.returns-in-Some-Sha256
returns-in-Some-Sha256 c =
    matches_case _ _ _ (ap Some (sym c.in-Some-Sha256.field-0-is) ∙ c.in-Some-Sha256.ensures)

pub returns-in-None : goal.returns-in-None
returns-in-None c = matches_case _ _ _ c.in-None.ensures
