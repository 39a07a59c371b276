-- Calls that are written out with messages of a set admit set members only.
use Rattle.std.specs.Prelude.{◌≡◌, refl, true, List, ℕ}
use Rattle.basis.specs.Cases.{both}
use Rattle.rows.specs.Ids.{among}
use Rattle.history.specs.History.{admit, heartbeat, ask, brought}
use Rattle.history.proofs.Laws.{carried-brought}
use Rattle.history.specs.Script.{Act, calls_of, Written, nothing, got, beaten, asked}
use Rattle.agreement.specs.Premises.{Members, none_left, member}
use Rattle.agreement.proofs.Holding.{member-none, member-some}
use Rattle.agreement.specs.Script.{in_set}

pub script_members : (flags : ℕ) (set : List (List ℕ)) {clock : ℕ} {xs : List Act} → Written flags clock xs
    → in_set set xs ≡ true → Members flags set (calls_of xs)
unfolding in_set calls_of brought
script_members flags set nothing h = none_left
script_members flags set (got clock at {ed} {body} {m} {xs = xs} c up w) h =
    let b = both (among m set) (in_set set xs) h in
    member
    (member-some flags set (admit ed body 0 true at) m (carried-brought flags ed body 0 at m c.accepted c.placed)
    b.0)
    (script_members flags set w b.1)
script_members flags set (beaten clock at up w) h =
    member (member-none flags set (heartbeat at) refl) (script_members flags set w h)
script_members flags set (asked {ed = ed} {body} {out} w) h =
    member (member-none flags set (ask ed body out) refl) (script_members flags set w h)
