-- Where the flags allow no unsigned message, a call brings what it brought before there were flags, in their mode.
use Rattle.std.specs.Prelude.{Option, Some, None, Result, Ok, Err, ℕ, cond, List}
use Rattle.basis.specs.declared.Mode.{Mode}
use Rattle.basis.specs.Dialect.{spoken}
use Rattle.protobuf.specs.Walk.{between}
use Rattle.schema.specs.Accept.{accept_of}
use Rattle.ids.specs.Ids.{message_at}
use Rattle.history.specs.History.{Call, admit, heartbeat, advertise, ask, serve, explain, where_accepted}

-- ---- as it was: an admit with the host's word brings the message at its index, whatever that is
abbrev pub standing_was : List ℕ → Result (ℕ × ℕ) ℕ → Option (List ℕ)
standing_was body (Ok (a, e)) = Some (between body a e)
standing_was body (Err n) = None

unfoldable pub brought_was : Mode → Call → Option (List ℕ)
brought_was mode (admit ed body i word at) =
    cond word (where_accepted (accept_of (spoken mode ed) body) (standing_was body (message_at mode body i))) None
brought_was mode (heartbeat at) = None
brought_was mode (advertise topic windows out) = None
brought_was mode (ask ed body out) = None
brought_was mode (serve ed body second out) = None
brought_was mode (explain id topic windows) = None
