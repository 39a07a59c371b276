-- The ids that are asked for are those of the messages that the asker lacks, each once; and of each the teller has the
-- message.
use Rattle.std.specs.Prelude.{ℕ, ◌≡◌, true}
use mathlib.Core.List.{List}
use Rattle.rows.specs.Ids.{among}
use Rattle.admission.specs.Admission.{gives_id}

-- the message of a cached id: it was got, and it gives that id
pub record Got (flags : ℕ) (i m : List ℕ) (got : List (List ℕ)) : Type 0 where
  pub among-got : among m got ≡ true
  pub own : gives_id flags m i ≡ true
