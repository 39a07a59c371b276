-- Identical bytes: once neither gateway lacks anything of a topic, both advertise it in the same bytes.
use Rattle.std.specs.Prelude.{ℕ, ◌≡◌, true}
use mathlib.Core.List.{List, Memᴰ}
use Rattle.rows.specs.Ids.{among}
use Rattle.admission.specs.Admission.{gives_id}
use Rattle.mcache.specs.Messages.{Cached}
use Rattle.history.specs.History.{State, advertise, refusal_at}
use Rattle.agreement.specs.Round.{advert_by}

-- ---- the rows, by message and by entry
pub record Kept (flags : ℕ) (c : Cached) (got : List (List ℕ)) : Type 0 where
  pub was_got : among c.message got ≡ true
  pub own : gives_id flags c.message c.id ≡ true

pub record Entered (flags : ℕ) (m : List ℕ) (cs : List Cached) : Type 0 where
  pub entry : Cached
  pub there : Memᴰ entry cs
  pub message : entry.message ≡ m
  pub own : gives_id flags m entry.id ≡ true

-- ---- for two histories under the premises; each gateway advertises with its own windows and its own buffer
pub record Identical (topic : List ℕ) (windows-a windows-b : ℕ) (out-a out-b : List ℕ) (a b : State) : Type 0 where
  -- neither advertise is refused
  pub taken_a : refusal_at a (advertise topic windows-a out-a) ≡ 0
  pub taken_b : refusal_at b (advertise topic windows-b out-b) ≡ 0
  -- and the bytes that they say they wrote are the same
  pub same : advert_by topic windows-a out-a a ≡ advert_by topic windows-b out-b b
