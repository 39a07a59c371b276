-- The lists that a host lends to have an RPC written: rows of the decoder's table, over lent bytes. A row is a record as decode leaves it: its kind, its
-- start and end, a number, and places that are counted from its start. Which rows are lent well; all others are 42.
use Rattle.std.specs.Prelude.{ℕ, ◌+◌, ◌-◌, ◌*◌, ◌/◌, ◌%◌, ◌<◌, ◌≡◌, Bool, true, false, ◌&&◌, ◌||◌, List, [], ◌∷◌, length, eqb, leb}
use Rattle.schema.specs.declared.Kind.{Kind}
use Rattle.schema.specs.declared.Kind.TheVariants as kind
use Rattle.schema.specs.declared.Place.{Place}
use Rattle.schema.specs.declared.Place.TheVariants as place
use Rattle.schema.specs.declared.Slots.{Slots}
use Rattle.message.specs.declared.Record.{Record}
use Rattle.message.specs.Rows.{kind_code, record_from}
use Rattle.meaning.specs.Table.{rows_in}

-- the rows of a table, from one on; and all of them
abbrev pub rows_from : List ℕ → ℕ → List Record
rows_from t i = rows_in t i (length t / 20 - i)

abbrev pub lent_rows : List ℕ → List Record
lent_rows t = rows_from t 0

-- a row is of the kind with that code
abbrev pub is_code : ℕ → Record → Bool
is_code c r = eqb (kind_code r.kind) c

-- ---- places lie within the n lent bytes
-- a place of a row that begins at `at`; the sum is of numbers without bound
unfoldable pub inside_at : ℕ → ℕ → Place → Bool
inside_at n at place.Absent = true
inside_at n at (place.Present a e) = leb a e && leb (at + e) n

-- the fields that a kind has; others are not looked at
unfoldable pub fields_inside : ℕ → ℕ → Kind → Slots → Bool
fields_inside n at (kind.Rpc d) t = true
fields_inside n at kind.SubOpts t = inside_at n at t.first
fields_inside n at kind.RawMessage t =
    inside_at n at t.first
    && (inside_at n at t.second
    && (inside_at n at t.third && (inside_at n at t.fourth && inside_at n at t.fifth)))
fields_inside n at kind.Topic t = true
fields_inside n at (kind.ControlMessage d) t = true
fields_inside n at kind.ControlIHave t = true
fields_inside n at kind.ControlIWant t = true
fields_inside n at kind.MessageId t = true
fields_inside n at kind.ControlGraft t = inside_at n at t.first
fields_inside n at kind.ControlPrune t = inside_at n at t.first
fields_inside n at kind.PeerInfo t = inside_at n at t.first && inside_at n at t.second
fields_inside n at kind.ControlIDontWant t = true

-- a row: its own start and end, and its fields
unfoldable pub row_inside : ℕ → Record → Bool
row_inside n r = leb r.start r.end && (leb r.end n && fields_inside n r.start r.kind r.slots)

-- ---- each row's kind is one of six, and a topic comes after a message, a peer after a prune: m says that a message came
-- before it, p that a prune did
unfoldable pub held_by : Bool → Bool → Kind → Bool
held_by m p (kind.Rpc d) = false
held_by m p kind.SubOpts = true
held_by m p kind.RawMessage = true
held_by m p kind.Topic = m
held_by m p (kind.ControlMessage d) = false
held_by m p kind.ControlIHave = false
held_by m p kind.ControlIWant = false
held_by m p kind.MessageId = false
held_by m p kind.ControlGraft = true
held_by m p kind.ControlPrune = true
held_by m p kind.PeerInfo = p
held_by m p kind.ControlIDontWant = false

abbrev pub lent_from : ℕ → Bool → Bool → List Record → Bool
lent_from n m p [] = true
lent_from n m p (r ∷ rs) =
    held_by m p r.kind && (row_inside n r && lent_from n (m || is_code 2 r) (p || is_code 9 r) rs)

-- ---- a table of whole rows, all of them well
unfoldable pub lent_well : List ℕ → List ℕ → Bool
lent_well t b = eqb (length t % 20) 0 && lent_from (length b) false false (lent_rows t)

-- what the writers ask for: each row's places lie within the bytes
pub record Inside (t b : List ℕ) : Type 0 where
  pub each : (i : ℕ) → i < length t / 20 → row_inside (length b) (record_from t (i * 20)) ≡ true
