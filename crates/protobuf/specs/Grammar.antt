-- A body as the Protocol Buffers encoding document has it, sections "Message Structure" and "Groups", with the scope's
-- rules: varints are minimal, field numbers are 1 to 536870911, and groups (types 3 and 4) are taken in the mode that
-- passes over them, at most 32 open at once. Nothing here speaks of a reader.
use Rattle.std.specs.Prelude.{ℕ, suc, ◌+◌, ◌*◌, ◌^◌, ◌≤◌, ◌<◌, ◌≡◌, List, [], ◌∷◌, ◌++◌, length}
use Rattle.basis.specs.declared.Mode.{Mode}
use Rattle.basis.specs.declared.Mode.TheVariants.{Plain, Groups}
use Rattle.peer_id.specs.Uvarint.{uvarint}

-- what a field holds; of a group, the bytes of its fields, which one rule of `BodyIn` reads and in one way
pub data Payload : Type 0 where
  number : ℕ → Payload
  eight : List ℕ → Payload
  bytes : List ℕ → Payload
  group : List ℕ → Payload
  four : List ℕ → Payload

-- a field: its number, and what it holds
pub record Entry : Type 0 where
  pub field : ℕ
  pub payload : Payload

-- value := varint for type 0, i64 for type 1, len-prefix for type 2, i32 for type 5
pub data Value : ℕ → List ℕ → Payload → Type 0 where
  varint : {v : ℕ} → v < 2 ^ 64 → Value 0 (uvarint v) (number v)
  i64 : {d : List ℕ} → length d ≡ 8 → Value 1 d (eight d)
  len-prefix : {d : List ℕ} → length d < 2 ^ 64 → Value 2 (uvarint (length d) ++ d) (bytes d)
  i32 : {d : List ℕ} → length d ≡ 4 → Value 5 d (four d)

-- message := (tag value)*, where a tag is the number shifted left by three bits, with the type in those bits, as a
-- varint; or the value is a group: a start tag, fields, and an end tag of the same number. The first number says how
-- many groups may open, one in another
pub data BodyIn : ℕ → List ℕ → List Entry → Type 0 where
  none : {l : ℕ} → BodyIn l [] []
  field : {l n type : ℕ} {v rest : List ℕ} {p : Payload} {es : List Entry} → 1 ≤ n → n ≤ 536870911 → Value type v p
      → BodyIn l rest es → BodyIn l (uvarint (n * 8 + type) ++ (v ++ rest)) (record { field = n; payload = p } ∷ es)
  a_group : {l n : ℕ} {v rest : List ℕ} {is es : List Entry} → 1 ≤ n → n ≤ 536870911 → BodyIn l v is
      → BodyIn (suc l) rest es
      → BodyIn (suc l) (uvarint (n * 8 + 3) ++ ((v ++ uvarint (n * 8 + 4)) ++ rest))
      (record { field = n; payload = group v } ∷ es)

-- what may stand after the tag of a field n, so that the field can stand in a body: a value, or a group's fields and its
-- end tag
pub data Holds : ℕ → ℕ → ℕ → List ℕ → Payload → Type 0 where
  value : {l n type : ℕ} {v : List ℕ} {p : Payload} → Value type v p → Holds l n type v p
  grouped : {l n : ℕ} {v : List ℕ} {is : List Entry} → BodyIn l v is
      → Holds (suc l) n 3 (v ++ uvarint (n * 8 + 4)) (group v)

abbrev pub max_groups : ℕ
max_groups = 32

-- how many groups may open in a body: none in the first mode
abbrev pub levels_of : Mode → ℕ
levels_of Plain = 0
levels_of Groups = max_groups

-- a body as a mode reads it
abbrev pub Body : Mode → List ℕ → List Entry → Type 0
Body m = BodyIn (levels_of m)
