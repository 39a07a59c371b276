-- Where and why a message is refused by one of 1 to 7 and 14 to 16: the first refusal in reading order. Field after
-- field is without refusal, up to one that is refused itself, or that is a submessage which is refused inside. The path
-- has the numbers of the fields that enclose the place, the outermost first; the offset counts from the start of the
-- whole; the reason has the Rust's own numbers, which count from the start of the part that is refused itself. The
-- places of 14 to 16 are not told. Nothing here speaks of a reader.
use Rattle.std.specs.Prelude.{Option, Some as At, ℕ, ◌+◌, ◌^◌, ◌≤◌, ◌<◌, ◌≡◌, List, [], ◌∷◌, ◌++◌, length}
use Rattle.basis.specs.declared.Mode.{Mode}
use Rattle.basis.specs.Dialect.{spoken}
use Rattle.basis.specs.declared.Spot.{Spot}
use Rattle.utf8.specs.Grammar.{Utf8}
use Rattle.peer_id.specs.Uvarint.{uvarint}
use Rattle.protobuf.specs.declared.WireError.{WireError}
use Rattle.protobuf.specs.declared.WireError.TheVariants.{InvalidUtf8}
use Rattle.protobuf.specs.Grammar.{Payload, number, eight, bytes, group, four, Holds, levels_of, Body}
use Rattle.protobuf.specs.Refusal.{spot_of, placed_as}
use Rattle.protobuf.specs.Encode.{tag, bytes_field}
use Rattle.protobuf.specs.Faults.{Fault}
use Rattle.schema.specs.declared.Kind.{Kind}
use Rattle.schema.specs.declared.Kind.TheVariants as kind
use Rattle.schema.specs.declared.Form.{Form}
use Rattle.schema.specs.declared.Role.{Role}
use Rattle.schema.specs.declared.Role.TheVariants.{Skip, Number, Text, Bytes, Unsigned, Topic, MessageId, Sub}
use Rattle.schema.specs.Schema.{role_of}
use Rattle.schema.specs.TextLaws.{IsText}
use Rattle.rpc.specs.Grammar.{IsSubOpts, IsMessage, IsIHave, IsIWant, IsGraft, IsPeerInfo, IsPrune, IsIDontWant}
use Rattle.rpc.specs.Grammar.{IsControl, IsRpc}

-- bytes that mean something
pub record Some {X : Type 0} (R : List ℕ → X → Type 0) (d : List ℕ) : Type 0 where
  pub value : X
  pub means : R d value

-- a message of each kind without refusal: it means one. A topic and a message id are no messages
abbrev pub Meant : Mode → Kind → List ℕ → Type 0
Meant mode (kind.Rpc e) = Some (IsRpc (spoken mode e))
Meant mode kind.SubOpts = Some (IsSubOpts mode)
Meant mode kind.RawMessage = Some (IsMessage mode)
Meant mode kind.Topic = Some (Body mode)
Meant mode (kind.ControlMessage e) = Some (IsControl (spoken mode e))
Meant mode kind.ControlIHave = Some (IsIHave mode)
Meant mode kind.ControlIWant = Some (IsIWant mode)
Meant mode kind.MessageId = Some (Body mode)
Meant mode kind.ControlGraft = Some (IsGraft mode)
Meant mode kind.ControlPrune = Some (IsPrune mode)
Meant mode kind.PeerInfo = Some (IsPeerInfo mode)
Meant mode kind.ControlIDontWant = Some (IsIDontWant mode)

-- a length-delimited field without refusal: text is UTF-8, and a submessage means one
abbrev pub FineAs : Mode → Role → List ℕ → Type 0
FineAs mode Skip d = Unit {0}
FineAs mode (Number figure) d = Unit {0}
FineAs mode (Text slot) d = Utf8 d
FineAs mode (Bytes slot) d = Unit {0}
FineAs mode (Unsigned slot) d = Unit {0}
FineAs mode Topic d = Utf8 d
FineAs mode MessageId d = Unit {0}
FineAs mode (Sub j form) d = Meant mode j d

-- a field n of a message of kind k without refusal, by what it holds
abbrev pub Fine : Mode → Kind → ℕ → Payload → Type 0
Fine mode k n (number v) = Unit {0}
Fine mode k n (eight d) = Unit {0}
Fine mode k n (bytes d) = FineAs mode (role_of k n 2) d
Fine mode k n (group d) = Unit {0}
Fine mode k n (four d) = Unit {0}

-- what stands from the place `base` on in a message of kind k is refused: its first field is refused by its bytes (1 to
-- 6, 14 to 16) or as text (7); or it is a submessage that is refused inside; or it is without refusal, and a later one
-- is refused
pub data RefusedAt (mode : Mode) : Kind → ℕ → List ℕ → List ℕ → ℕ → WireError → Type 0 where
  wire : {k : Kind} {base place : ℕ} {s : List ℕ} {why : WireError} → Fault mode base s place why
      → RefusedAt mode k base s [] place why
  text : {k : Kind} {base n m : ℕ} (d rest : List ℕ) → 1 ≤ n → n ≤ 536870911 → length d < 2 ^ 64
      → IsText (role_of k n 2) m → (Utf8 d → ⊥)
      → RefusedAt mode k base (bytes_field n d ++ rest) [] (base + length (tag n 2))
      (InvalidUtf8 (base + length (tag n 2)))
  inside : {k j : Kind} {form : Form} {base n offset : ℕ} {path : List ℕ} {why : WireError} (d rest : List ℕ) → 1 ≤ n
      → n ≤ 536870911 → length d < 2 ^ 64 → role_of k n 2 ≡ Sub j form → RefusedAt mode j 0 d path offset why
      → RefusedAt mode k base (bytes_field n d ++ rest) (n ∷ path)
      (base + length (tag n 2) + length (uvarint (length d)) + offset) why
  later : {k : Kind} {base n type offset : ℕ} {path v : List ℕ} {p : Payload} {why : WireError} (rest : List ℕ) → 1 ≤ n
      → n ≤ 536870911 → Holds (levels_of mode) n type v p → Fine mode k n p
      → RefusedAt mode k (base + length (tag n type) + length v) rest path offset why
      → RefusedAt mode k base (tag n type ++ (v ++ rest)) path offset why

-- the place as it is told: the offset and the first three numbers of the path, 0 for none
abbrev pub place_at : ℕ → List ℕ → Option Spot
place_at offset [] = At (record { offset = offset; outer = 0; middle = 0; inner = 0 })
place_at offset (a ∷ []) = At (record { offset = offset; outer = a; middle = 0; inner = 0 })
place_at offset (a ∷ b ∷ []) = At (record { offset = offset; outer = a; middle = b; inner = 0 })
place_at offset (a ∷ b ∷ c ∷ rest) = At (record { offset = offset; outer = a; middle = b; inner = c })

-- as a refusal is told: 14 to 16 carry no place
abbrev pub told_at : WireError → ℕ → List ℕ → Option Spot
told_at why offset path = placed_as (spot_of why) (place_at offset path)
