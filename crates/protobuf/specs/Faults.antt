-- Why a field is refused, from the Protocol Buffers encoding document and the scope's rules: its tag or a varint in it is
-- bad (1 to 3), it passes the end (4), its wire type is none that the mode takes (5), or its number is none that a field
-- has (6). Where groups are passed over: it is a group that opens too deep (15), that its part does not end (16), that an
-- end tag of another number ends (14), or in which a field after good ones is refused; and an end tag where no group is
-- open (14). `base` is the place where the field starts in its part, and each refusal has its own place in the part; those
-- of 14 to 16 are not told. Nothing here speaks of a reader.
use Rattle.std.specs.Prelude.{ℕ, zero, suc, ◌+◌, ◌*◌, ◌^◌, ◌≤◌, ◌<◌, List, ◌++◌, ◌≢◌, length}
use Rattle.basis.specs.declared.Mode.{Mode}
use Rattle.basis.specs.declared.Mode.TheVariants.{Plain, Groups}
use Rattle.peer_id.specs.declared.VarintError.{VarintError}
use Rattle.peer_id.specs.Uvarint.{uvarint}
use Rattle.peer_id.specs.Bad.{Bad}
use Rattle.protobuf.specs.declared.WireError.{WireError}
use Rattle.protobuf.specs.declared.WireError.TheVariants.{Varint, FieldOverflow, UnsupportedWireType}
use Rattle.protobuf.specs.declared.WireError.TheVariants.{InvalidFieldNumber, EndGroup, GroupDepth, GroupOpen}
use Rattle.protobuf.specs.Grammar.{Entry, BodyIn, levels_of}
use Rattle.protobuf.specs.Encode.{tag}

-- the wire types of fixed width: 1 has eight bytes, 5 has four
pub data FixedWidth : ℕ → ℕ → Type 0 where
  i64 : FixedWidth 1 8
  i32 : FixedWidth 5 4

-- the numbers that no field has
pub data NoField : ℕ → Type 0 where
  none : NoField 0
  large : {n : ℕ} → 536870911 < n → NoField n

-- the wire types that a mode does not take
pub data Untaken : Mode → ℕ → Type 0 where
  start-group : Untaken Plain 3
  end-group : Untaken Plain 4
  six : {m : Mode} → Untaken m 6
  seven : {m : Mode} → Untaken m 7

-- a field's number
abbrev pub Numbered : ℕ → Type 0
Numbered n = (1 ≤ n) × (n ≤ 536870911)

-- the first field of some bytes, where l groups more may open, its place, and why
pub data FaultIn : Mode → ℕ → ℕ → List ℕ → ℕ → WireError → Type 0 where
  bad-tag : {m : Mode} {l base : ℕ} {e : VarintError} (s : List ℕ) → 0 < length s → Bad s e
      → FaultIn m l base s base (Varint e base)
  bad-number : {m : Mode} {l base n type : ℕ} (s : List ℕ) → NoField n → type < 8 → n * 8 + type < 2 ^ 64
      → FaultIn m l base (tag n type ++ s) base (InvalidFieldNumber n base)
  bad_type : {m : Mode} {l base n type : ℕ} (s : List ℕ) → Numbered n → Untaken m type
      → FaultIn m l base (tag n type ++ s) (base + length (tag n type))
      (UnsupportedWireType type (base + length (tag n type)))
  bad-value : {m : Mode} {l base n : ℕ} {e : VarintError} (s : List ℕ) → Numbered n → Bad s e
      → FaultIn m l base (tag n 0 ++ s) (base + length (tag n 0)) (Varint e (base + length (tag n 0)))
  bad-length : {m : Mode} {l base n : ℕ} {e : VarintError} (s : List ℕ) → Numbered n → Bad s e
      → FaultIn m l base (tag n 2 ++ s) (base + length (tag n 2)) (Varint e (base + length (tag n 2)))
  too_long : {m : Mode} {l base n size : ℕ} (s : List ℕ) → Numbered n → size < 2 ^ 64 → length s < size
      → FaultIn m l base (tag n 2 ++ (uvarint size ++ s)) (base + length (tag n 2) + length (uvarint size))
      (FieldOverflow (base + length (tag n 2) + length (uvarint size)) size (length s))
  too_wide : {m : Mode} {l base n type width : ℕ} (s : List ℕ) → Numbered n → FixedWidth type width → length s < width
      → FaultIn m l base (tag n type ++ s) (base + length (tag n type))
      (FieldOverflow (base + length (tag n type)) width (length s))
  too_deep : {base n : ℕ} (s : List ℕ) → Numbered n
      → FaultIn Groups zero base (tag n 3 ++ s) (base + length (tag n 3)) GroupDepth
  unclosed : {l base n : ℕ} {es : List Entry} (v : List ℕ) → Numbered n → BodyIn l v es
      → FaultIn Groups (suc l) base (tag n 3 ++ v) (base + length (tag n 3) + length v) GroupOpen
  crossed : {l base n k : ℕ} {es : List Entry} (v s : List ℕ) → Numbered n → BodyIn l v es → Numbered k → k ≢ n
      → FaultIn Groups (suc l) base (tag n 3 ++ (v ++ (tag k 4 ++ s))) (base + length (tag n 3) + length v) EndGroup
  within : {l base n place : ℕ} {es : List Entry} {why : WireError} (v s : List ℕ) → Numbered n → BodyIn l v es
      → FaultIn Groups l (base + length (tag n 3) + length v) s place why
      → FaultIn Groups (suc l) base (tag n 3 ++ (v ++ s)) place why

-- in a part, where no group is open
pub data Fault : Mode → ℕ → List ℕ → ℕ → WireError → Type 0 where
  of_field : {m : Mode} {base place : ℕ} {s : List ℕ} {why : WireError} → FaultIn m (levels_of m) base s place why
      → Fault m base s place why
  stray : {base n : ℕ} (s : List ℕ) → Numbered n → Fault Groups base (tag n 4 ++ s) base EndGroup
