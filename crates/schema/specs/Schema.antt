-- The gossipsub protobuf as a table: for each message the roles of its fields 1, 2, 3 and so on. A field is known by
-- its number and its wire type; a known field with another type, and an unknown field, are passed over.
use Rattle.std.specs.Prelude.{ℕ, ◌+◌, Bool, true, false, cond, List, [], ◌∷◌, eqb}
use Rattle.basis.specs.declared.Edition.{Edition}
use Rattle.basis.specs.declared.Edition.TheVariants.{V11, V12}
use Rattle.schema.specs.declared.Kind.{Kind}
use Rattle.schema.specs.declared.Kind.TheVariants as kind
use Rattle.schema.specs.declared.Figure.TheVariants.{Exact, Flag}
use Rattle.schema.specs.declared.Form.{Form}
use Rattle.schema.specs.declared.Form.TheVariants.{Anew, Whole, Merged}
use Rattle.schema.specs.declared.Held.{Held}
use Rattle.schema.specs.declared.Held.TheVariants as held
use Rattle.schema.specs.declared.Role.{Role}
use Rattle.schema.specs.declared.Role.TheVariants.{Skip, Number, Text, Bytes, Unsigned, Topic, MessageId, Sub}

-- the fields that an edition adds to a control, from 5 on
abbrev pub added_in : Edition → List Role
added_in V11 = []
added_in V12 = Sub kind.ControlIDontWant Anew ∷ []

-- the fields of a message in rising order, from 1 on
abbrev pub table : Kind → List Role
table (kind.Rpc e) = Sub kind.SubOpts Anew ∷ Sub kind.RawMessage Whole ∷ Sub (kind.ControlMessage e) Merged ∷ []
table kind.SubOpts = Number Flag ∷ Text 1 ∷ []
table kind.RawMessage = Bytes 1 ∷ Bytes 2 ∷ Bytes 3 ∷ Topic ∷ Unsigned 4 ∷ Unsigned 5 ∷ []
table kind.Topic = []
table (kind.ControlMessage e) =
    Sub kind.ControlIHave Anew
    ∷ Sub kind.ControlIWant Anew
    ∷ Sub kind.ControlGraft Anew
    ∷ Sub kind.ControlPrune Anew
    ∷ added_in e
table kind.ControlIHave = Text 1 ∷ MessageId ∷ []
table kind.ControlIWant = MessageId ∷ []
table kind.MessageId = []
table kind.ControlGraft = Text 1 ∷ []
table kind.ControlPrune = Text 1 ∷ Sub kind.PeerInfo Anew ∷ Number Exact ∷ []
table kind.PeerInfo = Bytes 1 ∷ Bytes 2 ∷ []
table kind.ControlIDontWant = MessageId ∷ []

-- the role of field n, where the first of the rows is field i
abbrev pub row_from : ℕ → List Role → ℕ → Role
row_from i [] n = Skip
row_from i (r ∷ rs) n = cond (eqb n i) r (row_from (i + 1) rs n)

abbrev pub row_of : Kind → ℕ → Role
row_of k n = row_from 1 (table k) n

-- whether a role is a varint's; all others are of length-delimited fields
abbrev pub is_varint : Role → Bool
is_varint Skip = false
is_varint (Number figure) = true
is_varint (Text slot) = false
is_varint (Bytes slot) = false
is_varint (Unsigned slot) = false
is_varint Topic = false
is_varint MessageId = false
is_varint (Sub k form) = false

abbrev pub len_role : Kind → ℕ → Role
len_role k n = cond (is_varint (row_of k n)) Skip (row_of k n)

abbrev pub number_role : Kind → ℕ → Role
number_role k n = cond (is_varint (row_of k n)) (row_of k n) Skip

unfoldable pub role_of : Kind → ℕ → ℕ → Role
role_of k n type = cond (eqb type 2) (len_role k n) (cond (eqb type 0) (number_role k n) Skip)

-- how the entries of a field are written
abbrev pub formed_as : Kind → Form → Held
formed_as k Anew = held.Anew k
formed_as k Whole = held.Whole
formed_as k Merged = held.Merged k

abbrev pub held_of : Role → Held
held_of Skip = held.Nothing
held_of (Number figure) = held.Nothing
held_of (Text slot) = held.Nothing
held_of (Bytes slot) = held.Nothing
held_of (Unsigned slot) = held.Nothing
held_of Topic = held.Whole
held_of MessageId = held.Whole
held_of (Sub k form) = formed_as k form

-- how deep submessages can stand in a message
unfoldable pub rank : Kind → ℕ
rank (kind.Rpc e) = 3
rank kind.SubOpts = 0
rank kind.RawMessage = 0
rank kind.Topic = 0
rank (kind.ControlMessage e) = 2
rank kind.ControlIHave = 0
rank kind.ControlIWant = 0
rank kind.MessageId = 0
rank kind.ControlGraft = 0
rank kind.ControlPrune = 1
rank kind.PeerInfo = 0
rank kind.ControlIDontWant = 0

-- a submessage is a record of its own, but for a control
unfoldable pub own_of : Kind → ℕ
own_of (kind.Rpc e) = 0
own_of kind.SubOpts = 1
own_of kind.RawMessage = 1
own_of kind.Topic = 1
own_of (kind.ControlMessage e) = 0
own_of kind.ControlIHave = 1
own_of kind.ControlIWant = 1
own_of kind.MessageId = 1
own_of kind.ControlGraft = 1
own_of kind.ControlPrune = 1
own_of kind.PeerInfo = 1
own_of kind.ControlIDontWant = 1
