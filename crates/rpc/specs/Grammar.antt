-- Which bodies mean which RPC in a dialect, from the Protocol Buffers encoding document and the scope's rules. A body is
-- fields one after the other (protobuf's `Body`); a field is known by its number and its wire type, and all others are
-- passed over, groups among them where the dialect's mode takes them; of a singular field the last wins; repeated ones
-- append; a submessage is a body of its own; topics are UTF-8. Nothing here speaks of a reader.
use Rattle.std.specs.Prelude.{Option, Some, None, ℕ, Bool, not, cond, List, [], ◌∷◌, ◌++◌, eqb}
use Rattle.basis.specs.declared.Edition.{Edition}
use Rattle.basis.specs.declared.Edition.TheVariants.{V11, V12}
use Rattle.basis.specs.declared.Mode.{Mode}
use Rattle.basis.specs.declared.Dialect.{Dialect}
use Rattle.utf8.specs.Grammar.{Utf8}
use Rattle.protobuf.specs.Grammar.{Payload, number, eight, bytes, group, four, Entry, Body}
use Rattle.rpc.specs.Rpc.{SubOpts, RawMessage, ControlIHave, ControlIWant, ControlGraft, PeerInfo, ControlPrune}
use Rattle.rpc.specs.Rpc.{ControlIDontWant, ControlMessage, Rpc}

-- ---- the values of a field, in order
-- a number before those that follow, where the field is the one asked for and a varint
abbrev pub put_number : Bool → Payload → List ℕ → List ℕ
put_number asked (number v) vs = cond asked (v ∷ vs) vs
put_number asked (eight d) vs = vs
put_number asked (bytes d) vs = vs
put_number asked (group d) vs = vs
put_number asked (four d) vs = vs

-- the numbers in the varint fields n
abbrev pub numbers_in : ℕ → List Entry → List ℕ
numbers_in n [] = []
numbers_in n (e ∷ es) = put_number (eqb e.field n) e.payload (numbers_in n es)

-- the same for bytes
abbrev pub put_bytes : Bool → Payload → List (List ℕ) → List (List ℕ)
put_bytes asked (number v) ds = ds
put_bytes asked (eight d) ds = ds
put_bytes asked (bytes d) ds = cond asked (d ∷ ds) ds
put_bytes asked (group d) ds = ds
put_bytes asked (four d) ds = ds

-- the bytes in the length-delimited fields n
abbrev pub bytes_in : ℕ → List Entry → List (List ℕ)
bytes_in n [] = []
bytes_in n (e ∷ es) = put_bytes (eqb e.field n) e.payload (bytes_in n es)

-- the last wins
abbrev pub or_else : {A : Type 0} → Option A → A → Option A
or_else None x = Some x
or_else (Some y) x = Some y

abbrev pub last : {A : Type 0} → List A → Option A
last [] = None
last (x ∷ xs) = or_else (last xs) x

infixr 20 ◌and◌
-- each of a list
pub data Each {A : Type 0} (P : A → Type 0) : List A → Type 0 where
  none_left : Each P []
  ◌and◌ : {x : A} {xs : List A} → P x → Each P xs → Each P (x ∷ xs)

infixr 20 ◌paired◌
-- two lists, element by element
pub data Pairs {A B : Type 0} (R : A → B → Type 0) : List A → List B → Type 0 where
  no_pairs : Pairs R [] []
  ◌paired◌ : {x : A} {y : B} {xs : List A} {ys : List B} → R x y → Pairs R xs ys → Pairs R (x ∷ xs) (y ∷ ys)

-- ---- the messages
-- any nonzero `subscribe` is true
abbrev pub nonzero : Option ℕ → Option Bool
nonzero None = None
nonzero (Some v) = Some (not (eqb v 0))

pub data IsSubOpts (mode : Mode) : List ℕ → SubOpts → Type 0 where
  is-sub_opts : {s : List ℕ} {es : List Entry} → Body mode s es → Each Utf8 (bytes_in 2 es)
      → IsSubOpts mode s (record { subscribe = nonzero (last (numbers_in 1 es)); topic_id = last (bytes_in 2 es) })

pub data IsMessage (mode : Mode) : List ℕ → RawMessage → Type 0 where
  is-message : {s : List ℕ} {es : List Entry} → Body mode s es → Each Utf8 (bytes_in 4 es)
      → IsMessage mode s (record {
        raw = s;
        from = last (bytes_in 1 es);
        «data» = last (bytes_in 2 es);
        seqno = last (bytes_in 3 es);
        topic_ids = bytes_in 4 es;
        signature = last (bytes_in 5 es);
        key = last (bytes_in 6 es);
      })

pub data IsIHave (mode : Mode) : List ℕ → ControlIHave → Type 0 where
  is-ihave : {s : List ℕ} {es : List Entry} → Body mode s es → Each Utf8 (bytes_in 1 es)
      → IsIHave mode s (record { topic_id = last (bytes_in 1 es); message_ids = bytes_in 2 es })

pub data IsIWant (mode : Mode) : List ℕ → ControlIWant → Type 0 where
  is-iwant : {s : List ℕ} {es : List Entry} → Body mode s es → IsIWant mode s (record { message_ids = bytes_in 1 es })

pub data IsGraft (mode : Mode) : List ℕ → ControlGraft → Type 0 where
  is-graft : {s : List ℕ} {es : List Entry} → Body mode s es → Each Utf8 (bytes_in 1 es)
      → IsGraft mode s (record { topic_id = last (bytes_in 1 es) })

pub data IsPeerInfo (mode : Mode) : List ℕ → PeerInfo → Type 0 where
  is-peer_info : {s : List ℕ} {es : List Entry} → Body mode s es
      → IsPeerInfo mode s (record { peer_id = last (bytes_in 1 es); signed_peer_record = last (bytes_in 2 es) })

pub data IsPrune (mode : Mode) : List ℕ → ControlPrune → Type 0 where
  is-prune : {s : List ℕ} {es : List Entry} {ps : List PeerInfo} → Body mode s es → Each Utf8 (bytes_in 1 es)
      → Pairs (IsPeerInfo mode) (bytes_in 2 es) ps
      → IsPrune mode s (record { topic_id = last (bytes_in 1 es); peers = ps; backoff = last (numbers_in 3 es) })

pub data IsIDontWant (mode : Mode) : List ℕ → ControlIDontWant → Type 0 where
  is-idontwant : {s : List ℕ} {es : List Entry} → Body mode s es
      → IsIDontWant mode s (record { message_ids = bytes_in 1 es })

-- the bytes in the length-delimited fields 5 of a control: to the edition 1.1 an unknown field
abbrev pub idontwants_in : Edition → List Entry → List (List ℕ)
idontwants_in V11 es = []
idontwants_in V12 es = bytes_in 5 es

pub data IsControl (d : Dialect) : List ℕ → ControlMessage → Type 0 where
  is_control : {s : List ℕ} {es : List Entry} {hs : List ControlIHave} {ws : List ControlIWant} {gs : List ControlGraft}
      {ps : List ControlPrune} {ds : List ControlIDontWant}
      → Body d.mode s es → Pairs (IsIHave d.mode) (bytes_in 1 es) hs → Pairs (IsIWant d.mode) (bytes_in 2 es) ws
      → Pairs (IsGraft d.mode) (bytes_in 3 es) gs
      → Pairs (IsPrune d.mode) (bytes_in 4 es) ps → Pairs (IsIDontWant d.mode) (idontwants_in d.edition es) ds
      → IsControl d s (record { ihave = hs; iwant = ws; graft = gs; prune = ps; idontwant = ds })

-- a further control appends to the first
abbrev pub join : ControlMessage → ControlMessage → ControlMessage
join c d = record {
  ihave = c.ihave ++ d.ihave;
  iwant = c.iwant ++ d.iwant;
  graft = c.graft ++ d.graft;
  prune = c.prune ++ d.prune;
  idontwant = c.idontwant ++ d.idontwant;
}

abbrev pub join_to : ControlMessage → Option ControlMessage → Option ControlMessage
join_to c None = Some c
join_to c (Some d) = Some (join c d)

abbrev pub joined : List ControlMessage → Option ControlMessage
joined [] = None
joined (c ∷ cs) = join_to c (joined cs)

pub data IsRpc (d : Dialect) : List ℕ → Rpc → Type 0 where
  is-rpc : {s : List ℕ} {es : List Entry} {ss : List SubOpts} {ms : List RawMessage} {cs : List ControlMessage}
      → Body d.mode s es → Pairs (IsSubOpts d.mode) (bytes_in 1 es) ss
      → Pairs (IsMessage d.mode) (bytes_in 2 es) ms
      → Pairs (IsControl d) (bytes_in 3 es) cs
      → IsRpc d s (record { subscriptions = ss; publish = ms; control = joined cs })
