-- The records that were written, read back, are the RPC that the body means.
use Rattle.std.specs.Prelude.{Option, Some, None, ℕ, ◌+◌, ◌-◌, ◌≡◌, refl, Bool, true, false, cond, ◌&&◌, ◌||◌, List, [], ◌∷◌, ◌++◌, length, take, eqb}
use Rattle.std.proofs.Common.{sym, ap, ap₂, subst, ◌∙◌, append-nil, arith, eqb-true}
use Rattle.std.proofs.Math.Bool.{and-false}
use Rattle.std.proofs.Math.Seq.{take-length}
use Rattle.basis.specs.declared.Mode.{Mode}
use Rattle.basis.specs.declared.Edition.{Edition}
use Rattle.basis.specs.declared.Edition.TheVariants.{V11, V12}
use Rattle.basis.specs.declared.Dialect.{Dialect}
use Rattle.basis.specs.Cases.{either}
use Rattle.protobuf.specs.declared.Field.{Field}
use Rattle.protobuf.specs.Grammar.{Entry, Body}
use Rattle.protobuf.specs.Walk.{Fields, end, fields_of, whole, between, entries_of}
use Rattle.protobuf.specs.Exactly.{body_walks}
use Rattle.schema.specs.declared.Kind.{Kind}
use Rattle.schema.specs.declared.Kind.TheVariants as kind
use Rattle.schema.specs.declared.Place.{Place}
use Rattle.schema.specs.declared.Number.TheVariants as number
use Rattle.schema.specs.declared.Slots.{Slots}
use Rattle.schema.specs.declared.Role.{Role}
use Rattle.schema.specs.declared.Role.TheVariants.{Skip, Number as NumberRole, Text, Bytes, Unsigned, Topic, MessageId}
use Rattle.schema.specs.declared.Role.TheVariants.{Sub}
use Rattle.schema.specs.Schema.{added_in, row_from, is_varint, row_of, len_role, number_role, role_of, own_of}
use Rattle.schema.specs.Slots.{no_slots, set_place, place_of, role_slots, with_field, slots_along, slots_of, has_along}
use Rattle.schema.specs.Slots.{has_field}
use Rattle.message.specs.declared.Record.{Record}
use Rattle.message.specs.Rows.{bare_row, leaf_row, role_rows, rows_along, own_rows, rows_of}
use Rattle.message.specs.RowsLaws.{rows_along_lem}
use Rattle.message.specs.Decode.{has_control}
use Rattle.rpc.specs.Rpc.{SubOpts, RawMessage, ControlIHave, ControlIWant, ControlGraft, PeerInfo, ControlPrune}
use Rattle.rpc.specs.Rpc.{ControlIDontWant, ControlMessage, Rpc}
use Rattle.rpc.specs.Grammar.{numbers_in, bytes_in, last, nonzero, Each, none_left, ◌and◌, Pairs, no_pairs, ◌paired◌}
use Rattle.rpc.specs.Grammar.{IsSubOpts, is-sub_opts, IsMessage, is-message, IsIHave, is-ihave, IsIWant, is-iwant}
use Rattle.rpc.specs.Grammar.{IsGraft, is-graft, IsPeerInfo, is-peer_info, IsPrune, is-prune, IsIDontWant, is-idontwant}
use Rattle.rpc.specs.Grammar.{idontwants_in, IsControl, is_control, join, join_to, joined, IsRpc, is-rpc}
use Rattle.meaning.specs.ReadBack.{bytes_at, number_at, raw_of, Gathered, empty_control, nothing, add_iHave, add_iWant}
use Rattle.meaning.specs.ReadBack.{add_graft, add_prune, add_iDont_want, gather_kind, gather, rpc_from, read_back}
use Rattle.protobuf.specs.Walk.{is_bytes, value_in}
use Rattle.meaning.specs.Entries.{put_bytes_lem}
use Rattle.meaning.specs.Last.{Part, walk_inside, part-value, part-part, Feeds, slot_last, FeedsNumber}
use Rattle.schema.specs.Count.{FieldWithin}
use Rattle.meaning.specs.Last.{number-last, six, feeds_from}

-- ---- which fields feed which slots
pub sub_opts_topic : Feeds kind.SubOpts (λ t. t.first) 2
unfolding set_place
sub_opts_topic =
    feeds_from kind.SubOpts (λ t. t.first) 2 (λ t v. refl)
    (λ t f n. six (λ n. (role_slots t f (len_role kind.SubOpts n)).first ≡ cond (eqb n 2) (place_of f) t.first) refl refl
    refl refl refl refl (λ n e1 e2 e3 e4 e5 e6. simp (e1, e2)) n)

pub message-from : Feeds kind.RawMessage (λ t. t.first) 1
unfolding set_place
message-from =
    feeds_from kind.RawMessage (λ t. t.first) 1 (λ t v. refl)
    (λ t f n. six (λ n. (role_slots t f (len_role kind.RawMessage n)).first ≡ cond (eqb n 1) (place_of f) t.first) refl
    refl refl refl refl refl (λ n e1 e2 e3 e4 e5 e6. simp (e1, e2, e3, e4, e5, e6)) n)

pub message_data : Feeds kind.RawMessage (λ t. t.second) 2
unfolding set_place
message_data =
    feeds_from kind.RawMessage (λ t. t.second) 2 (λ t v. refl)
    (λ t f n. six (λ n. (role_slots t f (len_role kind.RawMessage n)).second ≡ cond (eqb n 2) (place_of f) t.second) refl
    refl refl refl refl refl (λ n e1 e2 e3 e4 e5 e6. simp (e1, e2, e3, e4, e5, e6)) n)

pub message-seqno : Feeds kind.RawMessage (λ t. t.third) 3
unfolding set_place
message-seqno =
    feeds_from kind.RawMessage (λ t. t.third) 3 (λ t v. refl)
    (λ t f n. six (λ n. (role_slots t f (len_role kind.RawMessage n)).third ≡ cond (eqb n 3) (place_of f) t.third) refl
    refl refl refl refl refl (λ n e1 e2 e3 e4 e5 e6. simp (e1, e2, e3, e4, e5, e6)) n)

pub message-signature : Feeds kind.RawMessage (λ t. t.fourth) 5
unfolding set_place
message-signature =
    feeds_from kind.RawMessage (λ t. t.fourth) 5 (λ t v. refl)
    (λ t f n. six (λ n. (role_slots t f (len_role kind.RawMessage n)).fourth ≡ cond (eqb n 5) (place_of f) t.fourth) refl
    refl refl refl refl refl (λ n e1 e2 e3 e4 e5 e6. simp (e1, e2, e3, e4, e5, e6)) n)

pub message-key : Feeds kind.RawMessage (λ t. t.fifth) 6
unfolding set_place
message-key =
    feeds_from kind.RawMessage (λ t. t.fifth) 6 (λ t v. refl)
    (λ t f n. six (λ n. (role_slots t f (len_role kind.RawMessage n)).fifth ≡ cond (eqb n 6) (place_of f) t.fifth) refl
    refl refl refl refl refl (λ n e1 e2 e3 e4 e5 e6. simp (e1, e2, e3, e4, e5, e6)) n)

pub ihave-topic : Feeds kind.ControlIHave (λ t. t.first) 1
unfolding set_place
ihave-topic =
    feeds_from kind.ControlIHave (λ t. t.first) 1 (λ t v. refl)
    (λ t f n. six (λ n. (role_slots t f (len_role kind.ControlIHave n)).first ≡ cond (eqb n 1) (place_of f) t.first) refl
    refl refl refl refl refl (λ n e1 e2 e3 e4 e5 e6. simp (e1, e2)) n)

pub graft-topic : Feeds kind.ControlGraft (λ t. t.first) 1
unfolding set_place
graft-topic =
    feeds_from kind.ControlGraft (λ t. t.first) 1 (λ t v. refl)
    (λ t f n. six (λ n. (role_slots t f (len_role kind.ControlGraft n)).first ≡ cond (eqb n 1) (place_of f) t.first) refl
    refl refl refl refl refl (λ n e1 e2 e3 e4 e5 e6. simp (e1)) n)

pub prune-topic : Feeds kind.ControlPrune (λ t. t.first) 1
unfolding set_place
prune-topic =
    feeds_from kind.ControlPrune (λ t. t.first) 1 (λ t v. refl)
    (λ t f n. six (λ n. (role_slots t f (len_role kind.ControlPrune n)).first ≡ cond (eqb n 1) (place_of f) t.first) refl
    refl refl refl refl refl (λ n e1 e2 e3 e4 e5 e6. simp (e1, e2, e3)) n)

pub peer_id_lem : Feeds kind.PeerInfo (λ t. t.first) 1
unfolding set_place
peer_id_lem =
    feeds_from kind.PeerInfo (λ t. t.first) 1 (λ t v. refl)
    (λ t f n. six (λ n. (role_slots t f (len_role kind.PeerInfo n)).first ≡ cond (eqb n 1) (place_of f) t.first) refl
    refl refl refl refl refl (λ n e1 e2 e3 e4 e5 e6. simp (e1, e2)) n)

pub peer_record : Feeds kind.PeerInfo (λ t. t.second) 2
unfolding set_place
peer_record =
    feeds_from kind.PeerInfo (λ t. t.second) 2 (λ t v. refl)
    (λ t f n. six (λ n. (role_slots t f (len_role kind.PeerInfo n)).second ≡ cond (eqb n 2) (place_of f) t.second) refl
    refl refl refl refl refl (λ n e1 e2 e3 e4 e5 e6. simp (e1, e2)) n)

numbers-from : (k : Kind) (m : ℕ) → ((t : Slots) (f : Field) (n : ℕ) → (role_slots t f (len_role k n)).number ≡ t.number)
    → ((t : Slots) (f : Field) (n : ℕ) → (role_slots t f (number_role k n)).number ≡ cond (eqb n m)
    (number.Present f.value) t.number) → FeedsNumber k m
unfolding with_field role_of
numbers-from k m lens nums t f =
    either (eqb f.wire_type 2)
    (λ t2. let z : eqb f.wire_type 0 ≡ false = rw (eqb-true f.wire_type 2 t2) in
    simp (t2, z) (lens t f f.field))
    (λ t2. either (eqb f.wire_type 0) (λ t0. simp (t2, t0) (nums t f f.field)) (λ t0. simp (t2, t0)))

pub sub_opts_subscribe : FeedsNumber kind.SubOpts 1
unfolding set_place
sub_opts_subscribe =
    numbers-from kind.SubOpts 1
    (λ t f n. six (λ n. (role_slots t f (len_role kind.SubOpts n)).number ≡ t.number) refl refl refl refl refl refl
    (λ n e1 e2 e3 e4 e5 e6. simp (e1, e2)) n)
    (λ t f n. six (λ n. (role_slots t f (number_role kind.SubOpts n)).number ≡ cond (eqb n 1) (number.Present f.value)
    t.number) refl refl refl refl refl refl (λ n e1 e2 e3 e4 e5 e6. simp (e1, e2)) n)

pub prune-backoff : FeedsNumber kind.ControlPrune 3
unfolding set_place
prune-backoff =
    numbers-from kind.ControlPrune 3
    (λ t f n. six (λ n. (role_slots t f (len_role kind.ControlPrune n)).number ≡ t.number) refl refl refl refl refl refl
    (λ n e1 e2 e3 e4 e5 e6. simp (e1, e2, e3)) n)
    (λ t f n. six (λ n. (role_slots t f (number_role kind.ControlPrune n)).number ≡ cond (eqb n 3)
    (number.Present f.value) t.number) refl refl refl refl refl refl
    (λ n e1 e2 e3 e4 e5 e6. simp (e1, e2, e3)) n)

-- ---- gathering
gather_append : (b : List ℕ) (rs ts : List Record) (g : Gathered) → gather b (rs ++ ts) g ≡ gather b rs (gather b ts g)
gather_append b [] ts g = refl
gather_append b (r ∷ rs) ts g = ap (gather_kind r.kind b r) (gather_append b rs ts g)

abbrev pub state : List (List ℕ) → List (List ℕ) → List PeerInfo → List SubOpts → List RawMessage → ControlMessage
    → Gathered
state ts is ps ss ms c = record { topics = ts; ids = is; peers = ps; subscriptions = ss; publish = ms; control = c }

-- the rows of one field: only a length-delimited one has any
number-rows : (mode : Mode) (base : ℕ) (p : List ℕ) (f : Field) (r : Role)
    → role_rows (rows_of mode) base p f (cond (is_varint r) r Skip) ≡ []
number-rows mode base p f Skip = refl
number-rows mode base p f (NumberRole figure) = refl
number-rows mode base p f (Text slot) = refl
number-rows mode base p f (Bytes slot) = refl
number-rows mode base p f (Unsigned slot) = refl
number-rows mode base p f Topic = refl
number-rows mode base p f MessageId = refl
number-rows mode base p f (Sub k form) = refl

rows_from_lem : (mode : Mode) (k : Kind) (base : ℕ) (p : List ℕ) (f : Field) (rows : ℕ → List Record)
    → ((n : ℕ) → role_rows (rows_of mode) base p f (len_role k n) ≡ rows n)
    → role_rows (rows_of mode) base p f (role_of k f.field f.wire_type) ≡ cond (eqb f.wire_type 2)
    (rows f.field) []
unfolding role_of
rows_from_lem mode k base p f rows lens =
    either (eqb f.wire_type 2) (λ t2. simp t2 (lens f.field))
    (λ t2. either (eqb f.wire_type 0) (λ t0. simp (t2, t0) (number-rows mode base p f (row_of k f.field)))
    (λ t0. simp (t2, t0)))

-- a field that gives rows where it is length-delimited and of number m
cond-and : {A : Type 0} (a c : Bool) (x y : A) → cond a (cond c x y) y ≡ cond (a && c) x y
cond-and true c x y = refl
cond-and false c x y = refl

one_from : (mode : Mode) (k : Kind) (m : ℕ) (base : ℕ) (p : List ℕ) (f : Field) (rows : List Record)
    → ((n : ℕ) → role_rows (rows_of mode) base p f (len_role k n) ≡ cond (eqb n m) rows [])
    → role_rows (rows_of mode) base p f (role_of k f.field f.wire_type) ≡ cond (is_bytes m f) rows []
one_from mode k m base p f rows lens = rows_from_lem mode k base p f (λ n. cond (eqb n m) rows []) lens
    ∙ cond-and (eqb f.wire_type 2) (eqb f.field m) rows []

none_from : (mode : Mode) (k : Kind) (base : ℕ) (p : List ℕ) (f : Field)
    → ((n : ℕ) → role_rows (rows_of mode) base p f (len_role k n) ≡ [])
    → role_rows (rows_of mode) base p f (role_of k f.field f.wire_type) ≡ []
none_from mode k base p f lens = rows_from_lem mode k base p f (λ n. []) lens
    ∙ either (eqb f.wire_type 2) (λ t. simp t)
    (λ t. simp t)

-- a message without records inside it
Bare : Mode → Kind → Type 0
Bare mode k = (base : ℕ) (p : List ℕ) (f : Field) → role_rows (rows_of mode) base p f
    (role_of k f.field f.wire_type) ≡ []

bare-along : (mode : Mode) (k : Kind) → Bare mode k → (base : ℕ) (p : List ℕ) (fs : List Field)
    → rows_along (rows_of mode) k base p (whole fs) ≡ []
unfolding Bare
bare-along mode k bare base p [] = refl
bare-along mode k bare base p (f ∷ fs) = ap₂ (λ (x y : List Record). x ++ y) (bare base p f)
    (bare-along mode k bare base p fs)

sub_opts_bare : (mode : Mode) → Bare mode kind.SubOpts
unfolding Bare
sub_opts_bare mode base p f =
    none_from mode kind.SubOpts base p f (six (λ n. role_rows (rows_of mode) base p f (len_role kind.SubOpts n)
    ≡ []) refl refl refl
    refl refl refl (λ n e1 e2 e3 e4 e5 e6. simp (e1, e2)))

graft-bare : (mode : Mode) → Bare mode kind.ControlGraft
unfolding Bare
graft-bare mode base p f =
    none_from mode kind.ControlGraft base p f
    (six (λ n. role_rows (rows_of mode) base p f (len_role kind.ControlGraft n) ≡ []) refl refl refl refl refl refl
    (λ n e1 e2 e3 e4 e5 e6. simp (e1)))

peer_info_bare : (mode : Mode) → Bare mode kind.PeerInfo
unfolding Bare
peer_info_bare mode base p f =
    none_from mode kind.PeerInfo base p f (six (λ n. role_rows (rows_of mode) base p f (len_role kind.PeerInfo n)
    ≡ []) refl refl refl
    refl refl refl (λ n e1 e2 e3 e4 e5 e6. simp (e1, e2)))

-- a message with leaves of kind j in its fields m
Leafy : Mode → Kind → Kind → ℕ → Type 0
Leafy mode k j m = (base : ℕ) (p : List ℕ) (f : Field)
    → role_rows (rows_of mode) base p f (role_of k f.field f.wire_type)
    ≡ cond (is_bytes m f) (leaf_row j base f ∷ []) []

message-topics : (mode : Mode) → Leafy mode kind.RawMessage kind.Topic 4
unfolding Leafy
message-topics mode base p f = one_from mode kind.RawMessage 4 base p f (leaf_row kind.Topic base f ∷ [])
    (six (λ n. role_rows (rows_of mode) base p f (len_role kind.RawMessage n)
    ≡ cond (eqb n 4) (leaf_row kind.Topic base f ∷ [])
    []) refl refl refl refl refl refl (λ n e1 e2 e3 e4 e5 e6. simp (e1, e2, e3, e4, e5, e6)))

ihave_ids_lem : (mode : Mode) → Leafy mode kind.ControlIHave kind.MessageId 2
unfolding Leafy
ihave_ids_lem mode base p f = one_from mode kind.ControlIHave 2 base p f (leaf_row kind.MessageId base f ∷ [])
    (six (λ n. role_rows (rows_of mode) base p f (len_role kind.ControlIHave n) ≡ cond (eqb n 2)
    (leaf_row kind.MessageId base f ∷ []) []) refl refl refl refl refl refl (λ n e1 e2 e3 e4 e5 e6. simp (e1, e2)))

iwant_ids_lem : (mode : Mode) → Leafy mode kind.ControlIWant kind.MessageId 1
unfolding Leafy
iwant_ids_lem mode base p f = one_from mode kind.ControlIWant 1 base p f (leaf_row kind.MessageId base f ∷ [])
    (six (λ n. role_rows (rows_of mode) base p f (len_role kind.ControlIWant n) ≡ cond (eqb n 1)
    (leaf_row kind.MessageId base f ∷ []) []) refl refl refl refl refl refl (λ n e1 e2 e3 e4 e5 e6. simp (e1)))

idontwant_ids_lem : (mode : Mode) → Leafy mode kind.ControlIDontWant kind.MessageId 1
unfolding Leafy
idontwant_ids_lem mode base p f = one_from mode kind.ControlIDontWant 1 base p f (leaf_row kind.MessageId base f ∷ [])
    (six (λ n. role_rows (rows_of mode) base p f (len_role kind.ControlIDontWant n) ≡ cond (eqb n 1)
    (leaf_row kind.MessageId base f ∷ []) []) refl refl refl refl refl refl (λ n e1 e2 e3 e4 e5 e6. simp (e1)))

abbrev add_all : {X : Type 0} → (X → Gathered → Gathered) → List X → Gathered → Gathered
add_all add [] g = g
add_all add (x ∷ xs) g = add x (add_all add xs g)

leaves-along : (mode : Mode) (b : List ℕ) (base : ℕ) (p : List ℕ) (k j : Kind) (m : ℕ)
    (add : List ℕ → Gathered → Gathered)
    → Part b base p → Leafy mode k j m
    → ((a e : ℕ) (g : Gathered) → gather_kind j b (bare_row j a e) g ≡ add (between b a e) g)
    → (fs : List Field) (g : Gathered) → Each (FieldWithin p) fs
    → gather b (rows_along (rows_of mode) k base p (whole fs)) g
    ≡ add_all add (bytes_in m (entries_of p fs)) g
unfolding Leafy
leaves-along mode b base p k j m add q leafy adds [] g none_left = refl
leaves-along mode b base p k j m add q leafy adds (f ∷ fs) g (i and is) =
    let ih = leaves-along mode b base p k j m add q leafy adds fs g is in
    let ds = bytes_in m (entries_of p fs) in
    let rest = rows_along (rows_of mode) k base p (whole fs) in
    let go = gather_append b (role_rows (rows_of mode) base p f (role_of k f.field f.wire_type)) rest g in
    let row = leafy base p f in
    let pb = put_bytes_lem p m f ds in
    either (is_bytes m f)
    (λ x. let rx = row ∙ ap (λ (z : Bool). cond z (leaf_row j base f ∷ []) []) x in
    let px = pb ∙ ap (λ (z : Bool). cond z (value_in p f ∷ ds) ds) x in
    let v = part-value b base p f.start f.next q i.order i.fits in
    go ∙ ap₂ (gather b) rx ih ∙ adds (base + f.start) (base + f.next) (add_all add ds g)
    ∙ ap (λ (d : List ℕ). add d (add_all add ds g)) v ∙ sym (ap (λ (l : List (List ℕ)). add_all add l g) px))
    (λ x. let rx = row ∙ ap (λ (z : Bool). cond z (leaf_row j base f ∷ []) []) x in
    let px = pb ∙ ap (λ (z : Bool). cond z (value_in p f ∷ ds) ds) x in
    go ∙ ap₂ (gather b) rx ih ∙ sym (ap (λ (l : List (List ℕ)). add_all add l g) px))

-- ---- a message's own record, and what is inside it
abbrev own_row : Mode → Kind → ℕ → List ℕ → Record
own_row mode k base p = record { kind = k; start = base; end = base + length p; slots = slots_of mode k p }

rows_split : (mode : Mode) (k : Kind) (base : ℕ) (p : List ℕ) (fs : List Field) → fields_of mode p ≡ whole fs
    → own_rows mode k base p ≡ own_row mode k base p ∷ []
    → rows_of mode k base p ≡ own_row mode k base p ∷ rows_along (rows_of mode) k base p (whole fs)
rows_split mode k base p fs w o =
    rows_along_lem mode k base p ∙ ap₂ (λ (x : List Record) (y : Fields). x ++ rows_along (rows_of mode) k base p y) o w

raw-part : (mode : Mode) (b : List ℕ) (base : ℕ) (p : List ℕ) (k : Kind) → Part b base p
    → raw_of b (own_row mode k base p) ≡ p
raw-part mode b base p k q = sym q.here

-- a slot of the own record, as the grammar has it
pub slot_value : (mode : Mode) (b : List ℕ) (base : ℕ) (p : List ℕ) (k : Kind) (g : Slots → Place) (m : ℕ)
    (fs : List Field)
    (es : List Entry) → Part b base p → Feeds k g m → fields_of mode p ≡ whole fs → entries_of p fs ≡ es
    → bytes_at b base (g no_slots) ≡ None → bytes_at b base (g (slots_of mode k p)) ≡ last (bytes_in m es)
unfolding slots_of
slot_value mode b base p k g m fs es q feed w e z =
    ap (λ (x : Fields). bytes_at b base (g (slots_along k no_slots x))) w ∙ slot_last b base p k g m q feed fs no_slots
    (walk_inside mode p fs w) z ∙ ap (λ (x : List Entry). last (bytes_in m x)) e

pub number-value : (mode : Mode) (p : List ℕ) (k : Kind) (m : ℕ) (fs : List Field) (es : List Entry) → FeedsNumber k m
    → fields_of mode p ≡ whole fs → entries_of p fs ≡ es → number_at (slots_of mode k p).number ≡ last (numbers_in m es)
unfolding slots_of
number-value mode p k m fs es feed w e =
    ap (λ (x : Fields). number_at (slots_along k no_slots x).number) w ∙ number-last p k m feed fs no_slots refl
    ∙ ap (λ (x : List Entry). last (numbers_in m x)) e

-- ---- each kind of message, read back
own-sub_opts : (mode : Mode) (base : ℕ) (p : List ℕ)
    → own_rows mode kind.SubOpts base p ≡ own_row mode kind.SubOpts base p ∷ []
unfolding own_rows own_of
own-sub_opts mode base p = refl

own-message : (mode : Mode) (base : ℕ) (p : List ℕ)
    → own_rows mode kind.RawMessage base p ≡ own_row mode kind.RawMessage base p ∷ []
unfolding own_rows own_of
own-message mode base p = refl

own-ihave : (mode : Mode) (base : ℕ) (p : List ℕ) → own_rows mode kind.ControlIHave base p
    ≡ own_row mode kind.ControlIHave base p ∷ []
unfolding own_rows own_of
own-ihave mode base p = refl

own-iwant : (mode : Mode) (base : ℕ) (p : List ℕ) → own_rows mode kind.ControlIWant base p
    ≡ own_row mode kind.ControlIWant base p ∷ []
unfolding own_rows own_of
own-iwant mode base p = refl

own-graft : (mode : Mode) (base : ℕ) (p : List ℕ) → own_rows mode kind.ControlGraft base p
    ≡ own_row mode kind.ControlGraft base p ∷ []
unfolding own_rows own_of
own-graft mode base p = refl

own-peer_info : (mode : Mode) (base : ℕ) (p : List ℕ)
    → own_rows mode kind.PeerInfo base p ≡ own_row mode kind.PeerInfo base p ∷ []
unfolding own_rows own_of
own-peer_info mode base p = refl

own-prune : (mode : Mode) (base : ℕ) (p : List ℕ) → own_rows mode kind.ControlPrune base p
    ≡ own_row mode kind.ControlPrune base p ∷ []
unfolding own_rows own_of
own-prune mode base p = refl

own-idontwant : (mode : Mode) (base : ℕ) (p : List ℕ)
    → own_rows mode kind.ControlIDontWant base p ≡ own_row mode kind.ControlIDontWant base p ∷ []
unfolding own_rows own_of
own-idontwant mode base p = refl

-- SubOpts
sub_opts_read : (mode : Mode) (b : List ℕ) (base : ℕ) (p : List ℕ) (es : List Entry) → Part b base p → Body mode p es
    → (ts is : List (List ℕ)) (ps : List PeerInfo) (ss : List SubOpts) (ms : List RawMessage) (c : ControlMessage)
    → gather b (rows_of mode kind.SubOpts base p) (state ts is ps ss ms c) ≡ state ts is ps
    (record { subscribe = nonzero (last (numbers_in 1 es)); topic_id = last (bytes_in 2 es) } ∷ ss) ms c
sub_opts_read mode b base p es q g ts is ps ss ms c =
    let w = body_walks mode p es g in
    let rows = rows_split mode kind.SubOpts base p w.fields w.walked (own-sub_opts mode base p)
    ∙ ap (λ (l : List Record). own_row mode kind.SubOpts base p ∷ l)
    (bare-along mode kind.SubOpts (sub_opts_bare mode) base p w.fields) in
    let n = number-value mode p kind.SubOpts 1 w.fields es sub_opts_subscribe w.walked w.entries in
    let t = slot_value mode b base p kind.SubOpts (λ t. t.first) 2 w.fields es q sub_opts_topic w.walked
    w.entries refl in
    ap (λ (l : List Record). gather b l (state ts is ps ss ms c)) rows
    ∙ ap₂ (λ (x : Option ℕ) (y : Option (List ℕ)). state ts is ps
    (record { subscribe = nonzero x; topic_id = y } ∷ ss) ms c) n t

-- PeerInfo
peer_info_read : (mode : Mode) (b : List ℕ) (base : ℕ) (p : List ℕ) (es : List Entry) → Part b base p → Body mode p es
    → (ts is : List (List ℕ)) (ps : List PeerInfo) (ss : List SubOpts) (ms : List RawMessage) (c : ControlMessage)
    → gather b (rows_of mode kind.PeerInfo base p) (state ts is ps ss ms c) ≡ state ts is
    (record { peer_id = last (bytes_in 1 es); signed_peer_record = last (bytes_in 2 es) } ∷ ps) ss ms c
peer_info_read mode b base p es q g ts is ps ss ms c =
    let w = body_walks mode p es g in
    let rows = rows_split mode kind.PeerInfo base p w.fields w.walked (own-peer_info mode base p)
    ∙ ap (λ (l : List Record). own_row mode kind.PeerInfo base p ∷ l)
    (bare-along mode kind.PeerInfo (peer_info_bare mode) base p w.fields) in
    let i = slot_value mode b base p kind.PeerInfo (λ t. t.first) 1 w.fields es q peer_id_lem w.walked
    w.entries refl in
    let r = slot_value mode b base p kind.PeerInfo (λ t. t.second) 2 w.fields es q peer_record w.walked
    w.entries refl in
    ap (λ (l : List Record). gather b l (state ts is ps ss ms c)) rows
    ∙ ap₂ (λ (x y : Option (List ℕ)). state ts is (record { peer_id = x; signed_peer_record = y } ∷ ps) ss ms c) i r

-- ControlGraft
graft-read : (mode : Mode) (b : List ℕ) (base : ℕ) (p : List ℕ) (es : List Entry) → Part b base p → Body mode p es
    → (ts is : List (List ℕ)) (ps : List PeerInfo) (ss : List SubOpts) (ms : List RawMessage) (c : ControlMessage)
    → gather b (rows_of mode kind.ControlGraft base p) (state ts is ps ss ms c) ≡ state ts is ps ss ms
    (add_graft (record { topic_id = last (bytes_in 1 es) }) c)
graft-read mode b base p es q g ts is ps ss ms c =
    let w = body_walks mode p es g in
    let rows = rows_split mode kind.ControlGraft base p w.fields w.walked (own-graft mode base p)
    ∙ ap (λ (l : List Record). own_row mode kind.ControlGraft base p ∷ l)
    (bare-along mode kind.ControlGraft (graft-bare mode) base p w.fields) in
    let t = slot_value mode b base p kind.ControlGraft (λ t. t.first) 1 w.fields es q graft-topic w.walked
    w.entries refl in
    ap (λ (l : List Record). gather b l (state ts is ps ss ms c)) rows
    ∙ ap (λ (x : Option (List ℕ)). state ts is ps ss ms (add_graft (record { topic_id = x }) c)) t

-- leaves are put before those that wait
abbrev put_topic : List ℕ → Gathered → Gathered
put_topic d g =
    record {
      topics = d ∷ g.topics;
      ids = g.ids;
      peers = g.peers;
      subscriptions = g.subscriptions;
      publish = g.publish;
      control = g.control;
    }

abbrev put_id : List ℕ → Gathered → Gathered
put_id d g = record {
  topics = g.topics;
  ids = d ∷ g.ids;
  peers = g.peers;
  subscriptions = g.subscriptions;
  publish = g.publish;
  control = g.control;
}

put-topics : (ds ts is : List (List ℕ)) (ps : List PeerInfo) (ss : List SubOpts) (ms : List RawMessage)
    (c : ControlMessage) → add_all put_topic ds (state ts is ps ss ms c) ≡ state (ds ++ ts) is ps ss ms c
put-topics [] ts is ps ss ms c = refl
put-topics (d ∷ ds) ts is ps ss ms c = ap (put_topic d) (put-topics ds ts is ps ss ms c)

put-ids : (ds ts is : List (List ℕ)) (ps : List PeerInfo) (ss : List SubOpts) (ms : List RawMessage)
    (c : ControlMessage) → add_all put_id ds (state ts is ps ss ms c) ≡ state ts (ds ++ is) ps ss ms c
put-ids [] ts is ps ss ms c = refl
put-ids (d ∷ ds) ts is ps ss ms c = ap (put_id d) (put-ids ds ts is ps ss ms c)

-- RawMessage
unfoldable pub mk_message : List ℕ → Option (List ℕ) → Option (List ℕ) → Option (List ℕ) → List (List ℕ)
    → Option (List ℕ)
    → Option (List ℕ) → RawMessage
mk_message r f d q ts s k = record { raw = r; from = f; «data» = d; seqno = q; topic_ids = ts; signature = s; key = k }

pub same-message : {r r' : List ℕ} {f f' d d' q q' s s' k k' : Option (List ℕ)} {ts ts' : List (List ℕ)} → r ≡ r'
    → f ≡ f'
    → d ≡ d' → q ≡ q' → ts ≡ ts' → s ≡ s' → k ≡ k' → mk_message r f d q ts s k ≡ mk_message r' f' d' q' ts' s' k'
same-message e1 e2 e3 e4 e5 e6 e7 = cc

message-read : (mode : Mode) (b : List ℕ) (base : ℕ) (p : List ℕ) (es : List Entry) → Part b base p → Body mode p es
    → (is : List (List ℕ)) (ps : List PeerInfo) (ss : List SubOpts) (ms : List RawMessage) (c : ControlMessage)
    → gather b (rows_of mode kind.RawMessage base p) (state [] is ps ss ms c) ≡ state [] is ps ss
    (mk_message p (last (bytes_in 1 es)) (last (bytes_in 2 es)) (last (bytes_in 3 es)) (bytes_in 4 es) (last (bytes_in 5 es))
    (last (bytes_in 6 es)) ∷ ms) c
unfolding mk_message
message-read mode b base p es q g is ps ss ms c =
    let w = body_walks mode p es g in
    let fs = w.fields in
    let rows = rows_split mode kind.RawMessage base p fs w.walked (own-message mode base p) in
    let leaves = leaves-along mode b base p kind.RawMessage kind.Topic 4 put_topic q (message-topics mode)
    (λ a e g. refl) fs
    (state [] is ps ss ms c) (walk_inside mode p fs w.walked)
    ∙ put-topics (bytes_in 4 (entries_of p fs)) [] is ps ss ms c in
    let topics : bytes_in 4 (entries_of p fs) ++ [] ≡ bytes_in 4 es = append-nil (bytes_in 4 (entries_of p fs))
    ∙ ap (bytes_in 4) w.entries in
    let v1 = slot_value mode b base p kind.RawMessage (λ t. t.first) 1 fs es q message-from w.walked
    w.entries refl in
    let v2 = slot_value mode b base p kind.RawMessage (λ t. t.second) 2 fs es q message_data w.walked
    w.entries refl in
    let v3 = slot_value mode b base p kind.RawMessage (λ t. t.third) 3 fs es q message-seqno w.walked
    w.entries refl in
    let v5 = slot_value mode b base p kind.RawMessage (λ t. t.fourth) 5 fs es q message-signature w.walked
    w.entries refl in
    let v6 = slot_value mode b base p kind.RawMessage (λ t. t.fifth) 6 fs es q message-key w.walked
    w.entries refl in
    ap (λ (l : List Record). gather b l (state [] is ps ss ms c)) rows
    ∙ ap (gather_kind kind.RawMessage b (own_row mode kind.RawMessage base p)) leaves
    ∙ ap (λ (m : RawMessage). state [] is ps ss (m ∷ ms) c)
    (same-message (raw-part mode b base p kind.RawMessage q) v1 v2 v3 topics v5 v6)

-- ControlIHave, ControlIWant and ControlIDontWant
ihave-read : (mode : Mode) (b : List ℕ) (base : ℕ) (p : List ℕ) (es : List Entry) → Part b base p → Body mode p es
    → (ts : List (List ℕ)) (ps : List PeerInfo) (ss : List SubOpts) (ms : List RawMessage) (c : ControlMessage)
    → gather b (rows_of mode kind.ControlIHave base p) (state ts [] ps ss ms c) ≡ state ts [] ps ss ms
    (add_iHave (record { topic_id = last (bytes_in 1 es); message_ids = bytes_in 2 es }) c)
ihave-read mode b base p es q g ts ps ss ms c =
    let w = body_walks mode p es g in
    let fs = w.fields in
    let rows = rows_split mode kind.ControlIHave base p fs w.walked (own-ihave mode base p) in
    let leaves = leaves-along mode b base p kind.ControlIHave kind.MessageId 2 put_id q (ihave_ids_lem mode)
    (λ a e g. refl) fs
    (state ts [] ps ss ms c) (walk_inside mode p fs w.walked)
    ∙ put-ids (bytes_in 2 (entries_of p fs)) ts [] ps ss ms c in
    let ids : bytes_in 2 (entries_of p fs) ++ [] ≡ bytes_in 2 es = append-nil (bytes_in 2 (entries_of p fs))
    ∙ ap (bytes_in 2) w.entries in
    let t = slot_value mode b base p kind.ControlIHave (λ t. t.first) 1 fs es q ihave-topic w.walked
    w.entries refl in
    ap (λ (l : List Record). gather b l (state ts [] ps ss ms c)) rows
    ∙ ap (gather_kind kind.ControlIHave b (own_row mode kind.ControlIHave base p)) leaves
    ∙ ap₂ (λ (x : Option (List ℕ)) (y : List (List ℕ)). state ts [] ps ss ms
    (add_iHave (record { topic_id = x; message_ids = y }) c)) t ids

iwant-read : (mode : Mode) (b : List ℕ) (base : ℕ) (p : List ℕ) (es : List Entry) → Part b base p → Body mode p es
    → (ts : List (List ℕ)) (ps : List PeerInfo) (ss : List SubOpts) (ms : List RawMessage) (c : ControlMessage)
    → gather b (rows_of mode kind.ControlIWant base p) (state ts [] ps ss ms c) ≡ state ts [] ps ss ms
    (add_iWant (record { message_ids = bytes_in 1 es }) c)
iwant-read mode b base p es q g ts ps ss ms c =
    let w = body_walks mode p es g in
    let fs = w.fields in
    let rows = rows_split mode kind.ControlIWant base p fs w.walked (own-iwant mode base p) in
    let leaves = leaves-along mode b base p kind.ControlIWant kind.MessageId 1 put_id q (iwant_ids_lem mode)
    (λ a e g. refl) fs
    (state ts [] ps ss ms c) (walk_inside mode p fs w.walked)
    ∙ put-ids (bytes_in 1 (entries_of p fs)) ts [] ps ss ms c in
    let ids : bytes_in 1 (entries_of p fs) ++ [] ≡ bytes_in 1 es = append-nil (bytes_in 1 (entries_of p fs))
    ∙ ap (bytes_in 1) w.entries in
    ap (λ (l : List Record). gather b l (state ts [] ps ss ms c)) rows
    ∙ ap (gather_kind kind.ControlIWant b (own_row mode kind.ControlIWant base p)) leaves
    ∙ ap (λ (y : List (List ℕ)). state ts [] ps ss ms (add_iWant (record { message_ids = y }) c)) ids

idontwant-read : (mode : Mode) (b : List ℕ) (base : ℕ) (p : List ℕ) (es : List Entry) → Part b base p → Body mode p es
    → (ts : List (List ℕ)) (ps : List PeerInfo) (ss : List SubOpts) (ms : List RawMessage) (c : ControlMessage)
    → gather b (rows_of mode kind.ControlIDontWant base p) (state ts [] ps ss ms c) ≡ state ts [] ps ss ms
    (add_iDont_want (record { message_ids = bytes_in 1 es }) c)
idontwant-read mode b base p es q g ts ps ss ms c =
    let w = body_walks mode p es g in
    let fs = w.fields in
    let rows = rows_split mode kind.ControlIDontWant base p fs w.walked (own-idontwant mode base p) in
    let leaves = leaves-along mode b base p kind.ControlIDontWant kind.MessageId 1 put_id q (idontwant_ids_lem mode)
    (λ a e g. refl) fs
    (state ts [] ps ss ms c) (walk_inside mode p fs w.walked)
    ∙ put-ids (bytes_in 1 (entries_of p fs)) ts [] ps ss ms c in
    let ids : bytes_in 1 (entries_of p fs) ++ [] ≡ bytes_in 1 es = append-nil (bytes_in 1 (entries_of p fs))
    ∙ ap (bytes_in 1) w.entries in
    ap (λ (l : List Record). gather b l (state ts [] ps ss ms c)) rows
    ∙ ap (gather_kind kind.ControlIDontWant b (own_row mode kind.ControlIDontWant base p)) leaves
    ∙ ap (λ (y : List (List ℕ)). state ts [] ps ss ms (add_iDont_want (record { message_ids = y }) c)) ids

-- ---- submessages: what a field takes from the pairs
pairs-at : {X : Type 0} {R : List ℕ → X → Type 0} (p : List ℕ) (m : ℕ) (f : Field) (fs : List Field) (xs : List X)
    → Pairs R (bytes_in m (entries_of p (f ∷ fs))) xs
    → Pairs R (cond (is_bytes m f) (value_in p f ∷ bytes_in m (entries_of p fs)) (bytes_in m (entries_of p fs))) xs
pairs-at {R = R} p m f fs xs h =
    subst (λ (l : List (List ℕ)). Pairs R l xs) (put_bytes_lem p m f (bytes_in m (entries_of p fs))) h

pairs_skip : {X : Type 0} {R : List ℕ → X → Type 0} (p : List ℕ) (m : ℕ) (f : Field) (fs : List Field) (xs : List X)
    → is_bytes m f ≡ false → Pairs R (bytes_in m (entries_of p (f ∷ fs))) xs → Pairs R (bytes_in m (entries_of p fs)) xs
pairs_skip {R = R} p m f fs xs e h =
    subst (λ (t : Bool). Pairs R (cond t (value_in p f ∷ bytes_in m (entries_of p fs)) (bytes_in m (entries_of p fs))) xs) e
    (pairs-at p m f fs xs h)

record Taken {X : Type 0} (R : List ℕ → X → Type 0) (d : List ℕ) (ds : List (List ℕ)) (xs : List X) : Type 0 where
  head : X
  tail : List X
  split : xs ≡ head ∷ tail
  means : R d head
  rest : Pairs R ds tail

uncons : {X : Type 0} {R : List ℕ → X → Type 0} {d : List ℕ} {ds : List (List ℕ)} {xs : List X} → Pairs R (d ∷ ds) xs
    → Taken R d ds xs
uncons (◌paired◌ {y = y} {ys = ys} r rs) = record { head = y; tail = ys; split = refl; means = r; rest = rs }

pairs-take : {X : Type 0} {R : List ℕ → X → Type 0} (p : List ℕ) (m : ℕ) (f : Field) (fs : List Field) (xs : List X)
    → is_bytes m f ≡ true → Pairs R (bytes_in m (entries_of p (f ∷ fs))) xs
    → Taken R (value_in p f) (bytes_in m (entries_of p fs)) xs
pairs-take {R = R} p m f fs xs e h =
    uncons (subst
    (λ (t : Bool). Pairs R (cond t (value_in p f ∷ bytes_in m (entries_of p fs)) (bytes_in m (entries_of p fs))) xs) e
    (pairs-at p m f fs xs h))

pairs-none : {X : Type 0} {R : List ℕ → X → Type 0} {xs : List X} → Pairs R [] xs → xs ≡ []
pairs-none no_pairs = refl

-- ---- which field numbers a field has
bytes-is : (f : Field) (m : ℕ) → eqb f.wire_type 2 ≡ true → eqb f.field m ≡ true → is_bytes m f ≡ true
bytes-is f m t e = ap₂ (λ (x y : Bool). x && y) t e

bytes_other : (f : Field) (j m : ℕ) → eqb f.field j ≡ true → eqb j m ≡ false → is_bytes m f ≡ false
bytes_other f j m e d = ap (λ (n : ℕ). eqb f.wire_type 2 && eqb n m) (eqb-true f.field j e)
    ∙ ap (λ (x : Bool). eqb f.wire_type 2 && x) d ∙ and-false (eqb f.wire_type 2)

bytes-not : (f : Field) (m : ℕ) → eqb f.field m ≡ false → is_bytes m f ≡ false
bytes-not f m e = ap (λ (x : Bool). eqb f.wire_type 2 && x) e ∙ and-false (eqb f.wire_type 2)

bytes_type : (f : Field) (m : ℕ) → eqb f.wire_type 2 ≡ false → is_bytes m f ≡ false
bytes_type f m t = ap (λ (x : Bool). x && eqb f.field m) t

-- ---- ControlPrune
prune-peers : (mode : Mode) (base : ℕ) (p : List ℕ) (f : Field)
    → role_rows (rows_of mode) base p f (role_of kind.ControlPrune f.field f.wire_type) ≡ cond (is_bytes 2 f)
    (rows_of mode kind.PeerInfo (base + f.start) (value_in p f)) []
prune-peers mode base p f = one_from mode kind.ControlPrune 2 base p f
    (rows_of mode kind.PeerInfo (base + f.start) (value_in p f))
    (six (λ n. role_rows (rows_of mode) base p f (len_role kind.ControlPrune n) ≡ cond (eqb n 2)
    (rows_of mode kind.PeerInfo (base + f.start) (value_in p f)) []) refl refl refl refl refl refl
    (λ n e1 e2 e3 e4 e5 e6. simp (e1, e2, e3)))

peer_info_of : (mode : Mode) {p : List ℕ} {x : PeerInfo} (b : List ℕ) (base : ℕ) → Part b base p → IsPeerInfo mode p x
    → (ts is : List (List ℕ)) (ps : List PeerInfo) (ss : List SubOpts) (ms : List RawMessage) (c : ControlMessage)
    → gather b (rows_of mode kind.PeerInfo base p) (state ts is ps ss ms c) ≡ state ts is (x ∷ ps) ss ms c
peer_info_of mode b base q (is-peer_info {s = s} {es = es} g) ts is ps ss ms c =
    peer_info_read mode b base s es q g ts is ps ss ms c

peers-along : (mode : Mode) (b : List ℕ) (base : ℕ) (p : List ℕ) → Part b base p
    → (fs : List Field) (xs : List PeerInfo)
    → Pairs (IsPeerInfo mode) (bytes_in 2 (entries_of p fs)) xs → Each (FieldWithin p) fs
    → (ts is : List (List ℕ)) (ps : List PeerInfo) (ss : List SubOpts) (ms : List RawMessage) (c : ControlMessage)
    → gather b (rows_along (rows_of mode) kind.ControlPrune base p (whole fs)) (state ts is ps ss ms c) ≡ state ts is
    (xs ++ ps) ss ms c
peers-along mode b base p q [] xs h none_left ts is ps ss ms c =
    ap (λ (l : List PeerInfo). state ts is (l ++ ps) ss ms c) (sym (pairs-none h))
peers-along mode b base p q (f ∷ fs) xs h (i and ins) ts is ps ss ms c =
    let go = gather_append b (role_rows (rows_of mode) base p f (role_of kind.ControlPrune f.field f.wire_type))
    (rows_along (rows_of mode) kind.ControlPrune base p (whole fs)) (state ts is ps ss ms c) in
    let row = prune-peers mode base p f in
    let rows = rows_of mode kind.PeerInfo (base + f.start) (value_in p f) in
    either (is_bytes 2 f)
    (λ e. let t = pairs-take p 2 f fs xs e h in
    let ih = peers-along mode b base p q fs t.tail t.rest ins ts is ps ss ms c in
    go ∙ ap₂ (gather b) (row ∙ ap (λ (z : Bool). cond z rows []) e) ih
    ∙ peer_info_of mode b (base + f.start) (part-part b base p f q i) t.means ts is (t.tail ++ ps) ss ms c
    ∙ ap (λ (l : List PeerInfo). state ts is (l ++ ps) ss ms c) (sym t.split))
    (λ e. let ih = peers-along mode b base p q fs xs (pairs_skip p 2 f fs xs e h) ins ts is ps ss ms c in
    go ∙ ap₂ (gather b) (row ∙ ap (λ (z : Bool). cond z rows []) e) ih)

unfoldable pub mk_prune : Option (List ℕ) → List PeerInfo → Option ℕ → ControlPrune
mk_prune t ps n = record { topic_id = t; peers = ps; backoff = n }

pub same-prune : {t t' : Option (List ℕ)} {ps ps' : List PeerInfo} {n n' : Option ℕ} → t ≡ t' → ps ≡ ps' → n ≡ n'
    → mk_prune t ps n ≡ mk_prune t' ps' n'
same-prune e1 e2 e3 = cc

prune-read : (mode : Mode) (b : List ℕ) (base : ℕ) (p : List ℕ) (es : List Entry) (xs : List PeerInfo) → Part b base p
    → Body mode p es
    → Pairs (IsPeerInfo mode) (bytes_in 2 es) xs → (ts is : List (List ℕ)) (ss : List SubOpts) (ms : List RawMessage)
    (c : ControlMessage) → gather b (rows_of mode kind.ControlPrune base p) (state ts is [] ss ms c)
    ≡ state ts is [] ss ms (add_prune (mk_prune (last (bytes_in 1 es)) xs (last (numbers_in 3 es))) c)
unfolding mk_prune
prune-read mode b base p es xs q g h ts is ss ms c =
    let w = body_walks mode p es g in
    let fs = w.fields in
    let rows = rows_split mode kind.ControlPrune base p fs w.walked (own-prune mode base p) in
    let h' = subst (λ (l : List Entry). Pairs (IsPeerInfo mode) (bytes_in 2 l) xs) (sym w.entries) h in
    let inner = peers-along mode b base p q fs xs h' (walk_inside mode p fs w.walked) ts is [] ss ms c in
    let t = slot_value mode b base p kind.ControlPrune (λ t. t.first) 1 fs es q prune-topic w.walked
    w.entries refl in
    let n = number-value mode p kind.ControlPrune 3 fs es prune-backoff w.walked w.entries in
    ap (λ (l : List Record). gather b l (state ts is [] ss ms c)) rows
    ∙ ap (gather_kind kind.ControlPrune b (own_row mode kind.ControlPrune base p)) inner
    ∙ ap (λ (x : ControlPrune). state ts is [] ss ms (add_prune x c)) (same-prune t (append-nil xs) n)

sub_opts_of_lem : (mode : Mode) {p : List ℕ} {x : SubOpts} (b : List ℕ) (base : ℕ) → Part b base p → IsSubOpts mode p x
    → (ss : List SubOpts) (ms : List RawMessage) (c : ControlMessage)
    → gather b (rows_of mode kind.SubOpts base p) (state [] [] [] ss ms c) ≡ state [] [] [] (x ∷ ss) ms c
sub_opts_of_lem mode b base q (is-sub_opts {s = s} {es = es} g u) ss ms c =
    sub_opts_read mode b base s es q g [] [] [] ss ms c

message_of_lem : (mode : Mode) {p : List ℕ} {x : RawMessage} (b : List ℕ) (base : ℕ) → Part b base p → IsMessage mode p x
    → (ss : List SubOpts) (ms : List RawMessage) (c : ControlMessage)
    → gather b (rows_of mode kind.RawMessage base p) (state [] [] [] ss ms c) ≡ state [] [] [] ss (x ∷ ms) c
unfolding mk_message
message_of_lem mode b base q (is-message {s = s} {es = es} g u) ss ms c = message-read mode b base s es q g [] [] ss ms c

ihave-of : (mode : Mode) {p : List ℕ} {x : ControlIHave} (b : List ℕ) (base : ℕ) → Part b base p → IsIHave mode p x
    → (ss : List SubOpts) (ms : List RawMessage) (c : ControlMessage)
    → gather b (rows_of mode kind.ControlIHave base p) (state [] [] [] ss ms c) ≡ state [] [] [] ss ms (add_iHave x c)
ihave-of mode b base q (is-ihave {s = s} {es = es} g u) ss ms c = ihave-read mode b base s es q g [] [] ss ms c

iwant-of : (mode : Mode) {p : List ℕ} {x : ControlIWant} (b : List ℕ) (base : ℕ) → Part b base p → IsIWant mode p x
    → (ss : List SubOpts) (ms : List RawMessage) (c : ControlMessage)
    → gather b (rows_of mode kind.ControlIWant base p) (state [] [] [] ss ms c) ≡ state [] [] [] ss ms (add_iWant x c)
iwant-of mode b base q (is-iwant {s = s} {es = es} g) ss ms c = iwant-read mode b base s es q g [] [] ss ms c

graft_of_lem : (mode : Mode) {p : List ℕ} {x : ControlGraft} (b : List ℕ) (base : ℕ) → Part b base p → IsGraft mode p x
    → (ss : List SubOpts) (ms : List RawMessage) (c : ControlMessage)
    → gather b (rows_of mode kind.ControlGraft base p) (state [] [] [] ss ms c) ≡ state [] [] [] ss ms (add_graft x c)
graft_of_lem mode b base q (is-graft {s = s} {es = es} g u) ss ms c = graft-read mode b base s es q g [] [] [] ss ms c

prune_of_lem : (mode : Mode) {p : List ℕ} {x : ControlPrune} (b : List ℕ) (base : ℕ) → Part b base p → IsPrune mode p x
    → (ss : List SubOpts) (ms : List RawMessage) (c : ControlMessage)
    → gather b (rows_of mode kind.ControlPrune base p) (state [] [] [] ss ms c) ≡ state [] [] [] ss ms (add_prune x c)
unfolding mk_prune
prune_of_lem mode b base q (is-prune {s = s} {es = es} {ps = ps} g u h) ss ms c =
    prune-read mode b base s es ps q g h [] [] ss ms c

idontwant-of : (mode : Mode) {p : List ℕ} {x : ControlIDontWant} (b : List ℕ) (base : ℕ) → Part b base p
    → IsIDontWant mode p x
    → (ss : List SubOpts) (ms : List RawMessage) (c : ControlMessage)
    → gather b (rows_of mode kind.ControlIDontWant base p) (state [] [] [] ss ms c)
    ≡ state [] [] [] ss ms (add_iDont_want x c)
idontwant-of mode b base q (is-idontwant {s = s} {es = es} g) ss ms c =
    idontwant-read mode b base s es q g [] [] ss ms c

-- ---- ControlMessage
-- the rows of the fields that an edition adds
added_rows : Mode → Edition → ℕ → List ℕ → Field → ℕ → List Record
added_rows mode V11 base p f n = []
added_rows mode V12 base p f n = cond (eqb n 5) (rows_of mode kind.ControlIDontWant (base + f.start) (value_in p f)) []

added_rows_lem : (mode : Mode) (e : Edition) (base : ℕ) (p : List ℕ) (f : Field) (n : ℕ)
    → role_rows (rows_of mode) base p f (cond (is_varint (row_from 5 (added_in e) n)) Skip (row_from 5 (added_in e) n))
    ≡ added_rows mode e base p f n
unfolding added_rows
added_rows_lem mode V11 base p f n = refl
added_rows_lem mode V12 base p f n = either (eqb n 5) (λ t. simp t) (λ t. simp t)

control_rows : Dialect → ℕ → List ℕ → Field → ℕ → List Record
control_rows d base p f n = cond (eqb n 1) (rows_of d.mode kind.ControlIHave (base + f.start) (value_in p f))
    (cond (eqb n 2) (rows_of d.mode kind.ControlIWant (base + f.start) (value_in p f))
    (cond (eqb n 3) (rows_of d.mode kind.ControlGraft (base + f.start) (value_in p f))
    (cond (eqb n 4) (rows_of d.mode kind.ControlPrune (base + f.start) (value_in p f))
    (added_rows d.mode d.edition base p f n))))

control_rows_lem : (d : Dialect) (base : ℕ) (p : List ℕ) (f : Field)
    → role_rows (rows_of d.mode) base p f (role_of (kind.ControlMessage d.edition) f.field f.wire_type)
    ≡ cond (eqb f.wire_type 2) (control_rows d base p f f.field) []
unfolding control_rows
control_rows_lem d base p f =
    rows_from_lem d.mode (kind.ControlMessage d.edition) base p f (control_rows d base p f)
    (six (λ n. role_rows (rows_of d.mode) base p f (len_role (kind.ControlMessage d.edition) n)
    ≡ control_rows d base p f n) refl refl refl
    refl (added_rows_lem d.mode d.edition base p f 5) (added_rows_lem d.mode d.edition base p f 6)
    (λ n e1 e2 e3 e4 e5 e6. simp (e1, e2, e3, e4) (added_rows_lem d.mode d.edition base p f n)))

control-row_1 : (d : Dialect) (base : ℕ) (p : List ℕ) (f : Field) → eqb f.wire_type 2 ≡ true
    → eqb f.field 1 ≡ true → role_rows (rows_of d.mode) base p f
    (role_of (kind.ControlMessage d.edition) f.field f.wire_type)
    ≡ rows_of d.mode kind.ControlIHave (base + f.start) (value_in p f)
unfolding control_rows
control-row_1 d base p f t e =
    control_rows_lem d base p f ∙ ap (λ (x : Bool). cond x (control_rows d base p f f.field) []) t
    ∙ ap (control_rows d base p f) (eqb-true f.field 1 e)

control-row_2 : (d : Dialect) (base : ℕ) (p : List ℕ) (f : Field) → eqb f.wire_type 2 ≡ true
    → eqb f.field 2 ≡ true → role_rows (rows_of d.mode) base p f
    (role_of (kind.ControlMessage d.edition) f.field f.wire_type)
    ≡ rows_of d.mode kind.ControlIWant (base + f.start) (value_in p f)
unfolding control_rows
control-row_2 d base p f t e =
    control_rows_lem d base p f ∙ ap (λ (x : Bool). cond x (control_rows d base p f f.field) []) t
    ∙ ap (control_rows d base p f) (eqb-true f.field 2 e)

control-row_3 : (d : Dialect) (base : ℕ) (p : List ℕ) (f : Field) → eqb f.wire_type 2 ≡ true
    → eqb f.field 3 ≡ true → role_rows (rows_of d.mode) base p f
    (role_of (kind.ControlMessage d.edition) f.field f.wire_type)
    ≡ rows_of d.mode kind.ControlGraft (base + f.start) (value_in p f)
unfolding control_rows
control-row_3 d base p f t e =
    control_rows_lem d base p f ∙ ap (λ (x : Bool). cond x (control_rows d base p f f.field) []) t
    ∙ ap (control_rows d base p f) (eqb-true f.field 3 e)

control-row_4 : (d : Dialect) (base : ℕ) (p : List ℕ) (f : Field) → eqb f.wire_type 2 ≡ true
    → eqb f.field 4 ≡ true → role_rows (rows_of d.mode) base p f
    (role_of (kind.ControlMessage d.edition) f.field f.wire_type)
    ≡ rows_of d.mode kind.ControlPrune (base + f.start) (value_in p f)
unfolding control_rows
control-row_4 d base p f t e =
    control_rows_lem d base p f ∙ ap (λ (x : Bool). cond x (control_rows d base p f f.field) []) t
    ∙ ap (control_rows d base p f) (eqb-true f.field 4 e)

control-row-added : (d : Dialect) (base : ℕ) (p : List ℕ) (f : Field) → eqb f.wire_type 2 ≡ true
    → eqb f.field 1 ≡ false → eqb f.field 2 ≡ false → eqb f.field 3 ≡ false → eqb f.field 4 ≡ false
    → role_rows (rows_of d.mode) base p f (role_of (kind.ControlMessage d.edition) f.field f.wire_type)
    ≡ added_rows d.mode d.edition base p f f.field
unfolding control_rows
control-row-added d base p f t e1 e2 e3 e4 = control_rows_lem d base p f ∙ simp (t, e1, e2, e3, e4)

control-row_type : (d : Dialect) (base : ℕ) (p : List ℕ) (f : Field) → eqb f.wire_type 2 ≡ false
    → role_rows (rows_of d.mode) base p f (role_of (kind.ControlMessage d.edition) f.field f.wire_type) ≡ []
control-row_type d base p f t =
    control_rows_lem d base p f ∙ ap (λ (x : Bool). cond x (control_rows d base p f f.field) []) t

abbrev ctl : List ControlIHave → List ControlIWant → List ControlGraft → List ControlPrune → List ControlIDontWant
    → ControlMessage
ctl hs ws gs ps ds = record { ihave = hs; iwant = ws; graft = gs; prune = ps; idontwant = ds }

control-none : (hs : List ControlIHave) (ws : List ControlIWant) (gs : List ControlGraft) (ps : List ControlPrune)
    (ds : List ControlIDontWant) → hs ≡ [] → ws ≡ [] → gs ≡ [] → ps ≡ [] → ds ≡ []
    → (ss : List SubOpts) (ms : List RawMessage) (c : ControlMessage)
    → state [] [] [] ss ms (join (ctl hs ws gs ps ds) c) ≡ state [] [] [] ss ms c
control-none hs ws gs ps ds e1 e2 e3 e4 e5 ss ms c = rw (e1, e2, e3, e4, e5)

-- the entries that an edition adds, at a field: none is left, none is taken, or what its rows say
added_none : (mode : Mode) {ds : List ControlIDontWant} (e : Edition) → Pairs (IsIDontWant mode) (idontwants_in e []) ds
    → ds ≡ []
added_none mode V11 h = pairs-none h
added_none mode V12 h = pairs-none h

added_skip : (mode : Mode) (e : Edition) (p : List ℕ) (f : Field) (fs : List Field) (ds : List ControlIDontWant)
    → is_bytes 5 f ≡ false → Pairs (IsIDontWant mode) (idontwants_in e (entries_of p (f ∷ fs))) ds
    → Pairs (IsIDontWant mode) (idontwants_in e (entries_of p fs)) ds
added_skip mode V11 p f fs ds t h = h
added_skip mode V12 p f fs ds t h = pairs_skip p 5 f fs ds t h

record Added (mode : Mode) (e : Edition) (b : List ℕ) (base : ℕ) (p : List ℕ) (f : Field) (fs : List Field)
    (ds : List ControlIDontWant) : Type 0 where
  tail : List ControlIDontWant
  rest : Pairs (IsIDontWant mode) (idontwants_in e (entries_of p fs)) tail
  says : (hs : List ControlIHave) (ws : List ControlIWant) (gs : List ControlGraft) (ps : List ControlPrune)
      (ss : List SubOpts) (ms : List RawMessage) (c : ControlMessage)
      → gather b (added_rows mode e base p f f.field) (state [] [] [] ss ms (join (ctl hs ws gs ps tail) c))
      ≡ state [] [] [] ss ms (join (ctl hs ws gs ps ds) c)

added-takes : (mode : Mode) (e : Edition) (b : List ℕ) (base : ℕ) (p : List ℕ) (f : Field) (fs : List Field)
    (ds : List ControlIDontWant) → Part b base p → FieldWithin p f → eqb f.wire_type 2 ≡ true
    → Pairs (IsIDontWant mode) (idontwants_in e (entries_of p (f ∷ fs))) ds → Added mode e b base p f fs ds
unfolding added_rows
added-takes mode V11 b base p f fs ds q i t2 h = record { tail = ds; rest = h; says = λ hs ws gs ps ss ms c. refl }
added-takes mode V12 b base p f fs ds q i t2 h =
    either (eqb f.field 5)
    (λ e. let t = pairs-take p 5 f fs ds (bytes-is f 5 t2 e) h in
    record {
      tail = t.tail;
      rest = t.rest;
      says = λ hs ws gs ps ss ms c. simp e
          (idontwant-of mode b (base + f.start) (part-part b base p f q i) t.means ss ms
          (join (ctl hs ws gs ps t.tail) c)
          ∙ ap (λ (l : List ControlIDontWant). state [] [] [] ss ms (join (ctl hs ws gs ps l) c)) (sym t.split));
    })
    (λ e. record {
      tail = ds;
      rest = pairs_skip p 5 f fs ds (bytes-not f 5 e) h;
      says = λ hs ws gs ps ss ms c. simp e;
    })

control-along : (d : Dialect) (b : List ℕ) (base : ℕ) (p : List ℕ) → Part b base p
    → (fs : List Field) (hs : List ControlIHave) (ws : List ControlIWant) (gs : List ControlGraft)
    (ps : List ControlPrune) (ds : List ControlIDontWant) → Pairs (IsIHave d.mode) (bytes_in 1 (entries_of p fs)) hs
    → Pairs (IsIWant d.mode) (bytes_in 2 (entries_of p fs)) ws
    → Pairs (IsGraft d.mode) (bytes_in 3 (entries_of p fs)) gs
    → Pairs (IsPrune d.mode) (bytes_in 4 (entries_of p fs)) ps
    → Pairs (IsIDontWant d.mode) (idontwants_in d.edition (entries_of p fs)) ds
    → Each (FieldWithin p) fs → (ss : List SubOpts) (ms : List RawMessage) (c : ControlMessage)
    → gather b (rows_along (rows_of d.mode) (kind.ControlMessage d.edition) base p (whole fs))
    (state [] [] [] ss ms c)
    ≡ state [] [] [] ss ms (join (ctl hs ws gs ps ds) c)
control-along d b base p q [] hs ws gs ps ds h1 h2 h3 h4 h5 none_left ss ms c =
    sym (control-none hs ws gs ps ds (pairs-none h1) (pairs-none h2) (pairs-none h3) (pairs-none h4)
    (added_none d.mode d.edition h5) ss ms c)
control-along d b base p q (f ∷ fs) hs ws gs ps ds h1 h2 h3 h4 h5 (i and ins) ss ms c =
    let go = gather_append b (role_rows (rows_of d.mode) base p f
    (role_of (kind.ControlMessage d.edition) f.field f.wire_type))
    (rows_along (rows_of d.mode) (kind.ControlMessage d.edition) base p (whole fs)) (state [] [] [] ss ms c) in
    either (eqb f.wire_type 2)
    (λ t2. either (eqb f.field 1)
    (λ e. let t = pairs-take p 1 f fs hs (bytes-is f 1 t2 e) h1 in
    let ih = control-along d b base p q fs t.tail ws gs ps ds t.rest
    (pairs_skip p 2 f fs ws (bytes_other f 1 2 e refl) h2) (pairs_skip p 3 f fs gs (bytes_other f 1 3 e refl) h3)
    (pairs_skip p 4 f fs ps (bytes_other f 1 4 e refl) h4)
    (added_skip d.mode d.edition p f fs ds (bytes_other f 1 5 e refl) h5) ins ss ms c in
    go ∙ ap₂ (gather b) (control-row_1 d base p f t2 e) ih
    ∙ ihave-of d.mode b (base + f.start) (part-part b base p f q i) t.means ss ms
    (join (ctl t.tail ws gs ps ds) c)
    ∙ ap (λ (l : List ControlIHave). state [] [] [] ss ms (join (ctl l ws gs ps ds) c)) (sym t.split))
    (λ n1. either (eqb f.field 2)
    (λ e. let t = pairs-take p 2 f fs ws (bytes-is f 2 t2 e) h2 in
    let ih = control-along d b base p q fs hs t.tail gs ps ds (pairs_skip p 1 f fs hs (bytes_other f 2 1 e refl) h1)
    t.rest (pairs_skip p 3 f fs gs (bytes_other f 2 3 e refl) h3)
    (pairs_skip p 4 f fs ps (bytes_other f 2 4 e refl) h4)
    (added_skip d.mode d.edition p f fs ds (bytes_other f 2 5 e refl) h5) ins ss ms c in
    go ∙ ap₂ (gather b) (control-row_2 d base p f t2 e) ih
    ∙ iwant-of d.mode b (base + f.start) (part-part b base p f q i) t.means ss ms
    (join (ctl hs t.tail gs ps ds) c)
    ∙ ap (λ (l : List ControlIWant). state [] [] [] ss ms (join (ctl hs l gs ps ds) c)) (sym t.split))
    (λ n2. either (eqb f.field 3)
    (λ e. let t = pairs-take p 3 f fs gs (bytes-is f 3 t2 e) h3 in
    let ih = control-along d b base p q fs hs ws t.tail ps ds (pairs_skip p 1 f fs hs (bytes_other f 3 1 e refl) h1)
    (pairs_skip p 2 f fs ws (bytes_other f 3 2 e refl) h2) t.rest
    (pairs_skip p 4 f fs ps (bytes_other f 3 4 e refl) h4)
    (added_skip d.mode d.edition p f fs ds (bytes_other f 3 5 e refl) h5) ins ss ms c in
    go ∙ ap₂ (gather b) (control-row_3 d base p f t2 e) ih
    ∙ graft_of_lem d.mode b (base + f.start) (part-part b base p f q i) t.means ss ms
    (join (ctl hs ws t.tail ps ds) c)
    ∙ ap (λ (l : List ControlGraft). state [] [] [] ss ms (join (ctl hs ws l ps ds) c)) (sym t.split))
    (λ n3. either (eqb f.field 4)
    (λ e. let t = pairs-take p 4 f fs ps (bytes-is f 4 t2 e) h4 in
    let ih = control-along d b base p q fs hs ws gs t.tail ds (pairs_skip p 1 f fs hs (bytes_other f 4 1 e refl) h1)
    (pairs_skip p 2 f fs ws (bytes_other f 4 2 e refl) h2) (pairs_skip p 3 f fs gs (bytes_other f 4 3 e refl) h3)
    t.rest (added_skip d.mode d.edition p f fs ds (bytes_other f 4 5 e refl) h5) ins ss ms c in
    go ∙ ap₂ (gather b) (control-row_4 d base p f t2 e) ih
    ∙ prune_of_lem d.mode b (base + f.start) (part-part b base p f q i) t.means ss ms
    (join (ctl hs ws gs t.tail ds) c)
    ∙ ap (λ (l : List ControlPrune). state [] [] [] ss ms (join (ctl hs ws gs l ds) c)) (sym t.split))
    (λ n4.
    let t = added-takes d.mode d.edition b base p f fs ds q i t2 h5 in
    let ih = control-along d b base p q fs hs ws gs ps t.tail (pairs_skip p 1 f fs hs (bytes-not f 1 n1) h1)
    (pairs_skip p 2 f fs ws (bytes-not f 2 n2) h2) (pairs_skip p 3 f fs gs (bytes-not f 3 n3) h3)
    (pairs_skip p 4 f fs ps (bytes-not f 4 n4) h4) t.rest ins ss ms c in
    go ∙ ap₂ (gather b) (control-row-added d base p f t2 n1 n2 n3 n4) ih ∙ t.says hs ws gs ps ss ms c)))))
    (λ t2. let ih = control-along d b base p q fs hs ws gs ps ds (pairs_skip p 1 f fs hs (bytes_type f 1 t2) h1)
    (pairs_skip p 2 f fs ws (bytes_type f 2 t2) h2) (pairs_skip p 3 f fs gs (bytes_type f 3 t2) h3)
    (pairs_skip p 4 f fs ps (bytes_type f 4 t2) h4)
    (added_skip d.mode d.edition p f fs ds (bytes_type f 5 t2) h5) ins ss ms
    c in
    go ∙ ap₂ (gather b) (control-row_type d base p f t2) ih)

own-control : (d : Dialect) (base : ℕ) (p : List ℕ) → own_rows d.mode (kind.ControlMessage d.edition) base p ≡ []
unfolding own_rows own_of
own-control d base p = refl

control-read : (d : Dialect) (b : List ℕ) (base : ℕ) (p : List ℕ) (es : List Entry) (hs : List ControlIHave)
    (ws : List ControlIWant) (gs : List ControlGraft) (ps : List ControlPrune) (ds : List ControlIDontWant)
    → Part b base p → Body d.mode p es → Pairs (IsIHave d.mode) (bytes_in 1 es) hs
    → Pairs (IsIWant d.mode) (bytes_in 2 es) ws
    → Pairs (IsGraft d.mode) (bytes_in 3 es) gs → Pairs (IsPrune d.mode) (bytes_in 4 es) ps
    → Pairs (IsIDontWant d.mode) (idontwants_in d.edition es) ds
    → (ss : List SubOpts) (ms : List RawMessage) (c : ControlMessage)
    → gather b (rows_of d.mode (kind.ControlMessage d.edition) base p) (state [] [] [] ss ms c)
    ≡ state [] [] [] ss ms
    (join (ctl hs ws gs ps ds) c)
control-read d b base p es hs ws gs ps ds q g h1 h2 h3 h4 h5 ss ms c =
    let w = body_walks d.mode p es g in
    let fs = w.fields in
    let rows = rows_along_lem d.mode (kind.ControlMessage d.edition) base p
    ∙ ap₂ (λ (x : List Record) (y : Fields). x ++ rows_along (rows_of d.mode)
    (kind.ControlMessage d.edition) base p y)
    (own-control d base p) w.walked in
    let e = sym w.entries in
    ap (λ (l : List Record). gather b l (state [] [] [] ss ms c)) rows
    ∙ control-along d b base p q fs hs ws gs ps ds
    (subst (λ (l : List Entry). Pairs (IsIHave d.mode) (bytes_in 1 l) hs) e h1)
    (subst (λ (l : List Entry). Pairs (IsIWant d.mode) (bytes_in 2 l) ws) e h2)
    (subst (λ (l : List Entry). Pairs (IsGraft d.mode) (bytes_in 3 l) gs) e h3)
    (subst (λ (l : List Entry). Pairs (IsPrune d.mode) (bytes_in 4 l) ps) e h4)
    (subst (λ (l : List Entry). Pairs (IsIDontWant d.mode) (idontwants_in d.edition l) ds) e h5)
    (walk_inside d.mode p fs w.walked) ss ms c

control_of_lem : {d : Dialect} {p : List ℕ} {x : ControlMessage} (b : List ℕ) (base : ℕ) → Part b base p → IsControl d p x
    → (ss : List SubOpts) (ms : List RawMessage) (c : ControlMessage)
    → gather b (rows_of d.mode (kind.ControlMessage d.edition) base p) (state [] [] [] ss ms c)
    ≡ state [] [] [] ss ms (join x c)
control_of_lem {d} b base q
    (is_control {s = s} {es = es} {hs = hs} {ws = ws} {gs = gs} {ps = ps} {ds = ds} g h1 h2 h3 h4 h5) ss ms c =
    control-read d b base s es hs ws gs ps ds q g h1 h2 h3 h4 h5 ss ms c

-- ---- the RPC
rpc_rows : Dialect → ℕ → List ℕ → Field → ℕ → List Record
rpc_rows d base p f n = cond (eqb n 1) (rows_of d.mode kind.SubOpts (base + f.start) (value_in p f))
    (cond (eqb n 2) (rows_of d.mode kind.RawMessage (base + f.start) (value_in p f))
    (cond (eqb n 3) (rows_of d.mode (kind.ControlMessage d.edition) (base + f.start) (value_in p f)) []))

rpc_rows_lem : (d : Dialect) (base : ℕ) (p : List ℕ) (f : Field)
    → role_rows (rows_of d.mode) base p f (role_of (kind.Rpc d.edition) f.field f.wire_type)
    ≡ cond (eqb f.wire_type 2)
    (rpc_rows d base p f f.field) []
unfolding rpc_rows
rpc_rows_lem d base p f =
    rows_from_lem d.mode (kind.Rpc d.edition) base p f (rpc_rows d base p f)
    (six (λ n. role_rows (rows_of d.mode) base p f (len_role (kind.Rpc d.edition) n)
    ≡ rpc_rows d base p f n) refl refl refl refl refl refl
    (λ n e1 e2 e3 e4 e5 e6. simp (e1, e2, e3)))

rpc-row_1 : (d : Dialect) (base : ℕ) (p : List ℕ) (f : Field) → eqb f.wire_type 2 ≡ true → eqb f.field 1 ≡ true
    → role_rows (rows_of d.mode) base p f (role_of (kind.Rpc d.edition) f.field f.wire_type)
    ≡ rows_of d.mode kind.SubOpts (base + f.start)
    (value_in p f)
unfolding rpc_rows
rpc-row_1 d base p f t e = rpc_rows_lem d base p f ∙ ap (λ (x : Bool). cond x (rpc_rows d base p f f.field) []) t
    ∙ ap (rpc_rows d base p f) (eqb-true f.field 1 e)

rpc-row_2 : (d : Dialect) (base : ℕ) (p : List ℕ) (f : Field) → eqb f.wire_type 2 ≡ true → eqb f.field 2 ≡ true
    → role_rows (rows_of d.mode) base p f (role_of (kind.Rpc d.edition) f.field f.wire_type)
    ≡ rows_of d.mode kind.RawMessage
    (base + f.start) (value_in p f)
unfolding rpc_rows
rpc-row_2 d base p f t e = rpc_rows_lem d base p f ∙ ap (λ (x : Bool). cond x (rpc_rows d base p f f.field) []) t
    ∙ ap (rpc_rows d base p f) (eqb-true f.field 2 e)

rpc-row_3 : (d : Dialect) (base : ℕ) (p : List ℕ) (f : Field) → eqb f.wire_type 2 ≡ true → eqb f.field 3 ≡ true
    → role_rows (rows_of d.mode) base p f (role_of (kind.Rpc d.edition) f.field f.wire_type)
    ≡ rows_of d.mode (kind.ControlMessage d.edition)
    (base + f.start) (value_in p f)
unfolding rpc_rows
rpc-row_3 d base p f t e = rpc_rows_lem d base p f ∙ ap (λ (x : Bool). cond x (rpc_rows d base p f f.field) []) t
    ∙ ap (rpc_rows d base p f) (eqb-true f.field 3 e)

rpc-row_other : (d : Dialect) (base : ℕ) (p : List ℕ) (f : Field) → eqb f.field 1 ≡ false → eqb f.field 2 ≡ false
    → eqb f.field 3 ≡ false → role_rows (rows_of d.mode) base p f
    (role_of (kind.Rpc d.edition) f.field f.wire_type) ≡ []
unfolding rpc_rows
rpc-row_other d base p f e1 e2 e3 = rpc_rows_lem d base p f ∙ either (eqb f.wire_type 2) (λ t. simp (t, e1, e2, e3))
    (λ t. simp t)

rpc-row_type : (d : Dialect) (base : ℕ) (p : List ℕ) (f : Field) → eqb f.wire_type 2 ≡ false
    → role_rows (rows_of d.mode) base p f (role_of (kind.Rpc d.edition) f.field f.wire_type) ≡ []
rpc-row_type d base p f t = rpc_rows_lem d base p f ∙ ap (λ (x : Bool). cond x (rpc_rows d base p f f.field) []) t

-- the controls, one after the other
abbrev pub flat : List ControlMessage → ControlMessage
flat [] = empty_control
flat (c ∷ cs) = join c (flat cs)

rpc-none : (ss : List SubOpts) (ms : List RawMessage) (cs : List ControlMessage) → ss ≡ [] → ms ≡ [] → cs ≡ []
    → state [] [] [] ss ms (flat cs) ≡ nothing
rpc-none ss ms cs e1 e2 e3 = rw (e1, e2, e3)

rpc-along : (d : Dialect) (b : List ℕ) (base : ℕ) (p : List ℕ) → Part b base p
    → (fs : List Field) (ss : List SubOpts) (ms : List RawMessage) (cs : List ControlMessage)
    → Pairs (IsSubOpts d.mode) (bytes_in 1 (entries_of p fs)) ss
    → Pairs (IsMessage d.mode) (bytes_in 2 (entries_of p fs)) ms
    → Pairs (IsControl d) (bytes_in 3 (entries_of p fs)) cs → Each (FieldWithin p) fs
    → gather b (rows_along (rows_of d.mode) (kind.Rpc d.edition) base p (whole fs)) nothing
    ≡ state [] [] [] ss ms (flat cs)
rpc-along d b base p q [] ss ms cs h1 h2 h3 none_left =
    sym (rpc-none ss ms cs (pairs-none h1) (pairs-none h2) (pairs-none h3))
rpc-along d b base p q (f ∷ fs) ss ms cs h1 h2 h3 (i and ins) =
    let go = gather_append b (role_rows (rows_of d.mode) base p f
    (role_of (kind.Rpc d.edition) f.field f.wire_type))
    (rows_along (rows_of d.mode) (kind.Rpc d.edition) base p (whole fs)) nothing in
    either (eqb f.wire_type 2)
    (λ t2. either (eqb f.field 1)
    (λ e. let t = pairs-take p 1 f fs ss (bytes-is f 1 t2 e) h1 in
    let ih = rpc-along d b base p q fs t.tail ms cs t.rest (pairs_skip p 2 f fs ms (bytes_other f 1 2 e refl) h2)
    (pairs_skip p 3 f fs cs (bytes_other f 1 3 e refl) h3) ins in
    go ∙ ap₂ (gather b) (rpc-row_1 d base p f t2 e) ih
    ∙ sub_opts_of_lem d.mode b (base + f.start) (part-part b base p f q i) t.means t.tail ms (flat cs)
    ∙ ap (λ (l : List SubOpts). state [] [] [] l ms (flat cs)) (sym t.split))
    (λ n1. either (eqb f.field 2)
    (λ e. let t = pairs-take p 2 f fs ms (bytes-is f 2 t2 e) h2 in
    let ih = rpc-along d b base p q fs ss t.tail cs (pairs_skip p 1 f fs ss (bytes_other f 2 1 e refl) h1) t.rest
    (pairs_skip p 3 f fs cs (bytes_other f 2 3 e refl) h3) ins in
    go ∙ ap₂ (gather b) (rpc-row_2 d base p f t2 e) ih
    ∙ message_of_lem d.mode b (base + f.start) (part-part b base p f q i) t.means ss t.tail (flat cs)
    ∙ ap (λ (l : List RawMessage). state [] [] [] ss l (flat cs)) (sym t.split))
    (λ n2. either (eqb f.field 3)
    (λ e. let t = pairs-take p 3 f fs cs (bytes-is f 3 t2 e) h3 in
    let ih = rpc-along d b base p q fs ss ms t.tail (pairs_skip p 1 f fs ss (bytes_other f 3 1 e refl) h1)
    (pairs_skip p 2 f fs ms (bytes_other f 3 2 e refl) h2) t.rest ins in
    go ∙ ap₂ (gather b) (rpc-row_3 d base p f t2 e) ih
    ∙ control_of_lem b (base + f.start) (part-part b base p f q i) t.means ss ms (flat t.tail)
    ∙ ap (λ (l : List ControlMessage). state [] [] [] ss ms (flat l)) (sym t.split))
    (λ n3.
    let ih = rpc-along d b base p q fs ss ms cs (pairs_skip p 1 f fs ss (bytes-not f 1 n1) h1)
    (pairs_skip p 2 f fs ms (bytes-not f 2 n2) h2) (pairs_skip p 3 f fs cs (bytes-not f 3 n3) h3) ins in
    go ∙ ap₂ (gather b) (rpc-row_other d base p f n1 n2 n3) ih))))
    (λ t2. let ih = rpc-along d b base p q fs ss ms cs (pairs_skip p 1 f fs ss (bytes_type f 1 t2) h1)
    (pairs_skip p 2 f fs ms (bytes_type f 2 t2) h2) (pairs_skip p 3 f fs cs (bytes_type f 3 t2) h3) ins in
    go ∙ ap₂ (gather b) (rpc-row_type d base p f t2) ih)

pub whole_part : (b : List ℕ) → Part b 0 b
whole_part b = let e : 0 + length b - 0 ≡ length b = omega arith in
    record { here = sym (ap (λ (n : ℕ). take n b) e ∙ take-length b); fits = omega arith }

-- whether there is any
abbrev pub any : {A : Type 0} → List A → Bool
any [] = false
any (x ∷ xs) = true

any-pairs : {X : Type 0} {R : List ℕ → X → Type 0} {ds : List (List ℕ)} {xs : List X} → Pairs R ds xs → any ds ≡ any xs
any-pairs no_pairs = refl
any-pairs (p paired ps) = refl

join-empty : (c : ControlMessage) → join c empty_control ≡ c
join-empty c =
    rw (
      append-nil c.ihave,
      append-nil c.iwant,
      append-nil c.graft,
      append-nil c.prune,
      append-nil c.idontwant,
    )

pub joined-some : (c : ControlMessage) (cs : List ControlMessage) → joined (c ∷ cs) ≡ Some (flat (c ∷ cs))
joined-some c [] = ap Some (sym (join-empty c))
joined-some c (d ∷ cs) = ap (join_to c) (joined-some d cs)

pub joined-flat : (cs : List ControlMessage) → cond (any cs) (Some (flat cs)) None ≡ joined cs
joined-flat [] = refl
joined-flat (c ∷ cs) = sym (joined-some c cs)

control-any : (p : List ℕ) (n : ℕ) (fs : List Field) → has_along n (whole fs) ≡ any (bytes_in n (entries_of p fs))
control-any p n [] = refl
control-any p n (f ∷ fs) =
    let ds = bytes_in n (entries_of p fs) in
    let pb = ap any (put_bytes_lem p n f ds) in
    either (is_bytes n f)
    (λ e. ap (λ (x : Bool). x || has_along n (whole fs)) e
    ∙ sym (pb ∙ ap (λ (x : Bool). any (cond x (value_in p f ∷ ds) ds)) e))
    (λ e. ap (λ (x : Bool). x || has_along n (whole fs)) e ∙ control-any p n fs
    ∙ sym (pb ∙ ap (λ (x : Bool). any (cond x (value_in p f ∷ ds) ds)) e))

own-rpc : (d : Dialect) (base : ℕ) (p : List ℕ) → own_rows d.mode (kind.Rpc d.edition) base p ≡ []
unfolding own_rows own_of
own-rpc d base p = refl

pub rpc-gathered : (d : Dialect) (b : List ℕ) (es : List Entry) (ss : List SubOpts) (ms : List RawMessage)
    (cs : List ControlMessage) → Body d.mode b es → Pairs (IsSubOpts d.mode) (bytes_in 1 es) ss
    → Pairs (IsMessage d.mode) (bytes_in 2 es) ms
    → Pairs (IsControl d) (bytes_in 3 es) cs
    → gather b (rows_of d.mode (kind.Rpc d.edition) 0 b) nothing ≡ state [] [] [] ss ms (flat cs)
rpc-gathered d b es ss ms cs g h1 h2 h3 =
    let w = body_walks d.mode b es g in
    let fs = w.fields in
    let rows = rows_along_lem d.mode (kind.Rpc d.edition) 0 b
    ∙ ap₂ (λ (x : List Record) (y : Fields). x ++ rows_along (rows_of d.mode) (kind.Rpc d.edition) 0 b y)
    (own-rpc d 0 b) w.walked in
    let e = sym w.entries in
    ap (λ (l : List Record). gather b l nothing) rows
    ∙ rpc-along d b 0 b (whole_part b) fs ss ms cs
    (subst (λ (l : List Entry). Pairs (IsSubOpts d.mode) (bytes_in 1 l) ss) e h1)
    (subst (λ (l : List Entry). Pairs (IsMessage d.mode) (bytes_in 2 l) ms) e h2)
    (subst (λ (l : List Entry). Pairs (IsControl d) (bytes_in 3 l) cs) e h3) (walk_inside d.mode b fs w.walked)

pub rpc-control : (d : Dialect) (b : List ℕ) (es : List Entry) (cs : List ControlMessage) → Body d.mode b es
    → Pairs (IsControl d) (bytes_in 3 es) cs → has_field d.mode 3 b ≡ any cs
unfolding has_field
rpc-control d b es cs g h3 =
    let w = body_walks d.mode b es g in
    ap (has_along 3) w.walked ∙ control-any b 3 w.fields ∙ ap (λ (l : List Entry). any (bytes_in 3 l)) w.entries
    ∙ any-pairs h3

rpc-read : (d : Dialect) (b : List ℕ) (es : List Entry) (ss : List SubOpts) (ms : List RawMessage)
    (cs : List ControlMessage) → Body d.mode b es → Pairs (IsSubOpts d.mode) (bytes_in 1 es) ss
    → Pairs (IsMessage d.mode) (bytes_in 2 es) ms
    → Pairs (IsControl d) (bytes_in 3 es) cs → read_back b (rows_of d.mode (kind.Rpc d.edition) 0 b)
    (has_control d.mode b)
    ≡ record { subscriptions = ss; publish = ms; control = joined cs }
unfolding read_back has_control
rpc-read d b es ss ms cs g h1 h2 h3 =
    ap₂ rpc_from (rpc-control d b es cs g h3) (rpc-gathered d b es ss ms cs g h1 h2 h3)
    ∙ ap (λ (x : Option ControlMessage). record { subscriptions = ss; publish = ms; control = x }) (joined-flat cs)

-- the records of a body, read back, are the RPC that it means
pub read_back_lem : {d : Dialect} {b : List ℕ} {x : Rpc} → IsRpc d b x
    → read_back b (rows_of d.mode (kind.Rpc d.edition) 0 b) (has_control d.mode b) ≡ x
read_back_lem {d} (is-rpc {s = s} {es = es} {ss = ss} {ms = ms} {cs = cs} g h1 h2 h3) = rpc-read d s es ss ms cs g h1 h2 h3

-- a body means one RPC
pub one-rpc : {d : Dialect} {b : List ℕ} {x y : Rpc} → IsRpc d b x → IsRpc d b y → x ≡ y
one-rpc p q = sym (read_back_lem p) ∙ read_back_lem q
