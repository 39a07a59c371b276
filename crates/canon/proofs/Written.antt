-- What the writer makes of a body is the canonical encoding of the RPC that the body means.
use Rattle.std.specs.Prelude.{Option, Some, None, ℕ, ◌≤◌, ◌≡◌, refl, Bool, true, false, cond, List, [], ◌∷◌, ◌++◌, eqb, length}
use Rattle.std.proofs.Common.{sym, ap₂, subst, ◌∙◌, append-nil, zero-add}
use Rattle.std.proofs.Math.Path.{ap}
use Rattle.basis.specs.declared.Mode.{Mode}
use Rattle.basis.specs.declared.Edition.{Edition}
use Rattle.basis.specs.declared.Edition.TheVariants.{V11, V12}
use Rattle.basis.specs.declared.Dialect.{Dialect}
use Rattle.basis.specs.Cases.{either}
use Rattle.protobuf.specs.declared.Field.{Field}
use Rattle.protobuf.specs.Grammar.{Entry, Body}
use Rattle.protobuf.specs.Walk.{Fields, end, refused, ◌then◌, fields_of, whole, between, entries_of as fieldEntries}
use Rattle.protobuf.specs.Walk.{is_bytes, value_in}
use Rattle.protobuf.specs.Exactly.{body_walks}
use Rattle.protobuf.specs.Encode.{varint_field, bytes_field}
use Rattle.schema.specs.declared.Kind.{Kind}
use Rattle.schema.specs.declared.Kind.TheVariants as kind
use Rattle.schema.specs.declared.Figure.{Figure}
use Rattle.schema.specs.declared.Figure.TheVariants.{Exact, Flag}
use Rattle.schema.specs.declared.Held.TheVariants as held
use Rattle.schema.specs.declared.Place.{Place}
use Rattle.schema.specs.declared.Place.TheVariants as place
use Rattle.schema.specs.declared.Number.{Number}
use Rattle.schema.specs.declared.Number.TheVariants as number
use Rattle.schema.specs.declared.Slots.{Slots}
use Rattle.schema.specs.Schema.{added_in, row_from, held_of}
use Rattle.schema.specs.Slots.{no_slots, slots_of}
use Rattle.rpc.specs.Rpc.{SubOpts, RawMessage, ControlIHave, ControlIWant, ControlGraft, PeerInfo, ControlPrune}
use Rattle.rpc.specs.Rpc.{ControlIDontWant, ControlMessage, Rpc}
use Rattle.rpc.specs.Grammar.{numbers_in, bytes_in, last, nonzero, Pairs, no_pairs, ◌paired◌, IsSubOpts, is-sub_opts}
use Rattle.rpc.specs.Grammar.{IsMessage, is-message, IsIHave, is-ihave, IsIWant, is-iwant, IsGraft, is-graft}
use Rattle.rpc.specs.Grammar.{IsPeerInfo, is-peer_info, IsPrune, is-prune, IsIDontWant, is-idontwant, idontwants_in}
use Rattle.rpc.specs.Grammar.{IsControl, is_control, join, joined, IsRpc, is-rpc}
use Rattle.rpc.specs.Encode.{optional, repeated, flag, encode_sub_opts, encode_iHave, encode_iWant, encode_graft}
use Rattle.rpc.specs.Encode.{encode_peer_info, encode_prune, encode_iDont_want, encode_control, encode_rpc, sign_prefix}
use Rattle.rpc.specs.Encode.{sign_bytes}
use Rattle.meaning.specs.ReadBack.{bytes_at, number_at}
use Rattle.meaning.specs.Entries.{put_bytes_lem}
use Rattle.meaning.specs.Last.{Feeds, FeedsNumber}
use Rattle.meaning.specs.Back.{sub_opts_topic, ihave-topic, graft-topic, prune-topic, peer_id_lem, peer_record}
use Rattle.meaning.specs.Back.{message-from, message_data, message-seqno, sub_opts_subscribe, prune-backoff, slot_value}
use Rattle.meaning.specs.Back.{number-value, whole_part, flat, any, joined-flat, rpc-control}
use Rattle.canon.specs.Canon.{in_order, placed, slot_in, figured, numbered, own_part, each_along, each_of, held_part}
use Rattle.canon.specs.Canon.{canon, entries_of, merged_of, body_part, canon_body, sign_of}
use Rattle.canon.specs.CanonLaws.{canon-fields}
use Rattle.canon.specs.Written.{added_part}
use Rattle.canon.specs.Shorter.{signed_fields, signed-shorter, repeated-append}

-- ---- a singular field
placed_at : (n : ℕ) (s : List ℕ) (p : Place) → placed n s p ≡ optional (bytes_field n) (bytes_at s 0 p)
unfolding placed
placed_at n s place.Absent = refl
placed_at n s (place.Present a e) = ap₂ (λ (x y : ℕ). bytes_field n (between s x y)) (sym (zero-add a))
    (sym (zero-add e))

numbered-at : (figure : Figure) (n : ℕ) (x : Number)
    → numbered figure n x ≡ optional (λ v. varint_field n (figured figure v)) (number_at x)
unfolding numbered
numbered-at figure n number.Absent = refl
numbered-at figure n (number.Present v) = refl

-- ---- repeated fields
each_list : (g : List ℕ → List ℕ) (n : ℕ) (s : List ℕ) (fs : List Field)
    → each_along g n s (whole fs) ≡ repeated g (bytes_in n (fieldEntries s fs))
each_list g n s [] = refl
each_list g n s (f ∷ fs) =
    let ds = bytes_in n (fieldEntries s fs) in
    let ih = each_list g n s fs in
    let pb = put_bytes_lem s n f ds in
    either (is_bytes n f)
    (λ t. ap₂ (λ (x : Bool) (l : List ℕ). cond x (g (value_in s f)) [] ++ l) t ih
    ∙ sym (ap (repeated g) (pb ∙ ap (λ (x : Bool). cond x (value_in s f ∷ ds) ds) t)))
    (λ t. ap₂ (λ (x : Bool) (l : List ℕ). cond x (g (value_in s f)) [] ++ l) t ih
    ∙ sym (ap (repeated g) (pb ∙ ap (λ (x : Bool). cond x (value_in s f ∷ ds) ds) t)))

-- of a body that the grammar has
each-body : (mode : Mode) (g : List ℕ → List ℕ) (n : ℕ) (s : List ℕ) (es : List Entry) → Body mode s es
    → each_of mode g n s ≡ repeated g (bytes_in n es)
each-body mode g n s es h =
    let w = body_walks mode s es h in
    ap (each_along g n s) w.walked ∙ each_list g n s w.fields ∙ ap (λ (l : List Entry). repeated g (bytes_in n l))
    w.entries

-- submessages that are changed to their encodings
each-pairs : {X : Type 0} {R : List ℕ → X → Type 0} (g : List ℕ → List ℕ) (f : X → List ℕ)
    → ((d : List ℕ) (x : X) → R d x → g d ≡ f x) → {ds : List (List ℕ)} {xs : List X} → Pairs R ds xs
    → repeated g ds ≡ repeated f xs
each-pairs g f same no_pairs = refl
each-pairs g f same (◌paired◌ {x = d} {y = x} p ps) =
    ap₂ (λ (y z : List ℕ). y ++ z) (same d x p) (each-pairs g f same ps)

-- those of the field n, whose canonical bytes are their encodings
module _ (mode : Mode) {X : Type 0} {R : List ℕ → X → Type 0} (j : Kind) (enc : X → List ℕ)
    (same : (d : List ℕ) (x : X) → R d x → canon mode j d ≡ enc x) where
  subs-written : (n : ℕ) (s : List ℕ) (es : List Entry) (xs : List X) → Body mode s es → Pairs R (bytes_in n es) xs
      → held_part mode (canon mode) n s (held.Anew j) ≡ repeated (λ x. bytes_field n (enc x)) xs
  unfolding held_part
  subs-written n s es xs g h =
      each-body mode (λ p. bytes_field n (canon mode j p)) n s es g
      ∙ each-pairs (λ p. bytes_field n (canon mode j p)) (λ x. bytes_field n (enc x))
      (λ d x r. ap (bytes_field n) (same d x r)) h

-- a slot, and the number
slot_part : (mode : Mode) (n : ℕ) (s : List ℕ) (k : Kind) (g : Slots → Place) (m : ℕ) (es : List Entry)
    → Body mode s es → Feeds k g m
    → bytes_at s 0 (g no_slots) ≡ None → placed n s (g (slots_of mode k s)) ≡ optional (bytes_field n) (last (bytes_in m es))
slot_part mode n s k g m es h feed z =
    let w = body_walks mode s es h in
    placed_at n s (g (slots_of mode k s))
    ∙ ap (optional (bytes_field n)) (slot_value mode s 0 s k g m w.fields es (whole_part s) feed w.walked
    w.entries z)

number-part : (mode : Mode) (figure : Figure) (n : ℕ) (s : List ℕ) (k : Kind) (m : ℕ) (es : List Entry)
    → Body mode s es → FeedsNumber k m
    → numbered figure n (slots_of mode k s).number
    ≡ optional (λ v. varint_field n (figured figure v)) (last (numbers_in m es))
number-part mode figure n s k m es h feed =
    let w = body_walks mode s es h in
    numbered-at figure n (slots_of mode k s).number
    ∙ ap (optional (λ v. varint_field n (figured figure v)))
    (number-value mode s k m w.fields es feed w.walked w.entries)

-- ---- each message
flag-value : (o : Option ℕ) → optional (λ v. varint_field 1 (figured Flag v)) o ≡ optional (λ b. varint_field 1 (flag b))
    (nonzero o)
flag-value None = refl
flag-value (Some v) = either (eqb v 0) (λ t. simp t) (λ t. simp t)

canon-sub_opts : (mode : Mode) (s : List ℕ) (x : SubOpts) → IsSubOpts mode s x
    → canon mode kind.SubOpts s ≡ encode_sub_opts x
unfolding own_part held_part slot_in encode_sub_opts
canon-sub_opts mode _ _ (is-sub_opts {s = s} {es = es} g u) =
    let a = number-part mode Flag 1 s kind.SubOpts 1 es g sub_opts_subscribe ∙ flag-value (last (numbers_in 1 es)) in
    let b = slot_part mode 2 s kind.SubOpts (λ t. t.first) 2 es g sub_opts_topic refl in
    canon-fields mode kind.SubOpts s ∙ simp (append-nil, a, b)

canon-graft : (mode : Mode) (s : List ℕ) (x : ControlGraft) → IsGraft mode s x
    → canon mode kind.ControlGraft s ≡ encode_graft x
unfolding own_part held_part slot_in encode_graft
canon-graft mode _ _ (is-graft {s = s} {es = es} g u) =
    let a = slot_part mode 1 s kind.ControlGraft (λ t. t.first) 1 es g graft-topic refl in
    canon-fields mode kind.ControlGraft s ∙ simp (append-nil, a)

canon-peer_info : (mode : Mode) (s : List ℕ) (x : PeerInfo) → IsPeerInfo mode s x
    → canon mode kind.PeerInfo s ≡ encode_peer_info x
unfolding own_part held_part slot_in encode_peer_info
canon-peer_info mode _ _ (is-peer_info {s = s} {es = es} g) =
    let a = slot_part mode 1 s kind.PeerInfo (λ t. t.first) 1 es g peer_id_lem refl in
    let b = slot_part mode 2 s kind.PeerInfo (λ t. t.second) 2 es g peer_record refl in
    canon-fields mode kind.PeerInfo s ∙ simp (append-nil, a, b)

canon-ihave : (mode : Mode) (s : List ℕ) (x : ControlIHave) → IsIHave mode s x
    → canon mode kind.ControlIHave s ≡ encode_iHave x
unfolding own_part held_part slot_in encode_iHave
canon-ihave mode _ _ (is-ihave {s = s} {es = es} g u) =
    let a = slot_part mode 1 s kind.ControlIHave (λ t. t.first) 1 es g ihave-topic refl in
    let b = each-body mode (bytes_field 2) 2 s es g in
    canon-fields mode kind.ControlIHave s ∙ simp (append-nil, a, b)

canon-iwant : (mode : Mode) (s : List ℕ) (x : ControlIWant) → IsIWant mode s x
    → canon mode kind.ControlIWant s ≡ encode_iWant x
unfolding own_part held_part slot_in encode_iWant
canon-iwant mode _ _ (is-iwant {s = s} {es = es} g) =
    let a = each-body mode (bytes_field 1) 1 s es g in
    canon-fields mode kind.ControlIWant s ∙ simp (append-nil, a)

canon-prune : (mode : Mode) (s : List ℕ) (x : ControlPrune) → IsPrune mode s x
    → canon mode kind.ControlPrune s ≡ encode_prune x
unfolding own_part held_part slot_in encode_prune
canon-prune mode _ _ (is-prune {s = s} {es = es} {ps = ps} g u h) =
    let a = slot_part mode 1 s kind.ControlPrune (λ t. t.first) 1 es g prune-topic refl in
    let b = subs-written mode kind.PeerInfo encode_peer_info (canon-peer_info mode) 2 s es ps g h in
    let c = number-part mode Exact 3 s kind.ControlPrune 3 es g prune-backoff in
    canon-fields mode kind.ControlPrune s ∙ simp (append-nil, a, b, c)

canon-idontwant : (mode : Mode) (s : List ℕ) (x : ControlIDontWant) → IsIDontWant mode s x
    → canon mode kind.ControlIDontWant s ≡ encode_iDont_want x
unfolding own_part held_part slot_in encode_iDont_want
canon-idontwant mode _ _ (is-idontwant {s = s} {es = es} g) =
    let a = each-body mode (bytes_field 1) 1 s es g in
    canon-fields mode kind.ControlIDontWant s ∙ simp (append-nil, a)

-- ---- a control's entries
added_of : (mode : Mode) (e : Edition) (s : List ℕ) (es : List Entry) (ds : List ControlIDontWant) → Body mode s es
    → Pairs (IsIDontWant mode) (idontwants_in e es) ds
    → added_part mode e s ≡ repeated (λ d. bytes_field 5 (encode_iDont_want d)) ds
unfolding added_part
added_of mode V11 s es _ g no_pairs = refl
added_of mode V12 s es ds g h =
    subs-written mode kind.ControlIDontWant encode_iDont_want (canon-idontwant mode) 5 s es ds g h

-- the entries n of a control that are of a kind
abbrev part_of : Mode → ℕ → Kind → List ℕ → List ℕ
part_of mode n k p = held_part mode (canon mode) n p (held.Anew k)

-- as the grammar has them
record Parts (d : Dialect) (p : List ℕ) (c : ControlMessage) : Type 0 where
  ihaves : part_of d.mode 1 kind.ControlIHave p ≡ repeated (λ h. bytes_field 1 (encode_iHave h)) c.ihave
  iwants : part_of d.mode 2 kind.ControlIWant p ≡ repeated (λ w. bytes_field 2 (encode_iWant w)) c.iwant
  grafts : part_of d.mode 3 kind.ControlGraft p ≡ repeated (λ g. bytes_field 3 (encode_graft g)) c.graft
  prunes : part_of d.mode 4 kind.ControlPrune p ≡ repeated (λ p. bytes_field 4 (encode_prune p)) c.prune
  added : added_part d.mode d.edition p ≡ repeated (λ x. bytes_field 5 (encode_iDont_want x)) c.idontwant

parts-of : (d : Dialect) (p : List ℕ) (c : ControlMessage) → IsControl d p c → Parts d p c
parts-of d _ _ (is_control {s = s} {es = es} {hs = hs} {ws = ws} {gs = gs} {ps = ps} {ds = ds} g h1 h2 h3 h4 h5) =
    record {
      ihaves = subs-written d.mode kind.ControlIHave encode_iHave (canon-ihave d.mode) 1 s es hs g h1;
      iwants = subs-written d.mode kind.ControlIWant encode_iWant (canon-iwant d.mode) 2 s es ws g h2;
      grafts = subs-written d.mode kind.ControlGraft encode_graft (canon-graft d.mode) 3 s es gs g h3;
      prunes = subs-written d.mode kind.ControlPrune encode_prune (canon-prune d.mode) 4 s es ps g h4;
      added = added_of d.mode d.edition s es ds g h5;
    }

-- the entries of the joined control: f writes one of those that `get` takes out of a control, and `part` those of a
-- control's bytes
flat-parts : {X : Type 0} {d : Dialect} (part : List ℕ → List ℕ) (f : X → List ℕ) (get : ControlMessage → List X)
    → get (flat []) ≡ [] → ((b c : ControlMessage) → get (join b c) ≡ get b ++ get c)
    → ((p : List ℕ) (c : ControlMessage) → IsControl d p c → part p ≡ repeated f (get c))
    → {ds : List (List ℕ)} {cs : List ControlMessage} → Pairs (IsControl d) ds cs
    → repeated part ds ≡ repeated f (get (flat cs))
flat-parts part f get empty joins same no_pairs = ap (repeated f) (sym empty)
flat-parts part f get empty joins same (◌paired◌ {x = d} {y = c} {ys = cs} p ps) =
    ap₂ (λ (x y : List ℕ). x ++ y) (same d c p) (flat-parts part f get empty joins same ps)
    ∙ sym (repeated-append f (get c) (get (flat cs)))
    ∙ ap (repeated f) (sym (joins c (flat cs)))

-- what is written of the fields from 5 on
each_none : (n : ℕ) (s : List ℕ) (w : Fields) → each_along (λ p. []) n s w ≡ []
each_none n s end = refl
each_none n s (refused why) = refl
each_none n s (f then w) = either (is_bytes n f) (λ t. simp t (each_none n s w)) (λ t. simp t (each_none n s w))

pub added-order : (mode : Mode) (e : Edition) (s : List ℕ) (part : ℕ → List ℕ)
    → part 5 ≡ each_of mode (λ p. held_part mode (canon mode) 5 p (held_of (row_from 5 (added_in e) 5))) 3 s
    → in_order part 5 (length (added_in e)) ≡ each_of mode (added_part mode e) 3 s
unfolding added_part
added-order mode V11 s part h = sym (each_none 3 s (fields_of mode s))
added-order mode V12 s part h = append-nil (part 5) ∙ h

merged : (d : Dialect) (s : List ℕ) (es : List Entry) (cs : List ControlMessage) → Body d.mode s es
    → Pairs (IsControl d) (bytes_in 3 es) cs
    → merged_of d.mode (kind.ControlMessage d.edition) 3 s ≡ encode_control (flat cs)
unfolding merged_of entries_of encode_control
merged d s es cs g h =
    let e1 = each-body d.mode (part_of d.mode 1 kind.ControlIHave) 3 s es g
    ∙ flat-parts (part_of d.mode 1 kind.ControlIHave) (λ h. bytes_field 1 (encode_iHave h))
    (λ c. c.ihave) refl (λ b c. refl) (λ p c i. (parts-of d p c i).ihaves) h in
    let e2 = each-body d.mode (part_of d.mode 2 kind.ControlIWant) 3 s es g
    ∙ flat-parts (part_of d.mode 2 kind.ControlIWant) (λ w. bytes_field 2 (encode_iWant w))
    (λ c. c.iwant) refl (λ b c. refl) (λ p c i. (parts-of d p c i).iwants) h in
    let e3 = each-body d.mode (part_of d.mode 3 kind.ControlGraft) 3 s es g
    ∙ flat-parts (part_of d.mode 3 kind.ControlGraft) (λ g. bytes_field 3 (encode_graft g))
    (λ c. c.graft) refl (λ b c. refl) (λ p c i. (parts-of d p c i).grafts) h in
    let e4 = each-body d.mode (part_of d.mode 4 kind.ControlPrune) 3 s es g
    ∙ flat-parts (part_of d.mode 4 kind.ControlPrune) (λ p. bytes_field 4 (encode_prune p))
    (λ c. c.prune) refl (λ b c. refl) (λ p c i. (parts-of d p c i).prunes) h in
    let e5 = added-order d.mode d.edition s (entries_of d.mode (kind.ControlMessage d.edition) 3 s) refl
    ∙ each-body d.mode (added_part d.mode d.edition) 3 s es g
    ∙ flat-parts (added_part d.mode d.edition) (λ x. bytes_field 5 (encode_iDont_want x))
    (λ c. c.idontwant) refl (λ b c. refl) (λ p c i. (parts-of d p c i).added) h in
    ap₂ ◌++◌ e1 (ap₂ ◌++◌ e2 (ap₂ ◌++◌ e3 (ap₂ ◌++◌ e4 e5)))

-- ---- the body
control-written : (cs : List ControlMessage) → cond (any cs) (bytes_field 3 (encode_control (flat cs))) [] ≡ optional
    (λ c. bytes_field 3 (encode_control c)) (joined cs)
control-written cs = of-any (any cs) (joined cs) (joined-flat cs)
  where
    of-any : (t : Bool) (o : Option ControlMessage) → cond t (Some (flat cs)) None ≡ o
        → cond t (bytes_field 3 (encode_control (flat cs))) [] ≡ optional (λ c. bytes_field 3 (encode_control c)) o
    of-any true o e = ap (optional (λ c. bytes_field 3 (encode_control c))) e
    of-any false o e = ap (optional (λ c. bytes_field 3 (encode_control c))) e

raw_of_lem : (mode : Mode) (d : List ℕ) (m : RawMessage) → IsMessage mode d m → bytes_field 2 d ≡ bytes_field 2 m.raw
raw_of_lem mode _ _ (is-message g u) = refl

-- what the writer makes of a body is the encoding of the RPC that it means
pub canon-written : {d : Dialect} {s : List ℕ} {x : Rpc} → IsRpc d s x → canon_body d s ≡ encode_rpc x
unfolding canon_body body_part held_part encode_rpc
canon-written {d} (is-rpc {s = s} {es = es} {ss = ss} {ms = ms} {cs = cs} g h1 h2 h3) =
    let a = subs-written d.mode kind.SubOpts encode_sub_opts (canon-sub_opts d.mode) 1 s es ss g h1 in
    let b = each-body d.mode (bytes_field 2) 2 s es g
    ∙ each-pairs (bytes_field 2) (λ m. bytes_field 2 m.raw) (raw_of_lem d.mode) h2 in
    let c = ap₂ (λ (t : Bool) (x : List ℕ). cond t (bytes_field 3 x) []) (rpc-control d s es cs g h3)
    (merged d s es cs g h3) ∙ control-written cs in
    ap₂ ◌++◌ a (ap₂ ◌++◌ b (append-nil _ ∙ c))

-- ---- the bytes that are signed
pub canon-message : (mode : Mode) (s : List ℕ) (es : List Entry) → Body mode s es
    → canon mode kind.RawMessage s ≡ signed_fields es
unfolding own_part held_part slot_in
canon-message mode s es g =
    let a = slot_part mode 1 s kind.RawMessage (λ t. t.first) 1 es g message-from refl in
    let b = slot_part mode 2 s kind.RawMessage (λ t. t.second) 2 es g message_data refl in
    let c = slot_part mode 3 s kind.RawMessage (λ t. t.third) 3 es g message-seqno refl in
    let d = each-body mode (bytes_field 4) 4 s es g in
    canon-fields mode kind.RawMessage s ∙ simp (append-nil, a, b, c, d)

-- sign bytes are those of the message that the bytes mean: they depend only on its from, data, seqno and topics
pub sign_written : (mode : Mode) {s : List ℕ} {m : RawMessage} → IsMessage mode s m → sign_of mode s ≡ sign_bytes m
unfolding sign_of sign_bytes
sign_written mode (is-message {s = s} {es = es} g u) = ap (λ (x : List ℕ). sign_prefix ++ x) (canon-message mode s es g)

-- and they are at most 14 more than the message
pub message-shorter : (mode : Mode) {s : List ℕ} {m : RawMessage} → IsMessage mode s m
    → length (canon mode kind.RawMessage s) ≤ length s
message-shorter mode (is-message {s = s} {es = es} g u) =
    subst (λ (x : List ℕ). length x ≤ length s) (sym (canon-message mode s es g)) (signed-shorter g)
