-- A body is accepted exactly where the grammar has it: for each kind of message, both ways.
use Rattle.std.specs.Prelude.{ℕ, ◌-◌, refl, cond, List, [], ◌∷◌, drop, eqb}
use Rattle.std.proofs.Common.{sym, subst, eqb-true}
use Rattle.basis.specs.declared.Mode.{Mode}
use Rattle.basis.specs.declared.Edition.{Edition}
use Rattle.basis.specs.declared.Edition.TheVariants.{V11, V12}
use Rattle.basis.specs.declared.Dialect.{Dialect}
use Rattle.basis.specs.Dialect.{spoken}
use Rattle.basis.specs.Cases.{either}
use Rattle.basis.specs.Bytes.{Bytes}
use Rattle.basis.specs.Lists.{drop-bytes, take-bytes}
use Rattle.utf8.specs.Grammar.{Utf8}
use Rattle.protobuf.specs.declared.Field.{Field}
use Rattle.protobuf.specs.Grammar.{Entry, Body}
use Rattle.protobuf.specs.Walk.{entries_of}
use Rattle.protobuf.specs.Exactly.{exactly, body_walks}
use Rattle.schema.specs.declared.Kind.{Kind}
use Rattle.schema.specs.declared.Kind.TheVariants as kind
use Rattle.schema.specs.declared.Role.{Role}
use Rattle.schema.specs.declared.Role.TheVariants.{Skip}
use Rattle.schema.specs.Schema.{added_in, row_from, is_varint, role_of}
use Rattle.rpc.specs.Rpc.{SubOpts, RawMessage, ControlIHave, ControlIWant, ControlGraft, PeerInfo, ControlPrune}
use Rattle.rpc.specs.Rpc.{ControlIDontWant, ControlMessage, Rpc}
use Rattle.rpc.specs.Grammar.{bytes_in, Each, none_left, ◌and◌, Pairs, no_pairs, ◌paired◌, IsSubOpts, is-sub_opts}
use Rattle.rpc.specs.Grammar.{IsMessage, is-message, IsIHave, is-ihave, IsIWant, is-iwant, IsGraft, is-graft}
use Rattle.rpc.specs.Grammar.{IsPeerInfo, is-peer_info, IsPrune, is-prune, IsIDontWant, is-idontwant, idontwants_in}
use Rattle.rpc.specs.Grammar.{IsControl, is_control, IsRpc, is-rpc}
use Rattle.protobuf.specs.Walk.{is_bytes, value_in}
use Rattle.meaning.specs.Entries.{put_bytes_lem}
use Rattle.meaning.specs.Refused.{Some, Meant}
use Rattle.meaning.specs.Good.{Accepted, GoodRole, Good, walked-good, good-walked, accepted_walks, each-put}

-- ---- lists of bytes
map_each : {P Q : List ℕ → Type 0} {ds : List (List ℕ)} → ((d : List ℕ) → P d → Q d) → Each P ds → Each Q ds
map_each f none_left = none_left
map_each f (p and ps) = f _ p and map_each f ps

zip_each : {P Q : List ℕ → Type 0} {ds : List (List ℕ)} → Each P ds → Each Q ds → Each (λ d. P d × Q d) ds
zip_each none_left none_left = none_left
zip_each (p and ps) (q and qs) = (p, q) and zip_each ps qs

all-each : {P : List ℕ → Type 0} (ds : List (List ℕ)) → ((d : List ℕ) → P d) → Each P ds
all-each [] f = none_left
all-each (d ∷ ds) f = f d and all-each ds f

-- what each means
pairs-each : {X : Type 0} {R : List ℕ → X → Type 0} {ds : List (List ℕ)} → Each (Some R) ds → (xs : List X)
    × Pairs R ds xs
pairs-each none_left = ([], no_pairs)
pairs-each (p and ps) = let r = pairs-each ps in (p.value ∷ r.0, p.means paired r.1)

each-pairs : {X : Type 0} {R : List ℕ → X → Type 0} {ds : List (List ℕ)} {xs : List X} → Pairs R ds xs
    → Each (Some R) ds
each-pairs no_pairs = none_left
each-pairs (p paired ps) = record { value = _; means = p } and each-pairs ps

-- the bytes in a field of bytes are bytes
bytes-each : (s : List ℕ) (fs : List Field) (m : ℕ) → Bytes s → Each Bytes (bytes_in m (entries_of s fs))
bytes-each s [] m b = none_left
bytes-each s (f ∷ fs) m b =
    subst (Each Bytes) (sym (put_bytes_lem s m f (bytes_in m (entries_of s fs))))
    (each-put Bytes (is_bytes m f) (value_in s f) (bytes_in m (entries_of s fs))
    (λ t. take-bytes (f.next - f.start) (drop f.start s) (drop-bytes f.start s b)) (bytes-each s fs m b))

-- ---- from acceptance: the body, and its good fields
record Read (mode : Mode) (k : Kind) (s : List ℕ) : Type 0 where
  entries : List Entry
  body : Body mode s entries
  good : Good mode k entries
  small : (m : ℕ) → Each Bytes (bytes_in m entries)

read : (mode : Mode) (k : Kind) (s : List ℕ) → Bytes s → Accepted mode k s → Read mode k s
read mode k s b a =
    let w = accepted_walks mode k s a in
    record {
      entries = entries_of s w.0;
      body = (exactly mode s (entries_of s w.0) b).0 (record { fields = w.0; walked = w.1; entries = refl });
      good = walked-good mode k s w.0 w.1 a;
      small = λ m. bytes-each s w.0 m b;
    }

-- and back
written : (mode : Mode) (k : Kind) (s : List ℕ) (es : List Entry) → Body mode s es → Good mode k es → Accepted mode k s
written mode k s es g h =
    let w = body_walks mode s es g in
    good-walked mode k s w.fields w.walked (subst (Good mode k) (sym w.entries) h)

-- a field of text, and of submessages
texts : (mode : Mode) (k : Kind) (s : List ℕ) (r : Read mode k s) (m : ℕ)
    → ((d : List ℕ) → GoodRole mode (role_of k m 2) d → Utf8 d)
    → Each Utf8 (bytes_in m r.entries)
texts mode k s r m f = map_each f (r.good m)

subs : (mode : Mode) (k j : Kind) (s : List ℕ) (r : Read mode k s) (m : ℕ) {X : Type 0} {R : List ℕ → X → Type 0}
    → ((d : List ℕ) → GoodRole mode (role_of k m 2) d → Accepted mode j d)
    → ((d : List ℕ) → Bytes d → Accepted mode j d → Some R d)
    → (xs : List X) × Pairs R (bytes_in m r.entries) xs
subs mode k j s r m f g = pairs-each (map_each (λ d p. g d p.1 (f d p.0)) (zip_each (r.good m) (r.small m)))

accepted-subs : (mode : Mode) {X : Type 0} {R : List ℕ → X → Type 0} {ds : List (List ℕ)} {xs : List X} (j : Kind)
    → ((d : List ℕ) → Some R d → Accepted mode j d) → Pairs R ds xs → Each (Accepted mode j) ds
accepted-subs mode j f ps = map_each f (each-pairs ps)

-- ---- each kind of message
sub_opts_good : (mode : Mode) (es : List Entry) → Each Utf8 (bytes_in 2 es) → Good mode kind.SubOpts es
unfolding role_of
sub_opts_good mode es t2 m =
    either (eqb m 2) (λ e2. let z = eqb-true m 2 e2 in rw z (map_each (λ d u. u) t2))
    (λ e2. all-each (bytes_in m es) (λ d. either (eqb m 1) (λ e1. simp (e1) tt) (λ e1. simp (e1, e2) tt)))

pub sub_opts_means : (mode : Mode) (s : List ℕ) → Bytes s → Accepted mode kind.SubOpts s → Some (IsSubOpts mode) s
unfolding role_of
sub_opts_means mode s b a =
    let r = read mode kind.SubOpts s b a in
    record { value = _; means = is-sub_opts r.body (texts mode kind.SubOpts s r 2 (λ d u. u)) }

sub_opts_written : (mode : Mode) {s : List ℕ} {v : SubOpts} → IsSubOpts mode s v → Accepted mode kind.SubOpts s
sub_opts_written mode (is-sub_opts {s = s} {es = es} g t2) = written mode kind.SubOpts s es g (sub_opts_good mode es t2)

pub sub_opts_accepted : (mode : Mode) (s : List ℕ) → Some (IsSubOpts mode) s → Accepted mode kind.SubOpts s
sub_opts_accepted mode s x = sub_opts_written mode x.means

message-good : (mode : Mode) (es : List Entry) → Each Utf8 (bytes_in 4 es) → Good mode kind.RawMessage es
unfolding role_of
message-good mode es t4 m =
    either (eqb m 1) (λ e1. all-each (bytes_in m es) (λ d. simp (e1) tt))
    (λ e1.
    either (eqb m 2) (λ e2. all-each (bytes_in m es) (λ d. simp (e1, e2) tt))
    (λ e2.
    either (eqb m 3) (λ e3. all-each (bytes_in m es) (λ d. simp (e1, e2, e3) tt))
    (λ e3.
    either (eqb m 4) (λ e4. let z = eqb-true m 4 e4 in rw z (map_each (λ d u. u) t4))
    (λ e4.
    either (eqb m 5) (λ e5. all-each (bytes_in m es) (λ d. simp (e1, e2, e3, e4, e5) tt))
    (λ e5.
    either (eqb m 6) (λ e6. all-each (bytes_in m es) (λ d. simp (e1, e2, e3, e4, e5, e6) tt))
    (λ e6. all-each (bytes_in m es) (λ d. simp (e1, e2, e3, e4, e5, e6) tt)))))))

pub message-means : (mode : Mode) (s : List ℕ) → Bytes s → Accepted mode kind.RawMessage s → Some (IsMessage mode) s
unfolding role_of
message-means mode s b a =
    let r = read mode kind.RawMessage s b a in
    record { value = _; means = is-message r.body (texts mode kind.RawMessage s r 4 (λ d u. u)) }

message-written : (mode : Mode) {s : List ℕ} {v : RawMessage} → IsMessage mode s v → Accepted mode kind.RawMessage s
message-written mode (is-message {s = s} {es = es} g t4) = written mode kind.RawMessage s es g (message-good mode es t4)

pub message-accepted : (mode : Mode) (s : List ℕ) → Some (IsMessage mode) s → Accepted mode kind.RawMessage s
message-accepted mode s x = message-written mode x.means

ihave-good : (mode : Mode) (es : List Entry) → Each Utf8 (bytes_in 1 es) → Good mode kind.ControlIHave es
unfolding role_of
ihave-good mode es t1 m =
    either (eqb m 1) (λ e1. let z = eqb-true m 1 e1 in rw z (map_each (λ d u. u) t1))
    (λ e1.
    either (eqb m 2) (λ e2. all-each (bytes_in m es) (λ d. simp (e1, e2) tt))
    (λ e2. all-each (bytes_in m es) (λ d. simp (e1, e2) tt)))

pub ihave-means : (mode : Mode) (s : List ℕ) → Bytes s → Accepted mode kind.ControlIHave s → Some (IsIHave mode) s
unfolding role_of
ihave-means mode s b a =
    let r = read mode kind.ControlIHave s b a in
    record { value = _; means = is-ihave r.body (texts mode kind.ControlIHave s r 1 (λ d u. u)) }

ihave-written : (mode : Mode) {s : List ℕ} {v : ControlIHave} → IsIHave mode s v → Accepted mode kind.ControlIHave s
ihave-written mode (is-ihave {s = s} {es = es} g t1) = written mode kind.ControlIHave s es g (ihave-good mode es t1)

pub ihave-accepted : (mode : Mode) (s : List ℕ) → Some (IsIHave mode) s → Accepted mode kind.ControlIHave s
ihave-accepted mode s x = ihave-written mode x.means

iwant-good : (mode : Mode) (es : List Entry) → Good mode kind.ControlIWant es
unfolding role_of
iwant-good mode es m =
    either (eqb m 1) (λ e1. all-each (bytes_in m es) (λ d. simp (e1) tt))
    (λ e1. all-each (bytes_in m es) (λ d. simp (e1) tt))

pub iwant-means : (mode : Mode) (s : List ℕ) → Bytes s → Accepted mode kind.ControlIWant s → Some (IsIWant mode) s
unfolding role_of
iwant-means mode s b a =
    let r = read mode kind.ControlIWant s b a in
    record { value = _; means = is-iwant r.body }

iwant-written : (mode : Mode) {s : List ℕ} {v : ControlIWant} → IsIWant mode s v → Accepted mode kind.ControlIWant s
iwant-written mode (is-iwant {s = s} {es = es} g) = written mode kind.ControlIWant s es g (iwant-good mode es)

pub iwant-accepted : (mode : Mode) (s : List ℕ) → Some (IsIWant mode) s → Accepted mode kind.ControlIWant s
iwant-accepted mode s x = iwant-written mode x.means

graft-good : (mode : Mode) (es : List Entry) → Each Utf8 (bytes_in 1 es) → Good mode kind.ControlGraft es
unfolding role_of
graft-good mode es t1 m =
    either (eqb m 1) (λ e1. let z = eqb-true m 1 e1 in rw z (map_each (λ d u. u) t1))
    (λ e1. all-each (bytes_in m es) (λ d. simp (e1) tt))

pub graft-means : (mode : Mode) (s : List ℕ) → Bytes s → Accepted mode kind.ControlGraft s → Some (IsGraft mode) s
unfolding role_of
graft-means mode s b a =
    let r = read mode kind.ControlGraft s b a in
    record { value = _; means = is-graft r.body (texts mode kind.ControlGraft s r 1 (λ d u. u)) }

graft-written : (mode : Mode) {s : List ℕ} {v : ControlGraft} → IsGraft mode s v → Accepted mode kind.ControlGraft s
graft-written mode (is-graft {s = s} {es = es} g t1) = written mode kind.ControlGraft s es g (graft-good mode es t1)

pub graft-accepted : (mode : Mode) (s : List ℕ) → Some (IsGraft mode) s → Accepted mode kind.ControlGraft s
graft-accepted mode s x = graft-written mode x.means

peer_info_good : (mode : Mode) (es : List Entry) → Good mode kind.PeerInfo es
unfolding role_of
peer_info_good mode es m =
    either (eqb m 1) (λ e1. all-each (bytes_in m es) (λ d. simp (e1) tt))
    (λ e1.
    either (eqb m 2) (λ e2. all-each (bytes_in m es) (λ d. simp (e1, e2) tt))
    (λ e2. all-each (bytes_in m es) (λ d. simp (e1, e2) tt)))

pub peer_info_means : (mode : Mode) (s : List ℕ) → Bytes s → Accepted mode kind.PeerInfo s → Some (IsPeerInfo mode) s
unfolding role_of
peer_info_means mode s b a =
    let r = read mode kind.PeerInfo s b a in
    record { value = _; means = is-peer_info r.body }

peer_info_written : (mode : Mode) {s : List ℕ} {v : PeerInfo} → IsPeerInfo mode s v → Accepted mode kind.PeerInfo s
peer_info_written mode (is-peer_info {s = s} {es = es} g) = written mode kind.PeerInfo s es g (peer_info_good mode es)

pub peer_info_accepted : (mode : Mode) (s : List ℕ) → Some (IsPeerInfo mode) s → Accepted mode kind.PeerInfo s
peer_info_accepted mode s x = peer_info_written mode x.means

prune-good : (mode : Mode) (es : List Entry) → Each Utf8 (bytes_in 1 es)
    → Each (Accepted mode kind.PeerInfo) (bytes_in 2 es)
    → Good mode kind.ControlPrune es
unfolding role_of
prune-good mode es t1 p2 m =
    either (eqb m 1) (λ e1. let z = eqb-true m 1 e1 in rw z (map_each (λ d u. u) t1))
    (λ e1.
    either (eqb m 2) (λ e2. let z = eqb-true m 2 e2 in rw z (map_each (λ d u. u) p2))
    (λ e2. all-each (bytes_in m es) (λ d. either (eqb m 3) (λ e3. simp (e1, e2, e3) tt) (λ e3. simp (e1, e2, e3) tt))))

pub prune-means : (mode : Mode) (s : List ℕ) → Bytes s → Accepted mode kind.ControlPrune s → Some (IsPrune mode) s
unfolding role_of
prune-means mode s b a =
    let r = read mode kind.ControlPrune s b a in
    let x0 = subs mode kind.ControlPrune kind.PeerInfo s r 2 {R = IsPeerInfo mode} (λ d u. u) (peer_info_means mode) in
    record { value = _; means = is-prune r.body (texts mode kind.ControlPrune s r 1 (λ d u. u)) x0.1 }

prune-written : (mode : Mode) {s : List ℕ} {v : ControlPrune} → IsPrune mode s v → Accepted mode kind.ControlPrune s
prune-written mode (is-prune {s = s} {es = es} g t1 p2) =
    written mode kind.ControlPrune s es g (prune-good mode es t1
    (accepted-subs mode kind.PeerInfo (peer_info_accepted mode) p2))

pub prune-accepted : (mode : Mode) (s : List ℕ) → Some (IsPrune mode) s → Accepted mode kind.ControlPrune s
prune-accepted mode s x = prune-written mode x.means

idontwant-good : (mode : Mode) (es : List Entry) → Good mode kind.ControlIDontWant es
unfolding role_of
idontwant-good mode es m =
    either (eqb m 1) (λ e1. all-each (bytes_in m es) (λ d. simp (e1) tt))
    (λ e1. all-each (bytes_in m es) (λ d. simp (e1) tt))

pub idontwant-means : (mode : Mode) (s : List ℕ) → Bytes s → Accepted mode kind.ControlIDontWant s
    → Some (IsIDontWant mode) s
unfolding role_of
idontwant-means mode s b a =
    let r = read mode kind.ControlIDontWant s b a in
    record { value = _; means = is-idontwant r.body }

idontwant-written : (mode : Mode) {s : List ℕ} {v : ControlIDontWant} → IsIDontWant mode s v
    → Accepted mode kind.ControlIDontWant s
idontwant-written mode (is-idontwant {s = s} {es = es} g) = written mode kind.ControlIDontWant s es g
    (idontwant-good mode es)

pub idontwant-accepted : (mode : Mode) (s : List ℕ) → Some (IsIDontWant mode) s → Accepted mode kind.ControlIDontWant s
idontwant-accepted mode s x = idontwant-written mode x.means

-- what an edition adds to a control: the role of a length-delimited field from 5 on
abbrev added_role : Edition → ℕ → Role
added_role e m = cond (is_varint (row_from 5 (added_in e) m)) Skip (row_from 5 (added_in e) m)

added-good : (mode : Mode) (e : Edition) (es : List Entry)
    → Each (Accepted mode kind.ControlIDontWant) (idontwants_in e es)
    → (m : ℕ) → Each (GoodRole mode (added_role e m)) (bytes_in m es)
added-good mode V11 es p m = all-each (bytes_in m es) (λ d. tt)
added-good mode V12 es p m =
    either (eqb m 5) (λ e5. let z = eqb-true m 5 e5 in rw z (map_each (λ d u. u) p))
    (λ e5. all-each (bytes_in m es) (λ d. simp e5 tt))

added-means : (mode : Mode) (e : Edition) (es : List Entry)
    → Each (λ d. GoodRole mode (added_role e 5) d × Bytes d) (bytes_in 5 es)
    → (ds : List ControlIDontWant) × Pairs (IsIDontWant mode) (idontwants_in e es) ds
added-means mode V11 es p = ([], no_pairs)
added-means mode V12 es p = pairs-each (map_each (λ d q. idontwant-means mode d q.1 q.0) p)

control-good : (d : Dialect) (es : List Entry) → Each (Accepted d.mode kind.ControlIHave) (bytes_in 1 es)
    → Each (Accepted d.mode kind.ControlIWant) (bytes_in 2 es)
    → Each (Accepted d.mode kind.ControlGraft) (bytes_in 3 es)
    → Each (Accepted d.mode kind.ControlPrune) (bytes_in 4 es)
    → Each (Accepted d.mode kind.ControlIDontWant) (idontwants_in d.edition es)
    → Good d.mode (kind.ControlMessage d.edition) es
unfolding role_of
control-good d es p1 p2 p3 p4 p5 m =
    either (eqb m 1) (λ e1. let z = eqb-true m 1 e1 in rw z (map_each (λ d u. u) p1))
    (λ e1.
    either (eqb m 2) (λ e2. let z = eqb-true m 2 e2 in rw z (map_each (λ d u. u) p2))
    (λ e2.
    either (eqb m 3) (λ e3. let z = eqb-true m 3 e3 in rw z (map_each (λ d u. u) p3))
    (λ e3.
    either (eqb m 4) (λ e4. let z = eqb-true m 4 e4 in rw z (map_each (λ d u. u) p4))
    (λ e4. simp (e1, e2, e3, e4) (added-good d.mode d.edition es p5 m)))))

pub control-means : (d : Dialect) (s : List ℕ) → Bytes s → Accepted d.mode (kind.ControlMessage d.edition) s
    → Some (IsControl d) s
unfolding role_of
control-means d s b a =
    let k = kind.ControlMessage d.edition in
    let r = read d.mode k s b a in
    let x0 = subs d.mode k kind.ControlIHave s r 1 {R = IsIHave d.mode} (λ d u. u) (ihave-means d.mode) in
    let x1 = subs d.mode k kind.ControlIWant s r 2 {R = IsIWant d.mode} (λ d u. u) (iwant-means d.mode) in
    let x2 = subs d.mode k kind.ControlGraft s r 3 {R = IsGraft d.mode} (λ d u. u) (graft-means d.mode) in
    let x3 = subs d.mode k kind.ControlPrune s r 4 {R = IsPrune d.mode} (λ d u. u) (prune-means d.mode) in
    let x4 = added-means d.mode d.edition r.entries (zip_each (r.good 5) (r.small 5)) in
    record { value = _; means = is_control r.body x0.1 x1.1 x2.1 x3.1 x4.1 }

control-written : {d : Dialect} {s : List ℕ} {v : ControlMessage} → IsControl d s v
    → Accepted d.mode (kind.ControlMessage d.edition) s
control-written {d} (is_control {s = s} {es = es} g p1 p2 p3 p4 p5) =
    written d.mode (kind.ControlMessage d.edition) s es g
    (control-good d es (accepted-subs d.mode kind.ControlIHave (ihave-accepted d.mode) p1)
    (accepted-subs d.mode kind.ControlIWant (iwant-accepted d.mode) p2)
    (accepted-subs d.mode kind.ControlGraft (graft-accepted d.mode) p3)
    (accepted-subs d.mode kind.ControlPrune (prune-accepted d.mode) p4)
    (accepted-subs d.mode kind.ControlIDontWant (idontwant-accepted d.mode) p5))

pub control-accepted : (d : Dialect) (s : List ℕ) → Some (IsControl d) s
    → Accepted d.mode (kind.ControlMessage d.edition) s
control-accepted d s x = control-written x.means

rpc-good : (d : Dialect) (es : List Entry) → Each (Accepted d.mode kind.SubOpts) (bytes_in 1 es)
    → Each (Accepted d.mode kind.RawMessage) (bytes_in 2 es)
    → Each (Accepted d.mode (kind.ControlMessage d.edition)) (bytes_in 3 es)
    → Good d.mode (kind.Rpc d.edition) es
unfolding role_of
rpc-good d es p1 p2 p3 m =
    either (eqb m 1) (λ e1. let z = eqb-true m 1 e1 in rw z (map_each (λ d u. u) p1))
    (λ e1.
    either (eqb m 2) (λ e2. let z = eqb-true m 2 e2 in rw z (map_each (λ d u. u) p2))
    (λ e2.
    either (eqb m 3) (λ e3. let z = eqb-true m 3 e3 in rw z (map_each (λ d u. u) p3))
    (λ e3. all-each (bytes_in m es) (λ d. simp (e1, e2, e3) tt))))

pub rpc-means : (d : Dialect) (s : List ℕ) → Bytes s → Accepted d.mode (kind.Rpc d.edition) s → Some (IsRpc d) s
unfolding role_of
rpc-means d s b a =
    let k = kind.Rpc d.edition in
    let r = read d.mode k s b a in
    let x0 = subs d.mode k kind.SubOpts s r 1 {R = IsSubOpts d.mode} (λ d u. u) (sub_opts_means d.mode) in
    let x1 = subs d.mode k kind.RawMessage s r 2 {R = IsMessage d.mode} (λ d u. u) (message-means d.mode) in
    let x2 = subs d.mode k (kind.ControlMessage d.edition) s r 3 {R = IsControl d} (λ d u. u) (control-means d) in
    record { value = _; means = is-rpc r.body x0.1 x1.1 x2.1 }

rpc-written : {d : Dialect} {s : List ℕ} {v : Rpc} → IsRpc d s v → Accepted d.mode (kind.Rpc d.edition) s
rpc-written {d} (is-rpc {s = s} {es = es} g p1 p2 p3) =
    written d.mode (kind.Rpc d.edition) s es g
    (rpc-good d es (accepted-subs d.mode kind.SubOpts (sub_opts_accepted d.mode) p1)
    (accepted-subs d.mode kind.RawMessage (message-accepted d.mode) p2)
    (accepted-subs d.mode (kind.ControlMessage d.edition) (control-accepted d) p3))

pub rpc-accepted : (d : Dialect) (s : List ℕ) → Some (IsRpc d) s → Accepted d.mode (kind.Rpc d.edition) s
rpc-accepted d s x = rpc-written x.means

-- the kinds of record that are no messages
topic-good : (mode : Mode) (es : List Entry) → Good mode kind.Topic es
unfolding role_of
topic-good mode es m = all-each (bytes_in m es) (λ d. tt)

message_id-good : (mode : Mode) (es : List Entry) → Good mode kind.MessageId es
unfolding role_of
message_id-good mode es m = all-each (bytes_in m es) (λ d. tt)

-- ---- a message of any kind is accepted exactly where it means one
pub meant : (mode : Mode) (k : Kind) (s : List ℕ) → Bytes s → Accepted mode k s → Meant mode k s
meant mode (kind.Rpc e) = rpc-means (spoken mode e)
meant mode kind.SubOpts = sub_opts_means mode
meant mode kind.RawMessage = message-means mode
meant mode kind.Topic = λ s b a. let r = read mode kind.Topic s b a in record { value = r.entries; means = r.body }
meant mode (kind.ControlMessage e) = control-means (spoken mode e)
meant mode kind.ControlIHave = ihave-means mode
meant mode kind.ControlIWant = iwant-means mode
meant mode kind.MessageId = λ s b a. let r = read mode kind.MessageId s b a in
    record { value = r.entries; means = r.body }
meant mode kind.ControlGraft = graft-means mode
meant mode kind.ControlPrune = prune-means mode
meant mode kind.PeerInfo = peer_info_means mode
meant mode kind.ControlIDontWant = idontwant-means mode

pub meant-accepted : (mode : Mode) (k : Kind) (s : List ℕ) → Meant mode k s → Accepted mode k s
meant-accepted mode (kind.Rpc e) = rpc-accepted (spoken mode e)
meant-accepted mode kind.SubOpts = sub_opts_accepted mode
meant-accepted mode kind.RawMessage = message-accepted mode
meant-accepted mode kind.Topic = λ s x. written mode kind.Topic s x.value x.means (topic-good mode x.value)
meant-accepted mode (kind.ControlMessage e) = control-accepted (spoken mode e)
meant-accepted mode kind.ControlIHave = ihave-accepted mode
meant-accepted mode kind.ControlIWant = iwant-accepted mode
meant-accepted mode kind.MessageId = λ s x. written mode kind.MessageId s x.value x.means
    (message_id-good mode x.value)
meant-accepted mode kind.ControlGraft = graft-accepted mode
meant-accepted mode kind.ControlPrune = prune-accepted mode
meant-accepted mode kind.PeerInfo = peer_info_accepted mode
meant-accepted mode kind.ControlIDontWant = idontwant-accepted mode
