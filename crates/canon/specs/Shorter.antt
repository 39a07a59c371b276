-- The canonical bytes of an RPC are never longer than a body that means it.
use Rattle.std.specs.Prelude.{Option, Some, None, ℕ, ◌+◌, ◌≤◌, ◌≡◌, refl, not, List, [], ◌∷◌, ◌++◌, length, eqb}
use Rattle.std.proofs.Common.{sym, ap, ◌∙◌, append_assoc, arith, length-append}
use Rattle.std.proofs.lemmas.Bool.{eqb-false}
use Rattle.basis.specs.declared.Mode.{Mode}
use Rattle.basis.specs.declared.Edition.{Edition}
use Rattle.basis.specs.declared.Edition.TheVariants.{V11, V12}
use Rattle.basis.specs.declared.Dialect.{Dialect}
use Rattle.basis.specs.Cases.{either}
use Rattle.peer_id.specs.Uvarint.{uvarint}
use Rattle.protobuf.specs.Grammar.{Entry, BodyIn}
use Rattle.protobuf.specs.Encode.{varint_field, bytes_field}
use Rattle.protobuf.specs.EncodeLaws.{bytes_field-length}
use Rattle.rpc.specs.Rpc.{SubOpts, RawMessage, ControlIHave, ControlIWant, ControlGraft, PeerInfo, ControlPrune}
use Rattle.rpc.specs.Rpc.{ControlIDontWant, ControlMessage, Rpc}
use Rattle.rpc.specs.Grammar.{numbers_in, bytes_in, last, nonzero, IsSubOpts, is-sub_opts, IsMessage, is-message, IsIHave}
use Rattle.rpc.specs.Grammar.{is-ihave, IsIWant, is-iwant, IsGraft, is-graft, IsPeerInfo, is-peer_info, IsPrune}
use Rattle.rpc.specs.Grammar.{is-prune, IsIDontWant, is-idontwant, idontwants_in, Pairs, no_pairs}
use Rattle.rpc.specs.Grammar.{IsControl, is_control, join, join_to, joined, IsRpc, is-rpc}
use Rattle.rpc.specs.Encode.{optional, repeated, flag, encode_sub_opts, encode_iHave, encode_iWant, encode_graft}
use Rattle.rpc.specs.Encode.{encode_peer_info, encode_prune, encode_iDont_want, encode_control, encode_rpc}
use Rattle.canon.specs.Lengths.{uvarint-sum, bytes_length, fields_fit, last-bytes, last-numbers, all-bytes}
use Rattle.canon.specs.Lengths.{all-subs}

-- ---- each message
abbrev one_if_some : ℕ → ℕ
one_if_some v = flag (not (eqb v 0))

one-small : (v : ℕ) → one_if_some v ≤ v
one-small v = either (eqb v 0) (λ t. simp t (omega arith)) (λ t. let z = eqb-false v 0 t in simp t (omega arith))

flag-nonzero : (o : Option ℕ) → optional (λ b. varint_field 1 (flag b)) (nonzero o) ≡ optional
    (λ v. varint_field 1 (one_if_some v)) o
flag-nonzero None = refl
flag-nonzero (Some v) = refl

pub sub_opts_shorter : (mode : Mode) (s : List ℕ) (x : SubOpts) → IsSubOpts mode s x
    → length (encode_sub_opts x) ≤ length s
unfolding encode_sub_opts
sub_opts_shorter mode _ _ (is-sub_opts {s = s} {es = es} g u) =
    let a = fields_fit 2 g in
    let b = last-numbers 1 one_if_some one-small (numbers_in 1 es) in
    let c = last-bytes 2 (bytes_in 2 es) in
    let n = ap length (flag-nonzero (last (numbers_in 1 es))) in
    let l = length-append (optional (λ b. varint_field 1 (flag b)) (nonzero (last (numbers_in 1 es))))
    (optional (bytes_field 2) (last (bytes_in 2 es))) in
    omega arith

pub ihave-shorter : (mode : Mode) (s : List ℕ) (x : ControlIHave) → IsIHave mode s x → length (encode_iHave x) ≤ length s
unfolding encode_iHave
ihave-shorter mode _ _ (is-ihave {s = s} {es = es} g u) =
    let a = fields_fit 2 g in
    let b = last-bytes 1 (bytes_in 1 es) in
    let c = all-bytes 2 (bytes_in 2 es) in
    let l = length-append (optional (bytes_field 1) (last (bytes_in 1 es))) (repeated (bytes_field 2) (bytes_in 2 es)) in
    omega arith

pub iwant-shorter : (mode : Mode) (s : List ℕ) (x : ControlIWant) → IsIWant mode s x → length (encode_iWant x) ≤ length s
unfolding encode_iWant
iwant-shorter mode _ _ (is-iwant {s = s} {es = es} g) = let a = fields_fit 1 g in let c = all-bytes 1 (bytes_in 1 es) in
    omega arith

pub graft-shorter : (mode : Mode) (s : List ℕ) (x : ControlGraft) → IsGraft mode s x → length (encode_graft x) ≤ length s
unfolding encode_graft
graft-shorter mode _ _ (is-graft {s = s} {es = es} g u) =
    let a = fields_fit 1 g in let b = last-bytes 1 (bytes_in 1 es) in
    omega arith

pub peer_info_shorter : (mode : Mode) (s : List ℕ) (x : PeerInfo) → IsPeerInfo mode s x
    → length (encode_peer_info x) ≤ length s
unfolding encode_peer_info
peer_info_shorter mode _ _ (is-peer_info {s = s} {es = es} g) =
    let a = fields_fit 2 g in
    let b = last-bytes 1 (bytes_in 1 es) in
    let c = last-bytes 2 (bytes_in 2 es) in
    let l = length-append (optional (bytes_field 1) (last (bytes_in 1 es)))
    (optional (bytes_field 2) (last (bytes_in 2 es))) in
    omega arith

pub prune-shorter : (mode : Mode) (s : List ℕ) (x : ControlPrune) → IsPrune mode s x → length (encode_prune x) ≤ length s
unfolding encode_prune
prune-shorter mode _ _ (is-prune {s = s} {es = es} {ps = ps} g u h) =
    let a = fields_fit 3 g in
    let b = last-bytes 1 (bytes_in 1 es) in
    let c = all-subs 2 encode_peer_info (peer_info_shorter mode) h in
    let d = last-numbers 3 (λ v. v) (λ v. omega arith) (numbers_in 3 es) in
    let r = repeated (λ p. bytes_field 2 (encode_peer_info p)) ps in
    let n = optional (varint_field 3) (last (numbers_in 3 es)) in
    let k = length-append (optional (bytes_field 1) (last (bytes_in 1 es))) (r ++ n) in
    let l = length-append r n in
    omega arith

pub idontwant-shorter : (mode : Mode) (s : List ℕ) (x : ControlIDontWant) → IsIDontWant mode s x
    → length (encode_iDont_want x) ≤ length s
unfolding encode_iDont_want
idontwant-shorter mode _ _ (is-idontwant {s = s} {es = es} g) =
    let a = fields_fit 1 g in let c = all-bytes 1 (bytes_in 1 es) in
    omega arith

-- the entries that an edition adds
added-shorter : (mode : Mode) {ds : List ControlIDontWant} (e : Edition) (es : List Entry)
    → Pairs (IsIDontWant mode) (idontwants_in e es) ds
    → length (repeated (λ d. bytes_field 5 (encode_iDont_want d)) ds) ≤ bytes_length 5 (bytes_in 5 es)
added-shorter mode V11 es no_pairs = omega arith
added-shorter mode V12 es h = all-subs 5 encode_iDont_want (idontwant-shorter mode) h

control-length : (x : ControlMessage)
    → length (encode_control x) ≡ length (repeated (λ h. bytes_field 1 (encode_iHave h)) x.ihave) + length
    (repeated (λ w. bytes_field 2 (encode_iWant w)) x.iwant) + length
    (repeated (λ g. bytes_field 3 (encode_graft g)) x.graft) + length
    (repeated (λ p. bytes_field 4 (encode_prune p)) x.prune) + length
    (repeated (λ d. bytes_field 5 (encode_iDont_want d)) x.idontwant)
unfolding encode_control
control-length x =
    let a = repeated (λ h. bytes_field 1 (encode_iHave h)) x.ihave in
    let b = repeated (λ w. bytes_field 2 (encode_iWant w)) x.iwant in
    let c = repeated (λ g. bytes_field 3 (encode_graft g)) x.graft in
    let d = repeated (λ p. bytes_field 4 (encode_prune p)) x.prune in
    let e = repeated (λ d. bytes_field 5 (encode_iDont_want d)) x.idontwant in
    let k = length-append a (b ++ (c ++ (d ++ e))) in
    let l = length-append b (c ++ (d ++ e)) in
    let m = length-append c (d ++ e) in
    let n = length-append d e in
    omega arith

pub control-shorter : (d : Dialect) (s : List ℕ) (x : ControlMessage) → IsControl d s x
    → length (encode_control x) ≤ length s
control-shorter d _ _
    (is_control {s = s} {es = es} {hs = hs} {ws = ws} {gs = gs} {ps = ps} {ds = ds} g h1 h2 h3 h4 h5) =
    let a = fields_fit 5 g in
    let b1 = all-subs 1 encode_iHave (ihave-shorter d.mode) h1 in
    let b2 = all-subs 2 encode_iWant (iwant-shorter d.mode) h2 in
    let b3 = all-subs 3 encode_graft (graft-shorter d.mode) h3 in
    let b4 = all-subs 4 encode_prune (prune-shorter d.mode) h4 in
    let b5 = added-shorter d.mode d.edition es h5 in
    let l = control-length (record { ihave = hs; iwant = ws; graft = gs; prune = ps; idontwant = ds }) in
    omega arith

-- ---- several controls as one
pub repeated-append : {X : Type 0} (f : X → List ℕ) (xs ys : List X) → repeated f (xs ++ ys) ≡ repeated f xs
    ++ repeated f ys
repeated-append f [] ys = refl
repeated-append f (x ∷ xs) ys = ap (λ (l : List ℕ). f x ++ l) (repeated-append f xs ys)
    ∙ sym (append_assoc (f x) (repeated f xs) (repeated f ys))

repeated-length : {X : Type 0} (f : X → List ℕ) (xs ys : List X)
    → length (repeated f (xs ++ ys)) ≡ length (repeated f xs) + length (repeated f ys)
repeated-length f xs ys = ap length (repeated-append f xs ys) ∙ length-append (repeated f xs) (repeated f ys)

join-length : (c d : ControlMessage) → length (encode_control (join c d)) ≡ length (encode_control c) + length
    (encode_control d)
join-length c d =
    let a = repeated-length (λ h. bytes_field 1 (encode_iHave h)) c.ihave d.ihave in
    let b = repeated-length (λ w. bytes_field 2 (encode_iWant w)) c.iwant d.iwant in
    let e = repeated-length (λ g. bytes_field 3 (encode_graft g)) c.graft d.graft in
    let f = repeated-length (λ p. bytes_field 4 (encode_prune p)) c.prune d.prune in
    let g = repeated-length (λ x. bytes_field 5 (encode_iDont_want x)) c.idontwant d.idontwant in
    control-length (join c d) ∙ omega (arith, control-length c, control-length d)

pub field-sum : (n : ℕ) (x y z : List ℕ) → length z ≡ length x + length y
    → length (bytes_field n z) ≤ length (bytes_field n x) + length (bytes_field n y)
field-sum n x y z e =
    let u = uvarint-sum (length x) (length y) in
    let w = ap (λ (k : ℕ). length (uvarint k)) e in
    omega (arith, bytes_field-length n x, bytes_field-length n y, bytes_field-length n z)

join-field : (c : ControlMessage) (o : Option ControlMessage)
    → length (optional (λ c. bytes_field 3 (encode_control c)) (join_to c o)) ≤ length (bytes_field 3 (encode_control c))
    + length (optional (λ c. bytes_field 3 (encode_control c)) o)
join-field c None = omega arith
join-field c (Some d) = field-sum 3 (encode_control c) (encode_control d) (encode_control (join c d)) (join-length c d)

joined-field : (cs : List ControlMessage) → length (optional (λ c. bytes_field 3 (encode_control c)) (joined cs)) ≤ length
    (repeated (λ c. bytes_field 3 (encode_control c)) cs)
joined-field [] = omega arith
joined-field (c ∷ cs) =
    let a = join-field c (joined cs) in
    let b = joined-field cs in
    let l = length-append (bytes_field 3 (encode_control c)) (repeated (λ c. bytes_field 3 (encode_control c)) cs) in
    omega arith

-- ---- a message's from, data, seqno and topics
abbrev pub signed_fields : List Entry → List ℕ
signed_fields es =
    optional (bytes_field 1) (last (bytes_in 1 es))
    ++ (optional (bytes_field 2) (last (bytes_in 2 es))
    ++ (optional (bytes_field 3) (last (bytes_in 3 es)) ++ repeated (bytes_field 4) (bytes_in 4 es)))

pub signed-shorter : {l : ℕ} {s : List ℕ} {es : List Entry} → BodyIn l s es → length (signed_fields es) ≤ length s
signed-shorter {s = s} {es = es} g =
    let x1 = optional (bytes_field 1) (last (bytes_in 1 es)) in
    let x2 = optional (bytes_field 2) (last (bytes_in 2 es)) in
    let x3 = optional (bytes_field 3) (last (bytes_in 3 es)) in
    let x4 = repeated (bytes_field 4) (bytes_in 4 es) in
    let f = fields_fit 4 g in
    let a = last-bytes 1 (bytes_in 1 es) in
    let b = last-bytes 2 (bytes_in 2 es) in
    let c = last-bytes 3 (bytes_in 3 es) in
    let d = all-bytes 4 (bytes_in 4 es) in
    omega (arith, length-append x1 (x2 ++ (x3 ++ x4)), length-append x2 (x3 ++ x4), length-append x3 x4)

-- ---- the RPC
pub raw_same : (mode : Mode) (d : List ℕ) (m : RawMessage) → IsMessage mode d m → length m.raw ≤ length d
raw_same mode _ _ (is-message g u) = omega arith

pub never_longer : {d : Dialect} {s : List ℕ} {x : Rpc} → IsRpc d s x → length (encode_rpc x) ≤ length s
unfolding encode_rpc
never_longer {d} (is-rpc {s = s} {es = es} {ss = ss} {ms = ms} {cs = cs} g h1 h2 h3) =
    let a = fields_fit 3 g in
    let b1 = all-subs 1 encode_sub_opts (sub_opts_shorter d.mode) h1 in
    let b2 = all-subs 2 (λ m. m.raw) (raw_same d.mode) h2 in
    let b3 = all-subs 3 encode_control (control-shorter d) h3 in
    let j = joined-field cs in
    let x1 = repeated (λ o. bytes_field 1 (encode_sub_opts o)) ss in
    let x2 = repeated (λ m. bytes_field 2 m.raw) ms in
    let x3 = optional (λ c. bytes_field 3 (encode_control c)) (joined cs) in
    let k = length-append x1 (x2 ++ x3) in
    let l = length-append x2 x3 in
    omega arith
