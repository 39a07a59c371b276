-- The encoding of an RPC that lists can say means it in every dialect, where texts are UTF-8, numbers are below 2^64
-- and the whole fits a length; and within capacity it is accepted.
use Rattle.std.specs.Prelude.{Option, Some, None, ℕ, ◌+◌, ◌^◌, ◌≤◌, ◌<◌, ◌≡◌, refl, cond, List, [], ◌∷◌, ◌++◌, length, eqb}
use Rattle.std.proofs.Common.{sym, ap, ap₂, subst, ◌∙◌, append-nil, arith, length-append, eqb-true}
use Rattle.basis.specs.declared.Mode.{Mode}
use Rattle.basis.specs.declared.Dialect.{Dialect}
use Rattle.basis.specs.Cases.{either}
use Rattle.utf8.specs.Grammar.{Utf8}
use Rattle.protobuf.specs.Grammar.{Entry}
use Rattle.protobuf.specs.Encode.{varint_field, bytes_field}
use Rattle.protobuf.specs.EncodeLaws.{field-holds}
use Rattle.rpc.specs.Rpc.{SubOpts, RawMessage, ControlGraft, PeerInfo, ControlPrune, ControlMessage, Rpc}
use Rattle.rpc.specs.Grammar.{bytes_in, last, Each, none_left, ◌and◌, no_pairs, ◌paired◌}
use Rattle.rpc.specs.Grammar.{IsSubOpts, IsMessage, is-message, IsIHave, IsIWant, IsGraft, IsPeerInfo, IsPrune, IsRpc}
use Rattle.rpc.specs.Encode.{optional, repeated, flag, encode_sub_opts, encode_iHave, encode_iWant, encode_graft}
use Rattle.rpc.specs.Encode.{encode_peer_info, encode_prune, encode_iDont_want, encode_control, encode_rpc}
use Rattle.meaning.specs.Back.{mk_message, same-message}
use Rattle.meaning.specs.Size.{records_in}
use Rattle.meaning.specs.Decoded.{Within}
use Rattle.canonical.specs.Means.{Sized, opt, bytes_entries, body-append, bytes-body, bytes-here, bytes-there, found, optional-opt, last-opt, means_as}
use Rattle.canonical.specs.Means.{fields-sized, field-sized, Entries, IDontWants, no-idontwants, Sound, sub_opts_means}
use Rattle.canonical.specs.Means.{graft-means, peer_info_means, prune-means, rpc-sound}
use Rattle.compose.specs.Said.{encode_fields, encode_message, renewed}
use Rattle.composed.specs.Written.{PlainPrune, PlainControl, Plain, Spoken, Sayable}

-- ---- entries whose encodings mean them, one by one
entries_of_lem : {X : Type 0} {P : X → Type 0} (R : List ℕ → X → Type 0) (enc : X → List ℕ) (n : ℕ)
    → ((x : X) → P x → Sized (enc x) → R (enc x) x) → {xs : List X} → Each P xs
    → length (repeated (λ x. bytes_field n (enc x)) xs) < 2 ^ 64 → Entries R enc xs
entries_of_lem R enc n f none_left h = record { mean = no_pairs; sized = none_left }
entries_of_lem R enc n f (◌and◌ {x = x} {xs = xs} p ps) h =
    let l = length-append (bytes_field n (enc x)) (repeated (λ x. bytes_field n (enc x)) xs) in
    let g = field-holds n (enc x) in
    let k : Sized (enc x) = omega arith in
    let r = entries_of_lem R enc n f ps (omega arith) in
    record { mean = f x p k paired r.mean; sized = k and r.sized }

no-entries : {X : Type 0} (R : List ℕ → X → Type 0) (enc : X → List ℕ) (xs : List X) → xs ≡ [] → Entries R enc xs
no-entries R enc xs e = subst (Entries R enc) (sym e) (record { mean = no_pairs; sized = none_left })

-- ---- a message
-- fields n are found where n is asked for, and nowhere else
entries_in_lem : (n m : ℕ) (ds : List (List ℕ)) → bytes_in m (bytes_entries n ds) ≡ cond (eqb n m) ds []
entries_in_lem n m ds =
    either (eqb n m)
    (λ t. simp t (ap (λ (k : ℕ). bytes_in m (bytes_entries k ds)) (eqb-true n m t) ∙ bytes-here m ds))
    (λ t. simp t (bytes-there n m t ds))

-- six groups of fields, as a message has them
module _ (d1 d2 d3 d4 d5 d6 : List (List ℕ)) where
  abbrev six_entries : List Entry
  six_entries =
      (bytes_entries 1 d1 ++ (bytes_entries 2 d2 ++ (bytes_entries 3 d3 ++ bytes_entries 4 d4)))
      ++ (bytes_entries 5 d5 ++ bytes_entries 6 d6)

  in_six : (m : ℕ) → bytes_in m six_entries
      ≡ (cond (eqb 1 m) d1 [] ++ (cond (eqb 2 m) d2 [] ++ (cond (eqb 3 m) d3 [] ++ cond (eqb 4 m) d4 [])))
      ++ (cond (eqb 5 m) d5 [] ++ cond (eqb 6 m) d6 [])
  in_six m =
      let e1 = bytes_entries 1 d1 in let e2 = bytes_entries 2 d2 in let e3 = bytes_entries 3 d3 in
      let e4 = bytes_entries 4 d4 in let e5 = bytes_entries 5 d5 in let e6 = bytes_entries 6 d6 in
      found m (e1 ++ (e2 ++ (e3 ++ e4))) (e5 ++ e6) _ _
      (found m e1 (e2 ++ (e3 ++ e4)) _ _ (entries_in_lem 1 m d1)
      (found m e2 (e3 ++ e4) _ _ (entries_in_lem 2 m d2) (found m e3 e4 _ _ (entries_in_lem 3 m d3) (entries_in_lem 4 m d4))))
      (found m e5 e6 _ _ (entries_in_lem 5 m d5) (entries_in_lem 6 m d6))

pub message_body_lem : (mode : Mode) (m : RawMessage) → Sized (encode_message m) → Each Utf8 m.topic_ids
    → IsMessage mode (encode_message m) (renewed m)
unfolding encode_message encode_fields mk_message
message_body_lem mode m k u =
    let f = m.from in let d = m.«data» in let q = m.seqno in let ts = m.topic_ids in let s = m.signature in let y = m.key in
    let x1 = optional (bytes_field 1) f in let x2 = optional (bytes_field 2) d in let x3 = optional (bytes_field 3) q in
    let x4 = repeated (bytes_field 4) ts in let x5 = optional (bytes_field 5) s in let x6 = optional (bytes_field 6) y in
    let l = length-append (x1 ++ (x2 ++ (x3 ++ x4))) (x5 ++ x6) in
    let l1 = length-append x1 (x2 ++ (x3 ++ x4)) in let l2 = length-append x2 (x3 ++ x4) in let l3 = length-append x3 x4 in
    let l4 = length-append x5 x6 in
    let w = body-append
    (body-append (bytes-body mode 1 (omega arith) (omega arith) (opt f) (field-sized 1 f (omega arith)))
    (body-append (bytes-body mode 2 (omega arith) (omega arith) (opt d) (field-sized 2 d (omega arith)))
    (body-append (bytes-body mode 3 (omega arith) (omega arith) (opt q) (field-sized 3 q (omega arith)))
    (bytes-body mode 4 (omega arith) (omega arith) ts (fields-sized 4 ts (omega arith))))))
    (body-append (bytes-body mode 5 (omega arith) (omega arith) (opt s) (field-sized 5 s (omega arith)))
    (bytes-body mode 6 (omega arith) (omega arith) (opt y) (field-sized 6 y (omega arith)))) in
    let es = six_entries (opt f) (opt d) (opt q) ts (opt s) (opt y) in
    let i = in_six (opt f) (opt d) (opt q) ts (opt s) (opt y) in
    let i4 : bytes_in 4 es ≡ ts = i 4 ∙ append-nil ts in
    let e = ap₂ (λ (a b : List ℕ). a ++ b)
    (ap₂ (λ (a b : List ℕ). a ++ b) (optional-opt (bytes_field 1) f)
    (ap₂ (λ (a b : List ℕ). a ++ b) (optional-opt (bytes_field 2) d)
    (ap (λ (a : List ℕ). a ++ x4) (optional-opt (bytes_field 3) q))))
    (ap₂ (λ (a b : List ℕ). a ++ b) (optional-opt (bytes_field 5) s) (optional-opt (bytes_field 6) y)) in
    means_as (IsMessage mode) e
    (same-message e
    (ap last (i 1 ∙ append-nil (opt f ++ []) ∙ append-nil (opt f)) ∙ last-opt f)
    (ap last (i 2 ∙ append-nil (opt d ++ []) ∙ append-nil (opt d)) ∙ last-opt d)
    (ap last (i 3 ∙ append-nil (opt q ++ []) ∙ append-nil (opt q)) ∙ last-opt q)
    i4
    (ap last (i 5 ∙ append-nil (opt s)) ∙ last-opt s)
    (ap last (i 6) ∙ last-opt y))
    (is-message w (subst (Each Utf8) (sym i4) u))

pub message-means : (mode : Mode) (m : RawMessage) → m.raw ≡ encode_message m → Sized m.raw
    → Each Utf8 m.topic_ids → IsMessage mode m.raw m
message-means mode m e k u =
    subst (λ (r : List ℕ). IsMessage mode r (record {
      raw = r;
      from = m.from;
      «data» = m.«data»;
      seqno = m.seqno;
      topic_ids = m.topic_ids;
      signature = m.signature;
      key = m.key;
    })) (sym e) (message_body_lem mode m (subst Sized e k) u)

each_both : {A : Type 0} {P Q : A → Type 0} {xs : List A} → Each P xs → Each Q xs → Each (λ x. P x × Q x) xs
each_both none_left none_left = none_left
each_both (p and ps) (q and qs) = (p, q) and each_both ps qs

-- ---- a control
sub_opts_of_lem : (mode : Mode) (o : SubOpts) → Each Utf8 (opt o.topic_id) → Sized (encode_sub_opts o)
    → IsSubOpts mode (encode_sub_opts o) o
unfolding encode_sub_opts
sub_opts_of_lem mode o u k =
    let l = length-append (optional (λ b. varint_field 1 (flag b)) o.subscribe) (optional (bytes_field 2) o.topic_id) in
    sub_opts_means mode o (field-sized 2 o.topic_id (omega arith)) u

graft_of_lem : (mode : Mode) (g : ControlGraft) → Each Utf8 (opt g.topic_id) → Sized (encode_graft g)
    → IsGraft mode (encode_graft g) g
unfolding encode_graft
graft_of_lem mode g u k = graft-means mode g (field-sized 1 g.topic_id k) u

peer_of_lem : (mode : Mode) (p : PeerInfo) → Sized (encode_peer_info p) → IsPeerInfo mode (encode_peer_info p) p
unfolding encode_peer_info
peer_of_lem mode p k =
    let l = length-append (optional (bytes_field 1) p.peer_id) (optional (bytes_field 2) p.signed_peer_record) in
    peer_info_means mode p (field-sized 1 p.peer_id (omega arith))
    (field-sized 2 p.signed_peer_record (omega arith))

every : {A : Type 0} (xs : List A) → Each (λ x. x ≡ x) xs
every [] = none_left
every (x ∷ xs) = refl and every xs

prune_of_lem : (mode : Mode) (p : ControlPrune) → PlainPrune p → Sized (encode_prune p) → IsPrune mode (encode_prune p) p
unfolding encode_prune
prune_of_lem mode p q k =
    let x1 = optional (bytes_field 1) p.topic_id in
    let x2 = repeated (λ i. bytes_field 2 (encode_peer_info i)) p.peers in
    let x3 = optional (varint_field 3) p.backoff in
    let l = length-append x1 (x2 ++ x3) in let m = length-append x2 x3 in
    prune-means mode p (field-sized 1 p.topic_id (omega arith)) q.topic
    (entries_of_lem (IsPeerInfo mode) encode_peer_info 2 (λ i e z. peer_of_lem mode i z) (every p.peers) (omega arith))
    q.backoff

control_of_lem : (d : Dialect) (c : ControlMessage) → PlainControl c → Spoken c → Sized (encode_control c) → Sound d c
unfolding encode_control
control_of_lem d c p q k =
    let x1 = repeated (λ h. bytes_field 1 (encode_iHave h)) c.ihave in
    let x2 = repeated (λ w. bytes_field 2 (encode_iWant w)) c.iwant in
    let x3 = repeated (λ g. bytes_field 3 (encode_graft g)) c.graft in
    let x4 = repeated (λ p. bytes_field 4 (encode_prune p)) c.prune in
    let x5 = repeated (λ n. bytes_field 5 (encode_iDont_want n)) c.idontwant in
    let l1 = length-append x1 (x2 ++ (x3 ++ (x4 ++ x5))) in let l2 = length-append x2 (x3 ++ (x4 ++ x5)) in
    let l3 = length-append x3 (x4 ++ x5) in let l4 = length-append x4 x5 in
    record {
      ihaves = no-entries (IsIHave d.mode) encode_iHave c.ihave q.quiet.ihave;
      iwants = no-entries (IsIWant d.mode) encode_iWant c.iwant q.quiet.iwant;
      grafts = entries_of_lem (IsGraft d.mode) encode_graft 3 (graft_of_lem d.mode) p.grafts (omega arith);
      prunes = entries_of_lem (IsPrune d.mode) encode_prune 4 (prune_of_lem d.mode) p.prunes (omega arith);
      idontwants = subst (IDontWants d.mode d.edition) (sym q.quiet.idontwant)
          (no-idontwants d.mode d.edition);
    }

controls-of : (d : Dialect) (o : Option ControlMessage) → Each PlainControl (opt o) → Each Spoken (opt o)
    → length (optional (λ c. bytes_field 3 (encode_control c)) o) < 2 ^ 64 → Each (Sound d) (opt o)
controls-of d None p q k = none_left
controls-of d (Some c) (p and none_left) (q and none_left) k =
    let g = field-holds 3 (encode_control c) in control_of_lem d c p q (omega arith) and none_left

-- ---- the RPC
rpc-length : (x : Rpc) → length (encode_rpc x)
    ≡ length (repeated (λ o. bytes_field 1 (encode_sub_opts o)) x.subscriptions)
    + (length (repeated (λ m. bytes_field 2 m.raw) x.publish)
    + length (optional (λ c. bytes_field 3 (encode_control c)) x.control))
unfolding encode_rpc
rpc-length x = simp length-append

pub plain-means : (d : Dialect) (x : Rpc) → Plain x → Sayable x → length (encode_rpc x) < 2 ^ 64
    → IsRpc d (encode_rpc x) x
plain-means d x p q k =
    let l = rpc-length x in
    rpc-sound d x
    (entries_of_lem (IsSubOpts d.mode) encode_sub_opts 1 (sub_opts_of_lem d.mode) p.subscriptions (omega arith))
    (entries_of_lem (IsMessage d.mode) (λ m. m.raw) 2 (λ m i z. message-means d.mode m i.0 z i.1)
    (each_both q.raws p.publish) (omega arith))
    (controls-of d x.control p.control q.control (omega arith))
    k

-- it is accepted where it is within capacity
pub plain-within : (d : Dialect) (x : Rpc) → Plain x → Sayable x → length (encode_rpc x) ≤ 65536 → records_in x ≤ 512
    → Within d (encode_rpc x) x
plain-within d x p q l n = record { means = plain-means d x p q (omega arith); small = l; few = n }
