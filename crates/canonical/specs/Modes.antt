-- Laws between the modes, and what is written holds no groups. The canonical bytes around the messages, and sign bytes
-- after the prefix, are fields of the first mode; a message keeps its raw bytes, groups included. And a body that the
-- first mode does not refuse by 5 with type 3 or 4 has the same answers in both modes, whatever its bytes are.
use Rattle.std.specs.Prelude.{None, Result, Ok, Err, ℕ, ◌≡◌, refl, List, [], ◌++◌}
use Rattle.std.proofs.Common.{sym, ap, ap₂, subst, ◌∙◌, append-nil, arith}
use Rattle.basis.specs.declared.Mode.{Mode}
use Rattle.basis.specs.declared.Mode.TheVariants.{Plain, Groups}
use Rattle.basis.specs.declared.Edition.{Edition}
use Rattle.basis.specs.declared.Dialect.{Dialect}
use Rattle.basis.specs.Dialect.{spoken}
use Rattle.basis.specs.Cases.{clash}
use Rattle.basis.specs.Writing.{answer, written}
use Rattle.utf8.specs.Grammar.{Utf8}
use Rattle.protobuf.specs.Grammar.{Entry, BodyIn, Body}
use Rattle.protobuf.specs.Walk.{between}
use Rattle.protobuf.specs.Encode.{bytes_field, of_written}
use Rattle.protobuf.specs.declared.Refusal.{Refusal}
use Rattle.schema.specs.Accept.{checked, accept_of}
use Rattle.schema.specs.AcceptLaws.{is-taken}
use Rattle.rpc.specs.Rpc.{RawMessage, Rpc}
use Rattle.rpc.specs.Grammar.{bytes_in, last, Each, none_left, IsMessage, is-message}
use Rattle.rpc.specs.Encode.{repeated, sign_prefix}
use Rattle.meaning.specs.Back.{mk_message, same-message}
use Rattle.meaning.specs.Decoded.{Within}
use Rattle.schema.specs.Modes.{NoGroupBody, same_accept}
use Rattle.ids.specs.Ids.{message_at, id_parts, of_written as message, answer_id, left_id, answer_at, left_at}
use Rattle.ids.specs.Ids.{answer_checked, left_checked, id_answer, id_left}
use Rattle.encode.specs.Encode.{encode_checked, encode_answer, encoded_checked, encode_left}
use Rattle.encode.specs.Sign.{sign_at, sign_checked, sign_answer, signed_at, signed_checked, sign_left}
use Rattle.canon.specs.Canon.{canon_body, sign_of}
use Rattle.canon.specs.Shorter.{signed_fields}
use Rattle.canon.proofs.Written.{canon-written, canon-message}
use Rattle.ids.specs.Modes.{same_place, message-accepted, same_parts}
use Rattle.canon.proofs.Modes.{same-canon, same-signed}
use Rattle.canonical.specs.Means.{opt, bytes_entries, body-append, bytes-body, bytes-here, bytes-there}
use Rattle.canonical.specs.Means.{bytes-sized, each_last, optional-opt, last-opt, found_of, Around}
use Rattle.canonical.specs.Means.{canonical_around}

-- ---- what is written holds no groups
-- around the messages the canonical bytes are fields of the first mode
pub output_plain : {d : Dialect} {s : List ℕ} {x : Rpc} → Within d s x
    → Around Plain d.mode d.edition (canon_body d s) x
output_plain {d} {x = x} w =
    subst (λ (b : List ℕ). Around Plain d.mode d.edition b x) (sym (canon-written w.means))
    (canonical_around Plain (omega (arith, w.small)) w.means)

-- a message's from, data, seqno and topics, as other bytes hold them, with neither signature nor key
abbrev pub unsigned : List ℕ → RawMessage → RawMessage
unsigned b m =
    record {
      raw = b;
      from = m.from;
      «data» = m.«data»;
      seqno = m.seqno;
      topic_ids = m.topic_ids;
      signature = None;
      key = None;
    }

signed-means : {l : ℕ} {s : List ℕ} {es : List Entry} → BodyIn l s es → Each Utf8 (bytes_in 4 es)
    → IsMessage Plain (signed_fields es)
    (mk_message (signed_fields es) (last (bytes_in 1 es)) (last (bytes_in 2 es)) (last (bytes_in 3 es)) (bytes_in 4 es) None
    None)
unfolding mk_message
signed-means {es = es} g u =
    let f = last (bytes_in 1 es) in let d = last (bytes_in 2 es) in let q = last (bytes_in 3 es) in
    let v1 = opt f in let v2 = opt d in let v3 = opt q in let v4 = bytes_in 4 es in
    let is = bytes_entries 1 v1 ++ (bytes_entries 2 v2 ++ (bytes_entries 3 v3 ++ (bytes_entries 4 v4 ++ []))) in
    let w = body-append (bytes-body Plain 1 (omega arith) (omega arith) v1 (each_last (bytes-sized 1 g)))
    (body-append (bytes-body Plain 2 (omega arith) (omega arith) v2 (each_last (bytes-sized 2 g)))
    (body-append (bytes-body Plain 3 (omega arith) (omega arith) v3 (each_last (bytes-sized 3 g)))
    (body-append (bytes-body Plain 4 (omega arith) (omega arith) v4 (bytes-sized 4 g))
    (bytes-body Plain 5 (omega arith) (omega arith) [] none_left)))) in
    let d1 : bytes_in 1 is ≡ v1 = found_of 1 v1 v2 v3 v4 [] v1 [] [] [] [] (bytes-here 1 v1) (bytes-there 2 1 refl v2)
    (bytes-there 3 1 refl v3) (bytes-there 4 1 refl v4) refl ∙ append-nil v1 in
    let d2 : bytes_in 2 is ≡ v2 = found_of 2 v1 v2 v3 v4 [] [] v2 [] [] [] (bytes-there 1 2 refl v1) (bytes-here 2 v2)
    (bytes-there 3 2 refl v3) (bytes-there 4 2 refl v4) refl ∙ append-nil v2 in
    let d3 : bytes_in 3 is ≡ v3 = found_of 3 v1 v2 v3 v4 [] [] [] v3 [] [] (bytes-there 1 3 refl v1)
    (bytes-there 2 3 refl v2) (bytes-here 3 v3) (bytes-there 4 3 refl v4) refl ∙ append-nil v3 in
    let d4 : bytes_in 4 is ≡ v4 = found_of 4 v1 v2 v3 v4 [] [] [] [] v4 [] (bytes-there 1 4 refl v1)
    (bytes-there 2 4 refl v2) (bytes-there 3 4 refl v3) (bytes-here 4 v4) refl ∙ append-nil v4 in
    let d5 : bytes_in 5 is ≡ [] = found_of 5 v1 v2 v3 v4 [] [] [] [] [] [] (bytes-there 1 5 refl v1)
    (bytes-there 2 5 refl v2) (bytes-there 3 5 refl v3) (bytes-there 4 5 refl v4) refl in
    let d6 : bytes_in 6 is ≡ [] = found_of 6 v1 v2 v3 v4 [] [] [] [] [] [] (bytes-there 1 6 refl v1)
    (bytes-there 2 6 refl v2) (bytes-there 3 6 refl v3) (bytes-there 4 6 refl v4) refl in
    let e = ap₂ (λ (y z : List ℕ). y ++ z) (optional-opt (bytes_field 1) f)
    (ap₂ (λ (y z : List ℕ). y ++ z) (optional-opt (bytes_field 2) d)
    (ap₂ (λ (y z : List ℕ). y ++ z) (optional-opt (bytes_field 3) q) (append-nil (repeated (bytes_field 4) v4)))) in
    subst (IsMessage Plain (signed_fields es))
    (same-message refl (ap last d1 ∙ last-opt f) (ap last d2 ∙ last-opt d) (ap last d3 ∙ last-opt q) d4 (ap last d5)
    (ap last d6))
    (is-message (subst (λ (b : List ℕ). Body Plain b is) e w) (subst (Each Utf8) (sym d4) u))

-- after the prefix, sign bytes are fields of the first mode: a message with the same from, data, seqno and topics
pub sign_plain : {mode : Mode} {p : List ℕ} {m : RawMessage} → IsMessage mode p m
    → (b : List ℕ) × (sign_of mode p ≡ sign_prefix ++ b) × IsMessage Plain b (unsigned b m)
unfolding sign_of mk_message
sign_plain {mode} (is-message {s = s} {es = es} g u) =
    (signed_fields es, ap (λ (x : List ℕ). sign_prefix ++ x) (canon-message mode s es g), signed-means g u)

-- ---- between the modes: encode
encode_by : (e : Edition) (s out : List ℕ) (c : Result (Unit {0}) Refusal) → accept_of (spoken Plain e) s ≡ c
    → (encode_checked (spoken Groups e) s out c ≡ encode_checked (spoken Plain e) s out c)
    × (encoded_checked (spoken Groups e) s out c ≡ encoded_checked (spoken Plain e) s out c)
encode_by e s out (Err why) q = (refl, refl)
encode_by e s out (Ok tt) q =
    let t = is-taken (spoken Plain e) s q in
    let b = same-canon e s t.records t.counts in
    (ap (λ (xs : List ℕ). of_written (answer xs out)) b, ap (λ (xs : List ℕ). written xs out) b)

pub same_encode : (e : Edition) (s out : List ℕ) → NoGroupBody e s
    → (encode_answer (spoken Groups e) s out ≡ encode_answer (spoken Plain e) s out)
    × (encode_left (spoken Groups e) s out ≡ encode_left (spoken Plain e) s out)
unfolding encode_answer encode_left
same_encode e s out g =
    let a = same_accept e s g in
    let r = encode_by e s out (accept_of (spoken Plain e) s) refl in
    (ap (encode_checked (spoken Groups e) s out) a ∙ r.0, ap (encoded_checked (spoken Groups e) s out) a ∙ r.1)

-- ---- sign_bytes
sign_at_lem : (s out : List ℕ) (r : Result (ℕ × ℕ) ℕ)
    → ((a e : ℕ) → r ≡ Ok (a, e) → sign_of Groups (between s a e) ≡ sign_of Plain (between s a e))
    → (sign_at Groups s out r ≡ sign_at Plain s out r) × (signed_at Groups s out r ≡ signed_at Plain s out r)
sign_at_lem s out (Err n) h = (refl, refl)
sign_at_lem s out (Ok (a, e)) h =
    let b = h a e refl in
    (ap (λ (xs : List ℕ). message (answer xs out)) b, ap (λ (xs : List ℕ). written xs out) b)

sign_by : (e : Edition) (s : List ℕ) (i : ℕ) (out : List ℕ) (c : Result (Unit {0}) Refusal) → accept_of (spoken Plain e) s ≡ c
    → (sign_checked Groups s i out c ≡ sign_checked Plain s i out c)
    × (signed_checked Groups s i out c ≡ signed_checked Plain s i out c)
sign_by e s i out (Err why) q = (refl, refl)
sign_by e s i out (Ok tt) q =
    let t = is-taken (spoken Plain e) s q in
    let p = same_place e s t.records t.counts i in
    let r = sign_at_lem s out (message_at Plain s i)
    (λ a z h. let y = message-accepted e s t.records i a z t.counts h in
    same-signed (between s a z) y.0 y.1) in
    (ap (sign_at Groups s out) p ∙ r.0, ap (signed_at Groups s out) p ∙ r.1)

pub same_sign : (e : Edition) (s : List ℕ) (i : ℕ) (out : List ℕ) → NoGroupBody e s
    → (sign_answer (spoken Groups e) s i out ≡ sign_answer (spoken Plain e) s i out)
    × (sign_left (spoken Groups e) s i out ≡ sign_left (spoken Plain e) s i out)
unfolding sign_answer sign_left
same_sign e s i out g =
    let a = same_accept e s g in
    let r = sign_by e s i out (accept_of (spoken Plain e) s) refl in
    (ap (sign_checked Groups s i out) a ∙ r.0, ap (signed_checked Groups s i out) a ∙ r.1)

-- ---- message_id and seen_message_id, with what stands before the id
id_at_lem : (pre s out : List ℕ) (r : Result (ℕ × ℕ) ℕ)
    → ((a e : ℕ) → r ≡ Ok (a, e) → id_parts Groups (between s a e) ≡ id_parts Plain (between s a e))
    → (answer_at Groups pre s out r ≡ answer_at Plain pre s out r)
    × (left_at Groups pre s out r ≡ left_at Plain pre s out r)
id_at_lem pre s out (Err n) h = (refl, refl)
id_at_lem pre s out (Ok (a, e)) h =
    let b = h a e refl in
    (ap (answer_id pre (between s a e) out) b, ap (left_id pre (between s a e) out) b)

id-by : (pre : List ℕ) (e : Edition) (s : List ℕ) (i : ℕ) (out : List ℕ) (c : Result (Unit {0}) Refusal) → accept_of (spoken Plain e) s ≡ c
    → (answer_checked Groups pre s i out c ≡ answer_checked Plain pre s i out c)
    × (left_checked Groups pre s i out c ≡ left_checked Plain pre s i out c)
id-by pre e s i out (Err why) q = (refl, refl)
id-by pre e s i out (Ok tt) q =
    let t = is-taken (spoken Plain e) s q in
    let p = same_place e s t.records t.counts i in
    let r = id_at_lem pre s out (message_at Plain s i)
    (λ a z h. let y = message-accepted e s t.records i a z t.counts h in
    same_parts (between s a z) y.0 y.1) in
    (ap (answer_at Groups pre s out) p ∙ r.0, ap (left_at Groups pre s out) p ∙ r.1)

pub same_id : (pre : List ℕ) (e : Edition) (s : List ℕ) (i : ℕ) (out : List ℕ) → NoGroupBody e s
    → (id_answer pre (spoken Groups e) s i out ≡ id_answer pre (spoken Plain e) s i out)
    × (id_left pre (spoken Groups e) s i out ≡ id_left pre (spoken Plain e) s i out)
unfolding id_answer id_left
same_id pre e s i out g =
    let a = same_accept e s g in
    let r = id-by pre e s i out (accept_of (spoken Plain e) s) refl in
    (ap (answer_checked Groups pre s i out) a ∙ r.0, ap (left_checked Groups pre s i out) a ∙ r.1)

-- so it is where the first mode accepts
pub plain-taken : (e : Edition) (s : List ℕ) → accept_of (spoken Plain e) s ≡ Ok tt → NoGroupBody e s
unfolding accept_of
plain-taken e s h r q g = clash (let z = ap checked q in cc)
