-- A reply to a body is, in every edition under the node's mode, and under that of groups, a body that publishes cached
-- messages, byte for byte, as many as the room has, from the first on; and it is canonical. What is answered counts
-- them, and those that are left. A message that a second body declines is in neither count.
use Rattle.std.specs.Prelude.{None, Result, Ok, Err, ℕ, suc, ◌+◌, ◌-◌, ◌≤◌, ◌<◌, ◌≡◌, refl, true, List, [], ◌∷◌, ◌++◌}
use Rattle.std.specs.Prelude.{map, length, take, ltb, eqb}
use Rattle.std.proofs.Common.{sym, ap, ◌∙◌, append-nil, arith, length-take-le, ltb-true, eqb-true}
use Rattle.std.proofs.Math.ListN.{length-map}
use Rattle.std.proofs.lemmas.Bool.{eqb-false}
use Rattle.basis.specs.declared.Mode.{Mode}
use Rattle.basis.specs.declared.Mode.TheVariants.{Plain, Groups}
use Rattle.basis.specs.declared.Edition.{Edition}
use Rattle.basis.specs.declared.Edition.TheVariants.{V12}
use Rattle.basis.specs.declared.Dialect.{Dialect}
use Rattle.basis.specs.Dialect.{mode_of, spoken}
use Rattle.basis.specs.Cases.{either, clash, of-ok}
use Rattle.basis.specs.Bytes.{Bytes}
use Rattle.rows.specs.declared.Ring.{Ring}
use Rattle.rows.specs.Rows.{place_of}
use Rattle.rows.specs.RowsLaws.{length_ring}
use Rattle.rows.specs.Ids.{among, distinct, index_of}
use Rattle.rows.specs.IdsLaws.{shared, shared-few}
use Rattle.rows.specs.Store.{id_at, ids_in}
use Rattle.rows.specs.StoreLaws.{index-among}
use Rattle.protobuf.specs.Encode.{bytes_field}
use Rattle.rpc.specs.Rpc.{RawMessage, Rpc}
use Rattle.rpc.specs.Grammar.{Each, none_left, ◌and◌, Pairs, IsMessage, IsRpc}
use Rattle.rpc.specs.Encode.{repeated, encode_rpc}
use Rattle.meaning.specs.Size.{records_in}
use Rattle.meaning.specs.Modes.{pairs_of, plain-message}
use Rattle.schema.specs.Accept.{accept_of}
use Rattle.canon.specs.Canon.{canon_body}
use Rattle.canon.proofs.Written.{canon-written}
use Rattle.canon.proofs.Taken.{Within}
use Rattle.mcache.specs.declared.MessageCache.{MessageCache}
use Rattle.mcache.specs.State.{message_in, ring_of, message_id_size}
use Rattle.mcache.specs.StateLaws.{Tests, fine-tests}
use Rattle.node.specs.declared.Reply.{Reply}
use Rattle.node.specs.declared.ServeError.{ServeError}
use Rattle.node.specs.declared.ServeError.TheVariants as serve
use Rattle.node.specs.Parts.{at_path, fitting}
use Rattle.node.specs.PartsLaws.{once-distinct, without-distinct, fitting-next}
use Rattle.node.specs.declared.Node.{Node}
use Rattle.node.specs.Gateway.{having, serve_of}
use Rattle.node.specs.State.{gateway_in}
use Rattle.node.specs.Calls.{lent_of, wanted, unwanted_in, remaining, rows_for, cached_of, room_of, served_of, reply_bytes}
use Rattle.node.specs.Calls.{reply_to, serve_answer}
use Rattle.node.specs.ReplyLaws.{reply_bytes_lem, served-le, reply-within, reply-short, reply-some}
use Rattle.node.specs.Laws.{serve-says}
use Rattle.node.specs.StateLaws.{fine-tests as node-tests}
use Rattle.outputs.specs.Outcomes.{AsWide, itself, groups}
use Rattle.outputs.specs.Bodies.{published, messages-mean}
use Rattle.outputs.specs.Cached.{each_take, Message, row-message, all-messages}

-- ---- the rows with the ids that are named: as many as there are such ids, and each in use
rows-shared : (ring : Ring) (held is : List (List ℕ)) → length (rows_for ring held is) ≡ shared held is
unfolding rows_for shared
rows-shared ring held [] = refl
rows-shared ring held (i ∷ is) =
    let r = rows-shared ring held is in
    let e = index-among i held in
    either (among i held) (λ t. simp (t, sym e ∙ t) (ap suc r)) (λ t. simp (t, sym e ∙ t) r)

rows-each : {P : List ℕ → Type 0} (f : ℕ → List ℕ) (ring : Ring) (held is : List (List ℕ))
    → ((j : ℕ) → j < length held → P (f (place_of ring j))) → Each P (map f (rows_for ring held is))
unfolding rows_for
rows-each f ring held [] h = none_left
rows-each f ring held (i ∷ is) h =
    let r = rows-each f ring held is h in
    either (ltb (index_of i held) (length held)) (λ t. simp t (h (index_of i held) (ltb-true _ _ t) and r))
    (λ t. simp t r)

-- ---- the ids that remain are each there once
remaining-distinct : (mode : Mode) (body second : List ℕ) → distinct (remaining mode body second) ≡ true
unfolding remaining wanted
remaining-distinct mode body second =
    without-distinct (unwanted_in mode second) (wanted mode body) (once-distinct (at_path mode (3 ∷ 2 ∷ 1 ∷ []) body))

module _ (c : MessageCache) (st : List ℕ) (t : Tests c st) (is : List (List ℕ)) where
  held-count : length (ids_in message_id_size (ring_of c) c.id_len c.ids) ≡ c.count
  unfolding ids_in
  held-count = length_ring (id_at message_id_size c.id_len c.ids) (ring_of c)

  pub cached-few : distinct is ≡ true → length (cached_of c st is) ≤ 64
  unfolding cached_of
  cached-few d =
      let held = ids_in message_id_size (ring_of c) c.id_len c.ids in
      let m = length-map (rows_for (ring_of c) held is) (message_in c.len st) in
      let r = rows-shared (ring_of c) held is in
      let s = shared-few held is d in
      let n = held-count in
      omega (arith, t.within, t.few)

  pub cached-messages : Bytes st → Each (Message (mode_of c.flags)) (cached_of c st is)
  unfolding cached_of
  cached-messages b =
      let held = ids_in message_id_size (ring_of c) c.id_len c.ids in
      rows-each (message_in c.len st) (ring_of c) held is (λ j h. row-message c st t b j (rw held-count at h))

-- ---- the reply
pub record Replies (mode : Mode) (ms : List (List ℕ)) (out : List ℕ) : Type 0 where
  pub rpc : Rpc
  -- a message with a group is read as it stands only where groups are passed over
  pub within : (d : Dialect) → AsWide mode d.mode → Within d (reply_bytes ms out) rpc
  pub no-subscriptions : rpc.subscriptions ≡ []
  pub no-control : rpc.control ≡ None
  -- the messages are the first of ms, byte for byte
  pub messages : map (λ (m : RawMessage). m.raw) rpc.publish ≡ take (served_of ms out) ms
  pub count : length rpc.publish ≡ served_of ms out
  pub encoded : reply_bytes ms out ≡ encode_rpc rpc
  pub stays : (d : Dialect) → AsWide mode d.mode → canon_body d (reply_bytes ms out) ≡ reply_bytes ms out

raw-fields : (vs : List RawMessage) → repeated (λ m. bytes_field 2 m.raw) vs ≡ repeated (bytes_field 2)
    (map (λ (m : RawMessage). m.raw) vs)
raw-fields [] = refl
raw-fields (v ∷ vs) = ap (λ (l : List ℕ). bytes_field 2 v.raw ++ l) (raw-fields vs)

published-bytes : (vs : List RawMessage)
    → encode_rpc (published vs) ≡ repeated (bytes_field 2) (map (λ (m : RawMessage). m.raw) vs)
unfolding encode_rpc
published-bytes vs = append-nil (repeated (λ m. bytes_field 2 m.raw) vs) ∙ raw-fields vs

-- messages of a mode are messages of one as wide
as_wide : {mode other : Mode} → AsWide mode other → {ds : List (List ℕ)} {ms : List RawMessage}
    → Pairs (IsMessage mode) ds ms → Pairs (IsMessage other) ds ms
as_wide itself ps = ps
as_wide {mode = Plain} groups ps = pairs_of (λ d m. plain-message) ps
as_wide {mode = Groups} groups ps = ps

pub replies : (mode : Mode) (ms : List (List ℕ)) (out : List ℕ) → Each (Message mode) ms → length ms ≤ 64
    → Replies mode ms out
unfolding reply_bytes served_of records_in
replies mode ms out h n =
    let k = served_of ms out in
    let l = served-le ms out in
    let t = length-take-le k ms l in
    let r = all-messages mode (each_take k h) in
    let w : (d : Dialect) → AsWide mode d.mode → IsRpc d (repeated (bytes_field 2) (take k ms))
    (published r.values) =
    λ d a. messages-mean d r.sized (as_wide a r.means) in
    let e = ap (repeated (bytes_field 2)) r.raws in
    record {
      rpc = published r.values;
      within = λ d a. record {
        means = w d a;
        small = omega (arith, reply-within ms out);
        few = omega (arith, r.few);
      };
      no-subscriptions = refl;
      no-control = refl;
      messages = r.raws;
      count = sym (length-map r.values (λ (m : RawMessage). m.raw)) ∙ ap length r.raws ∙ t;
      encoded = sym (published-bytes r.values ∙ e);
      stays = λ d a. canon-written (w d a) ∙ published-bytes r.values ∙ e;
    }

module _ (n : Node) (ss cs body second out : List ℕ) (fine : lent_of n ss cs ≡ Ok tt) (bytes : Bytes cs) where
  abbrev ms : List (List ℕ)
  ms = cached_of n.cache cs (remaining (mode_of n.cache.flags) body second)

  pub serve-means : Replies (mode_of n.cache.flags)
      (cached_of n.cache cs (remaining (mode_of n.cache.flags) body second)) out
  serve-means =
      let t = fine-tests n.cache cs (node-tests n ss cs fine).messages in
      replies (mode_of n.cache.flags) ms out (cached-messages n.cache cs t
      (remaining (mode_of n.cache.flags) body second) bytes)
      (cached-few n.cache cs t (remaining (mode_of n.cache.flags) body second)
      (remaining-distinct (mode_of n.cache.flags) body second))

  pub serve-stays : (d : Dialect) → AsWide (mode_of n.cache.flags) d.mode
      → canon_body d (reply_bytes (cached_of n.cache cs (remaining (mode_of n.cache.flags) body second)) out)
      ≡ reply_bytes (cached_of n.cache cs (remaining (mode_of n.cache.flags) body second)) out
  serve-stays = serve-means.stays

-- ---- what is answered
-- so many bytes and messages, and so many left
abbrev pub wrote : ℕ → ℕ → ℕ → Result Reply ServeError
wrote k w l = Ok (record { bytes = k; messages = w; left = l })

-- or so many bytes that the first needs
abbrev pub needs : ℕ → Result Reply ServeError
needs n = Err (serve.Room n)

of-wrote : {a b c k w l : ℕ} → wrote a b c ≡ wrote k w l → (a ≡ k) × (b ≡ w) × (c ≡ l)
of-wrote e =
    let r = of-ok e in
    (ap (λ (x : Reply). x.bytes) r, ap (λ (x : Reply). x.messages) r, ap (λ (x : Reply). x.left) r)

pub of-needs : {n k : ℕ} → needs n ≡ needs k → n ≡ k
of-needs e = cc

pub record Counts (ms : List (List ℕ)) (out : List ℕ) (bytes messages left : ℕ) : Type 0 where
  pub written : bytes ≡ length (reply_bytes ms out)
  pub served : messages ≡ served_of ms out
  pub all : messages + left ≡ length ms
  -- where some are left, one message more would pass the reply room
  pub next : (left ≡ 0 → ⊥) → room_of out < length (repeated (bytes_field 2) (take (messages + 1) ms))

none-count : (out : List ℕ) → (served_of [] out ≡ 0) × (length (reply_bytes [] out) ≡ 0)
unfolding reply_bytes served_of fitting
none-count out = (refl, refl)

next-passes : (ms : List (List ℕ)) (out : List ℕ) → served_of ms out < length ms
    → room_of out < length (repeated (bytes_field 2) (take (served_of ms out + 1) ms))
unfolding served_of
next-passes ms out h = fitting-next 2 (room_of out) ms h

pub serve-counts : (ms : List (List ℕ)) (out : List ℕ) (k w l : ℕ) → reply_to ms out ≡ wrote k w l
    → Counts ms out k w l
serve-counts [] out k w l h =
    let p = of-wrote h in
    let n = none-count out in
    record {
      written = sym p.0 ∙ sym n.1;
      served = sym p.1 ∙ sym n.0;
      all = omega (arith, p.1, p.2);
      next = λ z. absurd (z (sym p.2));
    }
serve-counts (m ∷ ms) out k w l h =
    let s = served_of (m ∷ ms) out in
    either (eqb s 0) (λ t. clash (let q = reply-short m ms out (eqb-true s 0 t) in cc))
    (λ t.
    let p = of-wrote (sym (reply-some m ms out (eqb-false s 0 t)) ∙ h) in
    let b : s ≡ w = p.1 in
    let c : length (m ∷ ms) - s ≡ l = p.2 in
    let g = served-le (m ∷ ms) out in
    record {
      written = sym p.0;
      served = sym b;
      all = omega arith;
      next = λ z. rw (← b) (next-passes (m ∷ ms) out (omega (arith, z)));
    })

-- no room for the first message: its field is longer than the room, and no byte is written
pub serve-room : (ms : List (List ℕ)) (out : List ℕ) (k : ℕ) → reply_to ms out ≡ Err (serve.Room k) → (room_of out < k)
    × (reply_bytes ms out ≡ [])
serve-room [] out k h = clash (cc)
serve-room (m ∷ ms) out k h =
    let s = served_of (m ∷ ms) out in
    either (eqb s 0)
    (λ t.
    let z = eqb-true s 0 t in
    let a : length (bytes_field 2 m) ≡ k = of-needs (sym (reply-short m ms out z) ∙ h) in
    let n = next-passes (m ∷ ms) out (omega arith) in
    let f : length (repeated (bytes_field 2) (take (s + 1) (m ∷ ms))) ≡ length (bytes_field 2 m) =
    rw z (ap length (append-nil (bytes_field 2 m))) in
    (omega arith, rw (reply_bytes_lem (m ∷ ms) out, z)))
    (λ t. clash (let q = reply-some m ms out (eqb-false s 0 t) in cc))

-- ---- of a call: it counts the messages that are cached, named and not declined, those written and those left
pub serve-tells : (n : Node) (ss cs : List ℕ) (ed : Edition) (body second out : List ℕ) (k w l : ℕ)
    → lent_of n ss cs ≡ Ok tt → accept_of (spoken (mode_of n.cache.flags) ed) body ≡ Ok tt
    → accept_of (spoken (mode_of n.cache.flags) V12) second ≡ Ok tt
    → serve_answer n ss cs ed body second out ≡ wrote k w l
    → Counts (having (gateway_in n ss cs) (remaining (mode_of n.cache.flags) body second)) out k w l
unfolding serve_of remaining wanted room_of
serve-tells n ss cs ed body second out k w l fine ok too h =
    serve-counts (having (gateway_in n ss cs) (remaining (mode_of n.cache.flags) body second)) out k w l
    (sym (serve-says n ss cs out fine ed body ok second too).0 ∙ h)
