-- Laws of lent rows and of what they say, for the writers and for composed: a kind by its code; a row and those after it; each list by its first row; the RPC by walks over rows of one kind; and rows that are lent well lie within the bytes.
use Rattle.std.specs.Prelude.{ℕ, zero, suc, ◌+◌, ◌-◌, ◌*◌, ◌/◌, ◌%◌, ◌≤◌, ◌<◌, ◌≡◌, Bool, true, false, ◌&&◌, ◌||◌, length, eqb}
use Rattle.std.proofs.Math.Path.{refl}
use Rattle.std.proofs.Common.{sym, ap, ap₂, subst, ◌∙◌, arith, eqb-true}
use Rattle.std.proofs.Math.Bool.{cond}
use mathlib.Core.List.{List, [], ◌∷◌, ◌++◌, map, append-nil}
use Rattle.std.proofs.lemmas.Bool.{eqb-false}
use Rattle.basis.specs.Cases.{either, both}
use Rattle.protobuf.specs.Encode.{bytes_field}
use Rattle.schema.specs.declared.Kind.{Kind}
use Rattle.schema.specs.declared.Kind.TheVariants as kind
use Rattle.schema.specs.Schema.{own_of}
use Rattle.message.specs.declared.Record.{Record}
use Rattle.message.specs.Rows.{kind_code, kind_from, record_from}
use Rattle.meaning.specs.ReadBack.{raw_of, nothing, gather_kind, gather}
use Rattle.meaning.specs.Table.{IsRecord, kind_back, rows_in}
use Rattle.rpc.specs.Rpc.{RawMessage, ControlGraft, ControlPrune}
use Rattle.rpc.specs.Encode.{optional, repeated, encode_sub_opts, encode_graft, encode_prune, encode_control, encode_rpc}
use Rattle.compose.specs.Lent.{rows_from, lent_rows, is_code, row_inside, held_by, lent_from, lent_well, Inside}
use Rattle.compose.specs.Said.{encode_message, renewed, subscriptions_in, messages_in, grafts_in, prunes_in, topics_from}
use Rattle.compose.specs.Said.{peers_from}
use Rattle.compose.specs.Said.{sub_opts_of, graft_of, peer_of, prune_of, message_of, control_of, said}
use Rattle.compose.specs.Puts.{row_bytes, each_row, has_row, control_bytes}

-- ---- a kind by its code
-- a code tells whether its kind is a record, and of a record which it is
own_code : (k : Kind) → own_of (kind_from (kind_code k)) ≡ own_of k
unfolding own_of kind_from kind_code
own_code (kind.Rpc d) = refl
own_code kind.SubOpts = refl
own_code kind.RawMessage = refl
own_code kind.Topic = refl
own_code (kind.ControlMessage d) = refl
own_code kind.ControlIHave = refl
own_code kind.ControlIWant = refl
own_code kind.MessageId = refl
own_code kind.ControlGraft = refl
own_code kind.ControlPrune = refl
own_code kind.PeerInfo = refl
own_code kind.ControlIDontWant = refl

pub code_kind : (k : Kind) (c : ℕ) → IsRecord (kind_from c) → eqb (kind_code k) c ≡ true → k ≡ kind_from c
code_kind k c o h =
    let e : kind_from (kind_code k) ≡ kind_from c = ap kind_from (eqb-true (kind_code k) c h) in
    sym (kind_back k (sym (own_code k) ∙ ap own_of e ∙ o)) ∙ e

-- ---- a row and those after it
rows_left : (t : List ℕ) (i n : ℕ) → i < n → rows_in t i (n - i) ≡ record_from t (i * 20) ∷ rows_in t (i + 1) (n - (i + 1))
rows_left t i n h =
    let e : n - i ≡ suc (n - (i + 1)) = omega arith in
    ap (rows_in t i) e

pub rows_step_lem : (t : List ℕ) (i : ℕ) → i < length t / 20 → rows_from t i ≡ record_from t (i * 20) ∷ rows_from t (i + 1)
rows_step_lem t i h = rows_left t i (length t / 20) h

pub rows_end_lem : (t : List ℕ) (i : ℕ) → length t / 20 ≤ i → rows_from t i ≡ []
rows_end_lem t i h = let e : length t / 20 - i ≡ 0 = omega arith in ap (rows_in t i) e

-- as many as there are
rows-count : (t : List ℕ) (i n : ℕ) → length (rows_in t i n) ≡ n
rows-count t i zero = refl
rows-count t i (suc n) = ap suc (rows-count t (i + 1) n)

pub rows-length : (t : List ℕ) → length (lent_rows t) ≡ length t / 20
rows-length t = rows-count t 0 (length t / 20 - 0) ∙ omega arith

-- ---- each list, by its first row
module _ (b : List ℕ) (r : Record) (rs : List Record) where
  pub subscriptions-step : subscriptions_in b (r ∷ rs) ≡ cond (is_code 1 r) (sub_opts_of b r ∷ subscriptions_in b rs) (subscriptions_in b rs)
  unfolding subscriptions_in kind_code
  subscriptions-step = by r.kind
    where
      by : (k : Kind) → (gather_kind k b r (gather b rs nothing)).subscriptions
          ≡ cond (eqb (kind_code k) 1) (sub_opts_of b r ∷ (gather b rs nothing).subscriptions) (gather b rs nothing).subscriptions
      by (kind.Rpc d) = refl
      by kind.SubOpts = refl
      by kind.RawMessage = refl
      by kind.Topic = refl
      by (kind.ControlMessage d) = refl
      by kind.ControlIHave = refl
      by kind.ControlIWant = refl
      by kind.MessageId = refl
      by kind.ControlGraft = refl
      by kind.ControlPrune = refl
      by kind.PeerInfo = refl
      by kind.ControlIDontWant = refl

  pub messages-step : messages_in b (r ∷ rs) ≡ cond (is_code 2 r) (message_of b r rs ∷ messages_in b rs) (messages_in b rs)
  unfolding messages_in topics_from kind_code
  messages-step = by r.kind
    where
      by : (k : Kind) → (gather_kind k b r (gather b rs nothing)).publish
          ≡ cond (eqb (kind_code k) 2) (message_of b r rs ∷ (gather b rs nothing).publish) (gather b rs nothing).publish
      by (kind.Rpc d) = refl
      by kind.SubOpts = refl
      by kind.RawMessage = refl
      by kind.Topic = refl
      by (kind.ControlMessage d) = refl
      by kind.ControlIHave = refl
      by kind.ControlIWant = refl
      by kind.MessageId = refl
      by kind.ControlGraft = refl
      by kind.ControlPrune = refl
      by kind.PeerInfo = refl
      by kind.ControlIDontWant = refl

  pub grafts-step : grafts_in b (r ∷ rs) ≡ cond (is_code 8 r) (graft_of b r ∷ grafts_in b rs) (grafts_in b rs)
  unfolding grafts_in kind_code
  grafts-step = by r.kind
    where
      by : (k : Kind) → (gather_kind k b r (gather b rs nothing)).control.graft
          ≡ cond (eqb (kind_code k) 8) (graft_of b r ∷ (gather b rs nothing).control.graft) (gather b rs nothing).control.graft
      by (kind.Rpc d) = refl
      by kind.SubOpts = refl
      by kind.RawMessage = refl
      by kind.Topic = refl
      by (kind.ControlMessage d) = refl
      by kind.ControlIHave = refl
      by kind.ControlIWant = refl
      by kind.MessageId = refl
      by kind.ControlGraft = refl
      by kind.ControlPrune = refl
      by kind.PeerInfo = refl
      by kind.ControlIDontWant = refl

  pub prunes-step : prunes_in b (r ∷ rs) ≡ cond (is_code 9 r) (prune_of b r rs ∷ prunes_in b rs) (prunes_in b rs)
  unfolding prunes_in peers_from kind_code
  prunes-step = by r.kind
    where
      by : (k : Kind) → (gather_kind k b r (gather b rs nothing)).control.prune
          ≡ cond (eqb (kind_code k) 9) (prune_of b r rs ∷ (gather b rs nothing).control.prune) (gather b rs nothing).control.prune
      by (kind.Rpc d) = refl
      by kind.SubOpts = refl
      by kind.RawMessage = refl
      by kind.Topic = refl
      by (kind.ControlMessage d) = refl
      by kind.ControlIHave = refl
      by kind.ControlIWant = refl
      by kind.MessageId = refl
      by kind.ControlGraft = refl
      by kind.ControlPrune = refl
      by kind.PeerInfo = refl
      by kind.ControlIDontWant = refl

  pub topics-step : topics_from b (r ∷ rs) ≡ cond (is_code 2 r) [] (cond (is_code 3 r) (raw_of b r ∷ topics_from b rs) (topics_from b rs))
  unfolding topics_from kind_code
  topics-step = by r.kind
    where
      by : (k : Kind) → (gather_kind k b r (gather b rs nothing)).topics
          ≡ cond (eqb (kind_code k) 2) [] (cond (eqb (kind_code k) 3) (raw_of b r ∷ (gather b rs nothing).topics) (gather b rs nothing).topics)
      by (kind.Rpc d) = refl
      by kind.SubOpts = refl
      by kind.RawMessage = refl
      by kind.Topic = refl
      by (kind.ControlMessage d) = refl
      by kind.ControlIHave = refl
      by kind.ControlIWant = refl
      by kind.MessageId = refl
      by kind.ControlGraft = refl
      by kind.ControlPrune = refl
      by kind.PeerInfo = refl
      by kind.ControlIDontWant = refl

  pub peers-step : peers_from b (r ∷ rs) ≡ cond (is_code 9 r) [] (cond (is_code 10 r) (peer_of b r ∷ peers_from b rs) (peers_from b rs))
  unfolding peers_from kind_code
  peers-step = by r.kind
    where
      by : (k : Kind) → (gather_kind k b r (gather b rs nothing)).peers
          ≡ cond (eqb (kind_code k) 9) [] (cond (eqb (kind_code k) 10) (peer_of b r ∷ (gather b rs nothing).peers) (gather b rs nothing).peers)
      by (kind.Rpc d) = refl
      by kind.SubOpts = refl
      by kind.RawMessage = refl
      by kind.Topic = refl
      by (kind.ControlMessage d) = refl
      by kind.ControlIHave = refl
      by kind.ControlIWant = refl
      by kind.MessageId = refl
      by kind.ControlGraft = refl
      by kind.ControlPrune = refl
      by kind.PeerInfo = refl
      by kind.ControlIDontWant = refl

-- no rows say nothing
pub no-subscriptions : (b : List ℕ) → subscriptions_in b [] ≡ []
unfolding subscriptions_in
no-subscriptions b = refl

pub no-messages : (b : List ℕ) → messages_in b [] ≡ []
unfolding messages_in
no-messages b = refl

pub no-grafts : (b : List ℕ) → grafts_in b [] ≡ []
unfolding grafts_in
no-grafts b = refl

pub no-prunes : (b : List ℕ) → prunes_in b [] ≡ []
unfolding prunes_in
no-prunes b = refl

pub no-topics : (b : List ℕ) → topics_from b [] ≡ []
unfolding topics_from
no-topics b = refl

pub no-peers : (b : List ℕ) → peers_from b [] ≡ []
unfolding peers_from
no-peers b = refl

-- ---- a list, each of it a field, is the walk over its rows
each-is : {X : Type 0} (c n : ℕ) (b : List ℕ) (f : X → List ℕ) (one : Record → List Record → X) (all : List Record → List X)
    → all [] ≡ []
    → ((r : Record) (rs : List Record) → all (r ∷ rs) ≡ cond (is_code c r) (one r rs ∷ all rs) (all rs))
    → ((r : Record) (rs : List Record) → f (one r rs) ≡ row_bytes c b r rs)
    → (rs : List Record) → repeated (λ x. bytes_field n (f x)) (all rs) ≡ each_row c n b rs
each-is c n b f one all e0 e1 same [] = ap (repeated (λ x. bytes_field n (f x))) e0
each-is c n b f one all e0 e1 same (r ∷ rs) =
    let ih = each-is c n b f one all e0 e1 same rs in
    either (is_code c r)
    (λ t. ap (repeated (λ x. bytes_field n (f x))) (e1 r rs) ∙ simp (t, same r rs, ih))
    (λ t. ap (repeated (λ x. bytes_field n (f x))) (e1 r rs) ∙ simp (t, ih))

pub subscriptions-rows : (b : List ℕ) (rs : List Record)
    → repeated (λ o. bytes_field 1 (encode_sub_opts o)) (subscriptions_in b rs) ≡ each_row 1 1 b rs
unfolding row_bytes
subscriptions-rows b rs =
    each-is 1 1 b encode_sub_opts (λ r s. sub_opts_of b r) (subscriptions_in b) (no-subscriptions b) (subscriptions-step b) (λ r s. refl) rs

messages-each : (b : List ℕ) (rs : List Record)
    → repeated (λ m. bytes_field 2 (encode_message m)) (messages_in b rs) ≡ each_row 2 2 b rs
unfolding row_bytes
messages-each b rs =
    each-is 2 2 b encode_message (message_of b) (messages_in b) (no-messages b) (messages-step b) (λ r s. refl) rs

pub grafts-rows : (b : List ℕ) (rs : List Record)
    → repeated (λ g. bytes_field 3 (encode_graft g)) (grafts_in b rs) ≡ each_row 8 3 b rs
unfolding row_bytes
grafts-rows b rs =
    each-is 8 3 b encode_graft (λ r s. graft_of b r) (grafts_in b) (no-grafts b) (grafts-step b) (λ r s. refl) rs

pub prunes-rows : (b : List ℕ) (rs : List Record)
    → repeated (λ p. bytes_field 4 (encode_prune p)) (prunes_in b rs) ≡ each_row 9 4 b rs
unfolding row_bytes
prunes-rows b rs =
    each-is 9 4 b encode_prune (prune_of b) (prunes_in b) (no-prunes b) (prunes-step b) (λ r s. refl) rs

-- raw bytes that were made anew
renewed-each : (ms : List RawMessage) → repeated (λ m. bytes_field 2 m.raw) (map renewed ms) ≡ repeated (λ m. bytes_field 2 (encode_message m)) ms
renewed-each [] = refl
renewed-each (m ∷ ms) = ap (λ (l : List ℕ). bytes_field 2 (encode_message m) ++ l) (renewed-each ms)

pub messages-rows : (b : List ℕ) (rs : List Record)
    → repeated (λ m. bytes_field 2 m.raw) (map renewed (messages_in b rs)) ≡ each_row 2 2 b rs
messages-rows b rs = renewed-each (messages_in b rs) ∙ messages-each b rs

-- ---- a control is there where there is a graft or a prune
abbrev pub is_some : {X : Type 0} → List X → Bool
is_some [] = false
is_some (x ∷ xs) = true

some-step : {X : Type 0} (t : Bool) (x : X) (xs : List X) → is_some (cond t (x ∷ xs) xs) ≡ t || is_some xs
some-step true x xs = refl
some-step false x xs = refl

or_middle : (a b c d : Bool) → (a || c) || (b || d) ≡ (a || b) || (c || d)
or_middle true b c d = refl
or_middle false true true d = refl
or_middle false true false d = refl
or_middle false false true d = refl
or_middle false false false d = refl

pub has_row_lem : (b : List ℕ) (rs : List Record) → has_row rs ≡ is_some (grafts_in b rs) || is_some (prunes_in b rs)
has_row_lem b [] = sym (ap₂ (λ (x : List ControlGraft) (y : List ControlPrune). is_some x || is_some y) (no-grafts b) (no-prunes b))
has_row_lem b (r ∷ rs) =
    ap (λ (x : Bool). (is_code 8 r || is_code 9 r) || x) (has_row_lem b rs)
    ∙ sym (or_middle (is_code 8 r) (is_code 9 r) (is_some (grafts_in b rs)) (is_some (prunes_in b rs)))
    ∙ sym (ap₂ (λ (x y : Bool). x || y)
    (ap is_some (grafts-step b r rs) ∙ some-step (is_code 8 r) (graft_of b r) (grafts_in b rs))
    (ap is_some (prunes-step b r rs) ∙ some-step (is_code 9 r) (prune_of b r rs) (prunes_in b rs)))

control_bytes_lem : (gs : List ControlGraft) (ps : List ControlPrune)
    → optional (λ c. bytes_field 3 (encode_control c)) (control_of gs ps)
    ≡ cond (is_some gs || is_some ps) (bytes_field 3 (repeated (λ g. bytes_field 3 (encode_graft g)) gs ++ repeated (λ p. bytes_field 4 (encode_prune p)) ps)) []
unfolding encode_control
control_bytes_lem [] [] = refl
control_bytes_lem [] (p ∷ ps) = ap (bytes_field 3) (append-nil (repeated (λ p. bytes_field 4 (encode_prune p)) (p ∷ ps)))
control_bytes_lem (g ∷ gs) ps =
    ap (λ (l : List ℕ). bytes_field 3 (repeated (λ g. bytes_field 3 (encode_graft g)) (g ∷ gs) ++ l))
    (append-nil (repeated (λ p. bytes_field 4 (encode_prune p)) ps))

pub control_rows_lem : (b : List ℕ) (rs : List Record)
    → optional (λ c. bytes_field 3 (encode_control c)) (control_of (grafts_in b rs) (prunes_in b rs)) ≡ control_bytes b rs
unfolding control_bytes
control_rows_lem b rs =
    control_bytes_lem (grafts_in b rs) (prunes_in b rs)
    ∙ ap₂ (λ (t : Bool) (l : List ℕ). cond t (bytes_field 3 l) []) (sym (has_row_lem b rs))
    (ap₂ (λ (x y : List ℕ). x ++ y) (grafts-rows b rs) (prunes-rows b rs))

-- ---- the encoding of what rows say, as the writer goes
pub said-written : (b : List ℕ) (rs : List Record) → encode_rpc (said b rs) ≡ each_row 1 1 b rs ++ (each_row 2 2 b rs ++ control_bytes b rs)
unfolding encode_rpc said
said-written b rs =
    ap₂ (λ (x y : List ℕ). x ++ y) (subscriptions-rows b rs)
    (ap₂ (λ (x y : List ℕ). x ++ y) (messages-rows b rs) (control_rows_lem b rs))

-- ---- rows that are lent well lie within the bytes
-- the row at an index of a list
inside_at_lem : (t : List ℕ) (n i k : ℕ) (m p : Bool) → lent_from n m p (rows_in t i k) ≡ true → (j : ℕ) → i ≤ j → j < i + k
    → row_inside n (record_from t (j * 20)) ≡ true
inside_at_lem t n i zero m p h j l u = absurd (omega arith)
inside_at_lem t n i (suc k) m p h j l u =
    let r = record_from t (i * 20) in
    let a = both (held_by m p r.kind) (row_inside n r && lent_from n (m || is_code 2 r) (p || is_code 9 r) (rows_in t (i + 1) k)) h in
    let c = both (row_inside n r) (lent_from n (m || is_code 2 r) (p || is_code 9 r) (rows_in t (i + 1) k)) a.1 in
    either (eqb i j)
    (λ e. subst (λ (x : ℕ). row_inside n (record_from t (x * 20)) ≡ true) (eqb-true i j e) c.0)
    (λ e. let d = eqb-false i j e in inside_at_lem t n (i + 1) k (m || is_code 2 r) (p || is_code 9 r) c.1 j (omega arith) (omega arith))

pub lent-inside : (t b : List ℕ) → lent_well t b ≡ true → Inside t b
unfolding lent_well
lent-inside t b h =
    let a = both (eqb (length t % 20) 0) (lent_from (length b) false false (lent_rows t)) h in
    record { each = λ i l. inside_at_lem t (length b) 0 (length t / 20 - 0) false false a.1 i (omega arith) (omega arith) }
