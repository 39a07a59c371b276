-- On the way to what is written: what rows say that pass the tests. Its texts are UTF-8 and its numbers are below 2^64; each row is one record; nothing waits for a holder.
use Rattle.std.specs.Prelude.{Result, Ok, Err, ℕ, zero, suc, ◌+◌, ◌-◌, ◌*◌, ◌/◌, ◌≤◌, ◌≡◌, refl, Bool, true, false}
use Rattle.std.specs.Prelude.{◌&&◌, ◌||◌, List, [], ◌∷◌, map, length, get_or, ltb, eqb}
use Rattle.std.proofs.Common.{ap, ◌∙◌, arith, ltb-false, le-ltb}
use Rattle.std.proofs.Math.Bool.{or-false}
use Rattle.basis.specs.Cases.{either, clash, both}
use Rattle.utf8.specs.Grammar.{Utf8}
use Rattle.utf8.specs.Utf8.{is_utf8}
use Rattle.utf8.specs.Laws.{exactly}
use Rattle.protobuf.specs.Walk.{between}
use Rattle.schema.specs.declared.Kind.{Kind}
use Rattle.schema.specs.declared.Kind.TheVariants as kind
use Rattle.schema.specs.declared.Place.{Place}
use Rattle.schema.specs.declared.Place.TheVariants as place
use Rattle.schema.specs.Schema.{own_of}
use Rattle.schema.specs.Made.{number_from}
use Rattle.message.specs.declared.Record.{Record}
use Rattle.message.specs.Rows.{kind_code, record_from}
use Rattle.rpc.specs.Rpc.{RawMessage, ControlGraft, ControlPrune, ControlMessage}
use Rattle.rpc.specs.Grammar.{Each, none_left, ◌and◌}
use Rattle.rpc.specs.Encode.{encode_rpc}
use Rattle.meaning.specs.ReadBack.{bytes_at, number_at, Gathered, nothing, gather_kind, gather}
use Rattle.meaning.specs.Table.{rows_in}
use Rattle.meaning.specs.Size.{sum_of, some_records, records_in, weight, size-gather}
use Rattle.canonical.specs.Means.{opt, Small}
use Rattle.admission.specs.Flags.{known_flags}
use Rattle.compose.specs.declared.Wrong.{Wrong}
use Rattle.compose.specs.Lent.{lent_rows, is_code, row_inside, held_by, lent_from, lent_well}
use Rattle.compose.specs.Said.{encode_fields, encode_message, renewed, subscriptions_in, messages_in, grafts_in, prunes_in, control_of, said}
use Rattle.compose.specs.Weighed.{and_then, first_unfit}
use Rattle.compose.specs.Compose.{moved, text_in, text_of, text_fine, texts_fine, count_fine, lists_of, length_fine, flags_fine, write_tested}
use Rattle.composed.specs.Written.{Words, PlainPrune, PlainControl, Plain, Spoken, Sayable}

-- ---- what the tests say
pub both-fine : (p q : Result (Unit {0}) Wrong) → and_then p q ≡ Ok tt → (p ≡ Ok tt) × (q ≡ Ok tt)
both-fine (Ok tt) q h = (refl, h)
both-fine (Err why) q h = clash (cc)

pub fine-both : (p q : Result (Unit {0}) Wrong) → p ≡ Ok tt → q ≡ Ok tt → and_then p q ≡ Ok tt
fine-both p q e f = rw (e, f)

-- lists that both calls take
pub record Taken (t b : List ℕ) : Type 0 where
  pub well : lent_well t b ≡ true
  pub texts : texts_fine b (lent_rows t) ≡ Ok tt
  pub few : length t / 20 ≤ 512

count-few : (n : ℕ) → count_fine n ≡ Ok tt → n ≤ 512
unfolding count_fine
count-few n h = either (ltb 512 n) (λ t. clash (let z = simp t at h in cc)) (λ t. ltb-false 512 n t)

few-count : (n : ℕ) → n ≤ 512 → count_fine n ≡ Ok tt
unfolding count_fine
few-count n h = simp (le-ltb 512 n h)

pub taken_of : (t b : List ℕ) → lists_of t b ≡ Ok tt → Taken t b
unfolding lists_of
taken_of t b h =
    either (lent_well t b)
    (λ w. let g = both-fine (texts_fine b (lent_rows t)) (count_fine (length t / 20)) (simp w at h) in
    record { well = w; texts = g.0; few = count-few (length t / 20) g.1 })
    (λ w. clash (let z = simp w at h in cc))

pub of-taken : (t b : List ℕ) → Taken t b → lists_of t b ≡ Ok tt
unfolding lists_of
of-taken t b h =
    simp h.well (fine-both (texts_fine b (lent_rows t)) (count_fine (length t / 20)) h.texts (few-count (length t / 20) h.few))

-- and those that write_rpc takes under some flags
pub record Passed (flags : ℕ) (t b : List ℕ) : Type 0 where
  pub known : known_flags flags ≡ true
  pub taken : Taken t b
  pub fit : first_unfit flags (messages_in b (lent_rows t)) ≡ Ok tt
  pub short : length (encode_rpc (said b (lent_rows t))) ≤ 65536

length-short : (xs : List ℕ) → length_fine xs ≡ Ok tt → length xs ≤ 65536
unfolding length_fine
length-short xs h = either (ltb 65536 (length xs)) (λ t. clash (let z = simp t at h in cc)) (λ t. ltb-false 65536 (length xs) t)

short-length : (xs : List ℕ) → length xs ≤ 65536 → length_fine xs ≡ Ok tt
unfolding length_fine
short-length xs h = simp (le-ltb 65536 (length xs) h)

flags-known : (flags : ℕ) → flags_fine flags ≡ Ok tt → known_flags flags ≡ true
unfolding flags_fine
flags-known flags h = either (known_flags flags) (λ t. t) (λ t. clash (let z = simp t at h in cc))

known_flags_lem : (flags : ℕ) → known_flags flags ≡ true → flags_fine flags ≡ Ok tt
unfolding flags_fine
known_flags_lem flags h = simp h

pub passed-of : (flags : ℕ) (t b : List ℕ) → write_tested flags t b ≡ Ok tt → Passed flags t b
unfolding write_tested
passed-of flags t b h =
    let xs = encode_rpc (said b (lent_rows t)) in
    let ms = first_unfit flags (messages_in b (lent_rows t)) in
    let f = both-fine (flags_fine flags) (and_then (lists_of t b) (and_then ms (length_fine xs))) h in
    let g = both-fine (lists_of t b) (and_then ms (length_fine xs)) f.1 in
    let k = both-fine ms (length_fine xs) g.1 in
    record { known = flags-known flags f.0; taken = taken_of t b g.0; fit = k.0; short = length-short xs k.1 }

pub of-passed : (flags : ℕ) (t b : List ℕ) → Passed flags t b → write_tested flags t b ≡ Ok tt
unfolding write_tested
of-passed flags t b h =
    let xs = encode_rpc (said b (lent_rows t)) in
    let ms = first_unfit flags (messages_in b (lent_rows t)) in
    fine-both (flags_fine flags) (and_then (lists_of t b) (and_then ms (length_fine xs))) (known_flags_lem flags h.known)
    (fine-both (lists_of t b) (and_then ms (length_fine xs)) (of-taken t b h.taken)
    (fine-both ms (length_fine xs) h.fit (short-length xs h.short)))

-- ---- a row's text and number
text-between : (b : List ℕ) (a e : ℕ) → text_fine b (place.Present a e) ≡ Ok tt → Utf8 (between b a e)
unfolding text_fine
text-between b a e h =
    either (is_utf8 (between b a e)) (λ t. (exactly (between b a e)).0 t) (λ t. clash (let z = simp t at h in cc))

text_at : (b : List ℕ) (at : ℕ) (p : Place) → text_fine b (moved at p) ≡ Ok tt → Each Utf8 (opt (bytes_at b at p))
text_at b at place.Absent h = none_left
text_at b at (place.Present a e) h = text-between b (at + a) (at + e) h and none_left

abbrev SmallNumber : Record → Type 0
SmallNumber r = Each Small (opt (number_at r.slots.number))

record_number : (t : List ℕ) (i : ℕ) → Words t → SmallNumber (record_from t i)
unfolding record_from number_from
record_number t i w = either (eqb (get_or t (i + 3) 0) 0) (λ e. simp e none_left) (λ e. simp e (w (i + 4) and none_left))

small-numbers : (t : List ℕ) → Words t → (i n : ℕ) → Each SmallNumber (rows_in t i n)
small-numbers t w i zero = none_left
small-numbers t w i (suc n) = record_number t (i * 20) w and small-numbers t w (i + 1) n

-- ---- what is gathered has UTF-8 in texts, and numbers below 2^64
pub record Texts (g : Gathered) : Type 0 where
  pub topics : Each Utf8 g.topics
  pub subscriptions : Each (λ o. Each Utf8 (opt o.topic_id)) g.subscriptions
  pub publish : Each (λ m. Each Utf8 m.topic_ids) g.publish
  pub grafts : Each (λ x. Each Utf8 (opt x.topic_id)) g.control.graft
  pub prunes : Each PlainPrune g.control.prune

-- the same in what is gathered of a row that has no text
texts_kind : (k : Kind) (b : List ℕ) (r : Record) (g : Gathered) → text_fine b (text_in k r) ≡ Ok tt → SmallNumber r → Texts g
    → Texts (gather_kind k b r g)
texts_kind (kind.Rpc d) b r g h n o = o
texts_kind kind.SubOpts b r g h n o =
    record {
      topics = o.topics;
      subscriptions = text_at b r.start r.slots.first h and o.subscriptions;
      publish = o.publish;
      grafts = o.grafts;
      prunes = o.prunes;
    }
texts_kind kind.RawMessage b r g h n o =
    record {
      topics = none_left;
      subscriptions = o.subscriptions;
      publish = o.topics and o.publish;
      grafts = o.grafts;
      prunes = o.prunes;
    }
texts_kind kind.Topic b r g h n o =
    record {
      topics = text-between b r.start r.end h and o.topics;
      subscriptions = o.subscriptions;
      publish = o.publish;
      grafts = o.grafts;
      prunes = o.prunes;
    }
texts_kind (kind.ControlMessage d) b r g h n o = o
texts_kind kind.ControlIHave b r g h n o =
    record { topics = o.topics; subscriptions = o.subscriptions; publish = o.publish; grafts = o.grafts; prunes = o.prunes }
texts_kind kind.ControlIWant b r g h n o =
    record { topics = o.topics; subscriptions = o.subscriptions; publish = o.publish; grafts = o.grafts; prunes = o.prunes }
texts_kind kind.MessageId b r g h n o =
    record { topics = o.topics; subscriptions = o.subscriptions; publish = o.publish; grafts = o.grafts; prunes = o.prunes }
texts_kind kind.ControlGraft b r g h n o =
    record {
      topics = o.topics;
      subscriptions = o.subscriptions;
      publish = o.publish;
      grafts = text_at b r.start r.slots.first h and o.grafts;
      prunes = o.prunes;
    }
texts_kind kind.ControlPrune b r g h n o =
    record {
      topics = o.topics;
      subscriptions = o.subscriptions;
      publish = o.publish;
      grafts = o.grafts;
      prunes = record { topic = text_at b r.start r.slots.first h; backoff = n } and o.prunes;
    }
texts_kind kind.PeerInfo b r g h n o =
    record { topics = o.topics; subscriptions = o.subscriptions; publish = o.publish; grafts = o.grafts; prunes = o.prunes }
texts_kind kind.ControlIDontWant b r g h n o =
    record {
      topics = o.topics;
      subscriptions = o.subscriptions;
      publish = o.publish;
      grafts = o.grafts;
      prunes = o.prunes;
    }

texts-rows : (b : List ℕ) (rs : List Record) → texts_fine b rs ≡ Ok tt → Each SmallNumber rs → Texts (gather b rs nothing)
unfolding text_of
texts-rows b [] h n =
    record { topics = none_left; subscriptions = none_left; publish = none_left; grafts = none_left; prunes = none_left }
texts-rows b (r ∷ rs) h (n and ns) =
    let g = both-fine (text_fine b (text_of r)) (texts_fine b rs) h in
    texts_kind r.kind b r (gather b rs nothing) g.0 n (texts-rows b rs g.1 ns)

-- ---- so is the RPC
renewed-texts : {ms : List RawMessage} → Each (λ m. Each Utf8 m.topic_ids) ms → Each (λ m. Each Utf8 m.topic_ids) (map renewed ms)
renewed-texts none_left = none_left
renewed-texts (p and ps) = p and renewed-texts ps

plain-control : (gs : List ControlGraft) (ps : List ControlPrune) → Each (λ g. Each Utf8 (opt g.topic_id)) gs → Each PlainPrune ps
    → Each PlainControl (opt (control_of gs ps))
plain-control [] [] p q = none_left
plain-control [] (x ∷ ps) p q = record { grafts = p; prunes = q } and none_left
plain-control (g ∷ gs) ps p q = record { grafts = p; prunes = q } and none_left

pub said_plain : (t b : List ℕ) → Words t → texts_fine b (lent_rows t) ≡ Ok tt → Plain (said b (lent_rows t))
unfolding said subscriptions_in messages_in grafts_in prunes_in
said_plain t b w h =
    let o = texts-rows b (lent_rows t) h (small-numbers t w 0 (length t / 20 - 0)) in
    record {
      subscriptions = o.subscriptions;
      publish = renewed-texts o.publish;
      control = plain-control (gather b (lent_rows t) nothing).control.graft (gather b (lent_rows t) nothing).control.prune o.grafts o.prunes;
    }

-- ---- and what lists say is what they can say
renewed-raws : (ms : List RawMessage) → Each (λ m. m.raw ≡ encode_message m) (map renewed ms)
unfolding encode_message encode_fields
renewed-raws [] = none_left
renewed-raws (m ∷ ms) = let e : (renewed m).raw ≡ encode_message (renewed m) = refl in e and renewed-raws ms

spoken-control : (gs : List ControlGraft) (ps : List ControlPrune) → Each Spoken (opt (control_of gs ps))
spoken-control [] [] = none_left
spoken-control [] (x ∷ ps) =
    let c : Spoken (record { ihave = []; iwant = []; graft = []; prune = x ∷ ps; idontwant = [] }) =
    record { quiet = record { ihave = refl; iwant = refl; idontwant = refl }; there = omega arith } in
    c and none_left
spoken-control (g ∷ gs) ps =
    let c : Spoken (record { ihave = []; iwant = []; graft = g ∷ gs; prune = ps; idontwant = [] }) =
    record { quiet = record { ihave = refl; iwant = refl; idontwant = refl }; there = omega arith } in
    c and none_left

pub said_sayable : (b : List ℕ) (rs : List Record) → Sayable (said b rs)
unfolding said
said_sayable b rs = record { raws = renewed-raws (messages_in b rs); control = spoken-control (grafts_in b rs) (prunes_in b rs) }

-- ---- what still waits for its holder: nothing but topics where a message came before, and peers where a prune did
pub record Waits (m p : Bool) (g : Gathered) : Type 0 where
  pub topics : m ≡ false → g.topics ≡ []
  pub peers : p ≡ false → g.peers ≡ []
  pub ids : g.ids ≡ []
  pub ihave : g.control.ihave ≡ []
  pub iwant : g.control.iwant ≡ []
  pub idontwant : g.control.idontwant ≡ []

waits_kind : (k : Kind) (b : List ℕ) (r : Record) (g : Gathered) (m p : Bool) → held_by m p k ≡ true
    → Waits (m || eqb (kind_code k) 2) (p || eqb (kind_code k) 9) g → Waits m p (gather_kind k b r g)
unfolding held_by kind_code
waits_kind (kind.Rpc d) b r g m p h w = clash (cc)
waits_kind kind.SubOpts b r g m p h w =
    record {
      topics = λ e. w.topics (or-false m ∙ e);
      peers = λ e. w.peers (or-false p ∙ e);
      ids = w.ids;
      ihave = w.ihave;
      iwant = w.iwant;
      idontwant = w.idontwant;
    }
waits_kind kind.RawMessage b r g m p h w =
    record {
      topics = λ e. refl;
      peers = λ e. w.peers (or-false p ∙ e);
      ids = w.ids;
      ihave = w.ihave;
      iwant = w.iwant;
      idontwant = w.idontwant;
    }
waits_kind kind.Topic b r g m p h w =
    record {
      topics = λ e. clash (cc);
      peers = λ e. w.peers (or-false p ∙ e);
      ids = w.ids;
      ihave = w.ihave;
      iwant = w.iwant;
      idontwant = w.idontwant;
    }
waits_kind (kind.ControlMessage d) b r g m p h w = clash (cc)
waits_kind kind.ControlIHave b r g m p h w = clash (cc)
waits_kind kind.ControlIWant b r g m p h w = clash (cc)
waits_kind kind.MessageId b r g m p h w = clash (cc)
waits_kind kind.ControlGraft b r g m p h w =
    record {
      topics = λ e. w.topics (or-false m ∙ e);
      peers = λ e. w.peers (or-false p ∙ e);
      ids = w.ids;
      ihave = w.ihave;
      iwant = w.iwant;
      idontwant = w.idontwant;
    }
waits_kind kind.ControlPrune b r g m p h w =
    record {
      topics = λ e. w.topics (or-false m ∙ e);
      peers = λ e. refl;
      ids = w.ids;
      ihave = w.ihave;
      iwant = w.iwant;
      idontwant = w.idontwant;
    }
waits_kind kind.PeerInfo b r g m p h w =
    record {
      topics = λ e. w.topics (or-false m ∙ e);
      peers = λ e. clash (cc);
      ids = w.ids;
      ihave = w.ihave;
      iwant = w.iwant;
      idontwant = w.idontwant;
    }
waits_kind kind.ControlIDontWant b r g m p h w = clash (cc)

pub lent_waits : (b : List ℕ) (n : ℕ) (m p : Bool) (rs : List Record) → lent_from n m p rs ≡ true → Waits m p (gather b rs nothing)
lent_waits b n m p [] h =
    record { topics = λ e. refl; peers = λ e. refl; ids = refl; ihave = refl; iwant = refl; idontwant = refl }
lent_waits b n m p (r ∷ rs) h =
    let m' = m || is_code 2 r in
    let p' = p || is_code 9 r in
    let a = both (held_by m p r.kind) (row_inside n r && lent_from n m' p' rs) h in
    let c = both (row_inside n r) (lent_from n m' p' rs) a.1 in
    waits_kind r.kind b r (gather b rs nothing) m p a.0 (lent_waits b n m' p' rs c.1)

-- ---- each row is one record
held-own : (k : Kind) (m p : Bool) → held_by m p k ≡ true → own_of k ≡ 1
unfolding held_by own_of
held-own (kind.Rpc d) m p h = clash (cc)
held-own kind.SubOpts m p h = refl
held-own kind.RawMessage m p h = refl
held-own kind.Topic m p h = refl
held-own (kind.ControlMessage d) m p h = clash (cc)
held-own kind.ControlIHave m p h = refl
held-own kind.ControlIWant m p h = refl
held-own kind.MessageId m p h = refl
held-own kind.ControlGraft m p h = refl
held-own kind.ControlPrune m p h = refl
held-own kind.PeerInfo m p h = refl
held-own kind.ControlIDontWant m p h = refl

lent-weight : (n : ℕ) (m p : Bool) (rs : List Record) → lent_from n m p rs ≡ true → weight rs ≡ length rs
lent-weight n m p [] h = refl
lent-weight n m p (r ∷ rs) h =
    let m' = m || is_code 2 r in
    let p' = p || is_code 9 r in
    let a = both (held_by m p r.kind) (row_inside n r && lent_from n m' p' rs) h in
    let c = both (row_inside n r) (lent_from n m' p' rs) a.1 in
    let e = held-own r.kind m p a.0 in
    let f = lent-weight n m' p' rs c.1 in
    omega arith

renewed-sum : (ms : List RawMessage) → sum_of (λ m. 1 + length m.topic_ids) (map renewed ms) ≡ sum_of (λ m. 1 + length m.topic_ids) ms
renewed-sum [] = refl
renewed-sum (m ∷ ms) = ap (λ (n : ℕ). (1 + length m.topic_ids) + n) (renewed-sum ms)

control_records_lem : (gs : List ControlGraft) (ps : List ControlPrune)
    → some_records (control_of gs ps) ≡ length gs + sum_of (λ p. 1 + length p.peers) ps
control_records_lem [] [] = refl
control_records_lem [] (x ∷ ps) = omega arith
control_records_lem (g ∷ gs) ps = omega arith

pub said-records : (b : List ℕ) (n : ℕ) (rs : List Record) → lent_from n false false rs ≡ true → records_in (said b rs) ≡ length rs
unfolding records_in said subscriptions_in messages_in grafts_in prunes_in
said-records b n rs h =
    let g = gather b rs nothing in
    let w = lent_waits b n false false rs h in
    let e = size-gather b rs nothing in
    let f = lent-weight n false false rs h in
    let t = ap length (w.topics refl) in
    let p = ap length (w.peers refl) in
    let i = ap length w.ids in
    let x = ap (sum_of (λ h. 1 + length h.message_ids)) w.ihave in
    let y = ap (sum_of (λ h. 1 + length h.message_ids)) w.iwant in
    let z = ap (sum_of (λ h. 1 + length h.message_ids)) w.idontwant in
    let r = renewed-sum g.publish in
    let c = control_records_lem g.control.graft g.control.prune in
    omega arith
