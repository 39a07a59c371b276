-- The messages in a tested cache: each is a message of the grammar, with at most 4 topics, all UTF-8, and at most 4,096
-- bytes; and its id has at most 128.
use Rattle.std.specs.Prelude.{ℕ, zero, suc, ◌+◌, ◌*◌, ◌≤◌, ◌<◌, ◌≡◌, refl, true, length, take, drop, get_or}
use Rattle.std.proofs.Common.{sym, ap₂, subst, ◌∙◌, ⊎_elim, arith, zero-lt-suc, length-take}
use mathlib.Core.List.Memᴰ
use mathlib.Core.List.{List, [], ◌∷◌, map, Memᴰ}
use Rattle.basis.specs.declared.Mode.{Mode}
use Rattle.basis.specs.Dialect.{mode_of}
use Rattle.basis.specs.Bytes.{Bytes}
use Rattle.basis.specs.Lists.{drop-bytes, take-bytes}
use Rattle.utf8.specs.Grammar.{Utf8}
use Rattle.rows.specs.Rows.{tab, place_of, rows_in}
use Rattle.rows.specs.Store.{id_at}
use Rattle.protobuf.specs.Walk.{Fields, end, refused, ◌then◌, fields_of}
use Rattle.rpc.specs.Rpc.{RawMessage}
use Rattle.rpc.specs.Grammar.{Each, none_left, ◌and◌, Pairs, no_pairs, ◌paired◌, IsMessage, is-message}
use Rattle.meaning.specs.Accepted.{message-means}
use Rattle.meaning.specs.Size.{sum_of}
use Rattle.admission.specs.Admission.{topics_along, topics_of}
use Rattle.admission.specs.AdmissionLaws.{Gives, gives-only, fit-limits}
use Rattle.mcache.specs.declared.MessageCache.{MessageCache}
use Rattle.mcache.specs.Messages.{Cached}
use Rattle.mcache.specs.State.{message_in, cached_at, cached_in, ring_of, message_size, message_id_size}
use Rattle.mcache.specs.StateLaws.{Tests, row_gives, row-id-short}
use Rattle.node.specs.Parts.{values_along}
use Rattle.canonical.specs.Means.{Sized}
use Rattle.canon.specs.Messages.{raw-is}
use Rattle.outputs.specs.Offered.{values-body}

-- ---- each of a list
pub each_take : {A : Type 0} {P : A → Type 0} (k : ℕ) {l : List A} → Each P l → Each P (take k l)
each_take zero ps = none_left
each_take (suc k) none_left = none_left
each_take (suc k) (p and ps) = p and each_take k ps

pub each_in : {A : Type 0} {P : A → Type 0} (a : A) {l : List A} → Each P l → Memᴰ a l → P a
each_in a none_left m = absurd (Memᴰ.not-nil m)
each_in {P = P} a (◌and◌ {x = b} {xs = l} p ps) m =
    ⊎_elim (λ (e : a ≡ b). subst P (sym e) p) (λ (r : Memᴰ a l). each_in a ps r) (Memᴰ.cases_cons m)

each-tab : {A : Type 0} {P : A → Type 0} (f : ℕ → A) (n : ℕ) → ((i : ℕ) → i < n → P (f i)) → Each P (tab f n)
each-tab f zero h = none_left
each-tab f (suc n) h = h 0 (zero-lt-suc n) and each-tab (λ (i : ℕ). f (suc i)) n (λ i k. h (suc i) (omega arith))

-- ---- the topics of a message are those that it means
topics-values : (p : List ℕ) (w : Fields) → topics_along p w ≡ values_along 4 p w
topics-values p end = refl
topics-values p (refused why) = refl
topics-values p (f then w) = rw (topics-values p w)

pub topics-mean : (mode : Mode) {p : List ℕ} {m : RawMessage} → IsMessage mode p m → (m.topic_ids ≡ topics_of mode p)
    × Each Utf8 (topics_of mode p)
unfolding topics_of
topics-mean mode (is-message {s = p} {es = es} g u) =
    let e = topics-values p (fields_of mode p) ∙ values-body mode 4 p es g in
    (sym e, subst (Each Utf8) (sym e) u)

-- ---- a message that may be taken
pub record Message (mode : Mode) (p : List ℕ) : Type 0 where
  pub value : RawMessage
  pub means : IsMessage mode p value
  pub few : length value.topic_ids ≤ 4
  pub texts : Each Utf8 (topics_of mode p)
  pub small : length p ≤ message_size

pub message-given : (flags : ℕ) (p i : List ℕ) → Bytes p → Gives flags p i → Message (mode_of flags) p
message-given flags p i b g =
    let l = fit-limits flags p true g.from_start g.from_end g.seqno-start g.seqno-end g.taken in
    let m = message-means (mode_of flags) p b (record { records = g.records; counts = g.read }) in
    let t = topics-mean (mode_of flags) m.means in
    record { value = m.value; means = m.means; few = rw t.0 l.few; texts = t.1; small = l.small }

-- ---- those of a tested cache
bytes_in_lem : (lens st : List ℕ) (p : ℕ) → Bytes st → Bytes (message_in lens st p)
unfolding message_in
bytes_in_lem lens st p b = take-bytes (get_or lens p 0) (drop (p * message_size) st) (drop-bytes (p * message_size) st b)

module _ (c : MessageCache) (st : List ℕ) (t : Tests c st) (b : Bytes st) where
  pub row-message : (i : ℕ) → i < c.count → Message (mode_of c.flags) (message_in c.len st (place_of (ring_of c) i))
  row-message i h =
      let p = place_of (ring_of c) i in
      let m = message_in c.len st p in
      let j = id_at message_id_size c.id_len c.ids p in
      message-given c.flags m j (bytes_in_lem c.len st p b) (gives-only c.flags m j (row_gives c st t i h))

-- a cached message with its id
pub record CachedMessage (mode : Mode) (m : Cached) : Type 0 where
  pub message : Message mode m.message
  pub id-short : length m.id ≤ message_id_size

id-length : (lens ids : List ℕ) (p : ℕ) → get_or lens p 0 ≤ message_id_size
    → length (id_at message_id_size lens ids p) ≤ message_id_size
unfolding id_at
id-length lens ids p h = omega (arith, length-take (get_or lens p 0) (drop (p * message_id_size) ids))

module _ (c : MessageCache) (st : List ℕ) (t : Tests c st) (b : Bytes st) where
  row-cached : (i : ℕ) → i < c.count → CachedMessage (mode_of c.flags) (cached_at c st (place_of (ring_of c) i))
  unfolding cached_at
  row-cached i h =
      record {
        message = row-message c st t b i h;
        id-short = id-length c.id_len c.ids (place_of (ring_of c) i) (row-id-short c st t i h);
      }

  pub each-cached : Each (CachedMessage (mode_of c.flags)) (cached_in c st)
  unfolding cached_in rows_in
  each-cached = each-tab (λ (i : ℕ). cached_at c st (place_of (ring_of c) i)) c.count row-cached

-- ---- messages, one by one
pub record Messages (mode : Mode) (ps : List (List ℕ)) : Type 0 where
  pub values : List RawMessage
  pub means : Pairs (IsMessage mode) ps values
  pub raws : map (λ (m : RawMessage). m.raw) values ≡ ps
  pub few : sum_of (λ m. 1 + length m.topic_ids) values ≤ 5 * length ps
  pub sized : Each Sized ps

pub all-messages : (mode : Mode) {ps : List (List ℕ)} → Each (Message mode) ps → Messages mode ps
all-messages mode none_left = record { values = []; means = no_pairs; raws = refl; few = omega arith; sized = none_left }
all-messages mode (◌and◌ {x = p} {xs = ps} m ms) =
    let r = all-messages mode ms in
    let k : Sized p = omega (arith, m.small) in
    record {
      values = m.value ∷ r.values;
      means = m.means paired r.means;
      raws = ap₂ (λ (x : List ℕ) (l : List (List ℕ)). x ∷ l) (raw-is mode m.means) r.raws;
      few = omega (arith, m.few, r.few);
      sized = k and r.sized;
    }
