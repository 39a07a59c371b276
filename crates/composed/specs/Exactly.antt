-- What `write_rpc` and `sign_fields` tell and leave, as the scope has it, both ways: bytes are written where no refusal holds, and each refusal is given exactly
-- where the earlier ones do not hold. First the scope's words: which lists are lent well, which is the first topic that is no text, which message is the first
-- that may not be written. Numbers are without bound; nothing wraps.
use Rattle.std.specs.Prelude.{Result, Ok, Err, ℕ, zero, suc, ◌+◌, ◌/◌, ◌%◌, ◌≤◌, ◌<◌, ◌≡◌, Bool, true, false, ◌&&◌}
use Rattle.std.specs.Prelude.{◌||◌, List, [], ◌∷◌, ◌++◌, ◌↔◌, length, drop, ltb, leb, eqb}
use Rattle.std.proofs.Math.Path.{refl}
use Rattle.std.proofs.Common.{sym, ap, ap₂, subst, ◌∙◌, arith}
use borrow.Author.Tests.{ltb-true, ltb-false, lt-ltb, le-ltb, leb-true, leb-false, le-leb, lt-leb, eqb-true, eq-eqb}
use Rattle.basis.specs.declared.Told.{Told}
use Rattle.basis.specs.Refusals.{bad_setting, malformed, invalid_utf8, too_many-records, no-message, rpc-too_long, short-room}
use Rattle.basis.specs.Told.{told, done}
use Rattle.basis.specs.Cases.{either, clash, both}
use Rattle.basis.specs.Writing.{written}
use Rattle.utf8.specs.Grammar.{Utf8}
use Rattle.utf8.specs.Utf8.{is_utf8}
use Rattle.utf8.specs.Laws.{exactly as utf8-exactly}
use Rattle.protobuf.specs.Walk.{between}
use Rattle.schema.specs.declared.Kind.{Kind}
use Rattle.schema.specs.declared.Kind.TheVariants as kind
use Rattle.schema.specs.declared.Place.{Place}
use Rattle.schema.specs.declared.Place.TheVariants as place
use Rattle.schema.specs.declared.Slots.{Slots}
use Rattle.schema.specs.Schema.{own_of}
use Rattle.message.specs.declared.Record.{Record}
use Rattle.message.specs.Rows.{kind_code, kind_from}
use Rattle.meaning.specs.Table.{IsRecord, kind_back}
use Rattle.rpc.specs.Rpc.{RawMessage}
use Rattle.rpc.specs.Grammar.{Each, none_left, ◌and◌}
use Rattle.rpc.specs.Encode.{encode_rpc, sign_bytes}
use Rattle.canon.specs.Messages.{Nth, here, there}
use Rattle.canonical.specs.Calls.{Writes, fits, short}
use Rattle.admission.specs.Flags.{known_flags}
use Rattle.compose.specs.declared.Wrong.{Wrong}
use Rattle.compose.specs.declared.Wrong.TheVariants.{NotLent, InvalidUtf8, TooManyRecords}
use Rattle.compose.specs.Lent.{lent_rows, is_code, inside_at, fields_inside, row_inside, held_by, lent_from, lent_well}
use Rattle.compose.specs.Said.{messages_in, said}
use Rattle.compose.specs.Weighed.{capped, and_then, weighed, first_unfit}
use Rattle.compose.specs.Compose.{moved, text_in, text_of, text_fine, texts_fine, count_fine, lists_of, put_answer, answering, leaving}
use Rattle.compose.specs.Compose.{length_fine, flags_fine, write_tested, write_answer, write_left, sign_at, signed_at, sign_answer, sign_left}
use Rattle.compose.specs.Told.{wrong_told, composed_told}
use Rattle.compose.specs.Puts.{capped_small}
use Rattle.compose.specs.Laws.{code_kind}
use Rattle.composed.specs.Signed.{nth_drop}

-- ---- 42: which lists are lent well
-- a place of a row that begins at `at`, within n lent bytes
pub data PlaceLent (n at : ℕ) : Place → Type 0 where
  absent : PlaceLent n at place.Absent
  present : {a e : ℕ} → a ≤ e → at + e ≤ n → PlaceLent n at (place.Present a e)

-- a row of that kind is among these
pub data Stands (k : Kind) : List Record → Type 0 where
  first : {r : Record} {rs : List Record} → r.kind ≡ k → Stands k (r ∷ rs)
  later : {r : Record} {rs : List Record} → Stands k rs → Stands k (r ∷ rs)

-- a row that begins at `at` after the rows `before`, of one of six kinds: the fields that its kind has; a topic after a
-- message, a peer after a prune
pub data KindLent (n at : ℕ) (before : List Record) (t : Slots) : Kind → Type 0 where
  sub_opts : PlaceLent n at t.first → KindLent n at before t kind.SubOpts
  message : PlaceLent n at t.first → PlaceLent n at t.second → PlaceLent n at t.third
      → PlaceLent n at t.fourth → PlaceLent n at t.fifth → KindLent n at before t kind.RawMessage
  topic : Stands kind.RawMessage before → KindLent n at before t kind.Topic
  graft : PlaceLent n at t.first → KindLent n at before t kind.ControlGraft
  prune : PlaceLent n at t.first → KindLent n at before t kind.ControlPrune
  peer_info : Stands kind.ControlPrune before → PlaceLent n at t.first → PlaceLent n at t.second
      → KindLent n at before t kind.PeerInfo

pub record RowLent (n : ℕ) (before : List Record) (r : Record) : Type 0 where
  pub order : r.start ≤ r.end
  pub inside : r.end ≤ n
  pub fields : KindLent n r.start before r.slots r.kind

-- each row, after those before it, of which the last comes first
pub data RowsLent (n : ℕ) : List Record → List Record → Type 0 where
  no_more : {before : List Record} → RowsLent n before []
  row : {before : List Record} {r : Record} {rs : List Record} → RowLent n before r → RowsLent n (r ∷ before) rs
      → RowsLent n before (r ∷ rs)

-- a table of whole rows, over the bytes b
pub record Lent (t b : List ℕ) : Type 0 where
  pub whole : length t % 20 ≡ 0
  pub rows : RowsLent (length b) [] (lent_rows t)

-- ---- 7: topics
pub data HasTopic : Kind → Type 0 where
  sub_opts : HasTopic kind.SubOpts
  graft : HasTopic kind.ControlGraft
  prune : HasTopic kind.ControlPrune

-- the topic of a row stands from a up to e in the lent bytes
pub data TopicAt (r : Record) : ℕ → ℕ → Type 0 where
  own : r.kind ≡ kind.Topic → TopicAt r r.start r.end
  field : {k : Kind} {x y : ℕ} → r.kind ≡ k → HasTopic k → r.slots.first ≡ place.Present x y
      → TopicAt r (r.start + x) (r.start + y)

-- it is text, if there is one
abbrev pub IsText : List ℕ → Record → Type 0
IsText b r = (a e : ℕ) → TopicAt r a e → Utf8 (between b a e)

-- the first that is none begins at a
pub data FirstBad (b : List ℕ) : List Record → ℕ → Type 0 where
  bad : {r : Record} {rs : List Record} {a e : ℕ} → TopicAt r a e → (Utf8 (between b a e) → ⊥) → FirstBad b (r ∷ rs) a
  past : {r : Record} {rs : List Record} {a : ℕ} → IsText b r → FirstBad b rs a → FirstBad b (r ∷ rs) a

-- ---- what both calls meet: 42; 7, where the topic begins in the lent bytes; 11, the number of rows
pub data ListsRefused (t b : List ℕ) : Told → Type 0 where
  not-lent : (Lent t b → ⊥) → ListsRefused t b (told malformed [])
  bad-topic : {a : ℕ} → Lent t b → FirstBad b (lent_rows t) a → ListsRefused t b (told invalid_utf8 (a ∷ []))
  too_many : Lent t b → Each (IsText b) (lent_rows t) → 512 < length t / 20
      → ListsRefused t b (told too_many-records (length t / 20 ∷ []))

-- or none of these
pub record ListsFine (t b : List ℕ) : Type 0 where
  pub lent : Lent t b
  pub texts : Each (IsText b) (lent_rows t)
  pub few : length t / 20 ≤ 512

-- ---- message by message: the first that may not be written
pub data FirstUnfit (flags : ℕ) : List RawMessage → Told → Type 0 where
  unfit : {m : RawMessage} {ms : List RawMessage} {w : Wrong} → weighed flags m ≡ Err w → FirstUnfit flags (m ∷ ms) (wrong_told w)
  past : {m : RawMessage} {ms : List RawMessage} {a : Told} → weighed flags m ≡ Ok tt → FirstUnfit flags ms a → FirstUnfit flags (m ∷ ms) a

abbrev pub AllFit : ℕ → List RawMessage → Type 0
AllFit flags = Each (λ (m : RawMessage). weighed flags m ≡ Ok tt)

-- ---- what write_rpc tells and leaves: `encode_rpc (said ..)` are the bytes of the RPC that the lists say
pub data WritesRpc (flags : ℕ) (t b out : List ℕ) : Told → List ℕ → Type 0 where
  -- 40: flags that are not known
  bad-flags : known_flags flags ≡ false → WritesRpc flags t b out (told bad_setting []) out
  -- 42, 7, 11
  lists-refused : {a : Told} → known_flags flags ≡ true → ListsRefused t b a → WritesRpc flags t b out a out
  -- a message's refusal
  message-refused : {a : Told} → known_flags flags ≡ true → ListsFine t b → FirstUnfit flags (messages_in b (lent_rows t)) a
      → WritesRpc flags t b out a out
  -- 13, the length, which stops at 2^64 - 1
  too_long : known_flags flags ≡ true → ListsFine t b → AllFit flags (messages_in b (lent_rows t))
      → 65536 < length (encode_rpc (said b (lent_rows t)))
      → WritesRpc flags t b out (told rpc-too_long (capped (length (encode_rpc (said b (lent_rows t)))) ∷ [])) out
  -- the bytes, or 12 with the room that they need
  writes : {a : Told} {l : List ℕ} → known_flags flags ≡ true → ListsFine t b → AllFit flags (messages_in b (lent_rows t))
      → length (encode_rpc (said b (lent_rows t))) ≤ 65536 → Writes (encode_rpc (said b (lent_rows t))) out a l
      → WritesRpc flags t b out a l

-- ---- what sign_fields tells and leaves, of message i
pub data SignsFields (t b : List ℕ) (i : ℕ) (out : List ℕ) : Told → List ℕ → Type 0 where
  -- 42, 7, 11
  lists-refused : {a : Told} → ListsRefused t b a → SignsFields t b i out a out
  -- 20, how many there are
  no_such : ListsFine t b → length (messages_in b (lent_rows t)) ≤ i
      → SignsFields t b i out (told no-message (length (messages_in b (lent_rows t)) ∷ [])) out
  -- the bytes to sign
  signs : {m : RawMessage} → ListsFine t b → Nth i (messages_in b (lent_rows t)) m → length (sign_bytes m) ≤ length out
      → SignsFields t b i out (done (length (sign_bytes m) ∷ [])) (sign_bytes m ++ drop (length (sign_bytes m)) out)
  -- 12, the room that they need, which stops at 2^64 - 1
  short-of : {m : RawMessage} → ListsFine t b → Nth i (messages_in b (lent_rows t)) m → length out < length (sign_bytes m)
      → SignsFields t b i out (told short-room (capped (length (sign_bytes m)) ∷ [])) out

-- ---- lent well, both ways
place-lent : (n at : ℕ) (q : Place) → inside_at n at q ≡ true → PlaceLent n at q
unfolding inside_at
place-lent n at place.Absent h = absent
place-lent n at (place.Present a e) h =
    let x = both (leb a e) (leb (at + e) n) h in present (leb-true a e x.0) (leb-true (at + e) n x.1)

place_inside : {n at : ℕ} {q : Place} → PlaceLent n at q → inside_at n at q ≡ true
unfolding inside_at
place_inside absent = refl
place_inside {n} {at} (present {a = a} {e = e} h k) = rw (le-leb a e h, le-leb (at + e) n k)

-- tests that pass, together
all_true_lem : {a b : Bool} → a ≡ true → b ≡ true → a && b ≡ true
all_true_lem {a} {b} h k = rw (h, k)

-- a kind by its code
by_code : (k j : Kind) (c : ℕ) → IsRecord j → kind_code j ≡ c → eqb (kind_code k) c ≡ true → k ≡ j
by_code k j c o e h =
    let f : kind_from c ≡ j = ap kind_from (sym e) ∙ kind_back j o in
    code_kind k c (ap own_of f ∙ o) h ∙ f

has_code : (k j : Kind) (c : ℕ) → kind_code j ≡ c → k ≡ j → eqb (kind_code k) c ≡ true
has_code k j c e h = eq-eqb (kind_code k) c (ap kind_code h ∙ e)

code-message : kind_code kind.RawMessage ≡ 2
unfolding kind_code
code-message = refl

code-prune : kind_code kind.ControlPrune ≡ 9
unfolding kind_code
code-prune = refl

own-message : IsRecord kind.RawMessage
unfolding own_of
own-message = refl

own-prune : IsRecord kind.ControlPrune
unfolding own_of
own-prune = refl

-- a test that says whether such a row came before, one row further
stands_on : (k : Kind) (c : ℕ) (o : IsRecord k) (e : kind_code k ≡ c) (t : Bool) (before : List Record) (r : Record)
    → (t ≡ true → Stands k before) → t || is_code c r ≡ true → Stands k (r ∷ before)
stands_on k c o e true before r f h = later (f refl)
stands_on k c o e false before r f h = first (by_code r.kind k c o e h)

stood_on : (k : Kind) (c : ℕ) (e : kind_code k ≡ c) (t : Bool) (before : List Record) (r : Record)
    → (Stands k before → t ≡ true) → Stands k (r ∷ before) → t || is_code c r ≡ true
stood_on k c e true before r f s = refl
stood_on k c e false before r f (first h) = has_code r.kind k c e h
stood_on k c e false before r f (later s) = clash (let z = f s in cc)

module _ (n at : ℕ) (before : List Record) (m p : Bool) (t : Slots) where
  kind_lent : (m ≡ true → Stands kind.RawMessage before) → (p ≡ true → Stands kind.ControlPrune before) → (k : Kind)
      → held_by m p k ≡ true → fields_inside n at k t ≡ true → KindLent n at before t k
  unfolding held_by fields_inside
  kind_lent f g (kind.Rpc d) h i = clash (cc)
  kind_lent f g kind.SubOpts h i = sub_opts (place-lent n at t.first i)
  kind_lent f g kind.RawMessage h i =
      let p₁ = inside_at n at t.first in
      let p₂ = inside_at n at t.second in
      let p₃ = inside_at n at t.third in
      let p₄ = inside_at n at t.fourth in
      let p₅ = inside_at n at t.fifth in
      let a = both p₁ (p₂ && (p₃ && (p₄ && p₅))) i in
      let b = both p₂ (p₃ && (p₄ && p₅)) a.1 in
      let c = both p₃ (p₄ && p₅) b.1 in
      let d = both p₄ p₅ c.1 in
      message (place-lent n at t.first a.0) (place-lent n at t.second b.0) (place-lent n at t.third c.0)
      (place-lent n at t.fourth d.0) (place-lent n at t.fifth d.1)
  kind_lent f g kind.Topic h i = topic (f h)
  kind_lent f g (kind.ControlMessage d) h i = clash (cc)
  kind_lent f g kind.ControlIHave h i = clash (cc)
  kind_lent f g kind.ControlIWant h i = clash (cc)
  kind_lent f g kind.MessageId h i = clash (cc)
  kind_lent f g kind.ControlGraft h i = graft (place-lent n at t.first i)
  kind_lent f g kind.ControlPrune h i = prune (place-lent n at t.first i)
  kind_lent f g kind.PeerInfo h i =
      let a = both (inside_at n at t.first) (inside_at n at t.second) i in
      peer_info (g h) (place-lent n at t.first a.0) (place-lent n at t.second a.1)
  kind_lent f g kind.ControlIDontWant h i = clash (cc)

  kind_held : (Stands kind.RawMessage before → m ≡ true) → (Stands kind.ControlPrune before → p ≡ true) → {k : Kind}
      → KindLent n at before t k → (held_by m p k ≡ true) × (fields_inside n at k t ≡ true)
  unfolding held_by fields_inside
  kind_held f g (sub_opts a) = (refl, place_inside a)
  kind_held f g (message a b c d e) = (
    refl,
    all_true_lem (place_inside a)
        (all_true_lem (place_inside b) (all_true_lem (place_inside c) (all_true_lem (place_inside d) (place_inside e)))),
  )
  kind_held f g (topic s) = (f s, refl)
  kind_held f g (graft a) = (refl, place_inside a)
  kind_held f g (prune a) = (refl, place_inside a)
  kind_held f g (peer_info s a b) = (g s, all_true_lem (place_inside a) (place_inside b))

rows-lent : (n : ℕ) (m p : Bool) (before rs : List Record) → (m ≡ true → Stands kind.RawMessage before)
    → (p ≡ true → Stands kind.ControlPrune before) → lent_from n m p rs ≡ true → RowsLent n before rs
unfolding row_inside
rows-lent n m p before [] f g h = no_more
rows-lent n m p before (r ∷ rs) f g h =
    let x = fields_inside n r.start r.kind r.slots in
    let y = lent_from n (m || is_code 2 r) (p || is_code 9 r) rs in
    let a = both (held_by m p r.kind) ((leb r.start r.end && (leb r.end n && x)) && y) h in
    let b = both (leb r.start r.end && (leb r.end n && x)) y a.1 in
    let c = both (leb r.start r.end) (leb r.end n && x) b.0 in
    let d = both (leb r.end n) x c.1 in
    row
    (record {
      order = leb-true r.start r.end c.0;
      inside = leb-true r.end n d.0;
      fields = kind_lent n r.start before m p r.slots f g r.kind a.0 d.1;
    })
    (rows-lent n (m || is_code 2 r) (p || is_code 9 r) (r ∷ before) rs
    (stands_on kind.RawMessage 2 own-message code-message m before r f)
    (stands_on kind.ControlPrune 9 own-prune code-prune p before r g) b.1)

rows-well : {n : ℕ} {before rs : List Record} (m p : Bool) → (Stands kind.RawMessage before → m ≡ true)
    → (Stands kind.ControlPrune before → p ≡ true) → RowsLent n before rs → lent_from n m p rs ≡ true
unfolding row_inside
rows-well m p f g no_more = refl
rows-well {n} {before} m p f g (row {r = r} x y) =
    let k = kind_held n r.start before m p r.slots f g x.fields in
    all_true_lem k.0
    (all_true_lem
    (all_true_lem (le-leb r.start r.end x.order) (all_true_lem (le-leb r.end n x.inside) k.1))
    (rows-well (m || is_code 2 r) (p || is_code 9 r) (stood_on kind.RawMessage 2 code-message m before r f)
    (stood_on kind.ControlPrune 9 code-prune p before r g) y))

none-stands : {k : Kind} {A : Type 0} → Stands k [] → A
none-stands s = elim s [ ]

-- the test of the code passes exactly where the lists are lent well
pub lent-exactly : (t b : List ℕ) → (lent_well t b ≡ true) ↔ Lent t b
unfolding lent_well
lent-exactly t b = (
  λ h.
      let a = both (eqb (length t % 20) 0) (lent_from (length b) false false (lent_rows t)) h in
      record {
        whole = eqb-true (length t % 20) 0 a.0;
        rows = rows-lent (length b) false false [] (lent_rows t) (λ z. clash (cc)) (λ z. clash (cc)) a.1;
      },
  λ l. all_true_lem (eq-eqb (length t % 20) 0 l.whole) (rows-well false false none-stands none-stands l.rows),
)

-- ---- topics, both ways
moved_at : (r : Record) (k : Kind) (a e : ℕ) → r.kind ≡ k → HasTopic k → (q : Place) → r.slots.first ≡ q
    → moved r.start q ≡ place.Present a e → TopicAt r a e
moved_at r k a e h t place.Absent f g = clash (cc)
moved_at r k a e h t (place.Present x y) f g =
    let p : r.start + x ≡ a = cc in
    let q : r.start + y ≡ e = cc in
    subst (λ (z : ℕ). TopicAt r z e) p (subst (λ (z : ℕ). TopicAt r (r.start + x) z) q (field h t f))

topic-there : (r : Record) (k : Kind) (a e : ℕ) → r.kind ≡ k → text_in k r ≡ place.Present a e → TopicAt r a e
topic-there r (kind.Rpc d) a e h g = clash (cc)
topic-there r kind.SubOpts a e h g = moved_at r kind.SubOpts a e h sub_opts r.slots.first refl g
topic-there r kind.RawMessage a e h g = clash (cc)
topic-there r kind.Topic a e h g =
    let p : r.start ≡ a = cc in
    let q : r.end ≡ e = cc in
    subst (λ (z : ℕ). TopicAt r z e) p (subst (λ (z : ℕ). TopicAt r r.start z) q (own h))
topic-there r (kind.ControlMessage d) a e h g = clash (cc)
topic-there r kind.ControlIHave a e h g = clash (cc)
topic-there r kind.ControlIWant a e h g = clash (cc)
topic-there r kind.MessageId a e h g = clash (cc)
topic-there r kind.ControlGraft a e h g = moved_at r kind.ControlGraft a e h graft r.slots.first refl g
topic-there r kind.ControlPrune a e h g = moved_at r kind.ControlPrune a e h prune r.slots.first refl g
topic-there r kind.PeerInfo a e h g = clash (cc)
topic-there r kind.ControlIDontWant a e h g = clash (cc)

topic-moved : (r : Record) {k : Kind} → HasTopic k → text_in k r ≡ moved r.start r.slots.first
topic-moved r sub_opts = refl
topic-moved r graft = refl
topic-moved r prune = refl

topic-is : {r : Record} {a e : ℕ} → TopicAt r a e → text_of r ≡ place.Present a e
unfolding text_of
topic-is {r} (own h) = ap (λ (k : Kind). text_in k r) h
topic-is {r} (field {k = k} h t f) =
    ap (λ (k : Kind). text_in k r) h ∙ topic-moved r t ∙ ap (moved r.start) f

-- what a row's topic is
data TextSays (b : List ℕ) (r : Record) : Result (Unit {0}) Wrong → Type 0 where
  text : IsText b r → TextSays b r (Ok tt)
  none : {a e : ℕ} → TopicAt r a e → (Utf8 (between b a e) → ⊥) → TextSays b r (Err (InvalidUtf8 a))

text_at : (b : List ℕ) (r : Record) (q : Place) → text_of r ≡ q → TextSays b r (text_fine b q)
unfolding text_fine text_of
text_at b r place.Absent h = text (λ a e t. clash (let z = topic-is t in cc))
text_at b r (place.Present x y) h =
    either (is_utf8 (between b x y))
    (λ t. simp t (text (λ a e s.
    let z = topic-is s in
    let p : x ≡ a = cc in
    let q : y ≡ e = cc in
    subst Utf8 (ap₂ (between b) p q) ((utf8-exactly (between b x y)).0 t))))
    (λ t. simp t (none (topic-there r r.kind x y refl h) (λ u. let z = (utf8-exactly (between b x y)).1 u in clash (cc))))

text-only : (b : List ℕ) (r : Record) (q : Place) → text_of r ≡ q → IsText b r → text_fine b q ≡ Ok tt
unfolding text_fine text_of
text-only b r place.Absent h f = refl
text-only b r (place.Present a e) h f =
    simp ((utf8-exactly (between b a e)).1 (f a e (topic-there r r.kind a e refl h)))

none_only : (b : List ℕ) (r : Record) (a e : ℕ) → TopicAt r a e → (Utf8 (between b a e) → ⊥)
    → text_fine b (text_of r) ≡ Err (InvalidUtf8 a)
unfolding text_fine
none_only b r a e t n =
    ap (text_fine b) (topic-is t)
    ∙ either (is_utf8 (between b a e)) (λ u. absurd (n ((utf8-exactly (between b a e)).0 u))) (λ u. simp u)

-- ---- all topics, 42 and 11, both ways
data TextsSay (b : List ℕ) (rs : List Record) : Result (Unit {0}) Wrong → Type 0 where
  texts : Each (IsText b) rs → TextsSay b rs (Ok tt)
  none : {a : ℕ} → FirstBad b rs a → TextsSay b rs (Err (InvalidUtf8 a))

texts-step : {b : List ℕ} {r : Record} {rs : List Record} {x y : Result (Unit {0}) Wrong} → TextSays b r x → TextsSay b rs y
    → TextsSay b (r ∷ rs) (and_then x y)
texts-step (text t) (texts u) = texts (t and u)
texts-step (text t) (none u) = none (past t u)
texts-step (none t n) u = none (bad t n)

texts_say : (b : List ℕ) (rs : List Record) → TextsSay b rs (texts_fine b rs)
texts_say b [] = texts none_left
texts_say b (r ∷ rs) = texts-step (text_at b r (text_of r) refl) (texts_say b rs)

texts-only : (b : List ℕ) {rs : List Record} → Each (IsText b) rs → texts_fine b rs ≡ Ok tt
texts-only b none_left = refl
texts-only b (◌and◌ {x = r} t u) = rw (text-only b r (text_of r) refl t) (texts-only b u)

bad-only : {b : List ℕ} {rs : List Record} {a : ℕ} → FirstBad b rs a → texts_fine b rs ≡ Err (InvalidUtf8 a)
bad-only {b} (bad {r = r} {rs = rs} {a = a} {e = e} t n) = ap (λ (x : Result (Unit {0}) Wrong). and_then x (texts_fine b rs)) (none_only b r a e t n)
bad-only {b} (past {r = r} {rs = rs} t u) =
    ap (λ (x : Result (Unit {0}) Wrong). and_then x (texts_fine b rs)) (text-only b r (text_of r) refl t) ∙ bad-only u

data ListsSay (t b : List ℕ) : Result (Unit {0}) Wrong → Type 0 where
  fine : ListsFine t b → ListsSay t b (Ok tt)
  refused : {w : Wrong} → ListsRefused t b (wrong_told w) → ListsSay t b (Err w)

module _ (t b : List ℕ) where
  counts_say : Lent t b → Each (IsText b) (lent_rows t) → ListsSay t b (count_fine (length t / 20))
  unfolding count_fine
  counts_say l u =
      either (ltb 512 (length t / 20)) (λ c. simp c (refused (too_many l u (ltb-true 512 (length t / 20) c))))
      (λ c. simp c (fine (record { lent = l; texts = u; few = ltb-false 512 (length t / 20) c })))

  lent_say : Lent t b → {r : Result (Unit {0}) Wrong} → TextsSay b (lent_rows t) r → ListsSay t b (and_then r (count_fine (length t / 20)))
  lent_say l (texts u) = counts_say l u
  lent_say l (none u) = refused (bad-topic l u)

  lists_say : ListsSay t b (lists_of t b)
  unfolding lists_of
  lists_say =
      either (lent_well t b) (λ c. simp c (lent_say ((lent-exactly t b).0 c) (texts_say b (lent_rows t))))
      (λ c. simp c (refused (not-lent (λ l. let z = (lent-exactly t b).1 l in clash (cc)))))

  pub fine-only : ListsFine t b → lists_of t b ≡ Ok tt
  unfolding lists_of count_fine
  fine-only f = simp ((lent-exactly t b).1 f.lent, texts-only b f.texts, le-ltb 512 (length t / 20) f.few)

  pub refused-only : {a : Told} → ListsRefused t b a → (w : Wrong) × (lists_of t b ≡ Err w) × (wrong_told w ≡ a)
  unfolding lists_of count_fine
  refused-only (not-lent n) = (
    NotLent,
    either (lent_well t b) (λ c. absurd (n ((lent-exactly t b).0 c))) (λ c. simp c),
    refl,
  )
  refused-only (bad-topic {a = a} l u) = (InvalidUtf8 a, simp ((lent-exactly t b).1 l, bad-only u), refl)
  refused-only (too_many l u h) = (
    TooManyRecords (length t / 20),
    simp ((lent-exactly t b).1 l, texts-only b u, lt-ltb 512 (length t / 20) h),
    refl,
  )

-- ---- messages, both ways
data UnfitSays (flags : ℕ) (ms : List RawMessage) : Result (Unit {0}) Wrong → Type 0 where
  all_fit : AllFit flags ms → UnfitSays flags ms (Ok tt)
  none : {w : Wrong} → FirstUnfit flags ms (wrong_told w) → UnfitSays flags ms (Err w)

unfit-step : {flags : ℕ} {m : RawMessage} {ms : List RawMessage} {y : Result (Unit {0}) Wrong} (x : Result (Unit {0}) Wrong)
    → weighed flags m ≡ x → UnfitSays flags ms y
    → UnfitSays flags (m ∷ ms) (and_then x y)
unfit-step (Ok tt) h (all_fit u) = all_fit (h and u)
unfit-step (Ok tt) h (none u) = none (past h u)
unfit-step (Err w) h u = none (unfit h)

unfit_say : (flags : ℕ) (ms : List RawMessage) → UnfitSays flags ms (first_unfit flags ms)
unfit_say flags [] = all_fit none_left
unfit_say flags (m ∷ ms) = unfit-step (weighed flags m) refl (unfit_say flags ms)

pub fit-only : (flags : ℕ) {ms : List RawMessage} → AllFit flags ms → first_unfit flags ms ≡ Ok tt
fit-only flags none_left = refl
fit-only flags (◌and◌ {x = m} {xs = ms} h u) = ap (λ (x : Result (Unit {0}) Wrong). and_then x (first_unfit flags ms)) h ∙ fit-only flags u

unfit-only : (flags : ℕ) {ms : List RawMessage} {a : Told} → FirstUnfit flags ms a → (w : Wrong) × (first_unfit flags ms ≡ Err w)
    × (wrong_told w ≡ a)
unfit-only flags (unfit {ms = ms} {w = w} h) = (w, ap (λ (x : Result (Unit {0}) Wrong). and_then x (first_unfit flags ms)) h, refl)
unfit-only flags (past {ms = ms} h u) =
    let r = unfit-only flags u in (r.0, ap (λ (x : Result (Unit {0}) Wrong). and_then x (first_unfit flags ms)) h ∙ r.1, r.2)

-- ---- write_rpc
-- a writer of bytes that a number of the machine counts
pub put-writes : (xs out : List ℕ) → length xs ≤ 65536 → Writes xs out (composed_told (put_answer xs out)) (written xs out)
unfolding put_answer written
put-writes xs out h =
    either (leb (length xs) (length out)) (λ t. simp t (fits (leb-true _ _ t)))
    (λ t. simp (t, capped_small (length xs) (omega arith)) (short (leb-false _ _ t)))

put_only : {xs out : List ℕ} {a : Told} {l : List ℕ} → length xs ≤ 65536 → Writes xs out a l
    → (composed_told (put_answer xs out) ≡ a) × (written xs out ≡ l)
unfolding put_answer written
put_only h (fits k) = (simp (le-leb _ _ k), simp (le-leb _ _ k))
put_only {xs} h (short k) = (simp (lt-leb _ _ k, capped_small (length xs) (omega arith)), simp (lt-leb _ _ k))

module _ (flags : ℕ) (t b out : List ℕ) where
  answer-by : Result (Unit {0}) Wrong → Told
  answer-by r = composed_told (answering (put_answer (encode_rpc (said b (lent_rows t))) out) r)

  left_by_lem : Result (Unit {0}) Wrong → List ℕ
  left_by_lem r = leaving out (written (encode_rpc (said b (lent_rows t))) out) r

  module _ (known : known_flags flags ≡ true) where
    long_say : ListsFine t b → AllFit flags (messages_in b (lent_rows t))
        → WritesRpc flags t b out (answer-by (length_fine (encode_rpc (said b (lent_rows t)))))
        (left_by_lem (length_fine (encode_rpc (said b (lent_rows t)))))
    unfolding length_fine answer-by left_by_lem
    long_say f u =
        let xs = encode_rpc (said b (lent_rows t)) in
        either (ltb 65536 (length xs)) (λ c. simp c (too_long known f u (ltb-true 65536 (length xs) c)))
        (λ c. let n = ltb-false 65536 (length xs) c in simp c (writes known f u n (put-writes xs out n)))

    messages_say : ListsFine t b → {r : Result (Unit {0}) Wrong} → UnfitSays flags (messages_in b (lent_rows t)) r
        → WritesRpc flags t b out (answer-by (and_then r (length_fine (encode_rpc (said b (lent_rows t))))))
        (left_by_lem (and_then r (length_fine (encode_rpc (said b (lent_rows t))))))
    unfolding answer-by left_by_lem
    messages_say f (all_fit u) = long_say f u
    messages_say f (none u) = message-refused known f u

    lists_write : {r : Result (Unit {0}) Wrong} → ListsSay t b r
        → WritesRpc flags t b out
        (answer-by (and_then r (and_then (first_unfit flags (messages_in b (lent_rows t))) (length_fine (encode_rpc (said b (lent_rows t)))))))
        (left_by_lem (and_then r (and_then (first_unfit flags (messages_in b (lent_rows t))) (length_fine (encode_rpc (said b (lent_rows t)))))))
    unfolding answer-by left_by_lem
    lists_write (fine f) = messages_say f (unfit_say flags (messages_in b (lent_rows t)))
    lists_write (refused u) = lists-refused known u

  pub write_says : WritesRpc flags t b out (composed_told (write_answer flags t b out)) (write_left flags t b out)
  unfolding write_answer write_left write_tested flags_fine answer-by left_by_lem
  write_says =
      either (known_flags flags) (λ c. simp c (lists_write c (lists_say t b))) (λ c. simp c (bad-flags c))

  write_only : {a : Told} {l : List ℕ} → WritesRpc flags t b out a l
      → (composed_told (write_answer flags t b out) ≡ a) × (write_left flags t b out ≡ l)
  unfolding write_answer write_left write_tested flags_fine length_fine
  write_only (bad-flags n) = (simp n, simp n)
  write_only (lists-refused n u) = let r = refused-only t b u in (simp (n, r.1) r.2, simp (n, r.1))
  write_only (message-refused n f u) =
      let r = unfit-only flags u in (simp (n, fine-only t b f, r.1) r.2, simp (n, fine-only t b f, r.1))
  write_only (too_long n f u h) =
      let c = lt-ltb 65536 (length (encode_rpc (said b (lent_rows t)))) h in
      (simp (n, fine-only t b f, fit-only flags u, c), simp (n, fine-only t b f, fit-only flags u, c))
  write_only (writes n f u h w) =
      let c = le-ltb 65536 (length (encode_rpc (said b (lent_rows t)))) h in
      let p = put_only h w in
      (simp (n, fine-only t b f, fit-only flags u, c) p.0, simp (n, fine-only t b f, fit-only flags u, c) p.1)

-- write_rpc tells a and leaves l exactly where the scope has it do so
pub write_exactly : (flags : ℕ) (t b out : List ℕ) (a : Told) (l : List ℕ)
    → ((composed_told (write_answer flags t b out) ≡ a) × (write_left flags t b out ≡ l)) ↔ WritesRpc flags t b out a l
write_exactly flags t b out a l = (
  λ p. subst (λ (z : Told). WritesRpc flags t b out z l) p.0
      (subst (λ (z : List ℕ). WritesRpc flags t b out (composed_told (write_answer flags t b out)) z) p.1 (write_says flags t b out)),
  write_only flags t b out,
)

-- ---- sign_fields
-- the messages from an index on
data From (i : ℕ) (ms : List RawMessage) : List RawMessage → Type 0 where
  such : {m : RawMessage} {rs : List RawMessage} → Nth i ms m → From i ms (m ∷ rs)
  none : length ms ≤ i → From i ms []

from-there : {i : ℕ} {x : RawMessage} {ms rs : List RawMessage} → From i ms rs → From (suc i) (x ∷ ms) rs
from-there (such n) = such (there n)
from-there (none h) = none (omega arith)

from-index : (i : ℕ) (ms : List RawMessage) → From i ms (drop i ms)
from-index zero [] = none (omega arith)
from-index zero (m ∷ ms) = such here
from-index (suc i) [] = none (omega arith)
from-index (suc i) (m ∷ ms) = from-there (from-index i ms)

past_all_lem : (i : ℕ) (ms : List RawMessage) → length ms ≤ i → drop i ms ≡ []
past_all_lem zero [] h = refl
past_all_lem zero (m ∷ ms) h = absurd (omega arith)
past_all_lem (suc i) [] h = refl
past_all_lem (suc i) (m ∷ ms) h = past_all_lem i ms (omega arith)

module _ (t b : List ℕ) (i : ℕ) (out : List ℕ) where
  message_say : ListsFine t b → {rs : List RawMessage} → From i (messages_in b (lent_rows t)) rs
      → SignsFields t b i out (composed_told (sign_at (length (messages_in b (lent_rows t))) rs out)) (signed_at rs out)
  unfolding put_answer written
  message_say f (such {m = m} n) =
      either (leb (length (sign_bytes m)) (length out)) (λ c. simp c (signs f n (leb-true _ _ c)))
      (λ c. simp c (short-of f n (leb-false _ _ c)))
  message_say f (none h) = no_such f h

  sign_say : {r : Result (Unit {0}) Wrong} → ListsSay t b r
      → SignsFields t b i out
      (composed_told (answering (sign_at (length (messages_in b (lent_rows t))) (drop i (messages_in b (lent_rows t))) out) r))
      (leaving out (signed_at (drop i (messages_in b (lent_rows t))) out) r)
  sign_say (fine f) = message_say f (from-index i (messages_in b (lent_rows t)))
  sign_say (refused u) = lists-refused u

  pub sign_says : SignsFields t b i out (composed_told (sign_answer t b i out)) (sign_left t b i out)
  unfolding sign_answer sign_left
  sign_says = sign_say (lists_say t b)

  sign_only : {a : Told} {l : List ℕ} → SignsFields t b i out a l
      → (composed_told (sign_answer t b i out) ≡ a) × (sign_left t b i out ≡ l)
  unfolding sign_answer sign_left put_answer written
  sign_only (lists-refused u) = let r = refused-only t b u in (simp r.1 r.2, simp r.1)
  sign_only (no_such f h) =
      let e = past_all_lem i (messages_in b (lent_rows t)) h in (simp (fine-only t b f, e), simp (fine-only t b f, e))
  sign_only (signs f n h) =
      let d = nth_drop n in (simp (fine-only t b f, d.1, le-leb _ _ h), simp (fine-only t b f, d.1, le-leb _ _ h))
  sign_only (short-of f n h) =
      let d = nth_drop n in (simp (fine-only t b f, d.1, lt-leb _ _ h), simp (fine-only t b f, d.1, lt-leb _ _ h))

-- sign_fields tells a and leaves l exactly where the scope has it do so
pub sign_fields-exactly : (t b : List ℕ) (i : ℕ) (out : List ℕ) (a : Told) (l : List ℕ)
    → ((composed_told (sign_answer t b i out) ≡ a) × (sign_left t b i out ≡ l)) ↔ SignsFields t b i out a l
sign_fields-exactly t b i out a l = (
  λ p. subst (λ (z : Told). SignsFields t b i out z l) p.0
      (subst (λ (z : List ℕ). SignsFields t b i out (composed_told (sign_answer t b i out)) z) p.1 (sign_says t b i out)),
  sign_only t b i out,
)
