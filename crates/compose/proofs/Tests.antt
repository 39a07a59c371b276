-- The tests of lent rows, case by case: places and kinds; topics; messages.
use Prim.Native.Nat.{ℕ, ◌+◌, ◌-◌, ◌*◌, ◌/◌, ◌%◌, ◌≤◌, ◌<◌}
use mathlib.Core.Path.{◌≡◌, refl, sym, ap, ap₂, ◌∙◌}
use mathlib.Core.Bool.{Bool, true, false, cond, ◌&&◌, ◌||◌}
use mathlib.Core.List.{List, [], ◌∷◌}
use native.Mathlib.Omega.{arith}
use lib.ListN.{length, drop}
use lib.Seq.{drop-drop}
use lib.Dec.{eqb}
use borrow.Author.Tests.{eqb-true, lt-ltb, le-ltb, eq-eqb, ne_eqb}
use Rattle.std.specs.Prelude.{Result, Ok, Err}
use Rattle.basis.specs.Cases.{either}
use Rattle.schema.specs.declared.Kind.{Kind}
use Rattle.schema.specs.declared.Kind.TheVariants as kind
use Rattle.protobuf.specs.WalkLaws.{between-length}
use Rattle.schema.specs.Schema.{own_of}
use Rattle.message.specs.declared.Record.{Record}
use Rattle.message.specs.Rows.{kind_from, record_from}
use Rattle.meaning.specs.ReadBack.{raw_of}
use Rattle.rpc.specs.Rpc.{RawMessage}
use Rattle.admission.specs.declared.Topics.{Topics}
use Rattle.admission.specs.declared.Unfit.TheVariants.{MessageTooLong}
use Rattle.admission.specs.Admission.{first_long}
use Rattle.compose.specs.Lent.{rows_from, lent_rows, is_code, fields_inside, row_inside, held_by, lent_from, lent_well, Inside}
use Rattle.compose.specs.declared.Wrong.{Wrong}
use Rattle.compose.specs.declared.Wrong.TheVariants.{NoMessage, Unfit}
use Rattle.compose.specs.Said.{encode_message, messages_in, topics_from, message_of}
use Rattle.compose.specs.Weighed.{capped, and_then, in_topics, topics_fine, size_fine, limits_fine}
use Rattle.compose.specs.Weighed.{weighed, first_unfit}
use Rattle.compose.specs.Compose.{text_of, text_fine, texts_fine}
use Rattle.compose.specs.Puts.{capped-bound, capped-below, FindsRow, found, missing}
use Rattle.compose.specs.Laws.{code_kind, rows_step_lem, rows_end_lem, messages-step, topics-step, no-messages, no-topics}
use Rattle.compose.proofs.Parts.{row_inside-is, MessageInside, message-inside_is}

-- ---- tests one after the other
pub and_no : {a x : Bool} (b : Bool) → a ≡ x → a ≡ false → false ≡ x && b
and_no b e h = simp (sym e ∙ h)

pub and_on_lem : {a x : Bool} (b : Bool) → a ≡ x → a ≡ true → b ≡ x && b
and_on_lem b e h = simp (sym e ∙ h)

pub cond_yes : {A : Type 0} {r x : Bool} (y z : A) → r ≡ x → r ≡ true → y ≡ cond x y z
cond_yes y z e h = simp (sym e ∙ h)

pub cond_no : {A : Type 0} {r x : Bool} (y z : A) → r ≡ x → r ≡ false → z ≡ cond x y z
cond_no y z e h = simp (sym e ∙ h)

pub then_on : {y : Result (Unit {0}) Wrong} (z : Result (Unit {0}) Wrong) → Ok tt ≡ y → z ≡ and_then y z
then_on z e = simp (sym e)

pub then-stop : {y : Result (Unit {0}) Wrong} {why : Wrong} (z : Result (Unit {0}) Wrong) → Err why ≡ y → Err why ≡ and_then y z
then-stop z e = simp (sym e)

-- what was found, and what is found now
pub or-now : (m : Bool) {r x n : Bool} → r ≡ x → r ≡ true → n ≡ true → n ≡ m || x
or-now true e h k = k
or-now false e h k = k ∙ sym h ∙ e

pub or-then : (m : Bool) {r x n : Bool} → r ≡ x → r ≡ false → n ≡ m → n ≡ m || x
or-then true e h k = k
or-then false e h k = k ∙ sym h ∙ e

-- ---- the fields that a row of a kind has
module _ (n : ℕ) (r : Record) where
  pub row-fields : row_inside n r ≡ true → (k : Kind) → r.kind ≡ k → fields_inside n r.start k r.slots ≡ true
  row-fields h k e = ap (λ (x : Kind). fields_inside n r.start x r.slots) (sym e) ∙ (row_inside-is n r h).2

-- ---- rows that are lent well: what the rows from one on say is what all of them do
module _ (t b : List ℕ) where
  pub lent-parts : (length t % 20 ≡ 0 → ⊥) → false ≡ lent_well t b
  unfolding lent_well
  lent-parts h = and_no _ refl (ne_eqb (length t % 20) 0 h)

  pub lent-all : length t % 20 ≡ 0 → lent_from (length b) false false (rows_from t 0) ≡ lent_well t b
  unfolding lent_well
  lent-all h = and_on_lem _ refl (eq-eqb (length t % 20) 0 h)

module _ (t b : List ℕ) (i : ℕ) (m p : Bool) (r : Record) (inv : lent_from (length b) m p (rows_from t i) ≡ lent_well t b)
    (h : i < length t / 20) (e : r ≡ record_from t (i * 20)) where
  lent-here : held_by m p r.kind
      && (row_inside (length b) r && lent_from (length b) (m || is_code 2 r) (p || is_code 9 r) (rows_from t (i + 1))) ≡ lent_well t b
  lent-here = sym (ap (lent_from (length b) m p) (rows_step_lem t i h ∙ ap (λ (x : Record). x ∷ rows_from t (i + 1)) (sym e))) ∙ inv

  module _ {x y : Bool} (g : x ≡ held_by m p r.kind) (f : x ≡ true) (k : y ≡ row_inside (length b) r) where
    pub lent_on : y ≡ true → {m' p' : Bool} → m' ≡ m || is_code 2 (record_from t (i * 20)) → p' ≡ p || is_code 9 (record_from t (i * 20))
        → lent_from (length b) m' p' (rows_from t (i + 1)) ≡ lent_well t b
    lent_on l u v = rw (u, v, ← e) (and_on_lem _ k l ∙ and_on_lem _ g f ∙ lent-here)

-- ---- a row of a table whose rows lie within the bytes
pub inside-row : (t b : List ℕ) (i : ℕ) (r : Record) → Inside t b → i < length t / 20 → r ≡ record_from t (i * 20) → row_inside (length b) r ≡ true
inside-row t b i r h l e = ap (row_inside (length b)) e ∙ h.each i l

-- ---- topics that are text: what the rows from one on say is what all of them do
module _ (t b : List ℕ) (i : ℕ) (inv : texts_fine b (rows_from t i) ≡ texts_fine b (lent_rows t)) where
  module _ (r : Record) (h : i < length t / 20) (e : r ≡ record_from t (i * 20)) where
    texts-here : and_then (text_fine b (text_of r)) (texts_fine b (rows_from t (i + 1))) ≡ texts_fine b (lent_rows t)
    texts-here = sym (ap (texts_fine b) (rows_step_lem t i h ∙ ap (λ (y : Record). y ∷ rows_from t (i + 1)) (sym e))) ∙ inv

    pub texts_on : Ok tt ≡ text_fine b (text_of r) → texts_fine b (rows_from t (i + 1)) ≡ texts_fine b (lent_rows t)
    texts_on f = then_on _ f ∙ texts-here

    pub texts-stop : {why : Wrong} → Err why ≡ text_fine b (text_of r) → Err why ≡ texts_fine b (lent_rows t)
    texts-stop f = then-stop _ f ∙ texts-here

-- ---- the topics of a message: those that were counted, and those from a row on
-- the first long topic, where `long` is that of the topics passed
abbrev long_from : ℕ → List (List ℕ) → ℕ
long_from long l = cond (eqb long 0) (first_long l) long

module _ (v : List ℕ) (l : List (List ℕ)) (len : ℕ) (s : length v ≡ len) (long m : ℕ) where
  pub long-now : long ≡ 0 → 1024 < len → m ≡ len → long_from m l ≡ long_from long (v ∷ l)
  unfolding first_long
  long-now z h q =
      let k : long_from m l ≡ len = rw q (simp (ne_eqb len 0 (λ x. absurd (omega arith)))) in
      k ∙ simp (z, s, lt-ltb 1024 len h)

  pub long-later : long ≡ 0 → len ≤ 1024 → m ≡ long → long_from m l ≡ long_from long (v ∷ l)
  unfolding first_long
  long-later z h q = simp (q, z, s, le-ltb 1024 len h)

  pub long-before : (long ≡ 0 → ⊥) → m ≡ long → long_from m l ≡ long_from long (v ∷ l)
  long-before z q = simp (q, ne_eqb long 0 z)

pub record Counted (ts : List (List ℕ)) (count long : ℕ) (rest : List (List ℕ)) : Type 0 where
  pub number : count + length rest ≡ length ts
  pub first : long_from long rest ≡ first_long ts

abbrev topics_made : ℕ → ℕ → Topics
topics_made n long = record { count = n; long = long }

module _ (ts : List (List ℕ)) (count long : ℕ) (rest : List (List ℕ)) (g : Counted ts count long rest) where
  pub counted-done : rest ≡ [] → topics_made count long ≡ in_topics ts
  unfolding first_long
  counted-done e =
      let z = ap length e in
      let l : long_from long [] ≡ long = either (eqb long 0) (λ t. simp t (sym (eqb-true long 0 t))) (λ t. simp t) in
      ap₂ topics_made (omega (arith, g.number)) (sym l ∙ ap (long_from long) (sym e) ∙ g.first)

  pub counted_same : (l : List (List ℕ)) (n m : ℕ) → rest ≡ l → n ≡ count → m ≡ long → Counted ts n m l
  counted_same l n m e p q =
      record {
        number = rw p (ap (λ (x : List (List ℕ)). count + length x) (sym e) ∙ g.number);
        first = rw q (ap (long_from long) (sym e) ∙ g.first);
      }

  pub counted-more : (v : List ℕ) (l : List (List ℕ)) (n m : ℕ) → rest ≡ v ∷ l → n ≡ count + 1 → long_from m l ≡ long_from long (v ∷ l) → Counted ts n m l
  counted-more v l n m e p f =
      record { number = (let z = ap length e in omega (arith, g.number)); first = f ∙ ap (long_from long) (sym e) ∙ g.first }

-- the topics from a row on, by the row
module _ (t b : List ℕ) (i : ℕ) where
  pub topics-end : length t / 20 ≤ i → topics_from b (rows_from t i) ≡ []
  topics-end h = ap (topics_from b) (rows_end_lem t i h) ∙ no-topics b

  module _ (h : i < length t / 20) where
    topics-here : topics_from b (rows_from t i) ≡ cond (is_code 2 (record_from t (i * 20))) []
        (cond (is_code 3 (record_from t (i * 20))) (raw_of b (record_from t (i * 20)) ∷ topics_from b (rows_from t (i + 1))) (topics_from b (rows_from t (i + 1))))
    topics-here = ap (topics_from b) (rows_step_lem t i h) ∙ topics-step b (record_from t (i * 20)) (rows_from t (i + 1))

    pub topics-stop : {x : Bool} → x ≡ is_code 2 (record_from t (i * 20)) → x ≡ true → topics_from b (rows_from t i) ≡ []
    topics-stop e k = topics-here ∙ sym (cond_yes _ _ e k)

    module _ {x y : Bool} (e : x ≡ is_code 2 (record_from t (i * 20))) (k : x ≡ false) (f : y ≡ is_code 3 (record_from t (i * 20))) where
      pub topics_skip : y ≡ false → topics_from b (rows_from t i) ≡ topics_from b (rows_from t (i + 1))
      topics_skip l = topics-here ∙ sym (cond_no _ _ f l ∙ cond_no _ _ e k)

      pub topics-one : y ≡ true → (r : Record) → r ≡ record_from t (i * 20) → topics_from b (rows_from t i) ≡ raw_of b r ∷ topics_from b (rows_from t (i + 1))
      topics-one l r q = rw q (topics-here ∙ sym (cond_yes _ _ f l ∙ cond_no _ _ e k))

    pub raw-length : (r : Record) → Inside t b → r ≡ record_from t (i * 20) → length (raw_of b r) ≡ r.end - r.start
    raw-length r inside q = between-length b r.start r.end (row_inside-is (length b) r (inside-row t b i r inside h q)).1

-- ---- a message's topics and size: 28, 29, 30
module _ (m : RawMessage) (t : Topics) (e : t ≡ in_topics m.topic_ids) where
  counts : t.count ≡ length m.topic_ids
  counts = ap (λ (x : Topics). x.count) e

  longs : t.long ≡ first_long m.topic_ids
  longs = ap (λ (x : Topics). x.long) e

  module _ (n : t.count ≡ 0 → ⊥) (h : t.count ≤ 4) where
    module _ (l : t.long ≡ 0) where
      limits-size : limits_fine m ≡ size_fine (length (encode_message m))
      unfolding limits_fine topics_fine
      limits-size = simp (← counts, ← longs, ne_eqb t.count 0 n, le-ltb 4 t.count h, eq-eqb t.long 0 l)

      module _ (len : ℕ) (f : len ≡ capped (length (encode_message m))) where
        pub limits-large : 4096 < len → Err (Unfit (MessageTooLong len)) ≡ limits_fine m
        unfolding size_fine
        limits-large k =
            let c = capped-bound (length (encode_message m)) in
            sym (limits-size ∙ simp (lt-ltb 4096 (length (encode_message m)) (omega arith), f))

        pub limits-fit : len ≤ 4096 → Ok tt ≡ limits_fine m
        unfolding size_fine
        limits-fit k =
            let c = capped-below (length (encode_message m)) 4096 (omega arith) (omega arith) in
            sym (limits-size ∙ simp (le-ltb 4096 (length (encode_message m)) (omega arith)))

-- ---- a message
-- its places lie within the bytes
pub message-places : (t b : List ℕ) (i : ℕ) (r : Record) → Inside t b → i < length t / 20 → is_code 2 (record_from t (i * 20)) ≡ true
    → r ≡ record_from t (i * 20) → MessageInside (length b) r.start r.slots
unfolding own_of kind_from
message-places t b i r h l k e =
    message-inside_is (length b) r.start r.slots
    (row-fields (length b) r (inside-row t b i r h l e) kind.RawMessage (code_kind r.kind 2 refl (ap (is_code 2) e ∙ k)))

-- ---- the messages from a row on
module _ (t b : List ℕ) (i : ℕ) where
  messages-end : length t / 20 ≤ i → messages_in b (rows_from t i) ≡ []
  messages-end h = ap (messages_in b) (rows_end_lem t i h) ∙ no-messages b

  module _ (h : i < length t / 20) where
    messages-here : messages_in b (rows_from t i) ≡ cond (is_code 2 (record_from t (i * 20)))
        (message_of b (record_from t (i * 20)) (rows_from t (i + 1)) ∷ messages_in b (rows_from t (i + 1))) (messages_in b (rows_from t (i + 1)))
    messages-here = ap (messages_in b) (rows_step_lem t i h) ∙ messages-step b (record_from t (i * 20)) (rows_from t (i + 1))

    module _ {x : Bool} (e : x ≡ is_code 2 (record_from t (i * 20))) where
      messages-one : x ≡ true → messages_in b (rows_from t i) ≡ message_of b (record_from t (i * 20)) (rows_from t (i + 1)) ∷ messages_in b (rows_from t (i + 1))
      messages-one k = messages-here ∙ sym (cond_yes _ _ e k)

      messages_skip : x ≡ false → messages_in b (rows_from t i) ≡ messages_in b (rows_from t (i + 1))
      messages_skip k = messages-here ∙ sym (cond_no _ _ e k)

-- the first that may not be written: what those from a row on say is what all of them do
module _ (flags : ℕ) (t b : List ℕ) (i : ℕ) (inv : first_unfit flags (messages_in b (rows_from t i)) ≡ first_unfit flags (messages_in b (lent_rows t))) where
  pub unfit-end : length t / 20 ≤ i → Ok tt ≡ first_unfit flags (messages_in b (lent_rows t))
  unfit-end h = sym (ap (first_unfit flags) (messages-end t b i h)) ∙ inv

  module _ (h : i < length t / 20) {x : Bool} (e : x ≡ is_code 2 (record_from t (i * 20))) where
    pub unfit_skip : x ≡ false → first_unfit flags (messages_in b (rows_from t (i + 1))) ≡ first_unfit flags (messages_in b (lent_rows t))
    unfit_skip k = sym (ap (first_unfit flags) (messages_skip t b i h e k)) ∙ inv

    module _ (k : x ≡ true) where
      unfit-here : and_then (weighed flags (message_of b (record_from t (i * 20)) (rows_from t (i + 1)))) (first_unfit flags (messages_in b (rows_from t (i + 1))))
          ≡ first_unfit flags (messages_in b (lent_rows t))
      unfit-here = sym (ap (first_unfit flags) (messages-one t b i h e k)) ∙ inv

      pub unfit_on : Ok tt ≡ weighed flags (message_of b (record_from t (i * 20)) (rows_from t (i + 1)))
          → first_unfit flags (messages_in b (rows_from t (i + 1))) ≡ first_unfit flags (messages_in b (lent_rows t))
      unfit_on f = then_on _ f ∙ unfit-here

      pub unfit-stop : {why : Wrong} → Err why ≡ weighed flags (message_of b (record_from t (i * 20)) (rows_from t (i + 1)))
          → Err why ≡ first_unfit flags (messages_in b (lent_rows t))
      unfit-stop f = then-stop _ f ∙ unfit-here

-- so many were passed before a row
pub record Passed (t b : List ℕ) (count i : ℕ) : Type 0 where
  pub number : count + length (messages_in b (rows_from t i)) ≡ length (messages_in b (lent_rows t))
  pub rest : drop count (messages_in b (lent_rows t)) ≡ messages_in b (rows_from t i)

module _ (t b : List ℕ) (count i index : ℕ) (g : Passed t b count i) where
  pub passed-all : length t / 20 ≤ i → count ≤ index → FindsRow t b index (Err (NoMessage count))
  passed-all h l = let z = ap length (messages-end t b i h) in missing {n = count} (omega (arith, g.number)) l

  module _ (h : i < length t / 20) {x : Bool} (e : x ≡ is_code 2 (record_from t (i * 20))) where
    pub passed_skip : x ≡ false → {n : ℕ} → n ≡ count → Passed t b n (i + 1)
    passed_skip k p =
        let m = messages_skip t b i h e k in
        rw p (record { number = ap (λ (l : List RawMessage). count + length l) (sym m) ∙ g.number; rest = g.rest ∙ m })

    pub passed-one : x ≡ true → {n : ℕ} → n ≡ count + 1 → Passed t b n (i + 1)
    passed-one k p =
        let m = messages-one t b i h e k in
        let z = ap length m in
        record {
          number = omega (arith, g.number);
          rest = rw p (sym (drop-drop 1 count (messages_in b (lent_rows t))) ∙ ap (drop 1) (g.rest ∙ m));
        }

    pub passed-found : x ≡ true → count ≡ index → FindsRow t b index (Ok i)
    passed-found k p =
        found h (sym e ∙ k) (ap (λ (n : ℕ). drop n (messages_in b (lent_rows t))) (sym p) ∙ g.rest ∙ messages-one t b i h e k)
