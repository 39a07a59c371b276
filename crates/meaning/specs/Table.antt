-- A record that was written to the table is read back from it as it was. Only records stand in it: neither an RPC nor a
-- control, whose codes do not tell the dialect.
use Rattle.std.specs.Prelude.{Some, ℕ, zero, suc, ◌+◌, ◌-◌, ◌*◌, ◌/◌, ◌≤◌, ◌<◌, ◌≡◌, length, drop, eqb}
use Rattle.std.proofs.Math.Path.{refl, ap}
use Rattle.std.proofs.Common.{sym, ap₂, ◌∙◌, add-zero, get_or-drop, get_or-append-add, drop-drop, drop_at}
use mathlib.Core.List.{List, [], ◌∷◌, ◌++◌, append_assoc}
use native.Mathlib.Omega.{arith}
use Rattle.std.proofs.Math.ListN.{get_or}
use Rattle.std.proofs.lemmas.List.Edits.{sets, sets-eq}
use Rattle.std.proofs.lemmas.Bool.{eqb-false, lt-leb}
use Rattle.basis.specs.declared.Mode.{Mode}
use Rattle.basis.specs.Cases.{either}
use Rattle.protobuf.specs.declared.Field.{Field}
use Rattle.protobuf.specs.Walk.{Fields, end, refused, ◌then◌, fields_of, between}
use Rattle.schema.specs.declared.Kind.{Kind}
use Rattle.schema.specs.declared.Kind.TheVariants as kind
use Rattle.schema.specs.declared.Form.{Form}
use Rattle.schema.specs.declared.Role.{Role}
use Rattle.schema.specs.declared.Role.TheVariants.{Skip, Number as NumberRole, Text, Bytes, Unsigned, Topic, MessageId}
use Rattle.schema.specs.declared.Role.TheVariants.{Sub}
use Rattle.schema.specs.declared.Place.{Place}
use Rattle.schema.specs.declared.Place.TheVariants as place
use Rattle.schema.specs.declared.Number.{Number}
use Rattle.schema.specs.declared.Number.TheVariants as number
use Rattle.message.specs.declared.Record.{Record}
use Rattle.message.specs.Rows.{kind_code, number_words, place_words, places_words, words_of, words_of_all, kind_from}
use Rattle.message.specs.Rows.{record_from, record_at}
use Rattle.schema.specs.Schema.{role_of, rank, own_of}
use Rattle.schema.specs.SchemaLaws.{sub-rank}
use Rattle.schema.specs.Kinds.{by_rank}
use Rattle.schema.specs.CountLaws.{own-one}
use Rattle.schema.specs.Made.{number_from, place_from}
use Rattle.message.specs.Rows.{role_rows, rows_along, own_rows, rows_of}
use Rattle.message.specs.RowsLaws.{rows_along_lem, number-length, place-length, words-length, all-length}
use Rattle.rpc.specs.Grammar.{Each, none_left, ◌and◌}

-- ---- the kinds that are records: all that stand in a message
abbrev pub IsRecord : Kind → Type 0
IsRecord k = own_of k ≡ 1

abbrev pub AllRecords : List Record → Type 0
AllRecords rs = Each (λ r. IsRecord r.kind) rs

pub each_append : {A : Type 0} {P : A → Type 0} {xs ys : List A} → Each P xs → Each P ys → Each P (xs ++ ys)
each_append none_left qs = qs
each_append (p and ps) qs = p and each_append ps qs

own-records : (mode : Mode) (k : Kind) (base : ℕ) (s : List ℕ) → AllRecords (own_rows mode k base s)
unfolding own_rows
own-records mode k base s =
    either (eqb (own_of k) 0) (λ t. simp t none_left)
    (λ t. let o = own-one k in let z = eqb-false (own_of k) 0 t in let e : own_of k ≡ 1 = omega arith in
    simp t (e and none_left))

role_records : (mode : Mode) (base : ℕ) (s : List ℕ) (f : Field) (r : Role)
    → ((j : Kind) (form : Form) (b : ℕ) (p : List ℕ) → r ≡ Sub j form → AllRecords (rows_of mode j b p))
    → AllRecords (role_rows (rows_of mode) base s f r)
unfolding own_of
role_records mode base s f Skip h = none_left
role_records mode base s f (NumberRole figure) h = none_left
role_records mode base s f (Text slot) h = none_left
role_records mode base s f (Bytes slot) h = none_left
role_records mode base s f (Unsigned slot) h = none_left
role_records mode base s f Topic h = refl and none_left
role_records mode base s f MessageId h = refl and none_left
role_records mode base s f (Sub k form) h = h k form (base + f.start) (between s f.start f.next) refl

along-records : (mode : Mode) (k : Kind) (base : ℕ) (s : List ℕ) (w : Fields)
    → ((j : Kind) (b : ℕ) (p : List ℕ) → rank j < rank k → AllRecords (rows_of mode j b p))
    → AllRecords (rows_along (rows_of mode) k base s w)
along-records mode k base s end h = none_left
along-records mode k base s (refused why) h = none_left
along-records mode k base s (f then w) h =
    each_append
    (role_records mode base s f (role_of k f.field f.wire_type)
    (λ j form b p q. h j b p (sub-rank k j form f.field f.wire_type q)))
    (along-records mode k base s w h)

pub all-records : (mode : Mode) (k : Kind) (base : ℕ) (s : List ℕ) → AllRecords (rows_of mode k base s)
all-records mode =
    by_rank (λ k. (base : ℕ) (s : List ℕ) → AllRecords (rows_of mode k base s))
    (λ k ih base s. rw (rows_along_lem mode k base s)
    (each_append (own-records mode k base s) (along-records mode k base s (fields_of mode s) (λ j b p q. ih j q b p))))

-- ---- each part of a record
pub kind_back : (k : Kind) → IsRecord k → kind_from (kind_code k) ≡ k
unfolding kind_from kind_code own_of
kind_back (kind.Rpc d) o = absurd (omega arith)
kind_back kind.SubOpts o = refl
kind_back kind.RawMessage o = refl
kind_back kind.Topic o = refl
kind_back (kind.ControlMessage d) o = absurd (omega arith)
kind_back kind.ControlIHave o = refl
kind_back kind.ControlIWant o = refl
kind_back kind.MessageId o = refl
kind_back kind.ControlGraft o = refl
kind_back kind.ControlPrune o = refl
kind_back kind.PeerInfo o = refl
kind_back kind.ControlIDontWant o = refl

number-back : (n : Number) (rest : List ℕ)
    → number_from (get_or (number_words n ++ rest) 0 0) (get_or (number_words n ++ rest) 1 0) ≡ n
unfolding number_from number_words
number-back number.Absent rest = refl
number-back (number.Present v) rest = refl

place-back : (p : Place) (rest : List ℕ) → place_from (get_or (place_words p ++ rest) 0 0) (get_or (place_words p ++ rest) 1 0)
    (get_or (place_words p ++ rest) 2 0) ≡ p
unfolding place_from place_words
place-back place.Absent rest = refl
place-back (place.Present a e) rest = refl

-- past a front of n words
past : (xs ys : List ℕ) (n j : ℕ) → length xs ≡ n → get_or (xs ++ ys) (n + j) 0 ≡ get_or ys j 0
past xs ys n j e = ap (λ (k : ℕ). get_or (xs ++ ys) (k + j) 0) (sym e) ∙ get_or-append-add xs ys j 0

mk_record : Kind → ℕ → ℕ → Number → Place → Place → Place → Place → Place → Record
mk_record k a e n p₁ p₂ p₃ p₄ p₅ =
    record {
      kind = k;
      start = a;
      end = e;
      slots = record { number = n; first = p₁; second = p₂; third = p₃; fourth = p₄; fifth = p₅ };
    }

same_record : {k k' : Kind} {a a' e e' : ℕ} {n n' : Number} {p₁ p₁' p₂ p₂' p₃ p₃' p₄ p₄' p₅ p₅' : Place} → k ≡ k'
    → a ≡ a' → e ≡ e' → n ≡ n' → p₁ ≡ p₁' → p₂ ≡ p₂' → p₃ ≡ p₃' → p₄ ≡ p₄' → p₅ ≡ p₅'
    → mk_record k a e n p₁ p₂ p₃ p₄ p₅ ≡ mk_record k' a' e' n' p₁' p₂' p₃' p₄' p₅'
same_record e1 e2 e3 e4 e5 e6 e7 e8 e9 = cc

same_place : {a a' b b' c c' : ℕ} → a ≡ a' → b ≡ b' → c ≡ c' → place_from a b c ≡ place_from a' b' c'
same_place e1 e2 e3 = cc

-- the words of a record, in a list that goes on
module _ (r : Record) (rest : List ℕ) where
  tail₅ : List ℕ
  tail₅ = place_words r.slots.fifth ++ rest

  tail₄ : List ℕ
  tail₄ = place_words r.slots.fourth ++ tail₅

  tail₃ : List ℕ
  tail₃ = place_words r.slots.third ++ tail₄

  tail₂ : List ℕ
  tail₂ = place_words r.slots.second ++ tail₃

  tail₁ : List ℕ
  tail₁ = place_words r.slots.first ++ tail₂

  tail₀ : List ℕ
  tail₀ = number_words r.slots.number ++ tail₁

  all : List ℕ
  all = (kind_code r.kind ∷ r.start ∷ r.end ∷ []) ++ tail₀

  spread : words_of r ++ rest ≡ all
  unfolding words_of places_words all tail₀ tail₁ tail₂ tail₃ tail₄ tail₅
  spread = simp append_assoc

  at₀ : (j : ℕ) → get_or all (3 + j) 0 ≡ get_or tail₀ j 0
  unfolding all
  at₀ j = past (kind_code r.kind ∷ r.start ∷ r.end ∷ []) tail₀ 3 j refl

  at₁ : (j : ℕ) → get_or all (5 + j) 0 ≡ get_or tail₁ j 0
  unfolding tail₀
  at₁ j = let e : 5 + j ≡ 3 + (2 + j) = omega arith in ap (λ (k : ℕ). get_or all k 0) e ∙ at₀ (2 + j)
      ∙ past (number_words r.slots.number) tail₁ 2 j (number-length r.slots.number)

  at₂ : (j : ℕ) → get_or all (8 + j) 0 ≡ get_or tail₂ j 0
  unfolding tail₁
  at₂ j = let e : 8 + j ≡ 5 + (3 + j) = omega arith in ap (λ (k : ℕ). get_or all k 0) e ∙ at₁ (3 + j)
      ∙ past (place_words r.slots.first) tail₂ 3 j (place-length r.slots.first)

  at₃ : (j : ℕ) → get_or all (11 + j) 0 ≡ get_or tail₃ j 0
  unfolding tail₂
  at₃ j = let e : 11 + j ≡ 8 + (3 + j) = omega arith in ap (λ (k : ℕ). get_or all k 0) e ∙ at₂ (3 + j)
      ∙ past (place_words r.slots.second) tail₃ 3 j (place-length r.slots.second)

  at₄ : (j : ℕ) → get_or all (14 + j) 0 ≡ get_or tail₄ j 0
  unfolding tail₃
  at₄ j = let e : 14 + j ≡ 11 + (3 + j) = omega arith in ap (λ (k : ℕ). get_or all k 0) e ∙ at₃ (3 + j)
      ∙ past (place_words r.slots.third) tail₄ 3 j (place-length r.slots.third)

  at₅ : (j : ℕ) → get_or all (17 + j) 0 ≡ get_or tail₅ j 0
  unfolding tail₄
  at₅ j = let e : 17 + j ≡ 14 + (3 + j) = omega arith in ap (λ (k : ℕ). get_or all k 0) e ∙ at₄ (3 + j)
      ∙ past (place_words r.slots.fourth) tail₅ 3 j (place-length r.slots.fourth)

-- what stands in a table from word i on, where a record's words begin there
record_back : (t : List ℕ) (i : ℕ) (r : Record) (rest : List ℕ) → IsRecord r.kind → drop i t ≡ words_of r ++ rest
    → record_from t i ≡ r
unfolding record_from mk_record all tail₀ tail₁ tail₂ tail₃ tail₄ tail₅
record_back t i r rest own h =
    let at : (j : ℕ) → get_or t (i + j) 0 ≡ get_or (all r rest) j 0 = λ j. sym (get_or-drop i t j 0)
    ∙ ap (λ (l : List ℕ). get_or l j 0) (h ∙ spread r rest) in
    let z : get_or t i 0 ≡ get_or t (i + 0) 0 = ap (λ (k : ℕ). get_or t k 0) (sym (add-zero i)) in
    same_record
    (ap kind_from (z ∙ at 0) ∙ kind_back r.kind own)
    (at 1)
    (at 2)
    (ap₂ number_from (at 3 ∙ at₀ r rest 0) (at 4 ∙ at₀ r rest 1) ∙ number-back r.slots.number (tail₁ r rest))
    (same_place (at 5 ∙ at₁ r rest 0) (at 6 ∙ at₁ r rest 1) (at 7 ∙ at₁ r rest 2)
    ∙ place-back r.slots.first (tail₂ r rest))
    (same_place (at 8 ∙ at₂ r rest 0) (at 9 ∙ at₂ r rest 1) (at 10 ∙ at₂ r rest 2)
    ∙ place-back r.slots.second (tail₃ r rest))
    (same_place (at 11 ∙ at₃ r rest 0) (at 12 ∙ at₃ r rest 1) (at 13 ∙ at₃ r rest 2)
    ∙ place-back r.slots.third (tail₄ r rest))
    (same_place (at 14 ∙ at₄ r rest 0) (at 15 ∙ at₄ r rest 1) (at 16 ∙ at₄ r rest 2)
    ∙ place-back r.slots.fourth (tail₅ r rest))
    (same_place (at 17 ∙ at₅ r rest 0) (at 18 ∙ at₅ r rest 1) (at 19 ∙ at₅ r rest 2)
    ∙ place-back r.slots.fifth rest)

-- ---- the records at the front of a table
-- the records in the first n rows
abbrev pub rows_in : List ℕ → ℕ → ℕ → List Record
rows_in t row zero = []
rows_in t row (suc n) = record_from t (row * 20) ∷ rows_in t (row + 1) n

front-back : (t : List ℕ) (row : ℕ) (rs : List Record) (rest : List ℕ) → AllRecords rs
    → drop (row * 20) t ≡ words_of_all rs ++ rest → rows_in t row (length rs) ≡ rs
front-back t row [] rest none_left h = refl
front-back t row (r ∷ rs) rest (own and owns) h =
    let h1 : drop (row * 20) t ≡ words_of r ++ (words_of_all rs ++ rest) =
    h ∙ append_assoc (words_of r) (words_of_all rs) rest in
    let e : (row + 1) * 20 ≡ row * 20 + 20 = omega arith in
    let h2 : drop ((row + 1) * 20) t ≡ words_of_all rs ++ rest =
    ap (λ (k : ℕ). drop k t) e ∙ sym (drop-drop 20 (row * 20) t) ∙ ap (drop 20) h1
    ∙ drop_at (words_of r) (words_of_all rs ++ rest) 20 (words-length r) in
    ap₂ (λ (x : Record) (y : List Record). x ∷ y) (record_back t (row * 20) r (words_of_all rs ++ rest) own h1)
    (front-back t (row + 1) rs rest owns h2)

-- what was written at the front of a table is read back from it
pub table-back : (t : List ℕ) (rs : List Record) → AllRecords rs → length rs * 20 ≤ length t
    → rows_in (sets t 0 (words_of_all rs)) 0 (length rs) ≡ rs
table-back t rs owns h =
    let l = all-length rs in
    front-back (sets t 0 (words_of_all rs)) 0 rs (drop (0 + length (words_of_all rs)) t) owns
    (sets-eq (words_of_all rs) t 0 (omega arith))

-- the host's reader gives these records
pub record_at-row : (t : List ℕ) (row : ℕ) → row < length t / 20
    → record_at t row ≡ Some (record_from t (row * 20))
unfolding record_at
record_at-row t row h = simp (lt-leb (length t / 20) row h)
