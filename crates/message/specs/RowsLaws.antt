-- Laws of the records: they stand along a message's fields; a message that is accepted has as many records as were
-- counted; and a record takes twenty words.
use Rattle.std.specs.Prelude.{Ok, ℕ, ◌+◌, ◌*◌, ◌<◌, ◌≡◌, refl, List, [], ◌∷◌, ◌++◌, length, eqb}
use Rattle.std.proofs.Common.{sym, ap, ap₂, ◌∙◌, append_assoc, arith, length-append, eqb-true}
use Rattle.std.proofs.lemmas.Bool.{eqb-false}
use Rattle.basis.specs.declared.Mode.{Mode}
use Rattle.basis.specs.Cases.{either, clash}
use Rattle.protobuf.specs.declared.Field.{Field}
use Rattle.protobuf.specs.Walk.{Fields, end, refused, ◌then◌, fields_of, between}
use Rattle.schema.specs.declared.Kind.{Kind}
use Rattle.schema.specs.declared.Form.{Form}
use Rattle.schema.specs.declared.Role.{Role}
use Rattle.schema.specs.declared.Role.TheVariants.{Skip, Number, Text, Bytes, Unsigned, Topic, MessageId, Sub}
use Rattle.schema.specs.declared.Place.{Place}
use Rattle.schema.specs.declared.Place.TheVariants as place
use Rattle.schema.specs.declared.Number.{Number as Num}
use Rattle.schema.specs.declared.Number.TheVariants as number
use Rattle.schema.specs.declared.Slots.{Slots}
use Rattle.schema.specs.Schema.{role_of, rank, own_of}
use Rattle.schema.specs.Count.{role_count, count_along, counted}
use Rattle.schema.specs.SchemaLaws.{sub-rank}
use Rattle.schema.specs.Kinds.{unfolds, by_rank}
use Rattle.schema.specs.CountLaws.{count_along_lem, own-one, text-fits, plus-fits, then-fits}
use Rattle.message.specs.declared.Record.{Record}
use Rattle.message.specs.Rows.{role_rows, rows_along, own_rows, rows_step, rows_of, number_words, place_words}
use Rattle.message.specs.Rows.{places_words, words_of, words_of_all}

-- ---- the records of a message: its own, and then those along its fields
same_role : (f g : Kind → ℕ → List ℕ → List Record) (base : ℕ) (s : List ℕ) (x : Field) (r : Role)
    → ((j : Kind) (form : Form) (b : ℕ) (p : List ℕ) → r ≡ Sub j form → f j b p ≡ g j b p)
    → role_rows f base s x r ≡ role_rows g base s x r
same_role f g base s x Skip h = refl
same_role f g base s x (Number figure) h = refl
same_role f g base s x (Text slot) h = refl
same_role f g base s x (Bytes slot) h = refl
same_role f g base s x (Unsigned slot) h = refl
same_role f g base s x Topic h = refl
same_role f g base s x MessageId h = refl
same_role f g base s x (Sub k form) h = h k form (base + x.start) (between s x.start x.next) refl

same-along : (f g : Kind → ℕ → List ℕ → List Record) (k : Kind) (base : ℕ) (s : List ℕ) (w : Fields)
    → ((j : Kind) (b : ℕ) (p : List ℕ) → rank j < rank k → f j b p ≡ g j b p)
    → rows_along f k base s w ≡ rows_along g k base s w
same-along f g k base s end h = refl
same-along f g k base s (refused why) h = refl
same-along f g k base s (x then w) h =
    ap₂ (λ (a b : List Record). a ++ b)
    (same_role f g base s x (role_of k x.field x.wire_type)
    (λ j form b p e. h j b p (sub-rank k j form x.field x.wire_type e)))
    (same-along f g k base s w h)

pub rows_along_lem : (mode : Mode) (k : Kind) (base : ℕ) (s : List ℕ) → rows_of mode k base s ≡ own_rows mode k base s
    ++ rows_along (rows_of mode) k base s (fields_of mode s)
unfolding rows_of
rows_along_lem mode k base s =
    unfolds (rows_step mode) []
    (λ f g j x h. ap (λ (l : List Record). own_rows mode j x.0 x.1 ++ l)
    (same-along (λ i b p. f i (b, p)) (λ i b p. g i (b, p)) j x.0 x.1 (fields_of mode x.1)
    (λ i b p l. h i (b, p) l)))
    k (base, s)

-- ---- as many records as were counted
pub own-length : (mode : Mode) (k : Kind) (base : ℕ) (s : List ℕ) → length (own_rows mode k base s) ≡ own_of k
unfolding own_rows
own-length mode k base s =
    either (eqb (own_of k) 0) (λ t. simp t (sym (eqb-true (own_of k) 0 t)))
    (λ t. let o = own-one k in let z = eqb-false (own_of k) 0 t in let e : 1 ≡ own_of k = omega arith in simp t e)

role_length : (mode : Mode) (base : ℕ) (s : List ℕ) (f : Field) (r : Role) (m : ℕ)
    → role_count (counted mode) s f r ≡ Ok m
    → ((j : Kind) (form : Form) (b : ℕ) (p : List ℕ) (x : ℕ) → r ≡ Sub j form → counted mode j p ≡ Ok x
    → length (rows_of mode j b p) ≡ own_of j + x) → length (role_rows (rows_of mode) base s f r) ≡ m
role_length mode base s f Skip m h ih = cc
role_length mode base s f (Number figure) m h ih = cc
role_length mode base s f (Text slot) m h ih = sym (text-fits s f 0 m h)
role_length mode base s f (Bytes slot) m h ih = cc
role_length mode base s f (Unsigned slot) m h ih = cc
role_length mode base s f Topic m h ih = sym (text-fits s f 1 m h)
role_length mode base s f MessageId m h ih = cc
role_length mode base s f (Sub k form) m h ih =
    let t = plus-fits (own_of k) m (counted mode k (between s f.start f.next)) h in
    ih k form (base + f.start) (between s f.start f.next) t.0 refl t.1 ∙ sym t.2

along-length : (mode : Mode) (k : Kind) (base : ℕ) (s : List ℕ) (w : Fields) (n : ℕ)
    → count_along (counted mode) k s w ≡ Ok n
    → ((j : Kind) (b : ℕ) (p : List ℕ) (x : ℕ) → rank j < rank k → counted mode j p ≡ Ok x
    → length (rows_of mode j b p) ≡ own_of j + x) → length (rows_along (rows_of mode) k base s w) ≡ n
along-length mode k base s end n h ih = cc
along-length mode k base s (refused why) n h ih = clash (cc)
along-length mode k base s (f then w) n h ih =
    let t = then-fits (role_count (counted mode) s f (role_of k f.field f.wire_type))
    (count_along (counted mode) k s w) n h in
    let a = role_length mode base s f (role_of k f.field f.wire_type) t.0 t.2
    (λ j form b p x q. ih j b p x (sub-rank k j form f.field f.wire_type q)) in
    let b = along-length mode k base s w t.1 t.3 ih in
    length-append (role_rows (rows_of mode) base s f (role_of k f.field f.wire_type))
    (rows_along (rows_of mode) k base s w)
    ∙ omega (arith, a, b, t.4)

pub rows-length : (mode : Mode) (k : Kind) (base : ℕ) (s : List ℕ) (n : ℕ) → counted mode k s ≡ Ok n
    → length (rows_of mode k base s) ≡ own_of k + n
rows-length mode =
    by_rank (λ k. (base : ℕ) (s : List ℕ) (n : ℕ) → counted mode k s ≡ Ok n
    → length (rows_of mode k base s) ≡ own_of k + n)
    (λ k ih base s n h.
    let a = along-length mode k base s (fields_of mode s) n (sym (count_along_lem mode k s) ∙ h)
    (λ j b p x q e. ih j q b p x e) in
    ap length (rows_along_lem mode k base s)
    ∙ length-append (own_rows mode k base s) (rows_along (rows_of mode) k base s (fields_of mode s))
    ∙ omega (arith, own-length mode k base s, a))

-- ---- a record takes twenty words
pub number-length : (x : Num) → length (number_words x) ≡ 2
unfolding number_words
number-length number.Absent = refl
number-length (number.Present v) = refl

pub place-length : (p : Place) → length (place_words p) ≡ 3
unfolding place_words
place-length place.Absent = refl
place-length (place.Present a e) = refl

pub places-length : (t : Slots) → length (places_words t) ≡ 15
unfolding places_words
places-length t = simp (length-append, place-length)

pub words-length : (r : Record) → length (words_of r) ≡ 20
unfolding words_of
words-length r = simp (length-append, number-length, places-length)

pub all-length : (rs : List Record) → length (words_of_all rs) ≡ length rs * 20
all-length [] = refl
all-length (r ∷ rs) = length-append (words_of r) (words_of_all rs) ∙ omega (arith, words-length r, all-length rs)

pub all_append : (rs ts : List Record) → words_of_all (rs ++ ts) ≡ words_of_all rs ++ words_of_all ts
all_append [] ts = refl
all_append (r ∷ rs) ts = ap (λ (l : List ℕ). words_of r ++ l) (all_append rs ts)
    ∙ sym (append_assoc (words_of r) (words_of_all rs) (words_of_all ts))
