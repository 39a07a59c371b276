-- Records written to the table one after the other, and one turn of the walk over a message's fields, as the loop of `write_message` makes it.
use Prim.Native.Nat.{ℕ, ◌+◌, ◌*◌, ◌≤◌}
use mathlib.Core.Path.{◌≡◌, refl, sym, ap, ◌∙◌}
use mathlib.Core.List.{List, [], ◌∷◌, ◌++◌, append-nil}
use native.Mathlib.Omega.{arith}
use lib.ListN.{length, length-append}
use lib.Seq.{sets, length-sets}
use borrow.Author.Tests.{eq-eqb, ne_eqb}
use Rattle.std.specs.Prelude.{Ok, Err, Some, None}
use Rattle.basis.specs.declared.Mode.{Mode}
use Rattle.basis.specs.Lists.{sets-append}
use Rattle.protobuf.specs.declared.Field.{Field}
use Rattle.protobuf.specs.declared.WireError.{WireError}
use Rattle.protobuf.specs.Field.{read_field}
use Rattle.protobuf.specs.Walk.{walk_at}
use Rattle.protobuf.specs.WalkLaws.{walk_on}
use Rattle.schema.specs.declared.Kind.{Kind}
use Rattle.schema.specs.declared.Role.{Role}
use Rattle.schema.specs.declared.Slots.{Slots}
use Rattle.schema.specs.Schema.{role_of, own_of}
use Rattle.schema.specs.Slots.{slots_of}
use Rattle.message.specs.declared.Record.{Record}
use Rattle.message.specs.Rows.{role_rows, rows_along, own_rows, rows_of, field_rows, words_of, words_of_all}
use Rattle.message.specs.RowsLaws.{rows_along_lem, own-length, all-length, all_append}

-- ---- the records rs were written from a row on: m is the row after them, and the table is u then
abbrev pub Puts : List ℕ → ℕ → List Record → List ℕ → ℕ → Type 0
Puts t row rs u m = (m ≡ row + length rs) × (u ≡ sets t (row * 20) (words_of_all rs))

pub puts_none : (t : List ℕ) (row : ℕ) → Puts t row [] t row
puts_none t row = (omega arith, refl)

pub puts_one : (t u : List ℕ) (row m : ℕ) (r : Record) → (m ≡ row + 1) × (u ≡ sets t (row * 20) (words_of r)) → Puts t row (r ∷ []) u m
puts_one t u row m r (p, h) = (p, h ∙ ap (sets t (row * 20)) (sym (append-nil (words_of r))))

-- one write after another is one write
both : (t : List ℕ) (row m : ℕ) (xs ys : List Record) → m ≡ row + length xs → sets (sets t (row * 20) (words_of_all xs)) (m * 20) (words_of_all ys) ≡ sets t (row * 20) (words_of_all (xs ++ ys))
both t row m xs ys h =
    let e : m * 20 ≡ row * 20 + length (words_of_all xs) = omega (arith, all-length xs) in
    ap (λ (i : ℕ). sets (sets t (row * 20) (words_of_all xs)) i (words_of_all ys)) e
    ∙ sym (sets-append t (row * 20) (words_of_all xs) (words_of_all ys))
    ∙ ap (sets t (row * 20)) (sym (all_append xs ys))

puts_append : (t u v : List ℕ) (row m n : ℕ) (xs ys : List Record) → Puts t row xs u m → Puts u m ys v n → Puts t row (xs ++ ys) v n
puts_append t u v row m n xs ys (p, a) (q, b) =
    (simp length-append (omega arith), b ∙ ap (λ (l : List ℕ). sets l (m * 20) (words_of_all ys)) a ∙ both t row m xs ys p)

-- ---- what is left to write, from the next row on, makes what all of it makes
pub record Left (t₀ : List ℕ) (row : ℕ) (all : List Record) (t : List ℕ) (next : ℕ) (rest : List Record) : Type 0 where
  pub place : next + length rest ≡ row + length all
  pub kept : length t ≡ length t₀
  pub words : sets t (next * 20) (words_of_all rest) ≡ sets t₀ (row * 20) (words_of_all all)

pub left-all : (t : List ℕ) (row : ℕ) (all : List Record) → Left t row all t row all
left-all t row all = record { place = refl; kept = refl; words = refl }

module _ (t₀ : List ℕ) (row : ℕ) (all : List Record) (t : List ℕ) (next : ℕ) (rest : List Record) (l : Left t₀ row all t next rest) where
  pub left-none : rest ≡ [] → Puts t₀ row all t next
  left-none e = (omega (arith, l.place, ap length e), ap (λ (rs : List Record). sets t (next * 20) (words_of_all rs)) (sym e) ∙ l.words)

  module _ (xs ys : List Record) (e : rest ≡ xs ++ ys) where
    pub left-room : (row + length all) * 20 ≤ length t₀ → (next + length xs) * 20 ≤ length t
    left-room h = omega (arith, l.place, l.kept, ap length e, length-append xs ys)

    pub left-part : (u : List ℕ) (m : ℕ) → Puts t next xs u m → Left t₀ row all u m ys
    left-part u m (p, h) =
        record {
          place = omega (arith, l.place, ap length e, length-append xs ys);
          kept = ap length h ∙ length-sets t (next * 20) (words_of_all xs) ∙ l.kept;
          words =
              ap (λ (o : List ℕ). sets o (m * 20) (words_of_all ys)) h
              ∙ both t next m xs ys p
              ∙ ap (λ (rs : List Record). sets t (next * 20) (words_of_all rs)) (sym e)
              ∙ l.words;
        }

-- ---- the records of a message
module _ (mode : Mode) (k : Kind) (base : ℕ) (s : List ℕ) where
  abbrev pub along_at : ℕ → List Record
  along_at at = rows_along (rows_of mode) k base s (walk_at mode s at)

  pub rows-count : length (rows_of mode k base s) ≡ own_of k + length (along_at 0)
  rows-count =
      ap length (rows_along_lem mode k base s) ∙ length-append (own_rows mode k base s) (along_at 0) ∙ ap (λ (n : ℕ). n + length (along_at 0)) (own-length mode k base s)

  pub puts_rows : (t u v : List ℕ) (row m n : ℕ) → Puts t row (own_rows mode k base s) u m → Puts u m (along_at 0) v n → Puts t row (rows_of mode k base s) v n
  puts_rows t u v row m n p q = rw (rows_along_lem mode k base s) (puts_append t u v row m n (own_rows mode k base s) (along_at 0) p q)

  own-none : own_of k ≡ 0 → own_rows mode k base s ≡ []
  unfolding own_rows
  own-none h = simp (eq-eqb (own_of k) 0 h)

  own-some : (own_of k ≡ 0 → ⊥) → own_rows mode k base s ≡ record { kind = k; start = base; end = base + length s; slots = slots_of mode k s } ∷ []
  unfolding own_rows
  own-some h = simp (ne_eqb (own_of k) 0 h)

  pub puts_own-none : (t : List ℕ) (row : ℕ) → own_of k ≡ 0 → Puts t row (own_rows mode k base s) t row
  puts_own-none t row h = rw (own-none h) (puts_none t row)

  pub puts_own : (t u : List ℕ) (row : ℕ) (x : Slots) → (own_of k ≡ 0 → ⊥) → x ≡ slots_of mode k s → u ≡ sets t (row * 20) (words_of (record { kind = k; start = base; end = base + length s; slots = x })) → Puts t row (own_rows mode k base s) u (row + 1)
  puts_own t u row x h e w = rw (own-some h) (puts_one t u row (row + 1) _ (refl, rw e at w))

  module _ (at : ℕ) where
    pub along-end : (Ok None) ≡ read_field mode s at → along_at at ≡ []
    along-end h = ap (rows_along (rows_of mode) k base s) (walk_on mode s at (Ok None) h)

    pub along-refused : (why : WireError) → Err why ≡ read_field mode s at → along_at at ≡ []
    along-refused why h = ap (rows_along (rows_of mode) k base s) (walk_on mode s at (Err why) h)

    pub along-field : (f : Field) → Ok (Some f) ≡ read_field mode s at → along_at at ≡ field_rows mode k base s f ++ along_at f.next
    unfolding field_rows
    along-field f h = ap (rows_along (rows_of mode) k base s) (walk_on mode s at (Ok (Some f)) h)

  -- a field's records, by its role
  module _ (f : Field) (r : Role) (e : role_of k f.field f.wire_type ≡ r) where
    field_role : field_rows mode k base s f ≡ role_rows (rows_of mode) base s f r
    unfolding field_rows
    field_role = ap (role_rows (rows_of mode) base s f) e

    pub field_count_lem : length (field_rows mode k base s f) ≡ length (role_rows (rows_of mode) base s f r)
    field_count_lem = ap length field_role

    pub puts_field : (t u : List ℕ) (row m : ℕ) → Puts t row (role_rows (rows_of mode) base s f r) u m → Puts t row (field_rows mode k base s f) u m
    puts_field t u row m p = rw field_role p
