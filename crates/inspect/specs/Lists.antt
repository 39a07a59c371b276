-- The content of kind 10, and of kind 11 after its index: the room (u32, at most 65,600), how many rows (u16, at most
-- 640), the rows, and then the lent bytes. A row is its kind (u8), a mask (u8), its start and its end (u64 each); then,
-- for each bit of the mask that is set, the lowest first, what it stands for: bit 0 the number (u64), bits 1 to 5 the
-- five fields, each its start and its end (u64 each). Numbers have their low byte first. A row that is cut or whose mask
-- is above 63 is bad, and so is the whole.
use Rattle.std.specs.Prelude.{ℕ, zero, suc, ◌+◌, ◌*◌, ◌/◌, ◌%◌, ◌≤◌, ◌≡◌, cond, List, [], ◌∷◌, ◌++◌, length, take, drop, ltb, eqb, Option, Some, None}
use Rattle.std.proofs.lemmas.List.Edits.{sets}
use Rattle.basis.specs.Little.{little}
use Rattle.inspect.specs.declared.lists.Lent.{Lent}

-- ---- a row
-- the number in n bytes at a place
abbrev pub number_at : ℕ → List ℕ → ℕ → ℕ
number_at n s at = little (take n (drop at s))

-- the word at a place where a bit of the mask is set, else 0
unfoldable pub word_if : ℕ → List ℕ → ℕ → ℕ
word_if bit s at = cond (eqb bit 0) 0 (number_at 8 s at)

-- n fields, by the lowest n bits of m: in the table the flag, the start and the end
unfoldable pub fields_words : ℕ → ℕ → List ℕ → ℕ → List ℕ
fields_words zero m s at = []
fields_words (suc n) m s at =
    m % 2 ∷ word_if (m % 2) s at ∷ word_if (m % 2) s (at + 8) ∷ fields_words n (m / 2) s (at + 16 * (m % 2))

unfoldable pub fields_end : ℕ → ℕ → ℕ → ℕ
fields_end zero m at = at
fields_end (suc n) m at = fields_end n (m / 2) (at + 16 * (m % 2))

-- the twenty words of a row with the mask m: kind, start, end, the number's flag and the number, the fields; and where it
-- ends
unfoldable pub words_by : ℕ → List ℕ → ℕ → List ℕ
words_by m s at =
    number_at 1 s at
    ∷ number_at 8 s (at + 2)
    ∷ number_at 8 s (at + 10)
    ∷ m % 2
    ∷ word_if (m % 2) s (at + 18)
    ∷ fields_words 5 (m / 2) s (at + 18 + 8 * (m % 2))

unfoldable pub words_end : ℕ → ℕ → ℕ
words_end m at = fields_end 5 (m / 2) (at + 18 + 8 * (m % 2))

abbrev pub mask_at : List ℕ → ℕ → ℕ
mask_at s at = number_at 1 s (at + 1)

-- the words of the row at a place, and where it ends
abbrev pub row_words : List ℕ → ℕ → List ℕ
row_words s at = words_by (mask_at s at) s at

unfoldable pub row_end : List ℕ → ℕ → Option ℕ
row_end s at =
    cond (ltb (length s) (at + 18)) None
    (cond (ltb 63 (mask_at s at)) None
    (cond (ltb (length s) (words_end (mask_at s at) at)) None (Some (words_end (mask_at s at) at))))

-- ---- n rows, one after the other
abbrev pub end_from : (ℕ → Option ℕ) → Option ℕ → Option ℕ
end_from f None = None
end_from f (Some p) = f p

abbrev pub words_from : (ℕ → List ℕ) → Option ℕ → List ℕ
words_from f None = []
words_from f (Some p) = f p

unfoldable pub rows_end : ℕ → List ℕ → ℕ → Option ℕ
rows_end zero s at = Some at
rows_end (suc n) s at = end_from (rows_end n s) (row_end s at)

unfoldable pub rows_words : ℕ → List ℕ → ℕ → List ℕ
rows_words zero s at = []
rows_words (suc n) s at = row_words s at ++ words_from (rows_words n s) (row_end s at)

-- ---- the lists: the room, the words of the rows, the lent bytes
pub record Lists : Type 0 where
  pub room : ℕ
  pub words : List ℕ
  pub bytes : List ℕ

abbrev pub lists_to : ℕ → ℕ → List ℕ → Option ℕ → Option Lists
lists_to room n s None = None
lists_to room n s (Some p) = Some (record { room = room; words = rows_words n s 6; bytes = drop p s })

-- nothing where the content is bad
unfoldable pub lists_in : List ℕ → Option Lists
lists_in s =
    cond (ltb (length s) 6) None
    (cond (ltb 65600 (number_at 4 s 0)) None
    (cond (ltb 640 (number_at 2 s 4)) None (lists_to (number_at 4 s 0) (number_at 2 s 4) s (rows_end (number_at 2 s 4) s 6))))

-- ---- what the readers answer
-- what an answer says of the content s, with the table t: the rows are its first words, the bytes are those from the
-- start on
abbrev pub held : List ℕ → List ℕ → Option Lent → Option Lists
held s t None = None
held s t (Some r) = Some (record { room = r.room; words = take r.words t; bytes = drop r.start s })

-- a row at `at` went to the table's word i
pub record RowRead (s : List ℕ) (at : ℕ) (t : List ℕ) (i : ℕ) (after : List ℕ) (r : Option ℕ) : Type 0 where
  pub answer : r ≡ row_end s at
  pub words : (p : ℕ) → row_end s at ≡ Some p → after ≡ sets t i (row_words s at)

-- n rows went to the table's front
pub record RowsRead (n : ℕ) (s : List ℕ) (at : ℕ) (after : List ℕ) (r : Option ℕ) : Type 0 where
  pub answer : r ≡ rows_end n s at
  pub words : (p : ℕ) → rows_end n s at ≡ Some p → take (20 * n) after ≡ rows_words n s at

-- the lists of a content
pub record ListsRead (s after : List ℕ) (r : Option Lent) : Type 0 where
  pub says : held s after r ≡ lists_in s
  pub fits : (l : Lent) → r ≡ Some l → (l.room ≤ 65600) × (l.words ≤ 12800) × (l.start ≤ length s)
