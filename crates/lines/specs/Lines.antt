-- Lines that answer a record, in ASCII.
use Rattle.std.specs.Prelude.{Option, Some, None, ℕ, ◌+◌, ◌-◌, ◌≤◌, ◌≡◌, List, [], ◌∷◌, ◌++◌, Bool, cond, length, take, ltb, leb, eqb}
use Rattle.basis.specs.declared.Spot.{Spot}
use Rattle.basis.specs.declared.Told.{Told}
use Rattle.basis.specs.Spot.{fields_of}
use Rattle.basis.specs.Writing.{end_in, set_in}
use Rattle.text.specs.Line.{decimal, number, numbers, refused, hex}

-- what a writer of xs that wants `room` bytes from `at` on answers and leaves in the lent bytes; xs has no more
pub record Wrote (room : ℕ) (xs before : List ℕ) (at : ℕ) (after : List ℕ) (end : ℕ) : Type 0 where
  pub place : end ≡ end_in room at xs before
  pub bytes : after ≡ set_in room at xs before
  pub small : end ≤ at + room

-- xs where s has at most `most` bytes; else there is nothing to write
abbrev pub fitting : ℕ → List ℕ → List ℕ → List ℕ
fitting most s xs = cond (leb (length s) most) xs []

-- ` in` and the numbers of the fields that enclose a place, the outermost first; nothing where none does
unfoldable pub fields_text : List ℕ → List ℕ
fields_text [] = []
fields_text (n ∷ ns) = 32 ∷ 105 ∷ 110 ∷ numbers (n ∷ ns)

-- where in the body: ` at`, the offset, and the fields
unfoldable pub spot_text : Option Spot → List ℕ
spot_text None = []
spot_text (Some spot) =
    32 ∷ 97 ∷ 116 ∷ (number spot.offset ++ fields_text (fields_of (Some spot)))

-- ` refused`, the number in the scope's table, the values beside it, of which a refusal has at most three, and its place
abbrev pub refusal : Told → List ℕ
refusal t = refused t.number (take t.count (t.first ∷ t.second ∷ t.third ∷ [])) ++ spot_text t.spot

-- above 0, a blank and the hex of the first n bytes
unfoldable pub shown_text : List ℕ → ℕ → List ℕ
shown_text s n = cond (eqb n 0) [] (cond (ltb (length s) n) [] (32 ∷ hex (take n s)))

-- ---- the line of the input's record n, with its newline; there is none for more than 32 bytes of words
unfoldable pub words_line : ℕ → List ℕ → List ℕ
words_line n words = fitting 32 words (decimal n ++ (words ++ (10 ∷ [])))

unfoldable pub number_line : ℕ → List ℕ → ℕ → List ℕ
number_line n words value = fitting 32 words (decimal n ++ ((words ++ number value) ++ (10 ∷ [])))

-- a refusal, with its values and its place where `full`
unfoldable pub refusal_line : ℕ → List ℕ → Bool → Told → List ℕ
refusal_line n words full t =
    fitting 32 words (decimal n ++ ((words ++ cond full (refusal t) (refused t.number [])) ++ (10 ∷ [])))

-- what was done, or the call and its refusal
unfoldable pub told_line : ℕ → List ℕ → List ℕ → Bool → Told → List ℕ
told_line n done words full t = cond (eqb t.number 0) (words_line n done) (refusal_line n words full t)

-- the same with two ways to be done
unfoldable pub either_line : ℕ → List ℕ → List ℕ → List ℕ → Bool → Told → List ℕ
either_line n one other words full t =
    cond (eqb t.first 1) (told_line n one words full t) (told_line n other words full t)

-- a call that writes bytes: how many and, above 0, their hex, s being the buffer afterwards, of at most 65,600 bytes;
-- then what it tells further
unfoldable pub bytes_line : ℕ → List ℕ → List ℕ → Told → List ℕ
bytes_line n words s t =
    fitting 32 words
    (fitting 65600 s
    (decimal n
    ++ ((words
    ++ ((number t.first ++ shown_text s t.first)
    ++ numbers (take (t.count - 1) (t.second ∷ t.third ∷ t.fourth ∷ []))))
    ++ (10 ∷ []))))

unfoldable pub made_line : ℕ → List ℕ → Bool → List ℕ → Told → List ℕ
made_line n words full s t = cond (eqb t.number 0) (bytes_line n words s t) (refusal_line n words full t)
