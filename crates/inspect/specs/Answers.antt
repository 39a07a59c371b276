-- The lines, in ASCII. A record that is bad, its kind unknown or its content too short, has none.
use Rattle.std.specs.Prelude.{Result, Ok, Err, Option, Some, None, ℕ, List, [], ◌∷◌, ◌++◌, cond, length, take, drop, ltb, eqb}
use Rattle.basis.specs.declared.Mode.{Mode}
use Rattle.basis.specs.declared.Mode.TheVariants.{Plain}
use Rattle.peer_id.specs.declared.VarintError.{VarintError}
use Rattle.protobuf.specs.declared.Refusal.{Refusal}
use Rattle.protobuf.specs.declared.Walked.{Walked}
use Rattle.basis.specs.Dialect.{dialect_of}
use Rattle.basis.specs.Little.{little}
use Rattle.text.specs.Line.{decimal, number}
use Rattle.lines.specs.Lines.{refusal}
use Rattle.peer_id.specs.Uvarint.{read_uvarint}
use Rattle.peer_id.specs.Told.{varint_told}
use Rattle.utf8.specs.Utf8.{is_utf8}
use Rattle.protobuf.specs.Told.{refusal_told}
use Rattle.protobuf.specs.Field.{walk_step}
use Rattle.inspect.specs.Senders.{key_answer, peer_answer}

-- ` end`; or the field, its wire type, the place after its tag and the next place
unfoldable pub walk : Result (Option Walked) Refusal → List ℕ
walk (Ok None) = 32 ∷ 101 ∷ 110 ∷ 100 ∷ []
walk (Err r) = refusal (refusal_told r)
walk (Ok (Some w)) = number w.field ++ (number w.wire_type ++ (number w.tag_end ++ number w.next.at))

-- the value and how many bytes it took
unfoldable pub varint : Result (ℕ × ℕ) VarintError → List ℕ
varint (Err why) = refusal (varint_told why)
varint (Ok (x, n)) = number x ++ number n

-- ---- the call and the answer to a content, for each kind
-- ` walk`, in a mode: a place and then a body; nothing where the place is cut
unfoldable pub walk_answer : Mode → List ℕ → List ℕ
walk_answer mode s =
    cond (ltb (length s) 8) [] (32 ∷ 119 ∷ 97 ∷ 108 ∷ 107 ∷ walk (walk_step mode (drop 8 s) (little (take 8 s))))

-- the number of a dialect, 0 to 3, in a byte, and then as ` walk`, in its mode; nothing where it is another number
unfoldable pub spoken_answer : List ℕ → List ℕ
spoken_answer s =
    cond (ltb 3 (little (take 1 s))) [] (walk_answer (dialect_of (little (take 1 s))).mode (drop 1 s))

-- ` varint`
unfoldable pub varint_answer : List ℕ → List ℕ
varint_answer s = 32 ∷ 118 ∷ 97 ∷ 114 ∷ 105 ∷ 110 ∷ 116 ∷ varint (read_uvarint s)

-- ` utf8`, and ` yes` or ` no`
unfoldable pub utf8_answer : List ℕ → List ℕ
utf8_answer s = 32 ∷ 117 ∷ 116 ∷ 102 ∷ 56 ∷ cond (is_utf8 s) (32 ∷ 121 ∷ 101 ∷ 115 ∷ []) (32 ∷ 110 ∷ 111 ∷ [])

-- nothing where the kind is unknown
unfoldable pub answer_to : ℕ → List ℕ → List ℕ
answer_to kind s =
    cond (eqb kind 5) (walk_answer Plain s)
    (cond (eqb kind 6) (varint_answer s)
    (cond (eqb kind 7) (utf8_answer s)
    (cond (eqb kind 8) (key_answer s)
    (cond (eqb kind 9) (peer_answer s)
    (cond (eqb kind 25) (spoken_answer s) [])))))

-- record n's line, with its newline
unfoldable pub closed : ℕ → List ℕ → List ℕ
closed n [] = []
closed n (x ∷ xs) = decimal n ++ (x ∷ xs ++ (10 ∷ []))

unfoldable pub line_of : ℕ → ℕ → List ℕ → List ℕ
line_of n kind s = closed n (answer_to kind s)
