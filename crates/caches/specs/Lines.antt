-- The lines of answers, in ASCII: the record's number, the call, the answer. A refusal has the scope's number and
-- values.
use Rattle.std.specs.Prelude.{ℕ, true, cond, List, [], ◌∷◌, eqb}
use Rattle.basis.specs.declared.Told.{Told}
use Rattle.lines.specs.Lines.{number_line, refusal_line, told_line, either_line}

-- ` insert`
abbrev pub insert_word : List ℕ
insert_word = 32 ∷ 105 ∷ 110 ∷ 115 ∷ 101 ∷ 114 ∷ 116 ∷ []

-- ` insert fresh`
abbrev pub insert_fresh : List ℕ
insert_fresh = 32 ∷ 105 ∷ 110 ∷ 115 ∷ 101 ∷ 114 ∷ 116 ∷ 32 ∷ 102 ∷ 114 ∷ 101 ∷ 115 ∷ 104 ∷ []

-- ` insert held`
abbrev pub insert_held : List ℕ
insert_held = 32 ∷ 105 ∷ 110 ∷ 115 ∷ 101 ∷ 114 ∷ 116 ∷ 32 ∷ 104 ∷ 101 ∷ 108 ∷ 100 ∷ []

-- ` clean`
abbrev pub clean_word : List ℕ
clean_word = 32 ∷ 99 ∷ 108 ∷ 101 ∷ 97 ∷ 110 ∷ []

-- ` next`
abbrev pub next_word : List ℕ
next_word = 32 ∷ 110 ∷ 101 ∷ 120 ∷ 116 ∷ []

-- ` next none`
abbrev pub next_none : List ℕ
next_none = 32 ∷ 110 ∷ 101 ∷ 120 ∷ 116 ∷ 32 ∷ 110 ∷ 111 ∷ 110 ∷ 101 ∷ []

-- ` contains`
abbrev pub contains_word : List ℕ
contains_word = 32 ∷ 99 ∷ 111 ∷ 110 ∷ 116 ∷ 97 ∷ 105 ∷ 110 ∷ 115 ∷ []

-- ` contains yes`
abbrev pub contains_yes : List ℕ
contains_yes = 32 ∷ 99 ∷ 111 ∷ 110 ∷ 116 ∷ 97 ∷ 105 ∷ 110 ∷ 115 ∷ 32 ∷ 121 ∷ 101 ∷ 115 ∷ []

-- ` contains no`
abbrev pub contains_no : List ℕ
contains_no = 32 ∷ 99 ∷ 111 ∷ 110 ∷ 116 ∷ 97 ∷ 105 ∷ 110 ∷ 115 ∷ 32 ∷ 110 ∷ 111 ∷ []

-- ` put`
abbrev pub put_word : List ℕ
put_word = 32 ∷ 112 ∷ 117 ∷ 116 ∷ []

-- ` put stored`
abbrev pub put_stored : List ℕ
put_stored = 32 ∷ 112 ∷ 117 ∷ 116 ∷ 32 ∷ 115 ∷ 116 ∷ 111 ∷ 114 ∷ 101 ∷ 100 ∷ []

-- ` put held`
abbrev pub put_held : List ℕ
put_held = 32 ∷ 112 ∷ 117 ∷ 116 ∷ 32 ∷ 104 ∷ 101 ∷ 108 ∷ 100 ∷ []

-- ` shift`
abbrev pub shift_word : List ℕ
shift_word = 32 ∷ 115 ∷ 104 ∷ 105 ∷ 102 ∷ 116 ∷ []

-- ` shift ok`
abbrev pub shift_ok : List ℕ
shift_ok = 32 ∷ 115 ∷ 104 ∷ 105 ∷ 102 ∷ 116 ∷ 32 ∷ 111 ∷ 107 ∷ []

-- ---- the seen part
abbrev pub insert_line : ℕ → Told → List ℕ
insert_line n t = either_line n insert_fresh insert_held insert_word true t

abbrev pub contains_line : ℕ → Told → List ℕ
contains_line n t = either_line n contains_yes contains_no contains_word true t

-- how many are left
unfoldable pub clean_line : ℕ → Told → List ℕ
clean_line n t = cond (eqb t.number 0) (number_line n clean_word t.first) (refusal_line n clean_word true t)

-- a refusal here has no value, so the one value is an expiry
unfoldable pub next_line : ℕ → Told → List ℕ
next_line n t = cond (eqb t.count 1) (number_line n next_word t.first) (told_line n next_none next_word true t)

-- ---- the cache part
abbrev pub put_line : ℕ → Told → List ℕ
put_line n t = either_line n put_stored put_held put_word true t

abbrev pub shift_line : ℕ → Told → List ℕ
shift_line n t = told_line n shift_ok shift_word true t
