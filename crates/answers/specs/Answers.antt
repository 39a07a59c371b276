-- The lines that answer a call on a node, in ASCII: the record's number, the call, the answer. A refusal has the
-- scope's number and, where they are asked for, the values beside it and its place in the body. A writer's line has the
-- number of bytes and, above 0, their hex; serve's has its two counts after that.
use Rattle.std.specs.Prelude.{ℕ, Bool, false, cond, List, [], ◌∷◌, eqb}
use Rattle.basis.specs.declared.Told.{Told}
use Rattle.lines.specs.Lines.{words_line, number_line, refusal_line, told_line, either_line, made_line}

-- ` set` and ` set ok`
abbrev pub set_word : List ℕ
set_word = 32 ∷ 115 ∷ 101 ∷ 116 ∷ []

abbrev pub set_ok : List ℕ
set_ok = 32 ∷ 115 ∷ 101 ∷ 116 ∷ 32 ∷ 111 ∷ 107 ∷ []

abbrev pub set_line : ℕ → Told → List ℕ
set_line n t = told_line n set_ok set_word false t

-- ` admit`, ` admit new`, ` admit dup`
abbrev pub admit_word : List ℕ
admit_word = 32 ∷ 97 ∷ 100 ∷ 109 ∷ 105 ∷ 116 ∷ []

abbrev pub admit_new : List ℕ
admit_new = 32 ∷ 97 ∷ 100 ∷ 109 ∷ 105 ∷ 116 ∷ 32 ∷ 110 ∷ 101 ∷ 119 ∷ []

abbrev pub admit_dup : List ℕ
admit_dup = 32 ∷ 97 ∷ 100 ∷ 109 ∷ 105 ∷ 116 ∷ 32 ∷ 100 ∷ 117 ∷ 112 ∷ []

abbrev pub admit_line : ℕ → Bool → Told → List ℕ
admit_line n full t = either_line n admit_new admit_dup admit_word full t

-- ` beat` and ` beat ok`
abbrev pub beat_word : List ℕ
beat_word = 32 ∷ 98 ∷ 101 ∷ 97 ∷ 116 ∷ []

abbrev pub beat_ok : List ℕ
beat_ok = 32 ∷ 98 ∷ 101 ∷ 97 ∷ 116 ∷ 32 ∷ 111 ∷ 107 ∷ []

abbrev pub beat_line : ℕ → Bool → Told → List ℕ
beat_line n full t = told_line n beat_ok beat_word full t

-- ` advertise`; s is the buffer afterwards
abbrev pub advertise_word : List ℕ
advertise_word = 32 ∷ 97 ∷ 100 ∷ 118 ∷ 101 ∷ 114 ∷ 116 ∷ 105 ∷ 115 ∷ 101 ∷ []

abbrev pub advertise_line : ℕ → Bool → List ℕ → Told → List ℕ
advertise_line n full s t = made_line n advertise_word full s t

-- ` ask`; s is the buffer afterwards
abbrev pub ask_word : List ℕ
ask_word = 32 ∷ 97 ∷ 115 ∷ 107 ∷ []

abbrev pub ask_line : ℕ → Bool → List ℕ → Told → List ℕ
ask_line n full s t = made_line n ask_word full s t

-- ` serve`; s is the buffer afterwards
abbrev pub serve_word : List ℕ
serve_word = 32 ∷ 115 ∷ 101 ∷ 114 ∷ 118 ∷ 101 ∷ []

abbrev pub serve_line : ℕ → Bool → List ℕ → Told → List ℕ
serve_line n full s t = made_line n serve_word full s t

-- ` why`, ` why listed`, ` why missing`, ` why topic`, ` why window`
abbrev pub why_word : List ℕ
why_word = 32 ∷ 119 ∷ 104 ∷ 121 ∷ []

abbrev pub why_listed : List ℕ
why_listed = 32 ∷ 119 ∷ 104 ∷ 121 ∷ 32 ∷ 108 ∷ 105 ∷ 115 ∷ 116 ∷ 101 ∷ 100 ∷ []

abbrev pub why_missing : List ℕ
why_missing = 32 ∷ 119 ∷ 104 ∷ 121 ∷ 32 ∷ 109 ∷ 105 ∷ 115 ∷ 115 ∷ 105 ∷ 110 ∷ 103 ∷ []

abbrev pub why_topic : List ℕ
why_topic = 32 ∷ 119 ∷ 104 ∷ 121 ∷ 32 ∷ 116 ∷ 111 ∷ 112 ∷ 105 ∷ 99 ∷ []

abbrev pub why_window : List ℕ
why_window = 32 ∷ 119 ∷ 104 ∷ 121 ∷ 32 ∷ 119 ∷ 105 ∷ 110 ∷ 100 ∷ 111 ∷ 119 ∷ []

-- by the first value: 0 listed, 1 not cached, 2 without the topic, else in an older window, whose age is the second
unfoldable pub offer_line : ℕ → ℕ → ℕ → List ℕ
offer_line n offer age =
    cond (eqb offer 0) (words_line n why_listed)
    (cond (eqb offer 1) (words_line n why_missing)
    (cond (eqb offer 2) (words_line n why_topic) (number_line n why_window age)))

unfoldable pub why_line : ℕ → Bool → Told → List ℕ
why_line n full t = cond (eqb t.number 0) (offer_line n t.first t.second) (refusal_line n why_word full t)

-- ` gateway` and ` gateway ok`
abbrev pub gateway_word : List ℕ
gateway_word = 32 ∷ 103 ∷ 97 ∷ 116 ∷ 101 ∷ 119 ∷ 97 ∷ 121 ∷ []

abbrev pub gateway_ok : List ℕ
gateway_ok = 32 ∷ 103 ∷ 97 ∷ 116 ∷ 101 ∷ 119 ∷ 97 ∷ 121 ∷ 32 ∷ 111 ∷ 107 ∷ []

abbrev pub gateway_line : ℕ → Told → List ℕ
gateway_line n t = told_line n gateway_ok gateway_word false t
