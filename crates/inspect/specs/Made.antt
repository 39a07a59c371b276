-- The lines of what was written: the call, the number of bytes and, above 0, their hex; or the refusal with its values
-- and its place.
use Rattle.std.specs.Prelude.{ℕ, true, List, [], ◌∷◌}
use Rattle.basis.specs.declared.Told.{Told}
use Rattle.lines.specs.Lines.{made_line}

-- ` encode`; s is the buffer afterwards
abbrev pub encode_line : ℕ → List ℕ → Told → List ℕ
encode_line n s t = made_line n (32 ∷ 101 ∷ 110 ∷ 99 ∷ 111 ∷ 100 ∷ 101 ∷ []) true s t

-- ` sign`; s is the buffer afterwards
abbrev pub sign_line : ℕ → List ℕ → Told → List ℕ
sign_line n s t = made_line n (32 ∷ 115 ∷ 105 ∷ 103 ∷ 110 ∷ []) true s t

-- ` id`; s is the buffer afterwards
abbrev pub id_line : ℕ → List ℕ → Told → List ℕ
id_line n s t = made_line n (32 ∷ 105 ∷ 100 ∷ []) true s t

-- ` write`; s is the buffer afterwards
abbrev pub write_line : ℕ → List ℕ → Told → List ℕ
write_line n s t = made_line n (32 ∷ 119 ∷ 114 ∷ 105 ∷ 116 ∷ 101 ∷ []) true s t

-- ` tosign`; s is the buffer afterwards
abbrev pub tosign_line : ℕ → List ℕ → Told → List ℕ
tosign_line n s t = made_line n (32 ∷ 116 ∷ 111 ∷ 115 ∷ 105 ∷ 103 ∷ 110 ∷ []) true s t
