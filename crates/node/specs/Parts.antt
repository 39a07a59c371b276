-- Parts of some bytes, as a table of places has them: two words a part, where it starts and where it ends. And the
-- parts of a body that stand at a path of field numbers, from the Protocol Buffers document: a submessage is a body of
-- its own.
use Rattle.std.specs.Prelude.{ℕ, ◌+◌, ◌-◌, ◌*◌, ◌≤◌, ◌<◌, List, [], ◌∷◌, ◌++◌, cond, length, get_or, leb}
use Rattle.basis.specs.declared.Mode.{Mode}
use Rattle.rows.specs.Rows.{tab}
use Rattle.rows.specs.Ids.{among}
use Rattle.protobuf.specs.Walk.{Fields, end, refused, ◌then◌, fields_of, between, is_bytes, value_in}
use Rattle.protobuf.specs.Encode.{bytes_field}

-- ---- a table of places
abbrev pub part_at : List ℕ → List ℕ → ℕ → List ℕ
part_at s t i = between s (get_or t (i * 2) 0) (get_or t (i * 2 + 1) 0)

-- the first n parts of s that the table t has
unfoldable pub parts_in : List ℕ → List ℕ → ℕ → List (List ℕ)
parts_in s t n = tab (part_at s t) n

-- they lie within s
pub record Parts (s t : List ℕ) (n : ℕ) : Type 0 where
  pub room : n * 2 ≤ length t
  pub within : (i : ℕ) → i < n → (get_or t (i * 2) 0 ≤ get_or t (i * 2 + 1) 0) × (get_or t (i * 2 + 1) 0 ≤ length s)

-- ---- the parts of a body at a path
-- the bytes in the length-delimited fields n
abbrev pub values_along : ℕ → List ℕ → Fields → List (List ℕ)
values_along n s end = []
values_along n s (refused why) = []
values_along n s (f then w) = cond (is_bytes n f) (value_in s f ∷ values_along n s w) (values_along n s w)

-- what g gives for each of some bytes, one after the other
abbrev pub in_each : (List ℕ → List (List ℕ)) → List (List ℕ) → List (List ℕ)
in_each g [] = []
in_each g (s ∷ ss) = g s ++ in_each g ss

-- the fields of a path lead from a body into its submessages: `3, 1, 2` to the ids of the IHAVEs of the controls
unfoldable pub at_path : Mode → List ℕ → List ℕ → List (List ℕ)
at_path mode [] s = s ∷ []
at_path mode (n ∷ ns) s = in_each (at_path mode ns) (values_along n s (fields_of mode s))

-- ---- each once, at its first mention; `earlier` were mentioned before
unfoldable pub once_after : List (List ℕ) → List (List ℕ) → List (List ℕ)
once_after earlier [] = []
once_after earlier (i ∷ is) = cond (among i earlier) (once_after earlier is) (i ∷ once_after (earlier ++ (i ∷ [])) is)

abbrev pub once : List (List ℕ) → List (List ℕ)
once is = once_after [] is

-- ---- those that are not among others
unfoldable pub without : List (List ℕ) → List (List ℕ) → List (List ℕ)
without others [] = []
without others (i ∷ is) = cond (among i others) (without others is) (i ∷ without others is)

-- ---- how many parts, from the first on, fit as fields n into so many bytes
unfoldable pub fitting : ℕ → ℕ → List (List ℕ) → ℕ
fitting n room [] = 0
fitting n room (m ∷ ms) = cond (leb (length (bytes_field n m)) room) (1 + fitting n (room - length (bytes_field n m)) ms)
    0
