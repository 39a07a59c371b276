-- What a writer of the bytes xs answers and leaves in the lent bytes: they stand at the front, or nothing changes.
use Rattle.std.specs.Prelude.{Result, Ok, Err, ℕ, ◌+◌, List, ◌++◌, cond, length, drop, leb}
use Rattle.std.proofs.lemmas.List.Edits.{sets}
use Rattle.basis.specs.declared.ShortRoom.{ShortRoom}

-- the answer of a writer that lacks so many bytes
abbrev pub no_room : ℕ → ShortRoom
no_room n = record { needed = n }

unfoldable pub answer : List ℕ → List ℕ → Result ℕ ShortRoom
answer xs out = cond (leb (length xs) (length out)) (Ok (length xs)) (Err (no_room (length xs)))

unfoldable pub written : List ℕ → List ℕ → List ℕ
written xs out = cond (leb (length xs) (length out)) (xs ++ drop (length xs) out) out

-- a writer within a line or a body: xs goes to `at` where `room` bytes are there from `at` on, and the answer is the
-- place after xs; else nothing is written, and the place is as it was
unfoldable pub end_in : ℕ → ℕ → List ℕ → List ℕ → ℕ
end_in room at xs out = cond (leb (at + room) (length out)) (at + length xs) at

unfoldable pub set_in : ℕ → ℕ → List ℕ → List ℕ → List ℕ
set_in room at xs out = cond (leb (at + room) (length out)) (sets out at xs) out
