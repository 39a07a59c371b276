-- Which records end a run with `bad`: the scope, "The trace program". That a record is cut is told by its header and its
-- content.
use Rattle.std.specs.Prelude.{ℕ, ◌-◌, min, List, Bool, true, false, not, cond, length, take, drop, ltb, eqb}
use Rattle.basis.specs.Little.{little}

-- an unknown kind, or content too short for its kind (or too long in 1 and 3), by its length
unfoldable pub misfits : ℕ → ℕ → Bool
misfits kind len =
    cond (eqb kind 1) (not (eqb len 14))
    (cond (eqb kind 2) (ltb len 11)
    (cond (eqb kind 3) (not (eqb len 8))
    (cond (eqb kind 4) (ltb len 2)
    (cond (eqb kind 5) false
    (cond (eqb kind 6) false true)))))

-- an admit's byte on the signature is other than 0 or 1
unfoldable pub no_word : ℕ → List ℕ → Bool
no_word kind s = cond (eqb kind 2) (ltb 1 (little (take (min 1 8) (drop 10 s)))) false

-- either of these, or a call before accepted settings
unfoldable pub is_bad : Bool → ℕ → List ℕ → Bool
is_bad started kind s =
    cond (misfits kind (length s)) true (cond (eqb kind 1) false (cond started (no_word kind s) true))

-- content of kind 12, which other programs have: it is shorter than its two numbers, or than the id, whose length is the
-- second of them
unfoldable pub no_question : List ℕ → Bool
no_question s = cond (ltb (length s) 4) true (ltb (length s - 4) (little (take (min 2 8) (drop 2 s))))
