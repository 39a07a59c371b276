-- What each call on the seen cache tells: the scope's number and the values beside it.
use Rattle.std.specs.Prelude.{Option, Some, None, Result, Ok, Err, ℕ, [], ◌∷◌, Bool, true, false}
use Rattle.basis.specs.declared.Fault.{Fault}
use Rattle.basis.specs.declared.Told.{Told}
use Rattle.basis.specs.Refusals.{too_long-id}
use Rattle.basis.specs.Told.{told, done, fault_told}
use Rattle.seen.specs.declared.Entry.{Entry}
use Rattle.seen.specs.declared.Entry.TheVariants.{Fresh, Held}
use Rattle.seen.specs.declared.SeenError.{SeenError}
use Rattle.seen.specs.declared.SeenError.TheVariants as error

abbrev pub error_told : SeenError → Told
error_told (error.Fault fault) = fault_told fault
error_told (error.TooLong len) = told too_long-id (len ∷ [])

-- 1 where the id is new, 0 where it is held
abbrev pub insert_told : Result Entry SeenError → Told
insert_told (Ok Fresh) = done (1 ∷ [])
insert_told (Ok Held) = done (0 ∷ [])
insert_told (Err error) = error_told error

-- 1 where the id is held, 0 where it is not
abbrev pub contains_told : Result Bool SeenError → Told
contains_told (Ok true) = done (1 ∷ [])
contains_told (Ok false) = done (0 ∷ [])
contains_told (Err error) = error_told error

-- how many are left
abbrev pub gc_told : Result ℕ Fault → Told
gc_told (Ok count) = done (count ∷ [])
gc_told (Err fault) = fault_told fault

-- the expiry, where there is one
abbrev pub next_told : Result (Option ℕ) Fault → Told
next_told (Ok None) = done []
next_told (Ok (Some expiry)) = done (expiry ∷ [])
next_told (Err fault) = fault_told fault
