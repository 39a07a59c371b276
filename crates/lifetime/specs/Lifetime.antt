-- One gateway and the calls of a history: the seen form that a call made new, two admits that made one form new, and how
-- many others were made new between them or within a stretch of time. A seen form is an id with its mark, so the id of
-- a message with a signature and the same id of one without are two.
use Rattle.std.specs.Prelude.{Option, Some, None, ℕ, ◌+◌, ◌≡◌, Bool, false, cond, ◌&&◌, List, [], ◌∷◌, leb, ltb, eqb}
use Rattle.basis.specs.declared.Mode.{Mode}
use Rattle.basis.specs.Dialect.{mode_of}
use Rattle.rows.specs.Ids.{same_bytes}
use Rattle.node.specs.Gateway.{form_of}
use Rattle.node.specs.Calls.{Plan, no, taken}
use Rattle.history.specs.History.{State, Call, admit, heartbeat, advertise, ask, serve, explain, plan_in, answer_in, after}
use Rattle.history.specs.History.{after_all, reading, is_new}

-- ---- the seen form of the message that a call takes: only an admit does, and one that is refused takes none
abbrev pub plan_form : Mode → Plan → Option (List ℕ)
plan_form mode (no r) = None
plan_form mode (taken m id) = Some (form_of mode m id)

unfoldable pub taken_form : State → Call → Option (List ℕ)
taken_form s (admit ed body i word at) = plan_form (mode_of s.node.cache.flags) (plan_in s ed body i word at)
taken_form s (heartbeat at) = None
taken_form s (advertise topic windows out) = None
taken_form s (ask ed body out) = None
taken_form s (serve ed body second out) = None
taken_form s (explain id topic windows) = None

-- ---- the one that it made new: it takes it, and answers new
unfoldable pub made_new : State → Call → Option (List ℕ)
made_new s (admit ed body i word at) =
    cond (eqb (is_new (answer_in s ed body i word at)) 1) (taken_form s (admit ed body i word at)) None
made_new s (heartbeat at) = None
made_new s (advertise topic windows out) = None
made_new s (ask ed body out) = None
made_new s (serve ed body second out) = None
made_new s (explain id topic windows) = None

-- a call at a reading, lent a state, made this form new
pub record NewAt (s : State) (c : Call) (at : ℕ) (form : List ℕ) : Type 0 where
  pub read : reading c ≡ at ∷ []
  pub made : made_new s c ≡ Some form

-- ---- two calls of a history that made one form new, each at its reading. `before` are the calls before the first of
-- them and `between` those between; they need not be neighbours: some of those may have made the form new, too.
pub record Twice (s : State) (before : List Call) (first : Call) (between : List Call) (second : Call) (at later : ℕ)
    (form : List ℕ) : Type 0 where
  pub once : NewAt (after_all before s) first at form
  pub again : NewAt (after_all between (after first (after_all before s))) second later form

-- ---- how many of some calls made another form new
abbrev pub is_other : List ℕ → Option (List ℕ) → ℕ
is_other form None = 0
is_other form (Some other) = cond (same_bytes other form) 0 1

unfoldable pub others_new : List ℕ → List Call → State → ℕ
others_new form [] s = 0
others_new form (c ∷ cs) s = is_other form (made_new s c) + others_new form cs (after c s)

-- ---- how many made any form new within a stretch of time: at readings not before `from` and less than `ttl` after it
abbrev pub is_within : ℕ → ℕ → List ℕ → Bool
is_within from ttl [] = false
is_within from ttl (at ∷ ats) = leb from at && ltb at (from + ttl)

abbrev pub is_made : Option (List ℕ) → ℕ
is_made None = 0
is_made (Some form) = 1

unfoldable pub new_within : ℕ → ℕ → List Call → State → ℕ
new_within from ttl [] s = 0
new_within from ttl (c ∷ cs) s =
    cond (is_within from ttl (reading c)) (is_made (made_new s c)) 0 + new_within from ttl cs (after c s)
