-- What a call tells: the scope's number, 0 where it is done, and the values beside it, at most four: what was done, or
-- what the scope's table returns. With a refusal of a body's bytes, also where in the body it stands. And what a writer
-- tells, and a test of lent state.
use Rattle.std.specs.Prelude.{Option, None, Result, Ok, Err, ℕ, List, [], ◌∷◌, length, get_or, take}
use Rattle.basis.specs.declared.Spot.{Spot}
use Rattle.basis.specs.declared.Told.{Told}
use Rattle.basis.specs.declared.ShortRoom.{ShortRoom}
use Rattle.basis.specs.declared.Fault.{Fault}
use Rattle.basis.specs.declared.Fault.TheVariants.{BadSetting, BadStore, Malformed}
use Rattle.basis.specs.Refusals.{bad_setting, bad-store, malformed, short-room}

abbrev pub told : ℕ → List ℕ → Told
told number values =
    record {
      number = number;
      count = length values;
      first = get_or values 0 0;
      second = get_or values 1 0;
      third = get_or values 2 0;
      fourth = get_or values 3 0;
      spot = None;
    }

-- the same number and values, with a place
abbrev pub placed : Option Spot → Told → Told
placed spot t =
    record {
      number = t.number;
      count = t.count;
      first = t.first;
      second = t.second;
      third = t.third;
      fourth = t.fourth;
      spot = spot;
    }

abbrev pub done : List ℕ → Told
done values = told 0 values

abbrev pub values_of : Told → List ℕ
values_of t = take t.count (t.first ∷ t.second ∷ t.third ∷ t.fourth ∷ [])

-- how many bytes were written
abbrev pub written_told : Result ℕ ShortRoom → Told
written_told (Ok count) = done (count ∷ [])
written_told (Err short) = told short-room (short.needed ∷ [])

-- what is wrong with lent state
abbrev pub fault_told : Fault → Told
fault_told BadSetting = told bad_setting []
fault_told BadStore = told bad-store []
fault_told Malformed = told malformed []

-- what a test of lent state, or a start, tells
abbrev pub fine_told : Result (Unit {0}) Fault → Told
fine_told (Ok _) = done []
fine_told (Err why) = fault_told why
