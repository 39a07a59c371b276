-- Whether a body is taken: it has at most 65,536 bytes (10), it is read to its end without a refusal (1 to 7, and 14 to 16
-- where groups are passed over), and it has at most 512 records (11). 1 to 7 have a place, which a second walk finds.
-- Every call that takes a body tests it so.
use Rattle.std.specs.Prelude.{Option, Result, Ok, Err, ℕ, List, cond, length, ltb}
use Rattle.basis.specs.declared.Dialect.{Dialect}
use Rattle.basis.specs.declared.Spot.{Spot}
use Rattle.protobuf.specs.declared.WireError.TheVariants.{TooLarge, TooManyRecords}
use Rattle.protobuf.specs.Refusal.{nowhere, standing}
use Rattle.schema.specs.declared.Kind.TheVariants as kind
use Rattle.protobuf.specs.declared.Refusal.{Refusal}
use Rattle.protobuf.specs.declared.WireError.{WireError}
use Rattle.schema.specs.Count.{counted}
use Rattle.schema.specs.Spots.{spot_in}

abbrev pub few : Option Spot → Result ℕ WireError → Result ℕ Refusal
few spot (Err why) = Err (standing spot why)
few spot (Ok n) = cond (ltb 512 n) (Err (nowhere (TooManyRecords n))) (Ok n)

-- how many records a body has, or why it is refused, and where
unfoldable pub body_records : Dialect → List ℕ → Result ℕ Refusal
body_records d s = cond (ltb 65536 (length s)) (Err (nowhere (TooLarge (length s))))
    (few (spot_in d.mode (kind.Rpc d.edition) s) (counted d.mode (kind.Rpc d.edition) s))

abbrev pub checked : Result ℕ Refusal → Result (Unit {0}) Refusal
checked (Err r) = Err r
checked (Ok n) = Ok tt

unfoldable pub accept_of : Dialect → List ℕ → Result (Unit {0}) Refusal
accept_of d s = checked (body_records d s)
