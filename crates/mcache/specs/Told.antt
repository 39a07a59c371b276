-- What each call on the message cache tells: the scope's number and the values beside it.
use Rattle.std.specs.Prelude.{Result, Ok, Err, Bool, true, false, [], ◌∷◌}
use Rattle.basis.specs.declared.Told.{Told}
use Rattle.basis.specs.declared.Fault.{Fault}
use Rattle.mcache.specs.declared.GossipError.TheVariants as gossip
use Rattle.mcache.specs.declared.GossipError.{GossipError}
use Rattle.mcache.specs.declared.Kept.TheVariants as kept
use Rattle.mcache.specs.declared.Kept.{Kept}
use Rattle.mcache.specs.declared.PutError.TheVariants as put
use Rattle.mcache.specs.declared.PutError.{PutError}
use Rattle.basis.specs.Refusals.{no-message, topic-too_long}
use Rattle.basis.specs.Told.{told, done, fault_told}
use Rattle.protobuf.specs.Told.{refusal_told}
use Rattle.admission.specs.Told.{unfit_told}

-- 1 where the message is stored, 0 where it is held
abbrev pub put_told : Result Kept PutError → Told
put_told (Ok kept.Stored) = done (1 ∷ [])
put_told (Ok kept.Held) = done (0 ∷ [])
put_told (Err (put.Faulty why)) = fault_told why
put_told (Err (put.Refused why)) = refusal_told why
put_told (Err (put.NoMessage count)) = told no-message (count ∷ [])
put_told (Err (put.Unfit why)) = unfit_told why

-- 1 where the message is found, 0 where it is not
abbrev pub lookup_told : Result Bool Fault → Told
lookup_told (Ok true) = done (1 ∷ [])
lookup_told (Ok false) = done (0 ∷ [])
lookup_told (Err why) = fault_told why

abbrev pub gossip_told : Result (Unit {0}) GossipError → Told
gossip_told (Ok tt) = done []
gossip_told (Err (gossip.Faulty why)) = fault_told why
gossip_told (Err (gossip.TopicTooLong len)) = told topic-too_long (len ∷ [])
