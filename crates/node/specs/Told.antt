-- What each call on a node tells: the scope's number and the values beside it.
use Rattle.std.specs.Prelude.{Result, Ok, Err, ℕ, [], ◌∷◌}
use Rattle.basis.specs.declared.Told.{Told}
use Rattle.basis.specs.Refusals.{no-message, topic-too_long, clock-back, short-room}
use Rattle.basis.specs.Told.{told, done, fault_told}
use Rattle.protobuf.specs.Told.{refusal_told}
use Rattle.admission.specs.Told.{unfit_told}
use Rattle.mcache.specs.declared.Offer.{Offer}
use Rattle.mcache.specs.declared.Offer.TheVariants as offer
use Rattle.node.specs.declared.AdmitError.TheVariants as admit
use Rattle.node.specs.declared.AdmitError.{AdmitError}
use Rattle.node.specs.declared.AdvertiseError.TheVariants as advertise
use Rattle.node.specs.declared.AdvertiseError.{AdvertiseError}
use Rattle.node.specs.declared.AskError.TheVariants as ask
use Rattle.node.specs.declared.AskError.{AskError}
use Rattle.node.specs.declared.BeatError.TheVariants as beat
use Rattle.node.specs.declared.BeatError.{BeatError}
use Rattle.node.specs.declared.ExplainError.TheVariants as explain
use Rattle.node.specs.declared.ExplainError.{ExplainError}
use Rattle.node.specs.declared.Novelty.TheVariants as novelty
use Rattle.node.specs.declared.Novelty.{Novelty}
use Rattle.node.specs.declared.Reply.{Reply}
use Rattle.node.specs.declared.ServeError.TheVariants as serve
use Rattle.node.specs.declared.ServeError.{ServeError}

-- 1 where the message is new, 0 where it is not
abbrev pub admit_told : Result Novelty AdmitError → Told
admit_told (Ok novelty.New) = done (1 ∷ [])
admit_told (Ok novelty.Duplicate) = done (0 ∷ [])
admit_told (Err (admit.Faulty why)) = fault_told why
admit_told (Err (admit.Refused why)) = refusal_told why
admit_told (Err (admit.NoMessage count)) = told no-message (count ∷ [])
admit_told (Err (admit.Unfit why)) = unfit_told why
admit_told (Err (admit.ClockBack clock)) = told clock-back (clock ∷ [])

abbrev pub beat_told : Result (Unit {0}) BeatError → Told
beat_told (Ok _) = done []
beat_told (Err (beat.Faulty why)) = fault_told why
beat_told (Err (beat.ClockBack clock)) = told clock-back (clock ∷ [])

-- how many bytes were written
abbrev pub advertise_told : Result ℕ AdvertiseError → Told
advertise_told (Ok count) = done (count ∷ [])
advertise_told (Err (advertise.Faulty why)) = fault_told why
advertise_told (Err (advertise.TopicTooLong len)) = told topic-too_long (len ∷ [])
advertise_told (Err (advertise.Room needed)) = told short-room (needed ∷ [])

-- 0 where the id is listed, 1 where it is not cached, 2 where its message is without the topic, 3 in an older window,
-- with its age
abbrev pub offer_told : Offer → Told
offer_told offer.Listed = done (0 ∷ [])
offer_told offer.NotCached = done (1 ∷ [])
offer_told offer.WithoutTopic = done (2 ∷ [])
offer_told (offer.OlderWindow age) = done (3 ∷ age ∷ [])

abbrev pub explain_told : Result Offer ExplainError → Told
explain_told (Ok o) = offer_told o
explain_told (Err (explain.Faulty why)) = fault_told why
explain_told (Err (explain.TopicTooLong len)) = told topic-too_long (len ∷ [])

abbrev pub ask_told : Result ℕ AskError → Told
ask_told (Ok count) = done (count ∷ [])
ask_told (Err (ask.Faulty why)) = fault_told why
ask_told (Err (ask.Refused why)) = refusal_told why
ask_told (Err (ask.Room needed)) = told short-room (needed ∷ [])

-- how many bytes, how many messages, and how many were left
abbrev pub serve_told : Result Reply ServeError → Told
serve_told (Ok reply) = done (reply.bytes ∷ reply.messages ∷ reply.left ∷ [])
serve_told (Err (serve.Faulty why)) = fault_told why
serve_told (Err (serve.Refused why)) = refusal_told why
serve_told (Err (serve.Room needed)) = told short-room (needed ∷ [])
