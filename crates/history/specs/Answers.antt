-- What the calls of a history answer, in their order, each with the buffer as it leaves it.
use Rattle.std.specs.Prelude.{Result, ℕ, List, [], ◌∷◌}
use Rattle.mcache.specs.declared.Offer.{Offer}
use Rattle.node.specs.declared.AdmitError.{AdmitError}
use Rattle.node.specs.declared.AdvertiseError.{AdvertiseError}
use Rattle.node.specs.declared.AskError.{AskError}
use Rattle.node.specs.declared.BeatError.{BeatError}
use Rattle.node.specs.declared.ExplainError.{ExplainError}
use Rattle.node.specs.declared.Novelty.{Novelty}
use Rattle.node.specs.declared.Reply.{Reply}
use Rattle.node.specs.declared.ServeError.{ServeError}
use Rattle.node.specs.Calls.{admit_answer, beat_answer, advertise_answer, advertise_left, ask_answer, ask_left, serve_answer}
use Rattle.node.specs.Calls.{serve_left, explain_answer}
use Rattle.history.specs.History.{State, Call, admit, heartbeat, advertise, ask, serve, explain}
use Rattle.history.specs.History.{plan_in, after}

pub data Answer : Type 0 where
  admitted : Result Novelty AdmitError → Answer
  beaten : Result (Unit {0}) BeatError → Answer
  -- and the buffer
  advertised : Result ℕ AdvertiseError → List ℕ → Answer
  asked : Result ℕ AskError → List ℕ → Answer
  served : Result Reply ServeError → List ℕ → Answer
  -- there is none
  explained : Result Offer ExplainError → Answer

unfoldable pub answer_at : State → Call → Answer
answer_at s (admit ed body i word at) = admitted (admit_answer s.node s.ids at (plan_in s ed body i word at))
answer_at s (heartbeat at) = beaten (beat_answer s.node s.ids s.messages at)
answer_at s (advertise topic windows out) =
    advertised (advertise_answer s.node s.ids s.messages topic windows out)
    (advertise_left s.node s.ids s.messages topic windows out)
answer_at s (ask ed body out) =
    asked (ask_answer s.node s.ids s.messages ed body out)
    (ask_left s.node s.ids s.messages ed body out)
answer_at s (serve ed body second out) =
    served (serve_answer s.node s.ids s.messages ed body second out)
    (serve_left s.node s.ids s.messages ed body second out)
answer_at s (explain id topic windows) =
    explained (explain_answer s.node s.ids s.messages id topic windows)

-- each call is lent the node and stores as the last one left them
unfoldable pub answers_of : List Call → State → List Answer
answers_of [] s = []
answers_of (c ∷ cs) s = answer_at s c ∷ answers_of cs (after c s)
