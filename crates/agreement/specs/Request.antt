-- The request is exact: given the other's advertisement, in either edition, a gateway writes a request exactly where it
-- lacks something that the other holds, and the request names exactly that, each id once, in every dialect.
use Rattle.std.specs.Prelude.{ℕ, ◌≡◌, true, List, [], ◌↔◌, length}
use Rattle.basis.specs.declared.Dialect.{Dialect}
use Rattle.rows.specs.Ids.{among, distinct}
use Rattle.canon.proofs.Taken.{Within}
use Rattle.mcache.specs.Messages.{ids_of}
use Rattle.node.specs.Gateway.{request}
use Rattle.history.specs.History.{State, advertise, ask, refusal_at}
use Rattle.agreement.specs.Round.{lacked, Play, advert_of, request_of}

pub record ExactRequest (p : Play) (a b : State) : Type 0 where
  -- neither call is refused
  pub advert-taken : refusal_at b (advertise p.topic p.windows (p.advert_out 0)) ≡ 0
  pub ask-taken : refusal_at a (ask (p.ask_edition 0) (advert_of p b) (p.request_out 0)) ≡ 0
  -- no bytes are written exactly where nothing is lacking
  pub quiet : (request_of p a b ≡ []) ↔ (lacked p.topic a b ≡ [])
  -- and else they are a body with one IWANT of these ids
  pub ids : List (List ℕ)
  pub names : (lacked p.topic a b ≡ [] → ⊥) → (d : Dialect) → Within d (request_of p a b) (request ids)
  -- each once, and exactly those of the messages that are lacking
  pub once : distinct ids ≡ true
  pub exactly : (i : List ℕ) → among i ids ≡ among i (ids_of (lacked p.topic a b))
  pub count : length ids ≡ length (lacked p.topic a b)
