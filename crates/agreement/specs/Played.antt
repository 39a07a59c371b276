-- What the calls of a round answer and write, with full buffers and in any editions: none is refused; the
-- advertisement, the request and the reply are those of the definitions; and the reply has fifteen messages, or all
-- that are asked for.
use Prim.Native.Nat.{ℕ}
use Rattle.std.specs.Prelude.{Result, ◌≡◌}
use mathlib.Core.List.{List}
use Rattle.std.proofs.lemmas.List.Edits.{sets}
use Rattle.node.specs.declared.Reply.{Reply}
use Rattle.node.specs.declared.ServeError.{ServeError}
use Rattle.node.specs.Gateway.{told_of, lacking, having}
use Rattle.node.specs.Calls.{served_of, reply_bytes, serve_number}
use Rattle.history.specs.History.{State, gateway_of, Settings, served_bytes, served_messages}
use Rattle.agreement.specs.Round.{Play, Fair}
use Rattle.agreement.specs.Holding.{Holding}

-- what is answered
pub record Answers (ms : List (List ℕ)) (out : List ℕ) (r : Result Reply ServeError) : Type 0 where
  pub done : serve_number r ≡ 0
  pub bytes : served_bytes r (sets out 0 (reply_bytes ms out)) ≡ reply_bytes ms out
  pub count : served_messages r ≡ served_of ms out

module _ {set : List (List ℕ)} {x y : Settings} {firstA pastA leftA firstB pastB left_b : ℕ} {rsA rsB : List ℕ}
    {gotA gotB : List (List ℕ)} {a b : State}
    (ha : Holding set x firstA pastA rsA leftA gotA a) (hb : Holding set y firstB pastB rsB left_b gotB b) (p : Play)
    (fair : Fair p x y) where
  -- ---- the reply
  unfoldable pub wants : List (List ℕ)
  wants = lacking (gateway_of a) (told_of p.topic p.windows (gateway_of b))

  unfoldable pub replies : List (List ℕ)
  replies = having (gateway_of b) wants
