-- A computed history with calls that step back, and what follows for them.
use Rattle.std.specs.Prelude.{◌≡◌, refl, [], ◌∷◌}
use Rattle.std.proofs.Common.{sym, ap, subst, ◌∙◌, arith}
use Rattle.basis.specs.declared.Edition.TheVariants.{V11}
use Rattle.node.specs.Gateway.{Gateway}
use Rattle.history.specs.History.{State, gateway_of, heartbeat, after, after_all}
use Rattle.history.specs.Laws.{started_by}
use Rattle.history.proofs.Laws.{after_admit-clock}
use Rattle.history.specs.Script.{call_of, calls_of, gateway_after, Written, nothing, got}
use Rattle.history.proofs.ScriptLaws.{fresh-leaves}
use Rattle.history.specs.Samples.{message, id_of, message-carried, start}
use Rattle.lifetime.specs.Back.{StepsBack, InsertedBack, no_more, own-next, back-next, Unmoved}
use Rattle.lifetime.proofs.Back.{back-stays, back_changes_nothing}
use Rattle.lifetime.specs.Tight.{signed_at, usual, usual-fresh, steps}

alone-written_100 : Written 0 0 (signed_at 1 100 ∷ [])
alone-written_100 = got 0 100 (message-carried 1 V11) (omega arith) nothing

clock_100 : (gateway_of (after (call_of (signed_at 1 100)) (start usual))).clock ≡ 100
unfolding calls_of after_all gateway_after
clock_100 =
    ap (λ (g : Gateway). g.clock) (fresh-leaves (signed_at 1 100 ∷ []) usual-fresh alone-written_100)
    ∙ after_admit-clock 100 (message 1) (id_of 1) (started_by usual)

pub stepped_back : InsertedBack steps (start usual)
stepped_back =
    let s = after (call_of (signed_at 1 100)) (start usual) in
    let a : StepsBack s (call_of (signed_at 1 99)) = record { at = 99; read = refl; earlier = omega (arith, clock_100) } in
    let e = back-stays s (call_of (signed_at 1 99)) a in
    let b : StepsBack s (heartbeat 0) = record { at = 0; read = refl; earlier = omega (arith, clock_100) } in
    own-next (back-next a (back-next (subst (λ (t : State). StepsBack t (heartbeat 0)) (sym e) b) (own-next no_more)))

pub unmoved : Unmoved steps (start usual)
unmoved = back_changes_nothing stepped_back
