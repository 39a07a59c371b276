-- A clock that steps back does no harm: a call whose reading is before the gateway's clock is refused and leaves the
-- node and its stores; so a history with any such calls inserted has the same states and the same other answers. It
-- holds from every state, whatever is lent.
use Rattle.std.specs.Prelude.{◌<◌, ◌≡◌, refl, List, [], ◌∷◌}
use Rattle.std.proofs.Common.{ap, ◌∙◌, arith}
use Rattle.history.specs.History.{State, Call}
use Rattle.history.specs.History.{after, after_all, refusal_at}
use Rattle.history.proofs.Laws.{refused-stays}
use Rattle.history.specs.Answers.{Answer, answer_at, answers_of}
use Rattle.lifetime.specs.Back.{StepsBack, refused-at, Item, own, extra, all_calls, own_calls, InsertedBack, no_more}
use Rattle.lifetime.specs.Back.{own-next, back-next, own_answers, own_states, states_of, Unmoved}

pub back-refused : (s : State) (c : Call) → StepsBack s c → 0 < refusal_at s c
back-refused s c b = refused-at s c b.at b.read b.earlier

-- ---- and leaves everything
pub back-stays : (s : State) (c : Call) → StepsBack s c → after c s ≡ s
back-stays s c b = let r = back-refused s c b in refused-stays c s (λ z. omega arith)

own-more : (c : Call) (is : List Item) (s : State) → Unmoved is (after c s) → Unmoved (own c ∷ is) s
unfolding own_states states_of own_calls all_calls after_all own_answers answers_of
own-more c is s u =
    record {
      states = ap (λ (l : List State). after c s ∷ l) u.states;
      last = u.last;
      answers = ap (λ (l : List Answer). answer_at s c ∷ l) u.answers;
    }

back_more : (c : Call) (is : List Item) (s : State) → after c s ≡ s → Unmoved is (after c s)
    → Unmoved (extra c ∷ is) s
unfolding own_states states_of own_calls all_calls after_all own_answers answers_of
back_more c is s e u =
    record {
      states = u.states ∙ ap (states_of (own_calls is)) e;
      last = u.last ∙ ap (after_all (own_calls is)) e;
      answers = u.answers ∙ ap (answers_of (own_calls is)) e;
    }

nothing-moved : (s : State) → Unmoved [] s
unfolding own_states states_of own_calls all_calls after_all own_answers answers_of
nothing-moved s = record { states = refl; last = refl; answers = refl }

pub back_changes_nothing : {is : List Item} {s : State} → InsertedBack is s → Unmoved is s
back_changes_nothing {s = s} no_more = nothing-moved s
back_changes_nothing {is = own c ∷ is} {s} (own-next b) = own-more c is s (back_changes_nothing b)
back_changes_nothing {is = extra c ∷ is} {s} (back-next b bs) =
    back_more c is s (back-stays s c b) (back_changes_nothing bs)
