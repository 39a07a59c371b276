-- No answer depends on where the arrival number stands, also none of a later call.
use Rattle.std.specs.Prelude.{Result, ℕ, ◌≡◌}
use Rattle.std.proofs.Math.Path.{refl, ap, ap₂}
use Rattle.std.proofs.Common.{◌∙◌}
use mathlib.Core.List.{List, [], ◌∷◌}
use Rattle.node.specs.declared.Node.{Node}
use Rattle.node.specs.declared.AdvertiseError.{AdvertiseError}
use Rattle.node.specs.declared.AskError.{AskError}
use Rattle.node.specs.declared.Reply.{Reply}
use Rattle.node.specs.declared.ServeError.{ServeError}
use Rattle.node.specs.WellFormed.{Typed}
use Rattle.node.specs.WrapLaws.{admit-moved, admit-typed, beat-moved, beaten-typed, advertise-moved}
use Rattle.node.specs.WrapLaws.{ask-moved, serve-moved, explain-moved}
use Rattle.history.specs.History.{State, Settings, Fresh, Call, admit, heartbeat, advertise, ask, serve, explain}
use Rattle.history.specs.History.{after, after_all}
use Rattle.history.proofs.Laws.{fresh_keeps}
use Rattle.history.specs.Answers.{Answer, admitted, beaten, advertised, asked, served, explained}
use Rattle.history.specs.Answers.{answer_at, answers_of}
use Rattle.history.specs.Arrival.{moved_state}

same-state : (n m : Node) (a b c d : List ℕ) → n ≡ m → a ≡ b → c ≡ d → ◌≡◌ {A = State}
    (record { node = n; ids = a; messages = c }) (record { node = m; ids = b; messages = d })
same-state n m a b c d p q r = rw (p, q, r)

-- ---- one call
module _ (k : ℕ) (s : State) (typed : Typed s.node) where
  pub answer-free : (c : Call) → answer_at (moved_state k s) c ≡ answer_at s c
  unfolding answer_at moved_state
  answer-free (admit ed body i word at) =
      ap admitted (admit-moved k s.node s.ids s.messages typed ed body i word at).0
  answer-free (heartbeat at) = ap beaten (beat-moved k s.node s.ids s.messages typed at).0
  answer-free (advertise topic windows out) =
      let m = advertise-moved k s.node s.ids s.messages typed topic windows out in
      ap₂ (λ (x : Result ℕ AdvertiseError) (l : List ℕ). advertised x l) m.0 m.1
  answer-free (ask ed body out) =
      let m = ask-moved k s.node s.ids s.messages typed ed body out in
      ap₂ (λ (x : Result ℕ AskError) (l : List ℕ). asked x l) m.0 m.1
  answer-free (serve ed body second out) =
      let m = serve-moved k s.node s.ids s.messages typed ed body second out in
      ap₂ (λ (x : Result Reply ServeError) (l : List ℕ). served x l) m.0 m.1
  answer-free (explain id topic windows) =
      ap explained (explain-moved k s.node s.ids s.messages typed id topic windows)

  pub after_free : (c : Call) → after c (moved_state k s) ≡ moved_state k (after c s)
  unfolding after moved_state
  after_free (admit ed body i word at) =
      let m = admit-moved k s.node s.ids s.messages typed ed body i word at in
      same-state _ _ _ _ _ _ m.1 m.2 m.3
  after_free (heartbeat at) =
      same-state _ _ _ _ _ _ (beat-moved k s.node s.ids s.messages typed at).1 refl refl
  after_free (advertise topic windows out) = refl
  after_free (ask ed body out) = refl
  after_free (serve ed body second out) = refl
  after_free (explain id topic windows) = refl

-- a node's types stay
after-typed : (s : State) → Typed s.node → (c : Call) → Typed (after c s).node
unfolding after
after-typed s typed (admit ed body i word at) = admit-typed s.node s.ids s.messages typed ed body i word at
after-typed s typed (heartbeat at) = beaten-typed s.node s.ids s.messages typed at
after-typed s typed (advertise topic windows out) = typed
after-typed s typed (ask ed body out) = typed
after-typed s typed (serve ed body second out) = typed
after-typed s typed (explain id topic windows) = typed

-- ---- all calls: the same answers and buffers, and at the end the state that stands k further
pub arrival_free : (k : ℕ) (calls : List Call) (s : State) → Typed s.node
    → (answers_of calls (moved_state k s) ≡ answers_of calls s)
    × (after_all calls (moved_state k s) ≡ moved_state k (after_all calls s))
unfolding answers_of after_all
arrival_free k [] s typed = (refl, refl)
arrival_free k (c ∷ cs) s typed =
    let l = after_free k s typed c in
    let r = arrival_free k cs (after c s) (after-typed s typed c) in (
      ap₂ (λ (a : Answer) (rest : List Answer). a ∷ rest) (answer-free k s typed c) (ap (answers_of cs) l ∙ r.0),
      ap (after_all cs) l ∙ r.1,
    )

-- so a fresh node may give its first message any arrival number
pub fresh_arrival_free : {x : Settings} {s : State} → Fresh x s → (k : ℕ) (calls : List Call)
    → answers_of calls (moved_state k s) ≡ answers_of calls s
fresh_arrival_free {x} {s} f k calls = (arrival_free k calls s (fresh_keeps f).typed).0
