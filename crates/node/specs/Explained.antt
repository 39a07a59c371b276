-- What an explain answers, each case exactly and over the gateway; and what it tells, whole.
use Rattle.std.specs.Prelude.{Result, Ok, Err, true, false, ℕ, ◌≤◌, ◌<◌, ◌≡◌, refl, ◌↔◌, length, ltb}
use Rattle.std.proofs.Common.{sym, ◌∙◌, arith}
use Rattle.std.proofs.Math.Path.{ap, subst}
use mathlib.Core.List.{List, [], ◌∷◌, Memᴰ}
use borrow.Author.Tests.{ltb-true, ltb-false, lt-ltb, le-ltb}
use Rattle.basis.specs.Dialect.{mode_of}
use Rattle.basis.specs.Cases.{either}
use Rattle.basis.specs.declared.Told.{Told}
use Rattle.basis.specs.Refusals.{topic-too_long}
use Rattle.basis.specs.Told.{told, fault_told}
use Rattle.mcache.specs.declared.Offer.{Offer}
use Rattle.mcache.specs.declared.Offer.TheVariants as offer
use Rattle.mcache.specs.Messages.{Cached}
use Rattle.mcache.specs.Calls.{offer_in}
use Rattle.mcache.specs.OfferLaws.{Answers, answers_as, offer_cached, answers-exactly, cached-recent}
use Rattle.node.specs.declared.Node.{Node}
use Rattle.node.specs.declared.Explained.{Explained}
use Rattle.basis.specs.declared.Fault.{Fault}
use Rattle.node.specs.declared.ExplainError.{ExplainError}
use Rattle.node.specs.Told.{offer_told, explain_told}
use Rattle.node.specs.Gateway.{Gateway, explain_of}
use Rattle.node.specs.State.{gateway_in}
use Rattle.node.specs.Calls.{lent_of, explain_answer}
use Rattle.node.specs.Unique.{Explains}
use Rattle.node.specs.StateLaws.{fine-tests}

-- why an id is or is not in a gateway's advertisement of a topic from so many windows
pub record Explanation (id topic : List ℕ) (windows : ℕ) (g : Gateway) (r : Result Offer ExplainError) : Type 0 where
  -- each answer is given exactly where it is true of the gateway's cache, listed exactly of those that are told of
  pub exactly : Answers (mode_of g.flags) id topic windows g.cache (λ o. r ≡ Ok o)
  -- the age of an older window is one of a window that is kept
  pub recent : (age : ℕ) → r ≡ Ok (offer.OlderWindow age) → age < g.history_len
  -- so this is never the reason where all windows are asked for
  pub all-windows : g.history_len ≤ windows → (age : ℕ) → r ≡ Ok (offer.OlderWindow age) → ⊥

-- ---- of a lent state that is fine and a topic of at most 1,024 bytes
module _ (n : Node) (ss cs id topic : List ℕ) (windows : ℕ) (fine : lent_of n ss cs ≡ Ok tt) where
  offer_gateway : offer_in n.cache cs id topic windows ≡ explain_of id topic windows (gateway_in n ss cs)
  unfolding gateway_in
  offer_gateway = offer_cached id topic windows n.cache cs (fine-tests n ss cs fine).messages

  pub explain-says : length topic ≤ 1024
      → explain_answer n ss cs id topic windows ≡ Ok (explain_of id topic windows (gateway_in n ss cs))
  unfolding explain_answer
  explain-says h = rw (fine, le-ltb 1024 (length topic) h, offer_gateway)

  answers : Answers (mode_of (gateway_in n ss cs).flags) id topic windows (gateway_in n ss cs).cache
      (λ o. offer_in n.cache cs id topic windows ≡ o)
  unfolding gateway_in
  answers = answers-exactly id topic windows n.cache cs (fine-tests n ss cs fine).messages

  window-recent : (m : Cached) → Memᴰ m (gateway_in n ss cs).cache → m.window < (gateway_in n ss cs).history_len
  unfolding gateway_in
  window-recent m d = cached-recent n.cache cs m (fine-tests n ss cs fine).messages d

  module _ (h : length topic ≤ 1024) (r : Explained) (e : Explains n ss cs id topic windows r) where
    -- the answer in the cache's words
    why_offer : r.answer ≡ Ok (offer_in n.cache cs id topic windows)
    why_offer = e.answer ∙ explain-says h ∙ ap Ok (sym offer_gateway)

    why_same : (o : Offer) → (r.answer ≡ Ok o) ↔ (offer_in n.cache cs id topic windows ≡ o)
    why_same o = (
      λ z.
          let q : Ok (offer_in n.cache cs id topic windows) ≡ Ok o = sym why_offer ∙ z in cc,
      λ z. why_offer ∙ ap Ok z,
    )

    older : (age : ℕ) → r.answer ≡ Ok (offer.OlderWindow age) → (age < (gateway_in n ss cs).history_len)
        × (windows ≤ age)
    older age z =
        let y = (answers.older-window age).0 ((why_same (offer.OlderWindow age)).0 z) in
        (omega (arith, window-recent y.0 y.1, y.4), y.5)

    pub explain-exactly : Explanation id topic windows (gateway_in n ss cs) r.answer
    explain-exactly =
        record {
          exactly = answers_as (mode_of (gateway_in n ss cs).flags) why_same answers;
          recent = λ age z. (older age z).0;
          all-windows = λ most age z. omega (arith, most, (older age z).0, (older age z).1);
        }

-- ---- whole: 40, 41, 42; 29 where the topic is longer than 1,024 bytes, with its length; else as the gateway has it
pub data ExplainTells (n : Node) (ss cs id topic : List ℕ) (windows : ℕ) : Told → Type 0 where
  faulty : {why : Fault} → lent_of n ss cs ≡ Err why → ExplainTells n ss cs id topic windows (fault_told why)
  long : lent_of n ss cs ≡ Ok tt → 1024 < length topic
      → ExplainTells n ss cs id topic windows (told topic-too_long (length topic ∷ []))
  says : lent_of n ss cs ≡ Ok tt → length topic ≤ 1024
      → ExplainTells n ss cs id topic windows (offer_told (explain_of id topic windows (gateway_in n ss cs)))

module _ (n : Node) (ss cs id topic : List ℕ) (windows : ℕ) where
  tells : (l : Result (Unit {0}) Fault) → lent_of n ss cs ≡ l
      → ExplainTells n ss cs id topic windows (explain_told (explain_answer n ss cs id topic windows))
  unfolding explain_answer
  tells (Err why) e = rw e (faulty e)
  tells (Ok _) e =
      either (ltb 1024 (length topic)) (λ t. rw (e, t) (long e (ltb-true 1024 (length topic) t)))
      (λ t.
      let h = ltb-false 1024 (length topic) t in
      subst (λ (r : Result Offer ExplainError). ExplainTells n ss cs id topic windows (explain_told r))
      (sym (explain-says n ss cs id topic windows e h)) (says e h))

  only : {a : Told} → ExplainTells n ss cs id topic windows a → explain_told (explain_answer n ss cs id topic windows) ≡ a
  unfolding explain_answer
  only (faulty e) = rw e
  only (long e h) = rw (e, lt-ltb 1024 (length topic) h)
  only (says e h) = ap explain_told (explain-says n ss cs id topic windows e h)

  pub explain_tells-exactly : (a : Told)
      → (explain_told (explain_answer n ss cs id topic windows) ≡ a) ↔ ExplainTells n ss cs id topic windows a
  explain_tells-exactly a = (
    λ e. subst (ExplainTells n ss cs id topic windows) e (tells (lent_of n ss cs) refl),
    λ t. only t,
  )
