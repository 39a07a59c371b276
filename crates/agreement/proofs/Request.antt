-- The request is exact: given the other's advertisement, in either edition, a gateway writes a request exactly where it
-- lacks something that the other holds, and the request names exactly that, each id once, in every dialect.
use Rattle.std.specs.Prelude.{ℕ, ◌≡◌, refl, List, [], ◌∷◌, length}
use Rattle.std.proofs.Common.{sym, ap, subst, ◌∙◌, arith}
use Rattle.canon.proofs.Taken.{Within}
use Rattle.node.specs.Gateway.{told_of, lacking, request}
use Rattle.history.specs.History.{State, gateway_of, Settings, Call, after_all}
use Rattle.agreement.specs.Premises.{MessageSet, Alike, Premises}
use Rattle.agreement.specs.Round.{lacked, Play, Fair}
use Rattle.agreement.specs.Holding.{Holding}
use Rattle.agreement.proofs.Holding.{set-alike, holding-all}
use Rattle.agreement.specs.HandOver.{asked_something, request-meant}
use Rattle.agreement.proofs.Lacking.{fine, wants-exactly, wants-once, wants-count}
use Rattle.agreement.proofs.Played.{advert-done, request-done, requested}
use Rattle.agreement.specs.Request.{ExactRequest}

-- of two lists as long as each other, one is empty where the other is
empty-same : {A B : Type 0} (l : List A) (m : List B) → length l ≡ length m → l ≡ [] → m ≡ []
empty-same l [] e z = refl
empty-same l (x ∷ m) e z = let k = ap length z in absurd (omega arith)

pub exact_request : {set : List (List ℕ)} {x y : Settings} {firstA pastA leftA firstB pastB left_b : ℕ}
    {rsA rsB : List ℕ} {gotA gotB : List (List ℕ)} {a b : State}
    → Holding set x firstA pastA rsA leftA gotA a → Holding set y firstB pastB rsB left_b gotB b → (p : Play)
    → Fair p x y → ExactRequest p a b
exact_request {a} {b} ha hb p fair =
    let w = lacking (gateway_of a) (told_of p.topic p.windows (gateway_of b)) in
    let fb = fine hb p.topic p.windows fair.windows_y in
    let n = wants-count hb p.topic p.windows fair.windows_y a in
    let s = asked_something b.node b.ids b.messages p.topic p.windows fb hb.bytes fair.topic-short
    a.node a.ids a.messages in
    let e = requested ha hb p fair in
    record {
      advert-taken = advert-done ha hb p fair;
      ask-taken = request-done ha hb p fair;
      quiet = (
        λ z. empty-same w (lacked p.topic a b) n (s.0 (sym e ∙ z)),
        λ z. e ∙ s.1 (empty-same (lacked p.topic a b) w (sym n) z),
      );
      ids = w;
      names = λ there d.
          subst (λ (l : List ℕ). Within d l (request w)) (sym e)
          (request-meant b.node b.ids b.messages p.topic p.windows fb hb.bytes fair.topic-short
          a.node a.ids a.messages
          (λ z. there (empty-same w (lacked p.topic a b) n z)) d);
      once = wants-once hb p.topic p.windows fair.windows_y a;
      exactly = wants-exactly hb p.topic p.windows fair.windows_y a;
      count = n;
    }

-- ---- for two histories under the premises
pub request-is_exact : {set : List (List ℕ)} {x y : Settings} {calls_a_lem calls_b_lem : List Call} {a b : State}
    → MessageSet x.flags set → Premises set x calls_a_lem a → Premises set y calls_b_lem b
    → Alike x y → (p : Play) → Fair p x y → ExactRequest p (after_all calls_a_lem a) (after_all calls_b_lem b)
request-is_exact ms pa pb alike p fair =
    exact_request (holding-all ms pa) (holding-all (set-alike alike ms) pb) p fair
