-- Serve with a second body: the messages whose ids it declines are left out, and count neither as written nor as left;
-- of the others that are named and cached each is one of both, in order. With an empty one it is the scope's serve.
use Rattle.std.specs.Prelude.{Result, Err, ℕ, ◌≡◌, refl, List, [], ◌∷◌, ◌++◌, map, Bool, true, false, cond, not, ◌&&◌, ◌||◌, take, drop, eqb}
use Rattle.std.proofs.Common.{sym, ap, ◌∙◌, arith, take-append-drop}
use Rattle.std.proofs.Math.Bool.{and-false}
use Rattle.std.proofs.lemmas.List.Edits.{sets}
use Rattle.basis.specs.declared.Mode.{Mode}
use Rattle.basis.specs.declared.Edition.{Edition}
use Rattle.basis.specs.declared.Edition.TheVariants.{V12}
use Rattle.basis.specs.Dialect.{mode_of, spoken}
use Rattle.basis.specs.Cases.{either, clash, both, neither}
use Rattle.rows.specs.Ids.{same_bytes, among, distinct}
use Rattle.rows.specs.IdsLaws.{same_self, same_equal, among-append}
use Rattle.rows.specs.ListLaws.{map-take, map-drop}
use Rattle.schema.specs.Accept.{accept_of}
use Rattle.schema.specs.AcceptLaws.{empty-taken}
use Rattle.mcache.specs.Messages.{held, get}
use Rattle.basis.specs.declared.Fault.{Fault}
use Rattle.node.specs.declared.Node.{Node}
use Rattle.node.specs.declared.Reply.{Reply}
use Rattle.node.specs.declared.ServeError.TheVariants as serve
use Rattle.node.specs.declared.ServeError.{ServeError}
use Rattle.node.specs.Parts.{once, without}
use Rattle.node.specs.PartsLaws.{path-all, path-done, once-distinct, once-among, without-none, without-among}
use Rattle.node.specs.PartsLaws.{without-distinct}
use Rattle.node.specs.Gateway.{Gateway, having, reply_room, written_in, sent, reply_for, serve_of}
use Rattle.node.specs.Calls.{lent_of, on_lent, when_fine, when_taken, wanted, unwanted_in, remaining, cached_of}
use Rattle.node.specs.Calls.{reply_bytes, reply_to, serve_on, serve_answer, serve_left}

-- ---- an empty second body
-- as serve was before it could be lent one
unfoldable pub serve_answer_was : Node → List ℕ → List ℕ → Edition → List ℕ → List ℕ → Result Reply ServeError
serve_answer_was n ss cs ed body out =
    on_lent (λ (why : Fault). Err (serve.Faulty why)) (lent_of n ss cs)
    (serve_on (reply_to (cached_of n.cache cs (wanted (mode_of n.cache.flags) body)) out)
    (accept_of (spoken (mode_of n.cache.flags) ed) body))

unfoldable pub serve_left_was : Node → List ℕ → List ℕ → Edition → List ℕ → List ℕ → List ℕ
serve_left_was n ss cs ed body out =
    when_fine (lent_of n ss cs)
    (when_taken (accept_of (spoken (mode_of n.cache.flags) ed) body)
    (sets out 0 (reply_bytes (cached_of n.cache cs (wanted (mode_of n.cache.flags) body)) out)) out) out

-- it is taken (`empty-taken`), and declines nothing
pub empty-declines : (mode : Mode) → unwanted_in mode [] ≡ []
unfolding unwanted_in
empty-declines mode =
    sym (path-all mode (3 ∷ 5 ∷ 1 ∷ []) [] (omega arith)) ∙ path-done mode (3 ∷ 5 ∷ 1 ∷ []) [] 0 (omega arith)

pub all_remain : (mode : Mode) (body : List ℕ) → remaining mode body [] ≡ wanted mode body
unfolding remaining
all_remain mode body = rw (empty-declines mode, without-none (wanted mode body))

pub serve-plain : (n : Node) (ss cs : List ℕ) (ed : Edition) (body out : List ℕ)
    → (serve_answer n ss cs ed body [] out ≡ serve_answer_was n ss cs ed body out)
    × (serve_left n ss cs ed body [] out ≡ serve_left_was n ss cs ed body out)
unfolding serve_answer serve_left serve_answer_was serve_left_was
serve-plain n ss cs ed body out =
    let mode = mode_of n.cache.flags in rw (empty-taken (spoken mode V12), all_remain mode body) (refl, refl)

-- of a gateway
pub serve_of-plain : (named : List (List ℕ)) (buffer : ℕ) (g : Gateway)
    → serve_of named [] buffer g ≡ reply_for (reply_room buffer) (having g (once named))
unfolding serve_of
serve_of-plain named buffer g = rw (without-none (once named))

-- ---- what becomes of each id
-- those whose messages are cached
unfoldable pub cached_ids : Gateway → List (List ℕ) → List (List ℕ)
cached_ids g [] = []
cached_ids g (i ∷ is) = cond (held i g.cache) (i ∷ cached_ids g is) (cached_ids g is)

abbrev pub messages_of : Gateway → List (List ℕ) → List (List ℕ)
messages_of g is = map (λ (i : List ℕ). get i g.cache) is

-- the messages of a reply by their ids: `served` are the ids of those written, `waiting` of those left
pub record ByIds (g : Gateway) (named unwanted written left : List (List ℕ)) : Type 0 where
  pub served : List (List ℕ)
  pub waiting : List (List ℕ)
  pub writes : written ≡ messages_of g served
  pub leaves : left ≡ messages_of g waiting
  -- the ids named, each at its first mention, without the unwanted ones and those that are not cached
  pub all : served ++ waiting ≡ cached_ids g (without unwanted (once named))

having-cached : (g : Gateway) (is : List (List ℕ)) → having g is ≡ messages_of g (cached_ids g is)
unfolding having cached_ids
having-cached g [] = refl
having-cached g (i ∷ is) =
    either (held i g.cache)
    (λ t. rw t (ap (λ (l : List (List ℕ)). get i g.cache ∷ l) (having-cached g is)))
    (λ t. rw t (having-cached g is))

-- the messages of some ids, the first k of them and the others
module _ (g : Gateway) (named unwanted : List (List ℕ)) where
  abbrev ids : List (List ℕ)
  ids = cached_ids g (without unwanted (once named))

  cut : (ms ws ls : List (List ℕ)) (k : ℕ) → ms ≡ messages_of g ids → take k ms ≡ ws → drop k ms ≡ ls
      → ByIds g named unwanted ws ls
  cut ms ws ls k e a b =
      record {
        served = take k ids;
        waiting = drop k ids;
        writes = sym (map-take (λ (i : List ℕ). get i g.cache) k ids ∙ ap (take k) (sym e) ∙ a);
        leaves = sym (map-drop (λ (i : List ℕ). get i g.cache) k ids ∙ ap (drop k) (sym e) ∙ b);
        all = take-append-drop k ids;
      }

  of-reply : (room : ℕ) (ms ws ls : List (List ℕ)) → ms ≡ messages_of g ids → reply_for room ms ≡ sent ws ls
      → ByIds g named unwanted ws ls
  of-reply room [] ws ls e h = cut [] ws ls 0 e (cc) (cc)
  of-reply room (m ∷ ms) ws ls e h =
      either (eqb (written_in room (m ∷ ms)) 0) (λ t. clash (let z = rw t at h in cc))
      (λ t.
      let k = written_in room (m ∷ ms) in
      let z : sent (take k (m ∷ ms)) (drop k (m ∷ ms)) ≡ sent ws ls = rw t at h in
      cut (m ∷ ms) ws ls k e (cc) (cc))

pub reply-by-ids : (named unwanted : List (List ℕ)) (buffer : ℕ) (g : Gateway) (ws ls : List (List ℕ))
    → serve_of named unwanted buffer g ≡ sent ws ls → ByIds g named unwanted ws ls
unfolding serve_of
reply-by-ids named unwanted buffer g ws ls h =
    let is = without unwanted (once named) in
    of-reply g named unwanted (reply_room buffer) (having g is) ws ls (having-cached g is) h

-- of some ids those that are cached, and no others
cached-among : (g : Gateway) (is : List (List ℕ)) (x : List ℕ)
    → among x (cached_ids g is) ≡ (among x is && held x g.cache)
unfolding cached_ids among
cached-among g [] x = refl
cached-among g (i ∷ is) x =
    let r = cached-among g is x in
    either (same_bytes i x)
    (λ t.
    let e : i ≡ x = same_equal i x t in
    either (held x g.cache) (λ u. rw (e, u, same_self x))
    (λ u. rw (e, u, same_self x) (rw u at r ∙ and-false (among x is))))
    (λ t. either (held i g.cache) (λ u. rw (u, t) r) (λ u. rw (u, t) r))

cached-distinct : (g : Gateway) (is : List (List ℕ)) → distinct is ≡ true → distinct (cached_ids g is) ≡ true
unfolding cached_ids distinct
cached-distinct g [] d = refl
cached-distinct g (i ∷ is) d =
    let b = both (not (among i is)) (distinct is) d in
    let r = cached-distinct g is b.1 in
    either (held i g.cache)
    (λ t. either (among i is) (λ u. clash (let z = rw u at b.0 in cc)) (λ u. rw (t, cached-among g is i, u, r)))
    (λ t. rw t r)

and-or : (a b c : Bool) → ((a && b) && c) ≡ (a && (c && b))
and-or true true true = refl
and-or true true false = refl
and-or true false true = refl
and-or true false false = refl
and-or false b c = refl

module _ {g : Gateway} {named unwanted ws ls : List (List ℕ)} (r : ByIds g named unwanted ws ls) where
  -- an id is of one of both exactly where it is named and cached, and not unwanted
  pub served-exactly : (i : List ℕ) → (among i r.served || among i r.waiting)
      ≡ (among i named && (held i g.cache && not (among i unwanted)))
  served-exactly i =
      sym (among-append i r.served r.waiting)
      ∙ ap (among i) r.all
      ∙ cached-among g (without unwanted (once named)) i
      ∙ ap (λ (b : Bool). b && held i g.cache) (without-among unwanted (once named) i)
      ∙ ap (λ (b : Bool). (b && not (among i unwanted)) && held i g.cache) (once-among i named)
      ∙ and-or (among i named) (not (among i unwanted)) (held i g.cache)

  -- so one that is unwanted is of none
  pub unwanted_never : (i : List ℕ) → among i unwanted ≡ true
      → (among i r.served ≡ false) × (among i r.waiting ≡ false)
  unwanted_never i u =
      neither (among i r.served) (among i r.waiting)
      (served-exactly i ∙ rw (u, and-false (held i g.cache), and-false (among i named)))

  -- and no id is there twice
  pub served-once : distinct (r.served ++ r.waiting) ≡ true
  served-once =
      ap distinct r.all
      ∙ cached-distinct g (without unwanted (once named)) (without-distinct unwanted (once named) (once-distinct named))
