-- What the calls of a round answer and write, with full buffers and in any editions: none is refused; the
-- advertisement, the request and the reply are those of the definitions; and the reply has fifteen messages, or all
-- that are asked for.
use Prim.Native.Nat.{ℕ, zero, suc, ◌≤◌, ◌<◌, min}
use Rattle.std.specs.Prelude.{Ok, ◌≡◌, refl, true, length, get_or}
use Rattle.std.proofs.Common.{sym, ◌∙◌}
use Rattle.std.proofs.Math.Path.{ap, subst}
use mathlib.Core.List.{List, [], ◌∷◌, append-nil}
use native.Mathlib.Omega.{arith}
use Rattle.std.proofs.lemmas.List.Edits.{sets}
use borrow.Author.Tests.{le-ltb}
use Rattle.basis.specs.declared.Edition.TheVariants.{V11, V12}
use Rattle.basis.specs.Dialect.{mode_of, spoken}
use Rattle.basis.specs.Cases.{either}
use Rattle.basis.specs.Lists.{answer-fits, written-fits}
use Rattle.rows.specs.Ids.{same_bytes, among}
use Rattle.rows.specs.IdsLaws.{same_self, among-at}
use Rattle.protobuf.specs.Encode.{bytes_field}
use Rattle.schema.specs.Accept.{accept_of}
use Rattle.schema.specs.AcceptLaws.{empty-taken}
use Rattle.admission.specs.AdmissionLaws.{gives-only, fit-limits}
use Rattle.node.specs.Parts.{fitting}
use Rattle.node.specs.PartsLaws.{fitting-room, fitting-le}
use Rattle.mcache.specs.Messages.{held, get}
use Rattle.mcache.specs.GossipLaws.{told-held}
use Rattle.node.specs.Gateway.{Gateway, told_of, lacking, having, max_rpc_size}
use Rattle.node.specs.State.{gateway_in}
use Rattle.node.specs.Calls.{lent_of, advertise_answer, advertise_left, advertise_bytes, ask_answer, ask_left, ask_bytes}
use Rattle.node.specs.Calls.{serve_answer, serve_left, cached_of, remaining, room_of, served_of, reply_bytes, reply_to}
use Rattle.node.specs.ReplyLaws.{reply-some}
use Rattle.outputs.specs.Adverts.{advert-rpc, advert-taken}
use Rattle.outputs.specs.Exactly.{at_front}
use Rattle.history.specs.History.{State, gateway_of, Settings, admit, advertise, ask, serve, refusal_at}
use Rattle.history.specs.History.{admits}
use Rattle.agreement.specs.Round.{Play, Fair, advert_by, advert_of, request_of, reply_answer, reply_of, served_count}
use Rattle.agreement.specs.Round.{asker_round}
use Rattle.agreement.specs.Holding.{Holding}
use Rattle.agreement.specs.HandOver.{request-rpc, request-taken, reply-has, reply-all}
use Rattle.agreement.specs.HandOver.{lacks-exactly}
use Rattle.agreement.specs.Fifteen.{fifteen_fit}
use Rattle.agreement.specs.Delivered.{Delivers, reply-taken}
use Rattle.agreement.specs.Lacking.{Got}
use Rattle.agreement.proofs.Lacking.{fine, told-got}
use Rattle.agreement.specs.Played.{Answers, wants as wants_of, replies as replies_of}

-- ---- a reply
room_full : (out : List ℕ) → 65536 ≤ length out → room_of out ≡ 65536
unfolding room_of
room_full out h = omega arith

reply-fits : (ms : List (List ℕ)) (out : List ℕ) → length (reply_bytes ms out) ≤ length out
unfolding reply_bytes served_of room_of
reply-fits ms out = omega (arith, fitting-room 2 (min (length out) 65536) ms)

pub served-enough : (ms : List (List ℕ)) (out : List ℕ) → 65536 ≤ length out
    → ((i : ℕ) → i < length ms → length (get_or ms i []) ≤ 4096) → min 15 (length ms) ≤ served_of ms out
unfolding served_of
served-enough ms out h each = rw (room_full out h) (fifteen_fit ms each)

reply-answers : (ms : List (List ℕ)) (out : List ℕ) → min 15 (length ms) ≤ served_of ms out
    → Answers ms out (reply_to ms out)
unfolding reply_bytes served_of fitting
reply-answers [] out h = record { done = refl; bytes = refl; count = refl }
reply-answers (m ∷ ms) out h =
    rw (reply-some m ms out (λ e. omega arith))
    (record { done = refl; bytes = at_front (reply_bytes (m ∷ ms) out) out (reply-fits (m ∷ ms) out); count = refl })

-- ---- each message that is asked for
having-at : (g : Gateway) (is : List (List ℕ)) → ((i : List ℕ) → among i is ≡ true → held i g.cache ≡ true) → (j : ℕ)
    → j < length is → get_or (having g is) j [] ≡ get (get_or is j []) g.cache
unfolding having among
having-at g [] h j l = absurd (omega arith)
having-at g (i ∷ is) h zero l = let k : held i g.cache ≡ true = h i (rw (same_self i)) in simp k
having-at g (i ∷ is) h (suc j) l =
    let k : held i g.cache ≡ true = h i (rw (same_self i)) in
    simp k (having-at g is (λ x m. h x (either (same_bytes i x) (λ t. simp t) (λ t. simp t m))) j (omega arith))

-- ---- an advertise
module _ {set : List (List ℕ)} {y : Settings} {firstB pastB left_b : ℕ} {rsB : List ℕ} {gotB : List (List ℕ)} {b : State}
    (hb : Holding set y firstB pastB rsB left_b gotB b) (topic : List ℕ) (short : length topic ≤ 1024) (windows : ℕ)
    (out : List ℕ) (room : max_rpc_size ≤ length out) where
  abbrev adverted : List ℕ
  adverted = advertise_bytes b.node b.messages topic windows

  adverted-small : length adverted ≤ length out
  adverted-small =
      let w = ((advert-rpc b.node b.ids b.messages topic windows hb.kept.fine hb.bytes short).1
      (spoken (mode_of y.flags) V11)).small in
      omega arith

  advertise_answer_lem : advertise_answer b.node b.ids b.messages topic windows out ≡ Ok (length adverted)
  unfolding advertise_answer
  advertise_answer_lem = rw (hb.kept.fine, le-ltb 1024 (length topic) short, answer-fits adverted out adverted-small)

  advertise_left_lem : advertise_left b.node b.ids b.messages topic windows out ≡ sets out 0 adverted
  unfolding advertise_left
  advertise_left_lem = rw (hb.kept.fine, le-ltb 1024 (length topic) short) (written-fits adverted out adverted-small)

  pub advertise-done : refusal_at b (advertise topic windows out) ≡ 0
  advertise-done = rw advertise_answer_lem

  pub advertise-is : advert_by topic windows out b ≡ advertise_bytes b.node b.messages topic windows
  unfolding advert_by
  advertise-is = rw (advertise_answer_lem, advertise_left_lem) (at_front adverted out adverted-small)

module _ {set : List (List ℕ)} {x y : Settings} {firstA pastA leftA firstB pastB left_b : ℕ} {rsA rsB : List ℕ}
    {gotA gotB : List (List ℕ)} {a b : State}
    (ha : Holding set x firstA pastA rsA leftA gotA a) (hb : Holding set y firstB pastB rsB left_b gotB b) (p : Play)
    (fair : Fair p x y) where
  abbrev fine_a : lent_of a.node a.ids a.messages ≡ Ok tt
  fine_a = fine ha p.topic p.windows fair.windows-x

  abbrev fine_b : lent_of b.node b.ids b.messages ≡ Ok tt
  fine_b = fine hb p.topic p.windows fair.windows_y

  -- ---- the advertisement
  abbrev advert : List ℕ
  advert = advertise_bytes b.node b.messages p.topic p.windows

  pub advert-done : refusal_at b (advertise p.topic p.windows (p.advert_out 0)) ≡ 0
  advert-done = advertise-done hb p.topic fair.topic-short p.windows (p.advert_out 0) (fair.advert-room 0)

  pub advert-is : advert_of p b ≡ advertise_bytes b.node b.messages p.topic p.windows
  unfolding advert_of
  advert-is = advertise-is hb p.topic fair.topic-short p.windows (p.advert_out 0) (fair.advert-room 0)

  -- ---- the request
  abbrev asking : List ℕ
  asking = ask_bytes a.node a.ids advert

  asking-small : length asking ≤ length (p.request_out 0)
  asking-small =
      let w = ((request-rpc b.node b.ids b.messages p.topic p.windows fine_b hb.bytes fair.topic-short
      a.node a.ids a.messages).1 (spoken (mode_of y.flags) V11)).small in
      let r = fair.request-room 0 in
      omega arith

  advert-accepted : accept_of (spoken (mode_of a.node.cache.flags) (p.ask_edition 0)) advert ≡ Ok tt
  advert-accepted = advert-taken b.node b.ids b.messages p.topic p.windows fine_b hb.bytes
      fair.topic-short (spoken (mode_of a.node.cache.flags) (p.ask_edition 0))

  request-answer : ask_answer a.node a.ids a.messages (p.ask_edition 0) advert (p.request_out 0)
      ≡ Ok (length asking)
  unfolding ask_answer
  request-answer = rw (fine_a, advert-accepted, answer-fits asking (p.request_out 0) asking-small)

  request-left : ask_left a.node a.ids a.messages (p.ask_edition 0) advert (p.request_out 0)
      ≡ sets (p.request_out 0) 0 asking
  unfolding ask_left
  request-left = rw (fine_a, advert-accepted) (written-fits asking (p.request_out 0) asking-small)

  pub request-done : refusal_at a (ask (p.ask_edition 0) (advert_of p b) (p.request_out 0)) ≡ 0
  request-done = rw (advert-is, request-answer)

  pub requested : request_of p a b ≡ ask_bytes a.node a.ids
      (advertise_bytes b.node b.messages p.topic p.windows)
  unfolding request_of
  requested = rw (advert-is, request-answer, request-left) (at_front asking (p.request_out 0) asking-small)

  -- ---- the reply
  abbrev wants : List (List ℕ)
  wants = wants_of ha hb p fair

  abbrev replies : List (List ℕ)
  replies = replies_of ha hb p fair

  wants-told : (i : List ℕ) → among i wants ≡ true → among i (told_of p.topic p.windows (gateway_of b)) ≡ true
  unfolding wants_of
  wants-told i t = ((lacks-exactly b.node b.ids b.messages p.topic p.windows fine_b hb.bytes
      fair.topic-short a.node a.ids a.messages i).0 t).0

  pub replies-count : length replies ≡ length wants
  unfolding replies_of wants_of
  replies-count = reply-all b.node b.ids b.messages p.topic p.windows fine_b hb.bytes
      fair.topic-short a.node a.ids a.messages

  -- the j-th message asked for is that of the j-th id, which b got and which gives that id
  pub reply-at : (j : ℕ) → j < length wants → get_or replies j [] ≡ get (get_or wants j []) (gateway_of b).cache
  unfolding replies_of
  reply-at j l =
      having-at (gateway_of b) wants (λ i t. told-held (mode_of (gateway_of b).flags) p.topic p.windows
      (gateway_of b).cache i (wants-told i t)) j
      l

  pub reply-got : (j : ℕ) → j < length wants → Got y.flags (get_or wants j []) (get_or replies j []) gotB
  reply-got j l =
      let i = get_or wants j [] in
      subst (λ (m : List ℕ). Got y.flags i m gotB) (sym (reply-at j l))
      (told-got hb p.topic p.windows fair.windows_y i (wants-told i (among-at i wants j l refl)))

  reply-short : (j : ℕ) → j < length replies → length (get_or replies j []) ≤ 4096
  reply-short j l =
      let n = replies-count in
      let g = gives-only y.flags (get_or replies j []) (get_or wants j []) (reply-got j (omega arith)).own in
      (fit-limits y.flags (get_or replies j []) true g.from_start g.from_end g.seqno-start g.seqno-end
      g.taken).small

  -- fifteen of them, or all
  pub enough : min 15 (length wants) ≤ served_of replies (p.reply_out 0)
  enough = let n = replies-count in let s = served-enough replies (p.reply_out 0) (fair.reply_room_lem 0) reply-short in
      omega arith

  enough-replies : min 15 (length replies) ≤ served_of replies (p.reply_out 0)
  enough-replies = served-enough replies (p.reply_out 0) (fair.reply_room_lem 0) reply-short

  reply-cached : cached_of b.node.cache b.messages (remaining (mode_of b.node.cache.flags) asking [])
      ≡ replies
  unfolding replies_of wants_of
  reply-cached = reply-has b.node b.ids b.messages p.topic p.windows fine_b hb.bytes
      fair.topic-short a.node a.ids a.messages

  request-accepted : accept_of (spoken (mode_of b.node.cache.flags) (p.serve_edition 0)) asking ≡ Ok tt
  request-accepted = (request-taken b.node b.ids b.messages p.topic p.windows fine_b hb.bytes
      fair.topic-short a.node a.ids a.messages).0
      (spoken (mode_of b.node.cache.flags) (p.serve_edition 0))

  no_second : accept_of (spoken (mode_of b.node.cache.flags) V12) [] ≡ Ok tt
  no_second = empty-taken (spoken (mode_of b.node.cache.flags) V12)

  reply_answer_lem : reply_answer p a b ≡ reply_to replies (p.reply_out 0)
  unfolding serve_answer
  reply_answer_lem = rw (requested, fine_b, request-accepted, no_second, reply-cached)

  reply-left : serve_left b.node b.ids b.messages (p.serve_edition 0) (request_of p a b) [] (p.reply_out 0)
      ≡ sets (p.reply_out 0) 0 (reply_bytes replies (p.reply_out 0))
  unfolding serve_left
  reply-left = rw (requested, fine_b, request-accepted, no_second, reply-cached)

  abbrev answers : Answers replies (p.reply_out 0) (reply_to replies (p.reply_out 0))
  answers = reply-answers replies (p.reply_out 0) enough-replies

  pub reply-done : refusal_at b (serve (p.serve_edition 0) (request_of p a b) [] (p.reply_out 0)) ≡ 0
  reply-done = rw reply_answer_lem answers.done

  pub replied : reply_of p a b ≡ reply_bytes replies (p.reply_out 0)
  unfolding reply_of
  replied = rw (reply_answer_lem, reply-left) answers.bytes

  pub served-is : served_count p a b ≡ served_of replies (p.reply_out 0)
  unfolding served_count
  served-is = rw reply_answer_lem answers.count

  -- read in the teller's mode
  pub reply-delivers : Delivers (mode_of y.flags) replies (p.reply_out 0)
  unfolding replies_of wants_of gateway_in
  reply-delivers =
      subst (λ (f : ℕ). Delivers (mode_of f) replies (p.reply_out 0)) hb.held.flags
      (reply-taken b.node b.ids b.messages p.topic p.windows fine_b hb.bytes
      fair.topic-short a.node a.ids a.messages (p.reply_out 0))

  -- ---- where one message is asked for, the reply is the body with that message, and the asker admits it
  module _ (m id : List ℕ)
      (asks : lacking (gateway_of a) (told_of p.topic p.windows (gateway_of b)) ≡ id ∷ [])
      (has : having (gateway_of b) (id ∷ []) ≡ m ∷ []) where
    one-reply : replies ≡ m ∷ []
    unfolding replies_of wants_of
    one-reply = ap (having (gateway_of b)) asks ∙ has

    one-enough : served_of (m ∷ []) (p.reply_out 0) ≡ 1
    unfolding served_of
    one-enough =
        let e = enough-replies in
        let f = fitting-le 2 (room_of (p.reply_out 0)) (m ∷ []) in
        let g : min 15 1 ≤ served_of (m ∷ []) (p.reply_out 0) = rw one-reply at e in
        omega arith

    pub one-served : served_count p a b ≡ 1
    one-served = served-is ∙ ap (λ (ms : List (List ℕ)). served_of ms (p.reply_out 0)) one-reply ∙ one-enough

    pub one-replied : reply_of p a b ≡ bytes_field 2 m
    unfolding reply_bytes served_of
    one-replied = replied ∙ ap (λ (ms : List (List ℕ)). reply_bytes ms (p.reply_out 0)) one-reply ∙ rw one-enough
        (append-nil (bytes_field 2 m))

    pub one_round : (at : ℕ → ℕ)
        → asker_round p at a b
        ≡ ask (p.ask_edition 0) (advert_of p b) (p.request_out 0)
        ∷ admit (p.admit_edition 0 0) (bytes_field 2 m) 0 true (at 0) ∷ []
    unfolding asker_round admits
    one_round at = rw (one-served, one-replied)
