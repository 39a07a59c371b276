-- Advertise, ask and serve, each in one theorem: what the call answers and what it leaves, for every lent buffer, by
-- the gateway and the RPC that the body means in the call's edition; and where ask and serve refuse a body.
use Rattle.std.specs.Prelude.{Result, Ok, Err, ℕ, ◌≤◌, ◌<◌, ◌≡◌, List, [], ◌∷◌, ◌↔◌, ◌⊎◌, take, eqb}
use Rattle.std.proofs.Math.Path.{refl, sym, ap}
use Rattle.std.proofs.Common.{subst, ◌∙◌, inl, inr}
use native.Mathlib.Omega.{arith}
use Rattle.std.proofs.Math.ListN.{length}
use Rattle.std.proofs.Math.Seq.{sets}
use borrow.Author.Tests.{lt-ltb, eqb-true, eqb-false}
use Rattle.basis.specs.declared.Mode.{Mode}
use Rattle.basis.specs.declared.Edition.{Edition}
use Rattle.basis.specs.declared.Edition.TheVariants.{V12}
use Rattle.basis.specs.declared.Dialect.{Dialect}
use Rattle.basis.specs.declared.ShortRoom.{ShortRoom}
use Rattle.basis.specs.Dialect.{mode_of, spoken}
use Rattle.basis.specs.Cases.{either, clash}
use Rattle.basis.specs.Bytes.{Bytes}
use Rattle.basis.specs.declared.Told.{Told}
use Rattle.basis.specs.Told.{told, done}
use Rattle.basis.specs.Refusals.{topic-too_long, short-room}
use Rattle.basis.specs.Writing.{answer, written, no_room}
use Rattle.basis.specs.Lists.{answer-fits, answer-short, written-fits, written-short}
use Rattle.rows.specs.ListLaws.{drop-sets, put-sets}
use Rattle.protobuf.specs.declared.Refusal.{Refusal as Placed}
use Rattle.protobuf.specs.Told.{refusal_told}
use Rattle.protobuf.specs.Encode.{bytes_field}
use Rattle.schema.specs.Accept.{accept_of}
use Rattle.rpc.specs.Rpc.{Rpc}
use Rattle.rpc.specs.Encode.{encode_rpc, repeated}
use Rattle.meaning.specs.Decoded.{Refusal, Gated, refusal_gated, gated_bound, refusal-within}
use Rattle.canon.proofs.Taken.{Within, taken, taken-exactly, refused-exactly}
use Rattle.node.specs.declared.ServeError.TheVariants as serve
use Rattle.node.specs.Parts.{once, without}
use Rattle.node.specs.PartsLaws.{fitting-stop, without-none}
use Rattle.node.specs.declared.Node.{Node}
use Rattle.node.specs.Told.{advertise_told, ask_told, serve_told}
use Rattle.node.specs.Gateway.{rpc_bytes, if_any, told_of, advertisement, advertise_of, lacking, request, ask_of}
use Rattle.node.specs.Gateway.{having, reply_room, Reply, sent, short, sent_bytes, reply_for, serve_of}
use Rattle.node.specs.State.{gateway_in}
use Rattle.node.specs.Calls.{lent_of, advertised, advertise_answer, advertise_left, offered, unseen_of, asked, ask_answer}
use Rattle.node.specs.Calls.{ask_left, remaining, cached_of, room_of, served_of, reply_bytes, replied, reply_to}
use Rattle.node.specs.Calls.{serve_answer}
use Rattle.node.specs.Calls.{serve_left, told_in, advertise_bytes, ask_bytes, ask_on, serve_on}
use Rattle.node.specs.ReplyLaws.{reply-within, reply-short, reply-some, sent_bytes_lem}
use Rattle.node.specs.Laws.{told-gateway, unseen_gateway, cached-gateway, advertise-says, ask-says, serve-says}
use Rattle.outputs.specs.Named.{offers_of, wants_of, unwanted_of}
use Rattle.outputs.specs.Outcomes.{Writes, ReplyIs, NoRoom, ServeExactly, ServeRefuses, asking, declining}
use Rattle.outputs.specs.Outcomes.{NamesExactly, AdvertiseExactly}
use Rattle.outputs.specs.Offered.{offered-means, wanted-means, unwanted_means, offered-once, remaining-means}
use Rattle.outputs.specs.Bodies.{nothing, nothing-means}
use Rattle.outputs.specs.Replied.{Replies, wrote, needs, of-needs, serve-means, serve-counts, serve-room}
use Rattle.outputs.specs.Requested.{request-within}
use Rattle.outputs.specs.Advertised.{advertise-means, no-topic-no_bytes}

-- ---- bytes at the front of a buffer
pub at_front : (s out : List ℕ) → length s ≤ length out → take (length s) (sets out 0 s) ≡ s
at_front s out h = put-sets out 0 s (omega arith)

front : (x : Rpc) (s out : List ℕ) → s ≡ encode_rpc x → length s ≤ length out → Writes x (length s) out (sets out 0 s)
front x s out e h =
    record {
      bytes = at_front s out h ∙ e;
      count = ap length e;
      fits = h;
      rest = drop-sets out 0 s (length s) (omega arith);
    }

-- ---- what a reply tells
told-reply : (r : Reply) (k w l : ℕ) → serve_told (replied r) ≡ done (k ∷ w ∷ l ∷ [])
    → replied r ≡ wrote k w l
told-reply (sent ws ls) k w l h =
    let a : length (repeated (bytes_field 2) ws) ≡ k = ap (λ (t : Told). t.first) h in
    let b : length ws ≡ w = ap (λ (t : Told). t.second) h in
    let c : length ls ≡ l = ap (λ (t : Told). t.third) h in
    rw (a, b, c)
told-reply (short needed) k w l h = let z : ◌≡◌ {A = ℕ} 12 0 = ap (λ (t : Told). t.number) h in absurd (omega arith)

told-room : (r : Reply) (needed : ℕ) → serve_told (replied r) ≡ told short-room (needed ∷ [])
    → replied r ≡ Err (serve.Room needed)
told-room (sent ws ls) needed h = let z : ◌≡◌ {A = ℕ} 0 12 = ap (λ (t : Told). t.number) h in absurd (omega arith)
told-room (short n) needed h = let a : n ≡ needed = ap (λ (t : Told). t.first) h in rw a

told-either : (r : Reply) → ((k : ℕ) × (w : ℕ) × (l : ℕ) × (serve_told (replied r) ≡ done (k ∷ w ∷ l ∷ [])))
    ⊎ ((needed : ℕ) × (serve_told (replied r) ≡ told short-room (needed ∷ [])))
told-either (sent ws ls) = inl (length (repeated (bytes_field 2) ws), length ws, length ls, refl)
told-either (short needed) = inr (needed, refl)

-- 12 exactly where the first does not fit
room-first : (ms : List (List ℕ)) (out : List ℕ) (needed : ℕ) → reply_to ms out ≡ Err (serve.Room needed)
    → NoRoom ms out needed
unfolding room_of
room-first [] out needed h = clash (cc)
room-first (m ∷ ms) out needed h =
    let s = served_of (m ∷ ms) out in
    let p = serve-room (m ∷ ms) out needed h in
    either (eqb s 0)
    (λ t.
    let q = of-needs (sym (reply-short m ms out (eqb-true s 0 t)) ∙ h) in
    record { first = m; others = ms; cached = refl; field = sym q; passes = p.0 })
    (λ t. clash (let q = reply-some m ms out (eqb-false s 0 t) in cc))

none-fits : (m : List ℕ) (ms : List (List ℕ)) (out : List ℕ) → reply_room (length out) < length (bytes_field 2 m)
    → served_of (m ∷ ms) out ≡ 0
unfolding served_of room_of
none-fits m ms out h = fitting-stop 2 (reply_room (length out)) m ms h

first-room : (ms : List (List ℕ)) (out : List ℕ) (needed : ℕ) → NoRoom ms out needed
    → reply_to ms out ≡ Err (serve.Room needed)
first-room ms out needed n =
    let l : reply_room (length out) < length (bytes_field 2 n.first) = rw n.field at n.passes in
    ap (λ (l : List (List ℕ)). reply_to l out) n.cached
    ∙ reply-short n.first n.others out (none-fits n.first n.others out l) ∙ ap needs (sym n.field)

-- of messages whose reply is a body
module _ (mode : Mode) (ms : List (List ℕ)) (out : List ℕ) (r : Replies mode ms out) where
  served : (k w l : ℕ) → reply_to ms out ≡ wrote k w l
      → ReplyIs mode ms out (sets out 0 (reply_bytes ms out)) k w l
  unfolding room_of
  served k w l h =
      let c = serve-counts ms out k w l h in
      let i = reply-within ms out in
      let h : length (reply_bytes ms out) ≤ length out = omega arith in
      record {
        reply = r.rpc;
        writes = rw c.written (front r.rpc (reply_bytes ms out) out r.encoded h);
        means = λ d a. rw (c.written, at_front (reply_bytes ms out) out h) (r.within d a);
        no-subscriptions = r.no-subscriptions;
        no-control = r.no-control;
        messages = rw c.served r.messages;
        written = c.served ∙ sym r.count;
        left_over = c.all;
        within = omega (arith, c.written);
        next = c.next;
      }

  reply-exactly : ServeExactly mode ms out (serve_told (reply_to ms out)) (sets out 0 (reply_bytes ms out))
  reply-exactly =
      let a = reply_for (room_of out) ms in
      record {
        reply = λ k w l h. served k w l (told-reply a k w l h);
        no_room = λ needed. (
          (λ h. room-first ms out needed (told-room a needed h)),
          (λ p. ap serve_told (first-room ms out needed p)),
        );
        unchanged = λ needed h. ap (sets out 0) (serve-room ms out needed (told-room a needed h)).1;
        no_other = told-either a;
      }

-- ---- advertise and ask: x is the RPC that names the ids
names-exactly : (ids : List (List ℕ)) (x : Rpc) (out : List ℕ) (tells : Result ℕ ShortRoom → Told)
    → ((k : ℕ) → tells (Ok k) ≡ done (k ∷ [])) → ((k : ℕ) → tells (Err (no_room k)) ≡ told short-room (k ∷ []))
    → ((ids ≡ [] → ⊥) → (d : Dialect) → Within d (rpc_bytes (if_any ids x)) x)
    → NamesExactly ids x out (tells (answer (rpc_bytes (if_any ids x)) out)) (written (rpc_bytes (if_any ids x)) out)
names-exactly [] x out tells on-bytes on_room w =
    record {
      no-ids = λ e. (ap tells (answer-fits [] out (omega arith)) ∙ on-bytes 0, written-fits [] out (omega arith));
      writes = λ there. absurd (there refl);
      means = λ there. absurd (there refl);
      no_room = λ there. absurd (there refl);
    }
names-exactly (i ∷ is) x out tells on-bytes on_room w =
    let s = encode_rpc x in
    record {
      no-ids = λ e. clash (cc);
      writes = λ there h. (
        ap tells (answer-fits s out h) ∙ on-bytes (length s),
        rw (written-fits s out h) (front x s out refl h),
      );
      means = λ there h d. rw (written-fits s out h, at_front s out h) (w there d);
      no_room = λ there h. (ap tells (answer-short s out h) ∙ on_room (length s), written-short s out h);
    }

-- ---- a body that is refused, of a call that tells this for each outcome of the one test, and none of 10, 1 to 7, 14
-- to 16 and 11 where the body is taken
module _ (d : Dialect) (body : List ℕ) (b : Bytes body) (tell : Result (Unit {0}) Placed → Told)
    (on-wrong : (why : Placed) → tell (Err why) ≡ refusal_told why)
    (other : Gated d.mode (tell (Ok tt)).number → ⊥) where
  refused-of : (c : Result (Unit {0}) Placed) → accept_of d body ≡ c → (a : Told) → tell c ≡ a → Gated d.mode a.number
      → Refusal d body a
  refused-of (Err why) e a h g = (refused-exactly d body a b).0 (why, e, sym (on-wrong why) ∙ h)
  refused-of (Ok tt) e a h g = absurd (other (subst (λ (t : Told). Gated d.mode t.number) (sym h) g))

  body_refused : (a : Told) → ((tell (accept_of d body) ≡ a) × Gated d.mode a.number) ↔ Refusal d body a
  body_refused a = (
    λ p. refused-of (accept_of d body) refl a p.0 p.1,
    λ r. let g = (refused-exactly d body a b).1 r in (ap tell g.1 ∙ on-wrong g.0 ∙ g.2, refusal_gated r),
  )

ask_other : {mode : Mode} (w : Result ℕ ShortRoom) → Gated mode (ask_told (asked w)).number → ⊥
ask_other (Ok k) g = omega (arith, (gated_bound g).0)
ask_other (Err room) g = (gated_bound g).1.0 refl

serve_other : {mode : Mode} (r : Reply) → Gated mode (serve_told (replied r)).number → ⊥
serve_other (sent ws ls) g = omega (arith, (gated_bound g).0)
serve_other (short needed) g = (gated_bound g).1.0 refl

-- of a serve that answers r where both bodies are taken
module _ (mode : Mode) (ed : Edition) (body second : List ℕ) (b : Bytes body) (b2 : Bytes second) (r : Reply) where
  second-refused : (a : Told)
      → ((serve_told (serve_on (replied r) (accept_of (spoken mode V12) second)) ≡ a) × Gated mode a.number)
      ↔ Refusal (spoken mode V12) second a
  second-refused =
      body_refused (spoken mode V12) second b2 (λ c. serve_told (serve_on (replied r) c)) (λ why. refl) (serve_other r)

  abbrev served_on : Result (Unit {0}) Placed → Told
  served_on c = serve_told (serve_on (serve_on (replied r) (accept_of (spoken mode V12) second)) c)

  refuses : (c : Result (Unit {0}) Placed) → accept_of (spoken mode ed) body ≡ c → (a : Told) → served_on c ≡ a
      → Gated mode a.number → ServeRefuses mode ed body second a
  refuses (Err why) e a h g = asking ((refused-exactly (spoken mode ed) body a b).0 (why, e, h))
  refuses (Ok tt) e a h g = declining ((taken-exactly (spoken mode ed) body b).0 e).1 ((second-refused a).0 (h, g))

  refuses-only : (a : Told) → ServeRefuses mode ed body second a
      → (served_on (accept_of (spoken mode ed) body) ≡ a) × Gated mode a.number
  refuses-only a (asking h) =
      let g = (refused-exactly (spoken mode ed) body a b).1 h in (ap served_on g.1 ∙ g.2, refusal_gated h)
  refuses-only a (declining w h) = let g = (second-refused a).1 h in (ap served_on (taken w) ∙ g.0, g.1)

-- ---- the calls, on a lent state that is fine
module _ (n : Node) (ss cs out : List ℕ) (fine : lent_of n ss cs ≡ Ok tt) where
  module _ (ed : Edition) (body : List ℕ) (x : Rpc) (w : Within (spoken (mode_of n.cache.flags) ed) body x) where
    -- serve: the gateway and the RPCs that the two bodies mean fix what is answered and left
    pub serve_fixed : (second : List ℕ) (y : Rpc) → Within (spoken (mode_of n.cache.flags) V12) second y
        → (serve_answer n ss cs ed body second out
        ≡ replied (serve_of (wants_of x) (unwanted_of y) (length out) (gateway_in n ss cs)))
        × (serve_left n ss cs ed body second out
        ≡ sets out 0 (sent_bytes (serve_of (wants_of x) (unwanted_of y) (length out) (gateway_in n ss cs))))
    serve_fixed second y v =
        rw (← wanted-means w.means, ← unwanted_means (mode_of n.cache.flags) v.means)
        (serve-says n ss cs out fine ed body (taken w) second (taken v))

    -- and so
    pub serve-exactly : (second : List ℕ) (y : Rpc) → Bytes cs → Within (spoken (mode_of n.cache.flags) V12) second y
        → ServeExactly (mode_of n.cache.flags) (having (gateway_in n ss cs)
        (without (unwanted_of y) (once (wants_of x)))) out
        (serve_told (serve_answer n ss cs ed body second out)) (serve_left n ss cs ed body second out)
    unfolding serve_of room_of
    serve-exactly second y bytes v =
        let ms = having (gateway_in n ss cs) (without (unwanted_of y) (once (wants_of x))) in
        let e : cached_of n.cache cs (remaining (mode_of n.cache.flags) body second) ≡ ms =
        cached-gateway n ss cs (remaining (mode_of n.cache.flags) body second)
        ∙ ap (having (gateway_in n ss cs)) (remaining-means w.means v.means) in
        let r : Replies (mode_of n.cache.flags) ms out = rw e at (serve-means n ss cs body second out fine bytes) in
        let f = serve_fixed second y v in
        let a : serve_answer n ss cs ed body second out ≡ reply_to ms out = f.0 in
        let b : serve_left n ss cs ed body second out ≡ sets out 0 (reply_bytes ms out) =
        f.1 ∙ ap (sets out 0) (sent_bytes_lem ms out) in
        rw (a, b) (reply-exactly (mode_of n.cache.flags) ms out r)

    -- with no second body: all that are cached and named
    pub serve-alone : Bytes cs
        → ServeExactly (mode_of n.cache.flags) (having (gateway_in n ss cs) (once (wants_of x))) out
        (serve_told (serve_answer n ss cs ed body [] out)) (serve_left n ss cs ed body [] out)
    serve-alone bytes =
        subst (λ (l : List (List ℕ)). ServeExactly (mode_of n.cache.flags) (having (gateway_in n ss cs) l) out
        (serve_told (serve_answer n ss cs ed body [] out)) (serve_left n ss cs ed body [] out))
        (without-none (once (wants_of x))) (serve-exactly [] nothing bytes
        (nothing-means (spoken (mode_of n.cache.flags) V12)))

  -- it tells 10, 1 to 7, 14 to 16 or 11 exactly where one of the bodies is refused so, the one that asks before the
  -- second
  pub serve-refused-exactly : (ed : Edition) (body second : List ℕ) → Bytes body → Bytes second → (a : Told)
      → ((serve_told (serve_answer n ss cs ed body second out) ≡ a) × Gated (mode_of n.cache.flags) a.number)
      ↔ ServeRefuses (mode_of n.cache.flags) ed body second a
  unfolding serve_answer
  serve-refused-exactly ed body second b b2 a =
      let r = reply_for (room_of out) (cached_of n.cache cs (remaining (mode_of n.cache.flags) body second)) in
      rw fine (
        λ p. refuses (mode_of n.cache.flags) ed body second b b2 r
            (accept_of (spoken (mode_of n.cache.flags) ed) body) refl a p.0 p.1,
        refuses-only (mode_of n.cache.flags) ed body second b b2 r a,
      )

  -- and with no second body, where the body that asks is
  pub serve-alone-refused : (ed : Edition) (body : List ℕ) → Bytes body → (a : Told)
      → ((serve_told (serve_answer n ss cs ed body [] out) ≡ a) × Gated (mode_of n.cache.flags) a.number)
      ↔ Refusal (spoken (mode_of n.cache.flags) ed) body a
  serve-alone-refused ed body b a =
      let e = serve-refused-exactly ed body [] b (λ i. omega arith) a in (λ p. first (e.0 p), λ h. e.1 (asking h))
    where
      first : ServeRefuses (mode_of n.cache.flags) ed body [] a
          → Refusal (spoken (mode_of n.cache.flags) ed) body a
      first (asking h) = h
      first (declining w h) = absurd (refusal-within h (nothing-means (spoken (mode_of n.cache.flags) V12)))

  -- ask: the same
  pub ask_fixed : (ed : Edition) (body : List ℕ) (x : Rpc) → Within (spoken (mode_of n.cache.flags) ed) body x
      → (ask_answer n ss cs ed body out ≡ asked (answer (rpc_bytes (ask_of (offers_of x) (gateway_in n ss cs))) out))
      × (ask_left n ss cs ed body out ≡ written (rpc_bytes (ask_of (offers_of x) (gateway_in n ss cs))) out)
  ask_fixed ed body x w = rw (← offered-means w.means) (ask-says n ss cs out fine ed body (taken w))

  pub ask-exactly : (ed : Edition) (body : List ℕ) (x : Rpc) → Within (spoken (mode_of n.cache.flags) ed) body x
      → NamesExactly (lacking (gateway_in n ss cs) (once (offers_of x)))
      (request (lacking (gateway_in n ss cs) (once (offers_of x)))) out (ask_told (ask_answer n ss cs ed body out))
      (ask_left n ss cs ed body out)
  unfolding ask_of ask_bytes
  ask-exactly ed body x w =
      let ids = lacking (gateway_in n ss cs) (once (offers_of x)) in
      let e : unseen_of n ss (offered (mode_of n.cache.flags) body) ≡ ids =
      unseen_gateway n ss cs (offered (mode_of n.cache.flags) body)
      ∙ ap (lacking (gateway_in n ss cs)) (offered-once w.means) in
      let f = ask_fixed ed body x w in
      rw (f.0, f.1)
      (names-exactly ids (request ids) out (λ a. ask_told (asked a)) (λ k. refl) (λ k. refl)
      (λ there. rw e at (request-within n ss w (λ z. there (sym e ∙ z)))))

  pub ask-refused-exactly : (ed : Edition) (body : List ℕ) → Bytes body → (a : Told)
      → ((ask_told (ask_answer n ss cs ed body out) ≡ a) × Gated (mode_of n.cache.flags) a.number)
      ↔ Refusal (spoken (mode_of n.cache.flags) ed) body a
  unfolding ask_answer
  ask-refused-exactly ed body b a =
      let w = answer (ask_bytes n ss body) out in
      rw fine (body_refused (spoken (mode_of n.cache.flags) ed) body b (λ c. ask_told (ask_on (asked w) c))
      (λ why. refl) (ask_other w) a)

  advertise-long : (topic : List ℕ) (windows : ℕ) → 1024 < length topic
      → (advertise_told (advertise_answer n ss cs topic windows out) ≡ told topic-too_long (length topic ∷ []))
      × (advertise_left n ss cs topic windows out ≡ out)
  unfolding advertise_answer advertise_left
  advertise-long topic windows h = rw (fine, lt-ltb 1024 (length topic) h) (refl, refl)

  advertise-names : (topic : List ℕ) (windows : ℕ) → Bytes cs → length topic ≤ 1024
      → NamesExactly (told_of topic windows (gateway_in n ss cs))
      (advertisement topic (told_of topic windows (gateway_in n ss cs))) out
      (advertise_told (advertise_answer n ss cs topic windows out)) (advertise_left n ss cs topic windows out)
  unfolding advertise_of advertise_bytes
  advertise-names topic windows bytes h =
      let ids = told_of topic windows (gateway_in n ss cs) in
      let e : told_in n cs topic windows ≡ ids = told-gateway n ss cs topic windows fine in
      let f = advertise-says n ss cs out fine topic windows h in
      rw (f.0, f.1)
      (names-exactly ids (advertisement topic ids) out (λ a. advertise_told (advertised a)) (λ k. refl) (λ k. refl)
      (λ there. rw e at (advertise-means n ss cs topic windows fine bytes h (λ z. there (sym e ∙ z)))))

  -- advertise
  pub advertise-exactly : (topic : List ℕ) (windows : ℕ) → Bytes cs
      → AdvertiseExactly topic (told_of topic windows (gateway_in n ss cs)) out
      (advertise_told (advertise_answer n ss cs topic windows out)) (advertise_left n ss cs topic windows out)
  advertise-exactly topic windows bytes =
      record {
        too_long = advertise-long topic windows;
        names = advertise-names topic windows bytes;
        not-text = λ no_text. sym (told-gateway n ss cs topic windows fine)
            ∙ (no-topic-no_bytes n ss cs topic windows fine bytes no_text).0;
      }
