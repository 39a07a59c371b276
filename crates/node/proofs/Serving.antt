-- Serving, case by case over plain variables: a message's place in a table, the messages that are cached, and what the reply is.
use Prim.Native.Nat.{ℕ, ◌+◌, ◌-◌, ◌*◌, ◌≤◌, ◌<◌, min}
use mathlib.Core.Path.{◌≡◌, refl, sym, ap, ◌∙◌}
use mathlib.Core.List.{List, [], ◌∷◌, ◌++◌, map, append-nil}
use mathlib.Core.Bool.{cond}
use native.Mathlib.Omega.{arith}
use native.Mathlib.Nat.{zero-add}
use lib.ListN.{length, take, drop, get_or}
use lib.Seq.{sets}
use lib.Dec.{ltb}
use borrow.Author.Tests.{lt-ltb, le-ltb, ltb-true}
use Rattle.std.specs.Prelude.{true, Result, Ok, Err}
use Rattle.basis.specs.declared.Mode.{Mode}
use Rattle.basis.specs.declared.Edition.{Edition}
use Rattle.basis.specs.declared.Edition.TheVariants.{V12}
use Rattle.basis.specs.Dialect.{mode_of, spoken}
use Rattle.basis.specs.Cases.{either}
use Rattle.rows.specs.declared.Ring.{Ring}
use Rattle.rows.specs.Rows.{place_of}
use Rattle.rows.specs.RowsLaws.{length_ring, place-lt}
use Rattle.rows.specs.Ids.{index_of}
use Rattle.rows.specs.Store.{id_at, ids_in, Sound}
use Rattle.rows.specs.StoreLaws.{row_fits}
use Rattle.protobuf.specs.declared.Refusal.{Refusal as Placed}
use Rattle.protobuf.specs.Walk.{between}
use Rattle.protobuf.specs.Encode.{bytes_field}
use Rattle.rpc.specs.Encode.{repeated}
use Rattle.encode.specs.Puts.{Puts}
use Rattle.schema.specs.Accept.{accept_of}
use Rattle.node.specs.Parts.{part_at, parts_in, Parts, at_path, once, without, fitting}
use Rattle.node.specs.PartsLaws.{length-parts, parts_from, parts-end, parts-take, no-parts, parts_none, fitting-room}
use Rattle.mcache.specs.declared.MessageCache.{MessageCache}
use Rattle.mcache.specs.State.{message_in, Usable, ring_of}
use Rattle.node.specs.declared.Node.{Node}
use Rattle.basis.specs.declared.Fault.{Fault}
use Rattle.node.specs.declared.Reply.{Reply as Counts}
use Rattle.node.specs.declared.ServeError.TheVariants as serve
use Rattle.node.specs.declared.ServeError.{ServeError}
use Rattle.node.specs.Calls.{lent_of, when_taken, wanted, unwanted_in, remaining, rows_for, cached_of, room_of, served_of, reply_bytes, reply_to, serve_on, serve_answer, serve_left}
use Rattle.node.specs.ReplyLaws as reply
use Rattle.node.proofs.Asking.{put-fewer, put-within, put-goes}

-- ---- the place of a message
pub row-place : (ring : Ring) (row p : ℕ) → (ring.start ≤ ring.cap) × (ring.count ≤ ring.cap) × (ring.cap ≤ 64) → row < ring.count → p ≡ place_of ring row → p < 64
row-place ring row p (a, b, d) h e = let l = place-lt ring row a (omega arith) in omega arith

module _ (lens : List ℕ) (ring : Ring) (row : ℕ) (t : List ℕ) (n : ℕ) where
  abbrev Added : ℕ → List ℕ → Type 0
  Added r after =
      (r ≡ cond (ltb row ring.count) (n + 1) n)
      × (after ≡ cond (ltb row ring.count) (sets t (n * 2) ((place_of ring row * 4096) ∷ (place_of ring row * 4096 + get_or lens (place_of ring row) 0) ∷ [])) t)

  pub message-there : row < ring.count → (p r : ℕ) (after : List ℕ) → p ≡ place_of ring row → r ≡ n + 1 → after ≡ sets t (n * 2) ((p * 4096) ∷ (p * 4096 + get_or lens p 0) ∷ []) → Added r after
  message-there h p r after e er ea = simp (lt-ltb row ring.count h) (er, ea ∙ rw e)

  pub message-not : ring.count ≤ row → Added n t
  message-not h = simp (le-ltb row ring.count h) (refl, refl)

-- ---- the messages in `to`, and then those that are cached of the ids in `from` from i on, are all of them
pub record Found (lens : List ℕ) (ring : Ring) (held : List (List ℕ)) (s from : List ℕ) (n : ℕ) (to : List ℕ) (k i : ℕ) : Type 0 where
  pub fewer : k ≤ i
  pub parts : (cs : List ℕ) → length cs ≡ ring.cap * 4096 → Parts cs to k
  pub goes : (cs : List ℕ) → parts_in cs to k ++ map (message_in lens cs) (rows_for ring held (drop i (parts_in s from n))) ≡ map (message_in lens cs) (rows_for ring held (parts_in s from n))

pub found_all : (lens : List ℕ) (ring : Ring) (held : List (List ℕ)) (s from : List ℕ) (n : ℕ) (to : List ℕ) → Found lens ring held s from n to 0 0
found_all lens ring held s from n to =
    record {
      fewer = omega arith;
      parts = λ cs h. parts_none cs to;
      goes = λ cs. ap (λ (l : List (List ℕ)). l ++ map (message_in lens cs) (rows_for ring held (parts_in s from n))) (no-parts cs to);
    }

-- a message's place, as the code has it
message-between : (lens cs : List ℕ) (p : ℕ) → message_in lens cs p ≡ between cs (p * 4096) (p * 4096 + get_or lens p 0)
unfolding message_in
message-between lens cs p = let e : (p * 4096 + get_or lens p 0) - p * 4096 ≡ get_or lens p 0 = omega arith in rw e

held-turn : (lens cs : List ℕ) (ring : Ring) (row : ℕ) (held : List (List ℕ)) (id : List ℕ) (ids : List (List ℕ)) → length held ≡ ring.count → row ≡ index_of id held
    → map (message_in lens cs) (rows_for ring held (id ∷ ids)) ≡ cond (ltb row ring.count) (between cs (place_of ring row * 4096) (place_of ring row * 4096 + get_or lens (place_of ring row) 0) ∷ map (message_in lens cs) (rows_for ring held ids)) (map (message_in lens cs) (rows_for ring held ids))
unfolding rows_for
held-turn lens cs ring row held id ids l e =
    let q : ltb (index_of id held) ring.count ≡ ltb (index_of id held) (length held) = ap (ltb (index_of id held)) (sym l) in
    rw (e, q)
    (either (ltb (index_of id held) (length held))
    (λ y. simp y (ap (λ (x : List ℕ). x ∷ map (message_in lens cs) (rows_for ring held ids)) (message-between lens cs (place_of ring (index_of id held)))))
    (λ n. simp n))

module _ (lens : List ℕ) (ring : Ring) (ilens store s from : List ℕ) (n : ℕ) (to : List ℕ) (k i : ℕ) (g : Found lens ring (ids_in 128 ring ilens store) s from n to k i) where
  abbrev held : List (List ℕ)
  held = ids_in 128 ring ilens store

  held-count : length held ≡ ring.count
  unfolding ids_in
  held-count = length_ring (id_at 128 ilens store) ring

  pub found-room : (m : ℕ) → i < n → n * 2 ≤ m → length to ≡ m → (k + 1) * 2 ≤ length to
  found-room m h l e = let f = g.fewer in omega arith

  pub found_turn : i < n → Sound 128 ring ilens store → ((j : ℕ) → j < ring.count → get_or lens (place_of ring j) 0 ≤ 4096) →
      (k + 1) * 2 ≤ length to → (row : ℕ) → row ≡ 0 + index_of (part_at s from i) (drop 0 held) → (r : ℕ) (after : List ℕ) →
      Added lens ring row to k r after → Found lens ring held s from n after r (i + 1)
  found_turn h ok short room row e r after (er, ea) =
      let f = g.fewer in
      let p = place_of ring row in
      let a = p * 4096 in
      let z = p * 4096 + get_or lens p 0 in
      let m = put-fewer to k a z room (ltb row ring.count) r after er ea in
      record {
        fewer = omega arith;
        parts = λ cs l. put-within to k a z room (ltb row ring.count) r after er ea cs (g.parts cs l)
            (λ y. let q = ltb-true row ring.count y in
            let w = ok.rows in
            let b = place-lt ring row w.starts (omega arith) in
            (omega arith, row_fits 4096 ring.cap p (get_or lens p 0) (length cs) b (short row q) (omega arith)));
        goes = λ cs. put-goes to k a z room (ltb row ring.count) r after er ea cs _ _ _
            (ap (λ (l : List (List ℕ)). map (message_in lens cs) (rows_for ring held l)) (parts_from s from n i h)
            ∙ held-turn lens cs ring row held (part_at s from i) (drop (i + 1) (parts_in s from n)) held-count (e ∙ zero-add (index_of (part_at s from i) held)))
            (g.goes cs);
      }

  pub found-done : n ≤ i → (cs : List ℕ) → parts_in cs to k ≡ map (message_in lens cs) (rows_for ring held (parts_in s from n))
  unfolding rows_for
  found-done h cs =
      sym (ap (λ (l : List (List ℕ)). parts_in cs to k ++ map (message_in lens cs) (rows_for ring held l)) (parts-end s from n i h) ∙ append-nil (parts_in cs to k)) ∙ g.goes cs

-- ---- the cached messages that a body asks for
pub kept-size : (c : MessageCache) (cs : List ℕ) → Usable c cs → length cs ≤ 262144
kept-size c cs k = let r = k.rows in omega arith

-- those that it names, but for those that a second one declines
pub rest-is : {mode given : Mode} → mode ≡ given → (body second first named : List ℕ) (k r : ℕ) → parts_in body first k ≡ once (at_path given (3 ∷ 2 ∷ 1 ∷ []) body)
    → parts_in body named r ≡ without (unwanted_in mode second) (parts_in body first k) → parts_in body named r ≡ remaining given body second
unfolding remaining wanted
rest-is same body second first named k r f u = u ∙ rw (same, f)

pub messages_are : (c : MessageCache) (cs body second named found : List ℕ) (r m : ℕ) → parts_in body named r ≡ remaining (mode_of c.flags) body second
    → ((st : List ℕ) → parts_in st found m ≡ map (message_in c.len st) (rows_for (ring_of c) (ids_in 128 (ring_of c) c.id_len c.ids) (parts_in body named r)))
    → cached_of c cs (remaining (mode_of c.flags) body second) ≡ parts_in cs found m
unfolding cached_of
messages_are c cs body second named found r m f u =
    sym (u cs ∙ ap (λ (l : List (List ℕ)). map (message_in c.len cs) (rows_for (ring_of c) (ids_in 128 (ring_of c) c.id_len c.ids) l)) f)

-- ---- the reply to them, where they are the m parts of a store that a table has
module _ (ms : List (List ℕ)) (out : List ℕ) where
  abbrev pub Replies : Result Counts ServeError → List ℕ → Type 0
  Replies r after = (r ≡ reply_to ms out) × (after ≡ sets out 0 (reply_bytes ms out))

no-reply : (l : List (List ℕ)) (out : List ℕ) → length l ≡ 0 → Replies l out (Ok (record { bytes = 0; messages = 0; left = 0 })) out
unfolding reply_bytes served_of fitting
no-reply [] out h = (refl, refl)
no-reply (x ∷ l) out h = absurd (omega arith)

-- the first does not fit
first_short : (l : List (List ℕ)) (out : List ℕ) → served_of l out ≡ 0 → (length l ≡ 0 → ⊥) → (needed : ℕ) → needed ≡ length (repeated (bytes_field 2) (take 1 l)) → Replies l out (Err (serve.Room needed)) out
first_short [] out z h needed e = absurd (h refl)
first_short (x ∷ l) out z h needed e = rw (reply.reply-short x l out z, reply.reply_bytes_lem (x ∷ l) out, z) (ap (λ (k : ℕ). Err (serve.Room k)) (e ∙ ap length (append-nil (bytes_field 2 x))), refl)

some_fit : (l : List (List ℕ)) (out : List ℕ) → (length l ≡ 0 → ⊥) → (served_of l out ≡ 0 → ⊥) → Ok (record { bytes = length (reply_bytes l out); messages = served_of l out; left = length l - served_of l out }) ≡ reply_to l out
some_fit [] out h n = absurd (h refl)
some_fit (x ∷ l) out h n = sym (reply.reply-some x l out n)

module _ (ms : List (List ℕ)) (cs t : List ℕ) (m : ℕ) (out : List ℕ) (q : ms ≡ parts_in cs t m) where
  many : length ms ≡ m
  many = ap length q ∙ length-parts cs t m

  pub reply-none : m ≡ 0 → Replies ms out (Ok (record { bytes = 0; messages = 0; left = 0 })) out
  reply-none z = no-reply ms out (many ∙ z)

  module _ (some : m ≡ 0 → ⊥) where
    not_none : length ms ≡ 0 → ⊥
    not_none y = some (sym many ∙ y)

    pub one-part : 1 ≤ m
    one-part = omega (arith, some)

    module _ (room w : ℕ) (er : room ≡ min (length out) 65536) (ew : w ≡ fitting 2 room (parts_in cs t m)) where
      served-is : served_of ms out ≡ w
      unfolding served_of room_of
      served-is = sym (ew ∙ ap (λ (n : ℕ). fitting 2 n (parts_in cs t m)) er ∙ ap (fitting 2 (min (length out) 65536)) (sym q))

      pub reply-short : w ≡ 0 → (none after : List ℕ) (needed : ℕ) → Puts none 0 (repeated (bytes_field 2) (parts_in cs t 1)) after needed → Replies ms out (Err (serve.Room needed)) out
      reply-short z none after needed p =
          first_short ms out (served-is ∙ z) not_none needed
          (p.ends
          ∙ zero-add (length (repeated (bytes_field 2) (parts_in cs t 1)))
          ∙ ap (λ (l : List (List ℕ)). length (repeated (bytes_field 2) l)) (sym (ap (take 1) q ∙ parts-take cs t 1 m one-part)))

      -- those that fit
      pub reply-put : (w ≡ 0 → ⊥) → w ≤ m → (after : List ℕ) (end : ℕ) → Puts out 0 (repeated (bytes_field 2) (parts_in cs t w)) after end → Replies ms out (Ok (record { bytes = end; messages = w; left = m - w })) after
      reply-put n l after end p =
          let b : repeated (bytes_field 2) (parts_in cs t w) ≡ reply_bytes ms out = rw (reply.reply_bytes_lem ms out, served-is) (ap (repeated (bytes_field 2)) (sym (ap (take w) q ∙ parts-take cs t w m l))) in
          let f : length (repeated (bytes_field 2) (parts_in cs t w)) ≤ room = rw (← (parts-take cs t w m l), ew) (fitting-room 2 room (parts_in cs t m)) in
          let e : end ≡ length (reply_bytes ms out) = p.ends ∙ zero-add (length (repeated (bytes_field 2) (parts_in cs t w))) ∙ ap length b in (
            rw (e, ← served-is, ← many) (some_fit ms out not_none (λ y. n (sym served-is ∙ y))),
            p.holds (omega arith) ∙ ap (sets out 0) b,
          )

-- ---- the whole call: the lent node and its stores, then the bodies, the second in 1.2
module _ (node : Node) (ss cs : List ℕ) (ed : Edition) (body second out : List ℕ) where
  abbrev Serves : Result Counts ServeError → List ℕ → Type 0
  Serves r after = (r ≡ serve_answer node ss cs ed body second out) × (after ≡ serve_left node ss cs ed body second out)

  pub serves-faulty : (why : Fault) → Err why ≡ lent_of node ss cs → Serves (Err (serve.Faulty why)) out
  unfolding serve_answer serve_left
  serves-faulty why e = rw (← e) (refl, refl)

  module _ (fine : Ok tt ≡ lent_of node ss cs) {mode : Mode} (same : mode ≡ mode_of node.cache.flags) where
    pub serves-refused : (why : Placed) → Err why ≡ accept_of (spoken mode ed) body → Serves (Err (serve.Refused why)) out
    unfolding serve_answer serve_left
    serves-refused why e = rw (← fine, ← same, ← e) (refl, refl)

    module _ (ok : Ok tt ≡ accept_of (spoken mode ed) body) where
      pub serves-declined : (why : Placed) → Err why ≡ accept_of (spoken mode V12) second → Serves (Err (serve.Refused why)) out
      unfolding serve_answer serve_left
      serves-declined why e = rw (← fine, ← same, ← ok, ← e) (refl, refl)

      pub serves-done : Ok tt ≡ accept_of (spoken mode V12) second → (r : Result Counts ServeError) (after : List ℕ)
          → Replies (cached_of node.cache cs (remaining (mode_of node.cache.flags) body second)) out r after → Serves r after
      unfolding serve_answer serve_left
      serves-done e r after w =
          let body_is : accept_of (spoken (mode_of node.cache.flags) ed) body ≡ Ok tt = rw same at (sym ok) in
          let second_is : accept_of (spoken (mode_of node.cache.flags) V12) second ≡ Ok tt = rw same at (sym e) in
          rw (← fine, body_is, second_is) w
