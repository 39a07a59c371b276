-- Asking, case by case over plain variables: a part more in a table where it is to be there, the ids that are not seen, and what the request is.
use Prim.Native.Nat.{ℕ, ◌+◌, ◌*◌, ◌≤◌, ◌<◌}
use mathlib.Core.Path.{◌≡◌, refl, sym, ap, ◌∙◌}
use mathlib.Core.List.{List, [], ◌∷◌, ◌++◌, append_assoc, append-nil}
use mathlib.Core.Bool.{Bool, true, false, cond, not}
use native.Mathlib.Omega.{arith}
use native.Mathlib.Nat.{zero-add, sub-zero}
use lib.ListN.{length, drop, get_or, length-append}
use lib.Seq.{sets, take-length}
use Rattle.std.specs.Prelude.{Result, Ok, Err}
use Rattle.basis.specs.declared.Mode.{Mode}
use Rattle.basis.specs.declared.Edition.{Edition}
use Rattle.basis.specs.Dialect.{mode_of, spoken}
use Rattle.basis.specs.Cases.{either}
use Rattle.basis.specs.Writing.{answer, written}
use Rattle.basis.specs.Lists.{answer-fits, answer-short, written-fits, written-short}
use Rattle.rows.specs.Ids.{among}
use Rattle.rows.specs.Store.{ids_in}
use Rattle.peer_id.specs.Uvarint.{uvarint}
use Rattle.protobuf.specs.declared.Refusal.{Refusal as Placed}
use Rattle.protobuf.specs.Walk.{between}
use Rattle.protobuf.specs.Encode.{tag, bytes_field}
use Rattle.protobuf.specs.EncodeLaws.{bytes_field-length}
use Rattle.rpc.specs.Rpc.{Rpc}
use Rattle.rpc.specs.Encode.{encode_rpc}
use Rattle.encode.specs.Puts.{Puts, Fits, puts_same, puts_append, fits-same, fits-first, fits_next}
use Rattle.schema.specs.Accept.{accept_of}
use Rattle.node.specs.Parts.{part_at, parts_in, Parts, at_path, once, without}
use Rattle.node.specs.PartsLaws.{length-parts, parts_from, parts-end, parts_more, parts-within_more, no-parts, parts_none}
use Rattle.node.specs.State.{seen_ring}
use Rattle.node.specs.declared.Node.{Node}
use Rattle.basis.specs.declared.Fault.{Fault}
use Rattle.node.specs.declared.AskError.TheVariants as ask
use Rattle.node.specs.declared.AskError.{AskError}
use Rattle.node.specs.Gateway.{request}
use Rattle.node.specs.Calls.{lent_of, bytes_for, offered, known_in, unseen_from, unseen_of, ask_bytes, asked, ask_answer, ask_left}
use Rattle.node.proofs.Writes.{field_is}
use Rattle.node.proofs.Telling.{bytes-some}

-- ---- a part goes into a table, or it does not
pub add-there : (there : Bool) (n r : ℕ) (t after x : List ℕ) → there ≡ true → r ≡ n + 1 → after ≡ x → (r ≡ cond there (n + 1) n) × (after ≡ cond there x t)
add-there there n r t after x h e f = simp h (e, f)

pub add-not : (there : Bool) (n : ℕ) (t x : List ℕ) → there ≡ false → (n ≡ cond there (n + 1) n) × (t ≡ cond there x t)
add-not there n t x h = simp h (refl, refl)

module _ (t : List ℕ) (k a e : ℕ) (room : (k + 1) * 2 ≤ length t) (there : Bool) (r : ℕ) (after : List ℕ) (er : r ≡ cond there (k + 1) k) (ea : after ≡ cond there (sets t (k * 2) (a ∷ e ∷ [])) t) where
  -- the table is then
  record Put : Type 0 where
    pub count : r ≡ k + 1
    pub table : after ≡ sets t (k * 2) (a ∷ e ∷ [])

  when_there : there ≡ true → Put
  when_there h = record { count = er ∙ simp h; table = ea ∙ simp h }

  when_not : there ≡ false → (r ≡ k) × (after ≡ t)
  when_not h = (er ∙ simp h, ea ∙ simp h)

  pub put-fewer : r ≤ k + 1
  put-fewer = either there (λ h. let p = (when_there h).count in omega arith) (λ h. let p = (when_not h).0 in omega arith)

  -- the parts lie within s
  pub put-within : (s : List ℕ) → Parts s t k → (there ≡ true → (a ≤ e) × (e ≤ length s)) → Parts s after r
  put-within s p h =
      either there
      (λ y. let w = when_there y in rw (w.count, w.table) (parts-within_more t k a e room s p (h y).0 (h y).1))
      (λ n. let w = when_not n in rw (w.0, w.1) p)

  -- the parts in the table, and then the rest, are what they were
  pub put-goes : (s : List ℕ) (rest next all : List (List ℕ)) → rest ≡ cond there (between s a e ∷ next) next → parts_in s t k ++ rest ≡ all → parts_in s after r ++ next ≡ all
  put-goes s rest next all f g =
      either there
      (λ y. let w = when_there y in
      rw (w.count, w.table, parts_more t k a e room s)
      (append_assoc (parts_in s t k) (between s a e ∷ []) next
      ∙ ap (λ (l : List (List ℕ)). parts_in s t k ++ l) (sym (f ∙ simp y))
      ∙ g))
      (λ n. let w = when_not n in rw (w.0, w.1) (ap (λ (l : List (List ℕ)). parts_in s t k ++ l) (sym (f ∙ simp n)) ∙ g))

-- ---- the parts in `to`, and then those that f takes of the parts of `from` from i on, are all that f takes of `from`
pub record Picked (f : List (List ℕ) → List (List ℕ)) (s from : List ℕ) (n : ℕ) (to : List ℕ) (k i : ℕ) : Type 0 where
  pub fewer : k ≤ i
  pub parts : Parts s to k
  pub goes : parts_in s to k ++ f (drop i (parts_in s from n)) ≡ f (parts_in s from n)

pub picked_all : (f : List (List ℕ) → List (List ℕ)) (s from : List ℕ) (n : ℕ) (to : List ℕ) → Picked f s from n to 0 0
picked_all f s from n to =
    record {
      fewer = omega arith;
      parts = parts_none s to;
      goes = ap (λ (l : List (List ℕ)). l ++ f (parts_in s from n)) (no-parts s to);
    }

module _ (f : List (List ℕ) → List (List ℕ)) (s from : List ℕ) (n : ℕ) (to : List ℕ) (k i : ℕ) (g : Picked f s from n to k i) where
  pub picked_room : (m : ℕ) → i < n → n * 2 ≤ m → length to ≡ m → (k + 1) * 2 ≤ length to
  picked_room m h l e = let f = g.fewer in omega arith

  -- one part more is tested: f takes it where it is to be there
  pub picked_turn : i < n → Parts s from n → (k + 1) * 2 ≤ length to → (there : Bool)
      → f (part_at s from i ∷ drop (i + 1) (parts_in s from n)) ≡ cond there (part_at s from i ∷ f (drop (i + 1) (parts_in s from n))) (f (drop (i + 1) (parts_in s from n)))
      → (r : ℕ) (after : List ℕ) → r ≡ cond there (k + 1) k → after ≡ cond there (sets to (k * 2) (get_or from (i * 2) 0 ∷ get_or from (i * 2 + 1) 0 ∷ [])) to → Picked f s from n after r (i + 1)
  picked_turn h p room there e r after er ea =
      let q = g.fewer in
      let a = get_or from (i * 2) 0 in
      let z = get_or from (i * 2 + 1) 0 in
      let w = p.within i h in
      let m = put-fewer to k a z room there r after er ea in
      record {
        fewer = omega arith;
        parts = put-within to k a z room there r after er ea s g.parts (λ y. w);
        goes =
            put-goes to k a z room there r after er ea s (f (drop i (parts_in s from n))) (f (drop (i + 1) (parts_in s from n))) (f (parts_in s from n))
            (ap f (parts_from s from n i h) ∙ e) g.goes;
      }

  pub picked_done : f [] ≡ [] → n ≤ i → parts_in s to k ≡ f (parts_in s from n)
  picked_done e h =
      sym (ap (λ (l : List (List ℕ)). parts_in s to k ++ l) (ap f (parts-end s from n i h) ∙ e) ∙ append-nil (parts_in s to k)) ∙ g.goes

-- the ids that are not seen
module _ (flags : ℕ) (seen : List (List ℕ)) where
  pub unseen_none : unseen_from flags seen [] ≡ []
  unfolding unseen_from
  unseen_none = refl

  pub unseen_turn : (id : List ℕ) (ids : List (List ℕ)) (there : Bool) → there ≡ not (known_in flags seen id)
      → unseen_from flags seen (id ∷ ids) ≡ cond there (id ∷ unseen_from flags seen ids) (unseen_from flags seen ids)
  unfolding unseen_from
  unseen_turn id ids there e =
      either (known_in flags seen id) (λ y. let z : there ≡ false = e ∙ simp y in simp (y, z)) (λ n. let z : there ≡ true = e ∙ simp n in simp (n, z))

-- those that are not among others
module _ (others : List (List ℕ)) where
  pub without_end : without others [] ≡ []
  unfolding without
  without_end = refl

  pub without-turn : (id : List ℕ) (ids : List (List ℕ)) (there : Bool) → there ≡ not (among id others)
      → without others (id ∷ ids) ≡ cond there (id ∷ without others ids) (without others ids)
  unfolding without
  without-turn id ids there e =
      either (among id others) (λ y. let z : there ≡ false = e ∙ simp y in simp (y, z)) (λ n. let z : there ≡ true = e ∙ simp n in simp (n, z))

-- ---- a request: a control with one IWANT, whose ids r were measured
module _ (at : ℕ) (r x : List ℕ) (y : x ≡ bytes_field 3 (bytes_field 2 r)) (h : Fits at x) where
  lengths : length x ≡ length (tag 3 2) + length (uvarint (length (bytes_field 2 r))) + (length (tag 2 2) + length (uvarint (length r)) + length r)
  lengths = ap length y ∙ bytes_field-length 3 (bytes_field 2 r) ∙ ap (λ (n : ℕ). length (tag 3 2) + length (uvarint (length (bytes_field 2 r))) + n) (bytes_field-length 2 r)

  pub ids_fit_lem : Fits 0 r
  ids_fit_lem = omega (arith, lengths)

  module _ (none none₁ : List ℕ) (len : ℕ) (m : Puts none 0 r none₁ len) where
    len_is : len ≡ length r
    len_is = m.ends ∙ zero-add (length r)

    entry-is : (tag 2 2 ++ uvarint len) ++ r ≡ bytes_field 2 r
    entry-is = sym (field_is 2 len r len_is)

    pub entry-head-fits : Fits 0 (tag 2 2 ++ uvarint len)
    entry-head-fits = omega (arith, lengths, length-append (tag 2 2) (uvarint len), ap (λ (n : ℕ). length (uvarint n)) len_is)

    module _ (before none₂ : List ℕ) (end : ℕ) (p : Puts before 0 (tag 2 2 ++ uvarint len) none₂ end) where
      entry-len : end + len ≡ length (bytes_field 2 r)
      entry-len = omega (arith, p.ends, len_is, length-append (tag 2 2 ++ uvarint len) r, ap length entry-is)

      pub entry-fits : end + len ≤ 4611686018427387904
      entry-fits = omega (arith, entry-len, lengths, bytes_field-length 2 r)

      whole_is : (tag 3 2 ++ uvarint (end + len)) ++ ((tag 2 2 ++ uvarint len) ++ r) ≡ x
      whole_is = rw entry-is (sym (field_is 3 (end + len) (bytes_field 2 r) (entry-len))) ∙ sym y

      whole-fits : Fits at ((tag 3 2 ++ uvarint (end + len)) ++ ((tag 2 2 ++ uvarint len) ++ r))
      whole-fits = fits-same at _ _ (sym whole_is) h

      pub control-head-fits : Fits at (tag 3 2 ++ uvarint (end + len))
      control-head-fits = fits-first at (tag 3 2 ++ uvarint (end + len)) ((tag 2 2 ++ uvarint len) ++ r) whole-fits

      module _ (out o₁ : List ℕ) (i : ℕ) (q : Puts out at (tag 3 2 ++ uvarint (end + len)) o₁ i) where
        rest-fits : Fits i ((tag 2 2 ++ uvarint len) ++ r)
        rest-fits = fits_next out o₁ at i (tag 3 2 ++ uvarint (end + len)) ((tag 2 2 ++ uvarint len) ++ r) q whole-fits

        pub want_head-fits : Fits i (tag 2 2 ++ uvarint len)
        want_head-fits = fits-first i (tag 2 2 ++ uvarint len) r rest-fits

        module _ (o₂ : List ℕ) (j : ℕ) (v : Puts o₁ i (tag 2 2 ++ uvarint len) o₂ j) where
          pub want_ids_fit : Fits j r
          want_ids_fit = fits_next o₁ o₂ i j (tag 2 2 ++ uvarint len) r v rest-fits

          pub request_puts : (after : List ℕ) (last : ℕ) → Puts o₂ j r after last → Puts out at x after last
          request_puts after last w =
              puts_same out at _ _ after last whole_is
              (puts_append out o₁ after at i last (tag 3 2 ++ uvarint (end + len)) ((tag 2 2 ++ uvarint len) ++ r) q
              (puts_append o₁ o₂ after i j last (tag 2 2 ++ uvarint len) r v w))

-- ---- the ids that a body names at a path
pub whole-body : (s : List ℕ) → between s 0 (length s) ≡ s
whole-body s = rw (sub-zero (length s)) (take-length s)

pub few_as : {mode given : Mode} → mode ≡ given → (path body : List ℕ) → length (at_path mode path body) ≤ 512 → length (at_path given path body) ≤ 512
few_as same path body h = rw (← same) h

-- in the mode that is given, which the code has found
module _ {mode given : Mode} (same : mode ≡ given) (path body : List ℕ) (few : length (at_path given path body) ≤ 512) where
  pub named-room : (0 + length (at_path mode path (between body 0 (length body)))) * 2 ≤ 1024
  named-room = rw (whole-body body, same) (omega arith)

  module _ (t after : List ℕ) (n : ℕ) (e : parts_in body after n ≡ parts_in body t 0 ++ at_path mode path (between body 0 (length body))) where
    pub named-is : parts_in body after n ≡ at_path given path body
    named-is = e ∙ rw (no-parts body t, whole-body body, same)

    pub named-few : n ≤ 512
    named-few = omega (arith, length-parts body after n, ap length named-is)

    -- each at its first mention
    pub first-is : (to : List ℕ) (k : ℕ) → parts_in body to k ≡ once (parts_in body after n) → parts_in body to k ≡ once (at_path given path body)
    first-is to k f = f ∙ ap once named-is

    -- and no more of them
    pub first-few : (k m : ℕ) → k ≤ n → m ≤ k → m ≤ 512
    first-few k m h l = let f = named-few in omega arith

-- ---- what is answered and left
-- without ids there are no bytes
bytes-none : (l : List (List ℕ)) (x : Rpc) → length l ≡ 0 → bytes_for l x ≡ []
bytes-none [] x h = refl
bytes-none (i ∷ l) x h = absurd (omega arith)

module _ (node : Node) (ss body out : List ℕ) where
  abbrev Answers : Result ℕ AskError → List ℕ → Type 0
  Answers r after = (r ≡ asked (answer (ask_bytes node ss body) out)) × (after ≡ written (ask_bytes node ss body) out)

  module _ (first named : List ℕ) (k m : ℕ) (f : parts_in body first k ≡ once (at_path (mode_of node.cache.flags) (3 ∷ 1 ∷ 2 ∷ []) body)) (u : parts_in body named m ≡ unseen_from node.cache.flags (ids_in 129 (seen_ring node) node.seen.len ss) (parts_in body first k)) where
    abbrev ids : List (List ℕ)
    ids = parts_in body named m

    lacking-is : unseen_of node ss (offered (mode_of node.cache.flags) body) ≡ ids
    unfolding unseen_of offered
    lacking-is = sym (u ∙ ap (unseen_from node.cache.flags (ids_in 129 (seen_ring node) node.seen.len ss)) f)

    bytes_are : ask_bytes node ss body ≡ bytes_for ids (request ids)
    unfolding ask_bytes
    bytes_are = ap (λ (l : List (List ℕ)). bytes_for l (request l)) lacking-is

    pub ask-none : m ≡ 0 → Answers (Ok 0) out
    ask-none z =
        let e : ask_bytes node ss body ≡ [] = bytes_are ∙ bytes-none ids (request ids) (length-parts body named m ∙ z) in
        rw e (sym (ap asked (answer-fits [] out (omega arith))), sym (written-fits [] out (omega arith)))

    module _ (some : m ≡ 0 → ⊥) (none after : List ℕ) (needed : ℕ) (p : Puts none 0 (encode_rpc (request ids)) after needed) where
      ask-some : ask_bytes node ss body ≡ encode_rpc (request ids)
      ask-some = bytes_are ∙ bytes-some ids (request ids) (λ z. some (sym (length-parts body named m) ∙ z))

      measured : needed ≡ length (ask_bytes node ss body)
      measured = p.ends ∙ zero-add (length (encode_rpc (request ids))) ∙ sym (ap length ask-some)

      pub ask-short : length out < needed → Answers (Err (ask.Room needed)) out
      ask-short h =
          let l : length out < length (ask_bytes node ss body) = omega (arith, measured) in
          (ap (λ (k : ℕ). Err (ask.Room k)) measured ∙ sym (ap asked (answer-short (ask_bytes node ss body) out l)), sym (written-short (ask_bytes node ss body) out l))

      pub ask-put : needed ≤ length out → (last : List ℕ) (end : ℕ) → Puts out 0 (encode_rpc (request ids)) last end → Answers (Ok needed) last
      ask-put h last end q =
          let l : length (ask_bytes node ss body) ≤ length out = omega (arith, measured) in
          let z = ap length ask-some in (
            ap Ok measured ∙ sym (ap asked (answer-fits (ask_bytes node ss body) out l)),
            q.holds (omega arith) ∙ ap (sets out 0) (sym ask-some) ∙ sym (written-fits (ask_bytes node ss body) out l),
          )

-- ---- the whole call: the lent node and its stores, then the body
module _ (node : Node) (ss cs : List ℕ) (ed : Edition) (body out : List ℕ) where
  abbrev Asks : Result ℕ AskError → List ℕ → Type 0
  Asks r after = (r ≡ ask_answer node ss cs ed body out) × (after ≡ ask_left node ss cs ed body out)

  pub asks-faulty : (why : Fault) → Err why ≡ lent_of node ss cs → Asks (Err (ask.Faulty why)) out
  unfolding ask_answer ask_left
  asks-faulty why e = rw (← e) (refl, refl)

  module _ (fine : Ok tt ≡ lent_of node ss cs) {mode : Mode} (same : mode ≡ mode_of node.cache.flags) where
    pub asks-refused : (why : Placed) → Err why ≡ accept_of (spoken mode ed) body → Asks (Err (ask.Refused why)) out
    unfolding ask_answer ask_left
    asks-refused why e = rw (← fine, ← same, ← e) (refl, refl)

    pub asks-done : Ok tt ≡ accept_of (spoken mode ed) body → (r : Result ℕ AskError) (after : List ℕ)
        → r ≡ asked (answer (ask_bytes node ss body) out) → after ≡ written (ask_bytes node ss body) out → Asks r after
    unfolding ask_answer ask_left
    asks-done h r after e f = rw (← fine, ← same, ← h) (e, f)
