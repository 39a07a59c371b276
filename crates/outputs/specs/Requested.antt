-- A request is a body with one IWANT that names the ids offered and not held, in every dialect; it is canonical, and
-- never longer than the body that offers them.
use Rattle.std.specs.Prelude.{Option, Some, None, Ok, ℕ, ◌+◌, ◌≤◌, ◌≡◌, refl, List, [], ◌∷◌, ◌++◌, length}
use Rattle.std.proofs.Math.Path.{sym}
use Rattle.std.proofs.Common.{ap, ◌∙◌, append-nil, arith, length-append}
use Rattle.basis.specs.declared.Edition.{Edition}
use Rattle.basis.specs.Dialect.{mode_of, spoken}
use Rattle.basis.specs.declared.Dialect.{Dialect}
use Rattle.basis.specs.Cases.{either}
use Rattle.basis.specs.Bytes.{Bytes}
use Rattle.rows.specs.Ids.{among}
use Rattle.rows.specs.Store.{ids_in}
use Rattle.protobuf.specs.Encode.{bytes_field}
use Rattle.protobuf.specs.EncodeLaws.{heads_same}
use Rattle.rpc.specs.Rpc.{ControlIHave, ControlMessage, Rpc}
use Rattle.rpc.specs.Encode.{optional, repeated, encode_iHave, encode_iWant, encode_sub_opts, encode_graft, encode_prune}
use Rattle.rpc.specs.Encode.{encode_iDont_want, encode_control, encode_rpc}
use Rattle.meaning.specs.Size.{sum_of}
use Rattle.schema.specs.Accept.{accept_of}
use Rattle.canon.specs.Canon.{canon_body}
use Rattle.canon.specs.Lengths.{bytes_field_mono}
use Rattle.canon.specs.Shorter.{repeated-append, field-sum, never_longer}
use Rattle.canon.proofs.Written.{canon-written}
use Rattle.canon.proofs.Taken.{Within, taken-exactly}
use Rattle.node.specs.Parts.{at_path, once_after, once}
use Rattle.node.specs.PartsLaws.{once-again, once-new}
use Rattle.node.specs.State.{seen_ring}
use Rattle.node.specs.declared.Node.{Node}
use Rattle.node.specs.Gateway.{request}
use Rattle.node.specs.Calls.{bytes_for, offered, known_in, unseen_from, unseen_of, ask_bytes}
use Rattle.node.specs.WireLaws.{request-bytes}
use Rattle.outputs.specs.Named.{ihave_ids, offers_in, offers_of}
use Rattle.outputs.specs.Offered.{offered-means, offers_fewer}
use Rattle.outputs.specs.Bodies.{no_bytes, some_bytes, request-means, records-asked}
use Rattle.seen.specs.State.{id_size}

-- ---- what is asked for is some of what is offered: whatever each id adds, all of them add no more
abbrev Less : List (List ℕ) → List (List ℕ) → Type 0
Less is js = (f : List ℕ → ℕ) → sum_of f is ≤ sum_of f js

once_less : (earlier is : List (List ℕ)) → Less (once_after earlier is) is
unfolding once_after
once_less earlier [] f = omega arith
once_less earlier (i ∷ is) f =
    either (among i earlier)
    (λ t. let r = once_less earlier is f in rw (once-again earlier is i t) (omega arith))
    (λ t. let r = once_less (earlier ++ (i ∷ [])) is f in rw (once-new earlier is i t) (omega arith))

unseen_less : (flags : ℕ) (seen is : List (List ℕ)) → Less (unseen_from flags seen is) is
unfolding unseen_from
unseen_less flags seen [] f = omega arith
unseen_less flags seen (i ∷ is) f =
    let r = unseen_less flags seen is f in
    either (known_in flags seen i) (λ t. simp t (omega arith)) (λ t. simp t (omega arith))

asked_less : (n : Node) (ss body : List ℕ) → Less (unseen_of n ss (offered (mode_of n.cache.flags) body))
    (at_path (mode_of n.cache.flags) (3 ∷ 1 ∷ 2 ∷ []) body)
unfolding unseen_of offered
asked_less n ss body f =
    let ids = at_path (mode_of n.cache.flags) (3 ∷ 1 ∷ 2 ∷ []) body in
    let seen = ids_in id_size (seen_ring n) n.seen.len ss in
    let a = unseen_less n.cache.flags seen (once ids) f in
    let b = once_less [] ids f in
    omega arith

-- so they are no more, and their fields take no more
length-sum : (is : List (List ℕ)) → sum_of (λ i. 1) is ≡ length is
length-sum [] = refl
length-sum (i ∷ is) = omega (arith, length-sum is)

fields-sum : (n : ℕ) (is : List (List ℕ))
    → sum_of (λ i. length (bytes_field n i)) is ≡ length (repeated (bytes_field n) is)
fields-sum n [] = refl
fields-sum n (i ∷ is) = omega (arith, fields-sum n is, length-append (bytes_field n i) (repeated (bytes_field n) is))

less_count : (is js : List (List ℕ)) → Less is js → length is ≤ length js
less_count is js h = omega (arith, h (λ i. 1), length-sum is, length-sum js)

less_fields : (n : ℕ) (is js : List (List ℕ)) → Less is js
    → length (repeated (bytes_field n) is) ≤ length (repeated (bytes_field n) js)
less_fields n is js h = omega (arith, h (λ i. length (bytes_field n i)), fields-sum n is, fields-sum n js)

-- ---- one IWANT with all ids that some IHAVEs name is no longer than they are
fields-same : (ds : List (List ℕ)) → length (repeated (bytes_field 1) ds) ≡ length (repeated (bytes_field 2) ds)
fields-same [] = refl
fields-same (d ∷ ds) =
    omega (
      arith,
      heads_same d,
      fields-same ds,
      length-append (bytes_field 1 d) (repeated (bytes_field 1) ds),
      length-append (bytes_field 2 d) (repeated (bytes_field 2) ds),
    )

ids_in_lem : (h : ControlIHave) → length (repeated (bytes_field 1) h.message_ids) ≤ length (encode_iHave h)
unfolding encode_iHave
ids_in_lem h = omega (
  arith,
  fields-same h.message_ids,
  length-append (optional (bytes_field 1) h.topic_id) (repeated (bytes_field 2) h.message_ids),
)

-- of one IHAVE
one_in : (h : ControlIHave) → length (bytes_field 2 (repeated (bytes_field 1) h.message_ids)) ≤ length
    (bytes_field 1 (encode_iHave h))
one_in h = omega (
  arith,
  heads_same (repeated (bytes_field 1) h.message_ids),
  bytes_field_mono 1 (repeated (bytes_field 1) h.message_ids) (encode_iHave h) (ids_in_lem h),
)

all_in : (h : ControlIHave) (hs : List ControlIHave)
    → length (bytes_field 2 (repeated (bytes_field 1) (ihave_ids (h ∷ hs)))) ≤ length
    (repeated (λ k. bytes_field 1 (encode_iHave k)) (h ∷ hs))
all_in h [] =
    let a = one_in h in
    let e = ap (λ (l : List (List ℕ)). length (bytes_field 2 (repeated (bytes_field 1) l)))
    (append-nil h.message_ids) in
    let l = length-append (bytes_field 1 (encode_iHave h)) [] in
    omega arith
all_in h (g ∷ hs) =
    let x = repeated (bytes_field 1) h.message_ids in
    let y = repeated (bytes_field 1) (ihave_ids (g ∷ hs)) in
    let z = repeated (bytes_field 1) (ihave_ids (h ∷ g ∷ hs)) in
    let e : length z ≡ length x + length y =
    ap length (repeated-append (bytes_field 1) h.message_ids (ihave_ids (g ∷ hs))) ∙ length-append x y in
    let a = field-sum 2 x y z e in
    let b = one_in h in
    let c = all_in g hs in
    let l = length-append (bytes_field 1 (encode_iHave h)) (repeated (λ k. bytes_field 1 (encode_iHave k)) (g ∷ hs)) in
    omega arith

-- ---- and so the whole request, in one control, is no longer than the RPC that offers
control_in : (c : ControlMessage) → 1 ≤ length (ihave_ids c.ihave)
    → length (bytes_field 2 (repeated (bytes_field 1) (ihave_ids c.ihave))) ≤ length (encode_control c)
unfolding encode_control
control_in c h =
    let rest = repeated (λ w. bytes_field 2 (encode_iWant w)) c.iwant
    ++ (repeated (λ g. bytes_field 3 (encode_graft g)) c.graft
    ++ (repeated (λ p. bytes_field 4 (encode_prune p)) c.prune
    ++ repeated (λ w. bytes_field 5 (encode_iDont_want w)) c.idontwant)) in
    let l = length-append (repeated (λ k. bytes_field 1 (encode_iHave k)) c.ihave) rest in
    let a = some_in c.ihave h in
    omega arith
  where
    some_in : (hs : List ControlIHave) → 1 ≤ length (ihave_ids hs)
        → length (bytes_field 2 (repeated (bytes_field 1) (ihave_ids hs))) ≤ length
        (repeated (λ k. bytes_field 1 (encode_iHave k)) hs)
    some_in [] k = absurd (omega arith)
    some_in (g ∷ hs) k = all_in g hs

offers_in_lem : (o : Option ControlMessage) → 1 ≤ length (offers_in o)
    → length (bytes_field 3 (bytes_field 2 (repeated (bytes_field 1) (offers_in o)))) ≤ length
    (optional (λ c. bytes_field 3 (encode_control c)) o)
offers_in_lem None h = absurd (omega arith)
offers_in_lem (Some c) h = bytes_field_mono 3 (bytes_field 2 (repeated (bytes_field 1) (ihave_ids c.ihave)))
    (encode_control c) (control_in c h)

rpc_in : (x : Rpc) → 1 ≤ length (offers_of x)
    → length (bytes_field 3 (bytes_field 2 (repeated (bytes_field 1) (offers_of x)))) ≤ length (encode_rpc x)
unfolding encode_rpc
rpc_in x h =
    let a = repeated (λ o. bytes_field 1 (encode_sub_opts o)) x.subscriptions in
    let b = repeated (λ m. bytes_field 2 m.raw) x.publish in
    let c = optional (λ k. bytes_field 3 (encode_control k)) x.control in
    omega (arith, length-append a (b ++ c), length-append b c, offers_in_lem x.control h)

-- ---- the request for some of the ids that an RPC offers
module _ (x : Rpc) (i : List ℕ) (is : List (List ℕ)) (less : Less (i ∷ is) (offers_of x)) where
  abbrev ids : List (List ℕ)
  ids = i ∷ is

  some-offered : 1 ≤ length (offers_of x)
  some-offered = omega (arith, less_count ids (offers_of x) less)

  shorter : length (encode_rpc (request ids)) ≤ length (encode_rpc x)
  shorter =
      let e = ap length (request-bytes ids) in
      let a = less_fields 1 ids (offers_of x) less in
      let b = bytes_field_mono 2 (repeated (bytes_field 1) ids) (repeated (bytes_field 1) (offers_of x)) a in
      let c = bytes_field_mono 3 (bytes_field 2 (repeated (bytes_field 1) ids))
      (bytes_field 2 (repeated (bytes_field 1) (offers_of x))) b in
      omega (arith, rpc_in x some-offered)

  means : {d : Dialect} {body : List ℕ} → Within d body x → (e : Dialect)
      → Within e (encode_rpc (request ids)) (request ids)
  means {body = body} w e =
      let a = shorter in
      let b = never_longer w.means in
      let c = offers_fewer x some-offered in
      let d = less_count ids (offers_of x) less in
      record {
        means = request-means e ids (omega (arith, w.small));
        small = omega (arith, w.small);
        few = omega (arith, w.few, records-asked ids);
      }

of-ids : {d : Dialect} {body : List ℕ} {x : Rpc} → Within d body x → (ids : List (List ℕ)) → Less ids (offers_of x)
    → (ids ≡ [] → ⊥) → (e : Dialect) → Within e (bytes_for ids (request ids)) (request ids)
of-ids w [] less there = absurd (there refl)
of-ids {x = x} w (i ∷ is) less there = means x i is less w

ids-shorter : {d : Dialect} {body : List ℕ} {x : Rpc} → Within d body x → (ids : List (List ℕ))
    → Less ids (offers_of x) → length (bytes_for ids (request ids)) ≤ length body
ids-shorter w [] less = omega arith
ids-shorter {x = x} w (i ∷ is) less = omega (arith, shorter x i is less, never_longer w.means)

-- nothing to ask for: no bytes
pub ask-none : (n : Node) (ss body : List ℕ) → unseen_of n ss (offered (mode_of n.cache.flags) body) ≡ []
    → ask_bytes n ss body ≡ []
unfolding ask_bytes
ask-none n ss body e = let ids = unseen_of n ss (offered (mode_of n.cache.flags) body) in no_bytes ids (request ids) e

-- ---- the request for what is offered by a body that means an RPC
pub request-within : {ed : Edition} (n : Node) (ss : List ℕ) {body : List ℕ} {x : Rpc}
    → Within (spoken (mode_of n.cache.flags) ed) body x
    → (unseen_of n ss (offered (mode_of n.cache.flags) body) ≡ [] → ⊥) → (e : Dialect)
    → Within e (ask_bytes n ss body) (request (unseen_of n ss (offered (mode_of n.cache.flags) body)))
unfolding ask_bytes
request-within n ss {body} w there =
    of-ids w (unseen_of n ss (offered (mode_of n.cache.flags) body))
    (rw (← offered-means w.means) (asked_less n ss body)) there

-- ---- the request for what is offered by a body that is taken
module _ (ed : Edition) (n : Node) (ss body : List ℕ)
    (fine : accept_of (spoken (mode_of n.cache.flags) ed) body ≡ Ok tt) (bytes : Bytes body) where
  abbrev asked : List (List ℕ)
  asked = unseen_of n ss (offered (mode_of n.cache.flags) body)

  abbrev meant : (x : Rpc) × Within (spoken (mode_of n.cache.flags) ed) body x
  meant = (taken-exactly (spoken (mode_of n.cache.flags) ed) body bytes).0 fine

  less_asked : Less asked (offers_of meant.0)
  less_asked = rw (← offered-means meant.1.means) (asked_less n ss body)

  pub ask-means : (unseen_of n ss (offered (mode_of n.cache.flags) body) ≡ [] → ⊥) → (e : Dialect)
      → Within e (ask_bytes n ss body) (request (unseen_of n ss (offered (mode_of n.cache.flags) body)))
  ask-means there = request-within n ss meant.1 there

  pub ask-stays : (unseen_of n ss (offered (mode_of n.cache.flags) body) ≡ [] → ⊥) → (e : Dialect)
      → canon_body e (ask_bytes n ss body) ≡ ask_bytes n ss body
  unfolding ask_bytes
  ask-stays there e = canon-written (ask-means there e).means ∙ sym (some_bytes asked (request asked) there)

  -- never longer than the body
  pub request-shorter : length (ask_bytes n ss body) ≤ length body
  unfolding ask_bytes
  request-shorter = ids-shorter meant.1 asked less_asked
