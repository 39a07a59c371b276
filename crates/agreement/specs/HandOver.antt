-- A round's request, of node a that is given the advertisement of node b: in every dialect it is taken and names
-- exactly those of the ids that b tells of and a does not hold, each once; and b has every message that is asked for.
use Rattle.std.specs.Prelude.{Ok, ℕ, suc, ◌≤◌, ◌≡◌, refl, true, false, not, ◌↔◌, length}
use Rattle.std.proofs.Math.Path.{sym, ap, subst}
use Rattle.std.proofs.Common.{◌∙◌, arith, length-append}
use mathlib.Core.List.{List, [], ◌∷◌, ◌++◌, append-nil}
use Rattle.basis.specs.declared.Mode.{Mode}
use Rattle.basis.specs.declared.Edition.TheVariants.{V11}
use Rattle.basis.specs.declared.Dialect.{Dialect}
use Rattle.basis.specs.Dialect.{mode_of, spoken}
use Rattle.basis.specs.Cases.{either, clash, both}
use Rattle.basis.specs.Bytes.{Bytes}
use Rattle.rows.specs.Ids.{same_bytes, among, distinct}
use Rattle.rows.specs.IdsLaws.{same_self}
use Rattle.protobuf.specs.Encode.{bytes_field}
use Rattle.protobuf.specs.EncodeLaws.{tag_one, bytes_field-length, heads_same}
use Rattle.rpc.specs.Rpc.{Rpc}
use Rattle.rpc.specs.Encode.{encode_rpc, repeated}
use Rattle.schema.specs.Accept.{accept_of}
use Rattle.canon.specs.Lengths.{bytes_field_mono}
use Rattle.canon.proofs.Taken.{Within, taken}
use Rattle.mcache.specs.Messages.{held}
use Rattle.mcache.specs.GossipLaws.{told-distinct, told-held}
use Rattle.node.specs.Parts.{once}
use Rattle.node.specs.PartsLaws.{once-same}
use Rattle.node.specs.declared.Node.{Node}
use Rattle.node.specs.Gateway.{Gateway, told_of, knows, lacking, having, advertisement, request}
use Rattle.node.specs.State.{gateway_in}
use Rattle.node.specs.Calls.{lent_of, bytes_for, advertise_bytes, offered, unseen_of, ask_bytes, wanted, remaining, cached_of}
use Rattle.node.specs.Laws.{told-gateway, unseen_gateway, cached-gateway}
use Rattle.node.specs.Readers.{asked-exactly}
use Rattle.node.specs.Declined.{all_remain}
use Rattle.node.specs.WireLaws.{advertisement-bytes, request-bytes}
use Rattle.outputs.specs.Named.{wants_of}
use Rattle.outputs.specs.Offered.{wanted-once}
use Rattle.outputs.specs.Bodies.{nothing, nothing-means, by_cases, no_bytes, some_bytes, request-means, records-told}
use Rattle.outputs.specs.Bodies.{records-asked}
use Rattle.outputs.specs.Adverts.{advert-means, advert_offers}

-- ---- those that are lacking, of some ids
lacking-few : (g : Gateway) (is : List (List ℕ)) → length (lacking g is) ≤ length is
unfolding lacking
lacking-few g [] = omega arith
lacking-few g (i ∷ is) =
    let r = lacking-few g is in
    either (knows g i) (λ t. simp t (omega arith)) (λ t. simp t (omega arith))

lacking-fields : (g : Gateway) (is : List (List ℕ)) → length (repeated (bytes_field 1) (lacking g is)) ≤ length
    (repeated (bytes_field 2) is)
unfolding lacking
lacking-fields g [] = omega arith
lacking-fields g (i ∷ is) =
    let r = lacking-fields g is in
    let f = heads_same i in
    let l = length-append (bytes_field 2 i) (repeated (bytes_field 2) is) in
    let m = length-append (bytes_field 1 i) (repeated (bytes_field 1) (lacking g is)) in
    either (knows g i) (λ t. simp t (omega arith)) (λ t. simp t (omega arith))

pub lacking-distinct : (g : Gateway) (is : List (List ℕ)) → distinct is ≡ true → distinct (lacking g is) ≡ true
unfolding lacking distinct
lacking-distinct g [] d = refl
lacking-distinct g (i ∷ is) d =
    either (among i is) (λ t. clash (let k = simp t at d in cc))
    (λ t.
    let r = lacking-distinct g is (simp t at d) in
    let n : among i (lacking g is) ≡ false = asked-exactly g i is ∙ simp t in
    either (knows g i) (λ u. simp u r) (λ u. simp (u, n) r))

-- exactly those named that are not held
pub lacking-exactly : (g : Gateway) (i : List ℕ) (is : List (List ℕ)) → (among i (lacking g is) ≡ true)
    ↔ ((among i is ≡ true) × (knows g i ≡ false))
lacking-exactly g i is = (
  λ h.
      let b = both (among i is) (not (knows g i)) (sym (asked-exactly g i is) ∙ h) in
      let k = b.1 in
      (b.0, either (knows g i) (λ t. clash (let z = simp t at k in cc)) (λ t. t)),
  λ (p : (among i is ≡ true) × (knows g i ≡ false)). asked-exactly g i is ∙ rw (p.0, p.1),
)

-- ---- a request for what is lacking of the ids that an advertisement names is no longer than it
request-shorter : (g : Gateway) (topic : List ℕ) (is : List (List ℕ))
    → length (encode_rpc (request (lacking g is))) ≤ length (encode_rpc (advertisement topic is))
request-shorter g topic is =
    let x = repeated (bytes_field 1) (lacking g is) in
    let y = repeated (bytes_field 2) is in
    let t = bytes_field 1 topic in
    let l = length-append t y in
    let f = lacking-fields g is in
    let m = bytes_field_mono 1 x (t ++ y) (omega arith) in
    let s = heads_same x in
    let w = bytes_field_mono 3 (bytes_field 2 x) (bytes_field 1 (t ++ y)) (omega arith) in
    omega (arith, ap length (request-bytes (lacking g is)), ap length (advertisement-bytes topic is))

-- so it is within capacity where the advertisement is
request-within : (d : Dialect) (g : Gateway) (topic : List ℕ) (is : List (List ℕ))
    → Within d (encode_rpc (advertisement topic is)) (advertisement topic is)
    → Within d (encode_rpc (request (lacking g is))) (request (lacking g is))
request-within d g topic is w =
    let s = request-shorter g topic is in
    let f = lacking-few g is in
    let a = records-asked (lacking g is) in
    let t = records-told topic is in
    let m = w.small in
    let n = w.few in
    record { means = request-means d (lacking g is) (omega arith); small = omega arith; few = omega arith }

-- a request is some bytes
request-some : (ids : List (List ℕ)) → encode_rpc (request ids) ≡ [] → ⊥
request-some ids e =
    let d = bytes_field 2 (repeated (bytes_field 1) ids) in
    let l : length (encode_rpc (request ids)) ≡ 0 = ap length e in
    absurd (omega
    (arith, ap length (request-bytes ids), bytes_field-length 3 d, tag_one 3 2 (omega arith) (omega arith)))

having-all : (g : Gateway) (is : List (List ℕ)) → ((i : List ℕ) → among i is ≡ true → held i g.cache ≡ true)
    → length (having g is) ≡ length is
unfolding having among
having-all g [] h = refl
having-all g (i ∷ is) h =
    let k : held i g.cache ≡ true = h i (rw (same_self i)) in
    let r = having-all g is (λ j m. h j (either (same_bytes i j) (λ t. simp t) (λ t. simp t m))) in
    simp k (ap suc r)

-- ---- the request of node a, given the advertisement of node b
module _ (b : Node) (bs bc topic : List ℕ) (windows : ℕ) (fine : lent_of b bs bc ≡ Ok tt) (bytes : Bytes bc)
    (short : length topic ≤ 1024) where
  module _ (a : Node) («as» ac : List ℕ) where
    abbrev asked : List (List ℕ)
    asked = lacking (gateway_in a «as» ac) (told_of topic windows (gateway_in b bs bc))

    -- it asks for what is lacking of what is told of
    pub request-names : unseen_of a «as» (offered (mode_of a.cache.flags) (advertise_bytes b bc topic windows))
        ≡ lacking (gateway_in a «as» ac)
        (told_of topic windows (gateway_in b bs bc))
    request-names = ap (unseen_of a «as») (advert_offers b bs bc topic windows fine bytes short
        (mode_of a.cache.flags))
        ∙ unseen_gateway a «as» ac (told_of topic windows (gateway_in b bs bc))

    pub request-is : ask_bytes a «as» (advertise_bytes b bc topic windows) ≡ bytes_for asked (request asked)
    unfolding ask_bytes
    request-is = ap (λ (l : List (List ℕ)). bytes_for l (request l)) request-names

    -- its bytes are none exactly where nothing is lacking
    pub asked_something : (ask_bytes a «as» (advertise_bytes b bc topic windows) ≡ [])
        ↔ (lacking (gateway_in a «as» ac) (told_of topic windows (gateway_in b bs bc)) ≡ [])
    asked_something = (
      λ h. by_cases asked (λ e. e)
          (λ there. absurd (request-some asked (sym (some_bytes asked (request asked) there) ∙ sym request-is ∙ h))),
      λ e. request-is ∙ no_bytes asked (request asked) e,
    )

    pub asked-once : distinct (lacking (gateway_in a «as» ac) (told_of topic windows (gateway_in b bs bc))) ≡ true
    asked-once = lacking-distinct (gateway_in a «as» ac) (told_of topic windows (gateway_in b bs bc))
        (told-distinct (mode_of (gateway_in b bs bc).flags) topic windows (gateway_in b bs bc).cache)

    pub lacks-exactly : (i : List ℕ)
        → (among i (lacking (gateway_in a «as» ac) (told_of topic windows (gateway_in b bs bc))) ≡ true)
        ↔ ((among i (told_of topic windows (gateway_in b bs bc)) ≡ true)
        × (knows (gateway_in a «as» ac) i ≡ false))
    lacks-exactly i = lacking-exactly (gateway_in a «as» ac) i (told_of topic windows (gateway_in b bs bc))

    some-told : (asked ≡ [] → ⊥) → told_of topic windows (gateway_in b bs bc) ≡ [] → ⊥
    unfolding lacking
    some-told there e = there (ap (lacking (gateway_in a «as» ac)) e)

    pub request-meant : (asked ≡ [] → ⊥) → (d : Dialect)
        → Within d (ask_bytes a «as» (advertise_bytes b bc topic windows)) (request asked)
    unfolding advertise_bytes
    request-meant there d =
        let t = told_of topic windows (gateway_in b bs bc) in
        let e : advertise_bytes b bc topic windows ≡ encode_rpc (advertisement topic t) =
        ap (λ (l : List (List ℕ)). bytes_for l (advertisement topic l)) (told-gateway b bs bc topic windows fine)
        ∙ some_bytes t (advertisement topic t) (some-told there) in
        let w : Within d (encode_rpc (advertisement topic t)) (advertisement topic t) =
        subst (λ (s : List ℕ). Within d s (advertisement topic t)) e
        (advert-means b bs bc topic windows fine bytes short (some-told there) d) in
        subst (λ (s : List ℕ). Within d s (request asked)) (sym (request-is ∙ some_bytes asked (request asked) there))
        (request-within d (gateway_in a «as» ac) topic t w)

    -- and so is the request
    pub request-rpc : (x : Rpc) × ((d : Dialect) → Within d (ask_bytes a «as» (advertise_bytes b bc topic windows)) x)
        × (wants_of x ≡ asked)
    unfolding request
    request-rpc =
        by_cases asked
        (λ e. (
          nothing,
          λ d. subst (λ (s : List ℕ). Within d s nothing) (sym (asked_something.1 e)) (nothing-means d),
          sym e,
        ))
        (λ there. (request asked, request-meant there, append-nil asked))

    -- the request is taken, and it wants what is lacking, whatever the reader's mode
    pub request-taken : ((d : Dialect) → accept_of d (ask_bytes a «as» (advertise_bytes b bc topic windows)) ≡ Ok tt)
        × ((mode : Mode) → wanted mode (ask_bytes a «as» (advertise_bytes b bc topic windows))
        ≡ lacking (gateway_in a «as» ac)
        (told_of topic windows (gateway_in b bs bc)))
    request-taken = (
      λ d. taken (request-rpc.1 d),
      λ mode. wanted-once (request-rpc.1 (spoken mode V11)).means ∙ ap once request-rpc.2
          ∙ once-same asked asked-once,
    )

    -- ---- node b has every message that is asked for
    pub reply-has : cached_of b.cache bc (remaining (mode_of b.cache.flags)
        (ask_bytes a «as» (advertise_bytes b bc topic windows)) [])
        ≡ having (gateway_in b bs bc) (lacking (gateway_in a «as» ac) (told_of topic windows (gateway_in b bs bc)))
    reply-has =
        ap (cached_of b.cache bc)
        (all_remain (mode_of b.cache.flags) (ask_bytes a «as» (advertise_bytes b bc topic windows))
        ∙ request-taken.1 (mode_of b.cache.flags))
        ∙ cached-gateway b bs bc asked

    pub reply-all : length
        (having (gateway_in b bs bc) (lacking (gateway_in a «as» ac) (told_of topic windows (gateway_in b bs bc))))
        ≡ length (lacking (gateway_in a «as» ac) (told_of topic windows (gateway_in b bs bc)))
    reply-all = having-all (gateway_in b bs bc) asked
        (λ i h. told-held (mode_of (gateway_in b bs bc).flags) topic windows (gateway_in b bs bc).cache i
        ((lacks-exactly i).0 h).0)
