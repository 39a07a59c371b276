-- An advertisement as a body that is read: in every dialect it is taken, also where it is empty, and offers exactly
-- what is told of. So an id is explained as listed exactly where it stands in the advertisement that is written.
use Rattle.std.specs.Prelude.{Ok, ℕ, ◌≤◌, ◌≡◌, true, ◌↔◌, take, leb}
use Rattle.std.proofs.Math.Path.{sym, subst}
use Rattle.std.proofs.Common.{ap, ◌∙◌, arith}
use mathlib.Core.List.{List, [], append-nil}
use Rattle.std.proofs.Math.ListN.{length}
use borrow.Author.Tests.{leb-true, leb-false, le-ltb}
use Rattle.basis.specs.declared.Mode.{Mode}
use Rattle.basis.specs.declared.Edition.TheVariants.{V11}
use Rattle.basis.specs.declared.Dialect.{Dialect}
use Rattle.basis.specs.Dialect.{mode_of, spoken}
use Rattle.basis.specs.Cases.{either, clash, of-ok}
use Rattle.basis.specs.Bytes.{Bytes}
use Rattle.basis.specs.Lists.{answer-fits, answer-short, written-fits}
use Rattle.rows.specs.ListLaws.{put-sets}
use Rattle.rows.specs.Ids.{among}
use Rattle.rpc.specs.Rpc.{Rpc}
use Rattle.schema.specs.Accept.{accept_of}
use Rattle.canon.proofs.Taken.{Within, taken}
use Rattle.mcache.specs.declared.Offer.TheVariants as offer
use Rattle.mcache.specs.GossipLaws.{told-distinct}
use Rattle.node.specs.Parts.{once}
use Rattle.node.specs.PartsLaws.{once-same}
use Rattle.node.specs.declared.Node.{Node}
use Rattle.node.specs.declared.Advertised.{Advertised}
use Rattle.node.specs.declared.Explained.{Explained}
use Rattle.node.specs.Gateway.{told_of, advertisement}
use Rattle.node.specs.State.{gateway_in}
use Rattle.node.specs.Calls.{lent_of, told_in, advertise_bytes, advertise_answer, advertise_left, offered}
use Rattle.node.specs.Unique.{Advertises, Explains}
use Rattle.node.specs.Laws.{told-gateway}
use Rattle.node.specs.Explained.{explain-exactly}
use Rattle.outputs.specs.Named.{offers_of}
use Rattle.outputs.specs.Offered.{offered-once}
use Rattle.outputs.specs.Bodies.{nothing, nothing-means, by_cases}
use Rattle.outputs.specs.Advertised.{advertise-means, advertise-none}

-- ---- the advertisement of node b
module _ (b : Node) (bs bc topic : List ℕ) (windows : ℕ) (fine : lent_of b bs bc ≡ Ok tt) (bytes : Bytes bc)
    (short : length topic ≤ 1024) where
  told_is : told_in b bc topic windows ≡ told_of topic windows (gateway_in b bs bc)
  told_is = told-gateway b bs bc topic windows fine

  -- where there is something to tell of
  pub advert-means : (told_of topic windows (gateway_in b bs bc) ≡ [] → ⊥) → (d : Dialect)
      → Within d (advertise_bytes b bc topic windows) (advertisement topic (told_of topic windows (gateway_in b bs bc)))
  advert-means there d =
      subst (λ (l : List (List ℕ)). Within d (advertise_bytes b bc topic windows) (advertisement topic l)) told_is
      (advertise-means b bs bc topic windows fine bytes short (λ e. there (sym told_is ∙ e)) d)

  -- it is a body within capacity, also where it is empty
  pub advert-rpc : (x : Rpc) × ((d : Dialect) → Within d (advertise_bytes b bc topic windows) x)
      × (offers_of x ≡ told_of topic windows (gateway_in b bs bc))
  unfolding advertisement
  advert-rpc =
      by_cases (told_of topic windows (gateway_in b bs bc))
      (λ e. (
        nothing,
        λ d. subst (λ (s : List ℕ). Within d s nothing) (sym (advertise-none b bc topic windows (told_is ∙ e)))
            (nothing-means d),
        sym e,
      ))
      (λ there. (
        advertisement topic (told_of topic windows (gateway_in b bs bc)),
        advert-means there,
        append-nil (told_of topic windows (gateway_in b bs bc)),
      ))

  -- it is taken, also where it is empty
  pub advert-taken : (d : Dialect) → accept_of d (advertise_bytes b bc topic windows) ≡ Ok tt
  advert-taken d = taken (advert-rpc.1 d)

  -- and offers what is told of, whatever the reader's mode
  pub advert_offers : (mode : Mode) → offered mode (advertise_bytes b bc topic windows)
      ≡ told_of topic windows (gateway_in b bs bc)
  advert_offers mode =
      offered-once (advert-rpc.1 (spoken mode V11)).means ∙ ap once advert-rpc.2
      ∙ once-same (told_of topic windows (gateway_in b bs bc))
      (told-distinct (mode_of (gateway_in b bs bc).flags) topic windows (gateway_in b bs bc).cache)

  -- ---- it stands at the front of a buffer that has the room
  bytes_left : (out : List ℕ) (k : ℕ) → advertise_answer b bs bc topic windows out ≡ Ok k
      → take k (advertise_left b bs bc topic windows out) ≡ advertise_bytes b bc topic windows
  unfolding advertise_answer advertise_left
  bytes_left out k h =
      let s = advertise_bytes b bc topic windows in
      let t = le-ltb 1024 (length topic) short in
      either (leb (length s) (length out))
      (λ u.
      let l = leb-true (length s) (length out) u in
      let q : length s ≡ k = of-ok (rw (fine, t, answer-fits s out l) at h) in
      rw (fine, t, written-fits s out l, ← q) (put-sets out 0 s (omega arith)))
      (λ u. clash (let e = rw (fine, t, answer-short s out (leb-false (length s) (length out) u)) at h in cc))

  -- an id is listed exactly where it is among those that the written advertisement offers, in every buffer with room
  pub listed-written : (out : List ℕ) (a : Advertised) (left : List ℕ) → Advertises b bs bc topic windows out a left
      → (k : ℕ) → a.answer ≡ Ok k
      → (mode : Mode) (id : List ℕ) (r : Explained) → Explains b bs bc id topic windows r
      → (r.answer ≡ Ok offer.Listed) ↔ (among id (offered mode (take k left)) ≡ true)
  listed-written out a left says k e mode id r why =
      let w : offered mode (take k left) ≡ told_of topic windows (gateway_in b bs bc) =
      ap (λ (l : List ℕ). offered mode (take k l)) says.buffer
      ∙ ap (offered mode) (bytes_left out k (sym says.answer ∙ e)) ∙ advert_offers mode in
      let x = (explain-exactly b bs bc id topic windows fine short r why).exactly.listed in
      (λ h. ap (among id) w ∙ x.0 h, λ h. x.1 (sym (ap (among id) w) ∙ h))
