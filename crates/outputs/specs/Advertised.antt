-- An advertisement is a body with one IHAVE that names a topic and the ids of cached messages that carry it, in every
-- dialect; it is canonical. A topic that is not UTF-8 is carried by no cached message, and nothing is written of it.
use Rattle.std.specs.Prelude.{Ok, ℕ, suc, ◌+◌, ◌*◌, ◌≤◌, ◌≡◌, refl, true, ◌&&◌, List, [], ◌∷◌, ◌++◌, length, ltb}
use Rattle.std.proofs.Math.Path.{sym}
use Rattle.std.proofs.Common.{ap, ◌∙◌, arith, length-append}
use Rattle.basis.specs.declared.Mode.{Mode}
use Rattle.basis.specs.Dialect.{mode_of}
use Rattle.basis.specs.declared.Dialect.{Dialect}
use Rattle.basis.specs.Cases.{either}
use Rattle.basis.specs.Bytes.{Bytes}
use Rattle.utf8.specs.Grammar.{Utf8}
use Rattle.rows.specs.Ids.{among}
use Rattle.rows.specs.IdsLaws.{same_self}
use Rattle.peer_id.specs.Laws.{at_most_ten}
use Rattle.protobuf.specs.Encode.{bytes_field}
use Rattle.protobuf.specs.EncodeLaws.{bytes_field-length, tag_at-most_ten}
use Rattle.rpc.specs.Grammar.{Each, none_left, ◌and◌}
use Rattle.rpc.specs.Encode.{encode_rpc, repeated}
use Rattle.canon.specs.Canon.{canon_body}
use Rattle.canon.proofs.Written.{canon-written}
use Rattle.canon.proofs.Taken.{Within}
use Rattle.mcache.specs.declared.MessageCache.{MessageCache}
use Rattle.mcache.specs.Messages.{Cached, topics, ids_of, carrying, enter_id, in_order, gossip_ids}
use Rattle.mcache.specs.State.{cached_in, message_id_size}
use Rattle.mcache.specs.Calls.{lent_of as cacheLentOf}
use Rattle.mcache.specs.StateLaws.{fine-tests}
use Rattle.mcache.specs.CachedLaws.{length-cached}
use Rattle.mcache.specs.GossipLaws.{order-cases, enter-same, enter-past, enter-front, gossip_ids_lem, gossip_exactly}
use Rattle.node.specs.declared.Node.{Node}
use Rattle.node.specs.Gateway.{advertisement}
use Rattle.node.specs.Calls.{lent_of, bytes_for, told_in, advertise_bytes}
use Rattle.node.specs.StateLaws.{fine-tests as node-tests}
use Rattle.node.specs.WireLaws.{advertisement-bytes}
use Rattle.outputs.specs.Bodies.{no_bytes, some_bytes, advertisement-means, records-told}
use Rattle.outputs.specs.Cached.{each_in, each-cached, CachedMessage}

-- ---- the ids told of are some of those cached
Short : List ℕ → Type 0
Short i = length i ≤ message_id_size

record Told (ids : List (List ℕ)) (n : ℕ) : Type 0 where
  few : length ids ≤ n
  short : Each Short ids

carried : (mode : Mode) (topic : List ℕ) (windows : ℕ) {ms : List Cached} → Each (CachedMessage mode) ms
    → Told (ids_of (carrying mode topic windows ms)) (length ms)
unfolding carrying Short
carried mode topic windows none_left = record { few = omega arith; short = none_left }
carried mode topic windows (◌and◌ {x = m} {xs = ms} p ps) =
    let r = carried mode topic windows ps in
    either (ltb m.window windows && among topic (topics mode m))
    (λ t. simp t (record { few = omega (arith, r.few); short = p.id-short and r.short }))
    (λ t. simp t (record { few = omega (arith, r.few); short = r.short }))

entered : (i : List ℕ) {l : List (List ℕ)} (n : ℕ) → Short i → Each Short l → length l ≤ n → Told (enter_id i l) (suc n)
unfolding enter_id
entered i n p none_left h = record { few = omega arith; short = p and none_left }
entered i n p (◌and◌ {x = j} {xs = js} q qs) h =
    order-cases i j
    (λ (e : i ≡ j). rw (enter-same i j js e) (record { few = omega arith; short = q and qs }))
    (λ a. rw (enter-front i j js a) (record { few = omega arith; short = p and (q and qs) }))
    (λ a. rw (enter-past i j js a) (let r = entered i (length js) p qs (omega arith) in
    record { few = omega (arith, r.few); short = q and r.short }))

ordered : {is : List (List ℕ)} (n : ℕ) → Each Short is → length is ≤ n → Told (in_order is) n
unfolding in_order
ordered n none_left h = record { few = omega arith; short = none_left }
ordered n (◌and◌ {x = i} {xs = is} p ps) h =
    let r = ordered (length is) ps (omega arith) in
    let e = entered i (length is) p r.short r.few in
    record { few = omega (arith, e.few); short = e.short }

-- ---- how long an advertisement is
field-small : (n : ℕ) (d : List ℕ) (k : ℕ) → 1 ≤ n → n ≤ 15 → length d ≤ k → k ≤ 65536
    → length (bytes_field n d) ≤ 20 + k
field-small n d k a b h l =
    omega (
      arith,
      bytes_field-length n d,
      tag_at-most_ten n 2 (record { some = a; most = omega arith; bits = omega arith }),
      at_most_ten (length d)
          (omega arith),
    )

ids-small : {ids : List (List ℕ)} → Each Short ids → length (repeated (bytes_field 2) ids) ≤ 148 * length ids
unfolding Short
ids-small none_left = omega arith
ids-small (◌and◌ {x = i} {xs = is} p ps) =
    let a = field-small 2 i 128 (omega arith) (omega arith) p (omega arith) in
    let r = ids-small ps in
    omega (arith, length-append (bytes_field 2 i) (repeated (bytes_field 2) is))

advertisement-small : (topic : List ℕ) (ids : List (List ℕ)) → length topic ≤ 1024 → Told ids 64
    → length (encode_rpc (advertisement topic ids)) ≤ 10556
advertisement-small topic ids h t =
    let a = field-small 1 topic 1024 (omega arith) (omega arith) h (omega arith) in
    let b = ids-small t.short in
    let x = bytes_field 1 topic ++ repeated (bytes_field 2) ids in
    let l = length-append (bytes_field 1 topic) (repeated (bytes_field 2) ids) in
    let c = field-small 1 x 10516 (omega arith) (omega arith) (omega (arith, t.few)) (omega arith) in
    let d = field-small 3 (bytes_field 1 x) 10536 (omega arith) (omega arith) c (omega arith) in
    omega (arith, ap length (advertisement-bytes topic ids))

-- ---- of a tested cache
module _ (c : MessageCache) (st topic : List ℕ) (windows : ℕ) (fine : cacheLentOf c st ≡ Ok tt)
    (bytes : Bytes st) where
  abbrev told : List (List ℕ)
  told = gossip_ids (mode_of c.flags) topic windows (cached_in c st)

  told-few : Told told 64
  unfolding gossip_ids
  told-few =
      let t = fine-tests c st fine in
      let r = carried (mode_of c.flags) topic windows (each-cached c st t bytes) in
      let n = length-cached c st in
      ordered 64 r.short (omega (arith, r.few, t.few, t.within))

  -- a topic that some message carries is UTF-8
  told_text : (i : List ℕ) → among i told ≡ true → Utf8 topic
  told_text i h =
      let w = (gossip_exactly (mode_of c.flags) i topic windows (cached_in c st)).0 h in
      each_in topic (each_in w.entry (each-cached c st (fine-tests c st fine) bytes) w.cached).message.texts
      w.carries

first-among : (i : List ℕ) (is : List (List ℕ)) → among i (i ∷ is) ≡ true
unfolding among
first-among i is = rw (same_self i)

of-ids : (topic : List ℕ) (ids : List (List ℕ)) → length topic ≤ 1024 → Told ids 64
    → ((i : List ℕ) → among i ids ≡ true → Utf8 topic) → (ids ≡ [] → ⊥) → (d : Dialect)
    → Within d (bytes_for ids (advertisement topic ids)) (advertisement topic ids)
of-ids topic [] h t text there d = absurd (there refl)
of-ids topic (i ∷ is) h t text there d =
    let l = advertisement-small topic (i ∷ is) h t in
    record {
      means = advertisement-means d topic (i ∷ is) (text i (first-among i is)) (omega arith);
      small = omega arith;
      few = omega (arith, records-told topic (i ∷ is), t.few);
    }

of_none : (topic : List ℕ) (ids : List (List ℕ)) → ((i : List ℕ) → among i ids ≡ true → Utf8 topic) → (Utf8 topic → ⊥)
    → ids ≡ []
of_none topic [] text no_text = refl
of_none topic (i ∷ is) text no_text = absurd (no_text (text i (first-among i is)))

-- nothing to tell of: no bytes
pub advertise-none : (n : Node) (cs topic : List ℕ) (windows : ℕ) → told_in n cs topic windows ≡ []
    → advertise_bytes n cs topic windows ≡ []
unfolding advertise_bytes
advertise-none n cs topic windows e = let ids = told_in n cs topic windows in no_bytes ids (advertisement topic ids) e

-- ---- of a node
module _ (n : Node) (ss cs topic : List ℕ) (windows : ℕ) (fine : lent_of n ss cs ≡ Ok tt) (bytes : Bytes cs) where
  abbrev cache-fine : cacheLentOf n.cache cs ≡ Ok tt
  cache-fine = (node-tests n ss cs fine).messages

  told_is : told_in n cs topic windows ≡ gossip_ids (mode_of n.cache.flags) topic windows (cached_in n.cache cs)
  unfolding told_in
  told_is = gossip_ids_lem n.cache cs topic windows cache-fine

  few : Told (told_in n cs topic windows) 64
  few = rw told_is (told-few n.cache cs topic windows cache-fine bytes)

  text : (i : List ℕ) → among i (told_in n cs topic windows) ≡ true → Utf8 topic
  text i h = told_text n.cache cs topic windows cache-fine bytes i (ap (among i) (sym told_is) ∙ h)

  pub advertise-means : length topic ≤ 1024 → (told_in n cs topic windows ≡ [] → ⊥) → (d : Dialect)
      → Within d (advertise_bytes n cs topic windows) (advertisement topic (told_in n cs topic windows))
  unfolding advertise_bytes
  advertise-means h there = of-ids topic (told_in n cs topic windows) h few text there

  pub advertise-stays : length topic ≤ 1024 → (told_in n cs topic windows ≡ [] → ⊥) → (d : Dialect)
      → canon_body d (advertise_bytes n cs topic windows) ≡ advertise_bytes n cs topic windows
  unfolding advertise_bytes
  advertise-stays h there d =
      let ids = told_in n cs topic windows in
      canon-written (advertise-means h there d).means ∙ sym (some_bytes ids (advertisement topic ids) there)

  pub no-topic-no_bytes : (Utf8 topic → ⊥) → (told_in n cs topic windows ≡ []) × (advertise_bytes n cs topic windows ≡ [])
  no-topic-no_bytes no_text = let e = of_none topic (told_in n cs topic windows) text no_text in
      (e, advertise-none n cs topic windows e)
