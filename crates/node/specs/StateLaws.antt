-- Laws of the test for a node and its stores: what a fine answer says, part by part, and that it is enough; and that
-- such a node is ready for the steps.
use Rattle.std.specs.Prelude.{Ok, ℕ, ◌*◌, ◌/◌, ◌%◌, ◌≤◌, ◌≡◌, List, true, length, leb, ltb, eqb}
use Rattle.std.proofs.Common.{arith}
use borrow.Author.Tests.{le-leb, leb-true, le-ltb, eqb-true, eq-eqb}
use Rattle.basis.specs.Cases.{either, clash, both}
use Rattle.rows.specs.Store.{Sound, in_use}
use Rattle.seen.specs.State.{well_formed as seenWellFormed, id_size, max_ids}
use Rattle.seen.specs.Calls.{cap_of, whole_rows, lent_of as seenLentOf}
use Rattle.seen.specs.WellFormed as seen
use Rattle.seen.specs.Laws.{lent-sound}
use Rattle.mcache.specs.State.{well_formed as cacheWellFormed, message_size}
use Rattle.mcache.specs.Calls.{lent_of as cacheLentOf}
use Rattle.mcache.specs.WellFormed as mcache
use Rattle.mcache.specs.StateLaws.{lent-kept}
use Rattle.node.specs.declared.Node.{Node}
use Rattle.node.specs.State.{rises_from, seen_fits, well_formed, Ready, seen_ring}
use Rattle.node.specs.Calls.{right_sizes, lent_of}

-- what is asked of a node and its stores
pub record Tests (n : Node) (ss cs : List ℕ) : Type 0 where
  pub room : length ss ≡ n.max_seen * id_size
  pub few : n.max_seen ≤ max_ids
  pub ids : seenLentOf n.seen ss ≡ Ok tt
  pub rises : rises_from 0 (in_use (seen_ring n) n.seen.expiry) ≡ true
  pub messages : cacheLentOf n.cache cs ≡ Ok tt

-- a store of max_seen rows
pub room_cap : (n : Node) (ss : List ℕ) → length ss ≡ n.max_seen * id_size → cap_of ss ≡ n.max_seen
unfolding cap_of
room_cap n ss h = omega arith

pub room_whole : (n : Node) (ss : List ℕ) → length ss ≡ n.max_seen * id_size → n.max_seen ≤ max_ids
    → whole_rows ss ≡ true
unfolding whole_rows cap_of
room_whole n ss h f =
    simp (eq-eqb (length ss % id_size) 0 (omega arith), le-leb (length ss / id_size) max_ids (omega arith))

fine-parts : (n : Node) (ss cs : List ℕ) → lent_of n ss cs ≡ Ok tt → (right_sizes n ss cs ≡ true)
    × (well_formed n ss cs ≡ true)
unfolding lent_of
fine-parts n ss cs h =
    either (ltb (cap_of ss) n.max_seen) (λ t. clash (let z = simp t at h in cc))
    (λ t. either (right_sizes n ss cs)
    (λ u. either (well_formed n ss cs) (λ v. (u, v)) (λ v. clash (let z = simp (t, u, v) at h in cc)))
    (λ u. clash (let z = simp (t, u) at h in cc)))

module _ (n : Node) (ss cs : List ℕ) where
  pub fine-tests : lent_of n ss cs ≡ Ok tt → Tests n ss cs
  unfolding right_sizes well_formed seen_fits seenLentOf cacheLentOf
  fine-tests h =
      let f = fine-parts n ss cs h in
      let r = both (eqb (length ss) (n.max_seen * id_size)) _ f.0 in
      let w = both (cacheWellFormed n.cache cs) _ f.1 in
      let s = both (leb n.max_seen max_ids) _ w.1 in
      let t = both (seenWellFormed n.max_seen n.seen ss) _ s.1 in
      let room = eqb-true (length ss) (n.max_seen * id_size) r.0 in
      let few = leb-true n.max_seen max_ids s.0 in
      record {
        room = room;
        few = few;
        ids = rw (room_whole n ss room few, room_cap n ss room, t.0);
        rises = t.1;
        messages = rw (r.1, w.0);
      }

  -- a state that passes is ready for the steps
  pub lent_ready : lent_of n ss cs ≡ Ok tt → seen.Sized n.seen → mcache.Sized n.cache → Ready n ss cs
  lent_ready h z y =
      let t = fine-tests h in
      let s : Sound id_size (seen_ring n) n.seen.len ss =
      rw (← room_cap n ss t.room) (lent-sound n.seen ss t.ids z) in
      let r = s.rows in
      record {
        seen-room = t.room;
        few = t.few;
        rows = s;
        expiries = record { starts = r.starts; within = r.within; size = omega (arith, z.0, t.few) };
        kept = lent-kept n.cache cs t.messages y;
      }

seen_parts : (n : Node) (ss : List ℕ) → length ss ≡ n.max_seen * id_size → seenLentOf n.seen ss ≡ Ok tt
    → seenWellFormed n.max_seen n.seen ss ≡ true
unfolding seenLentOf
seen_parts n ss r h =
    either (whole_rows ss)
    (λ t. either (seenWellFormed (cap_of ss) n.seen ss) (λ u. rw (← room_cap n ss r) u)
    (λ u. clash (let z = simp (t, u) at h in cc)))
    (λ t. clash (let z = simp t at h in cc))

cache-parts : (n : Node) (cs : List ℕ) → cacheLentOf n.cache cs ≡ Ok tt
    → (eqb (length cs) (n.cache.max_messages * message_size) ≡ true) × (cacheWellFormed n.cache cs ≡ true)
unfolding cacheLentOf
cache-parts n cs h =
    either (eqb (length cs) (n.cache.max_messages * message_size))
    (λ t. either (cacheWellFormed n.cache cs) (λ u. (t, u)) (λ u. clash (let z = simp (t, u) at h in cc)))
    (λ t. clash (let z = simp t at h in cc))

-- and that it is enough
pub tests-fine : (n : Node) (ss cs : List ℕ) → Tests n ss cs → lent_of n ss cs ≡ Ok tt
unfolding lent_of right_sizes well_formed seen_fits
tests-fine n ss cs t =
    let c = cache-parts n cs t.messages in
    let m = room_cap n ss t.room in
    simp (
      le-ltb (cap_of ss) n.max_seen (omega arith),
      eq-eqb (length ss) (n.max_seen * id_size) t.room,
      c.0,
      c.1,
      le-leb n.max_seen max_ids t.few,
      seen_parts n ss t.room t.ids,
      t.rises,
    )
