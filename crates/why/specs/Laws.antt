-- What a gateway that is taken leaves: the buffers are long enough for its stores, so that the node is lent them as
-- they were given.
use Rattle.std.specs.Prelude.{Ok, ℕ, ◌+◌, ◌*◌, ◌≤◌, ◌≡◌, List, ◌++◌, length, take, drop, eqb}
use Rattle.std.proofs.Common.{sym, ap, ◌∙◌, arith, zero-add, length-take, length-drop, take_at, eqb-true}
use Rattle.std.proofs.lemmas.List.Edits.{sets-eq}
use Rattle.basis.specs.Cases.{either, clash}
use Rattle.basis.specs.Writing.{set_in}
use Rattle.basis.specs.Lists.{set-fits}
use Rattle.seen.specs.State.{id_size, max_ids}
use Rattle.mcache.specs.State.{message_size, message_limit}
use Rattle.mcache.specs.StateLaws.{fine-tests as cache-tests}
use Rattle.node.specs.declared.Node.{Node}
use Rattle.node.specs.Calls.{lent_of}
use Rattle.node.specs.StateLaws.{fine-tests}
use Rattle.why.specs.Given.{seen_part, cache_part, given_of, Gives}

module _ (n : Node) (rest : List ℕ) (fine : given_of n rest ≡ Ok tt) where
  -- its stores are as long as its maxima say, and can be used with it
  pub given-parts : (length rest ≡ n.max_seen * id_size + n.cache.max_messages * message_size)
      × (lent_of n (seen_part n rest) (cache_part n rest) ≡ Ok tt)
  unfolding given_of
  given-parts =
      either (eqb (length rest) (n.max_seen * id_size + n.cache.max_messages * message_size))
      (λ t. (eqb-true (length rest) (n.max_seen * id_size + n.cache.max_messages * message_size) t, rw t at fine))
      (λ t. clash (let z = rw t at fine in cc))

  pub seen-length : length (seen_part n rest) ≡ n.max_seen * id_size
  seen-length = rw (length-take (n.max_seen * id_size) rest) (omega (arith, given-parts.0))

  pub cache-length : length (cache_part n rest) ≡ n.cache.max_messages * message_size
  cache-length = rw (length-drop (n.max_seen * id_size) rest) (omega (arith, given-parts.0))

  -- no taken gateway has more than the largest
  pub given-few : (n.max_seen ≤ max_ids) × (n.cache.max_messages ≤ message_limit)
  given-few =
      let t = fine-tests n (seen_part n rest) (cache_part n rest) given-parts.1 in
      (t.few, (cache-tests n.cache (cache_part n rest) t.messages).few)

-- what is written at the front is read there
pub placed : (xs l after : List ℕ) → length xs ≤ length l → after ≡ set_in (length xs) 0 xs l
    → after ≡ xs ++ drop (length xs) l
placed xs l after h z =
    z ∙ set-fits (length xs) 0 xs l (omega arith) ∙ sets-eq xs l 0 (omega arith) ∙ rw (zero-add (length xs))

front : (k : ℕ) (xs l after : List ℕ) → length xs ≡ k → k ≤ length l → after ≡ set_in (length xs) 0 xs l
    → take k after ≡ xs
front k xs l after e h z =
    ap (take k) (placed xs l after (omega arith) z) ∙ take_at xs (drop (length xs) l) k e

pub given-lent : {n : Node} {rest ss cs ids messages : List ℕ} → max_ids * id_size ≤ length ss
    → message_limit * message_size ≤ length cs → Gives n rest ss cs (Ok tt) ids messages
    → (take (n.max_seen * id_size) ids ≡ seen_part n rest)
    × (take (n.cache.max_messages * message_size) messages ≡ cache_part n rest)
given-lent {n} {rest} {ss} {cs} {ids} {messages} h k g =
    let fine = sym g.answer in
    let few = given-few n rest fine in (
      front (n.max_seen * id_size) (seen_part n rest) ss ids (seen-length n rest fine) (omega arith)
          (rw fine at g.seen),
      front (n.cache.max_messages * message_size) (cache_part n rest) cs messages (cache-length n rest fine)
          (omega arith) (rw fine at g.cache),
    )
