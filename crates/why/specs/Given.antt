-- A gateway that is given as bytes: a node, and behind it its seen store and its cache store.
use Rattle.std.specs.Prelude.{Result, Err, ℕ, ◌+◌, ◌*◌, ◌≡◌, List, cond, length, take, drop, eqb}
use Rattle.basis.specs.Writing.{set_in}
use Rattle.seen.specs.State.{id_size}
use Rattle.mcache.specs.State.{message_size}
use Rattle.node.specs.declared.Node.{Node}
use Rattle.basis.specs.declared.Fault.TheVariants as fault
use Rattle.basis.specs.declared.Fault.{Fault}
use Rattle.node.specs.Calls.{lent_of, when_fine}

-- the stores of a node in the bytes behind it
abbrev pub seen_part : Node → List ℕ → List ℕ
seen_part n rest = take (n.max_seen * id_size) rest

abbrev pub cache_part : Node → List ℕ → List ℕ
cache_part n rest = drop (n.max_seen * id_size) rest

-- 41 where there are more or fewer bytes than its maxima say; else what the node and its stores meet
unfoldable pub given_of : Node → List ℕ → Result (Unit {0}) Fault
given_of n rest =
    cond (eqb (length rest) (n.max_seen * id_size + n.cache.max_messages * message_size))
    (lent_of n (seen_part n rest) (cache_part n rest))
    (Err fault.BadStore)

-- a gateway that can be used puts its stores at the front of the buffers; no other writes
pub record Gives (n : Node) (rest ss cs : List ℕ) (r : Result (Unit {0}) Fault) (ids messages : List ℕ) : Type 0 where
  pub answer : r ≡ given_of n rest
  pub seen : ids
      ≡ when_fine (given_of n rest) (set_in (length (seen_part n rest)) 0 (seen_part n rest) ss) ss
  pub cache : messages
      ≡ when_fine (given_of n rest) (set_in (length (cache_part n rest)) 0 (cache_part n rest) cs) cs
