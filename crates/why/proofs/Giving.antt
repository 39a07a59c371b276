-- The test of a gateway that is given as bytes, one step after the other, and what it leaves.
use Prim.Native.Nat.{ℕ, ◌+◌, ◌-◌, ◌*◌, ◌/◌, ◌≤◌, ◌<◌}
use mathlib.Core.Path.{◌≡◌, sym, ap, ◌∙◌}
use mathlib.Core.List.{List, [], ◌++◌, append-nil}
use mathlib.Core.Bool.{false}
use native.Mathlib.Omega.{arith}
use lib.ListN.{length, take, drop, length-drop, drop_of_length-le}
use lib.Seq.{length-take-le, take_all}
use lib.Dec.{eqb}
use borrow.Author.Tests.{le-ltb, eq-eqb, ne_eqb, eqb-false}
use Rattle.std.specs.Prelude.{Result, Ok, Err}
use Rattle.basis.specs.Cases.{either}
use Rattle.basis.specs.Writing.{set_in}
use Rattle.seen.specs.State.{id_size}
use Rattle.seen.specs.Calls.{cap_of}
use Rattle.mcache.specs.State.{message_size}
use Rattle.node.specs.declared.Node.{Node}
use Rattle.basis.specs.declared.Fault.TheVariants as fault
use Rattle.basis.specs.declared.Fault.{Fault}
use Rattle.node.specs.Calls.{lent_of, right_sizes}
use Rattle.stored.specs.Layout.{node_size, node_in}
use Rattle.why.specs.Given.{seen_part, cache_part, given_of, Gives}
use Rattle.why.specs.Laws.{placed, given-parts}

-- the first bytes, copied into an array of their size
pub node_copied : (s l after : List ℕ) (n : Node) → node_size ≤ length s → length l ≡ node_size
    → after ≡ set_in (length (take node_size s)) 0 (take node_size s) l → n ≡ node_in after → n ≡ node_in (take node_size s)
node_copied s l after n h i z e =
    let p = take node_size s in
    let k : length p ≡ node_size = length-take-le node_size s h in
    let w : after ≡ p ++ [] = placed p l after (omega arith) z ∙ ap (λ (t : List ℕ). p ++ t) (drop_of_length-le l {i = length p} (omega arith)) in
    e ∙ ap node_in (w ∙ append-nil p)

-- a part that goes to the end
tail : (k : ℕ) (l : List ℕ) → take (length l - k) (drop k l) ≡ drop k l
tail k l = take_all (length l - k) (drop k l) (rw (length-drop k l) (omega arith))

module _ (n : Node) (rest : List ℕ) where
  -- too few bytes for the seen store
  pub short : length rest / id_size < n.max_seen → Err fault.BadStore ≡ given_of n rest
  unfolding given_of
  short h = rw (ne_eqb (length rest) (n.max_seen * id_size + n.cache.max_messages * message_size) (λ e. omega arith))

  -- enough for it: the node meets 41 where the cache store is of another length
  other_cache : n.max_seen ≤ length rest / id_size
      → eqb (length rest) (n.max_seen * id_size + n.cache.max_messages * message_size) ≡ false
      → lent_of n (seen_part n rest) (cache_part n rest) ≡ Err fault.BadStore
  unfolding lent_of right_sizes cap_of
  other_cache h f =
      let k = n.max_seen * id_size in
      let l : length (seen_part n rest) ≡ k = length-take-le k rest (omega arith) in
      let m : length (cache_part n rest) ≡ length rest - k = length-drop k rest in
      let w : length (cache_part n rest) ≡ n.cache.max_messages * message_size → ⊥ =
      λ e. eqb-false (length rest) (k + n.cache.max_messages * message_size) f (omega arith) in
      simp (le-ltb (length (seen_part n rest) / id_size) n.max_seen (omega arith), eq-eqb _ _ l, ne_eqb _ _ w)

  pub enough : (r : Result (Unit {0}) Fault) → n.max_seen ≤ length rest / id_size
      → r ≡ lent_of n (seen_part n rest) (take (length rest - n.max_seen * id_size) (cache_part n rest))
      → r ≡ given_of n rest
  unfolding given_of
  enough r h q =
      let e : r ≡ lent_of n (seen_part n rest) (cache_part n rest) = q ∙ ap (lent_of n (seen_part n rest)) (tail _ rest) in
      either (eqb (length rest) (n.max_seen * id_size + n.cache.max_messages * message_size)) (λ t. rw t e)
      (λ f. rw f (e ∙ other_cache h f))

  pub refused : {ss cs : List ℕ} {why : Fault} → Err why ≡ given_of n rest → Gives n rest ss cs (Err why) ss cs
  refused e = record { answer = e; seen = rw (← e); cache = rw (← e) }

  module _ (e : Ok tt ≡ given_of n rest) where
    -- it has the bytes of its seen store
    pub fine-room : n.max_seen * id_size ≤ length rest
    fine-room = let l = (given-parts n rest (sym e)).0 in omega arith

    pub taken : {ss cs ids messages part : List ℕ} → ids ≡ set_in (length (seen_part n rest)) 0 (seen_part n rest) ss
        → part ≡ take (length rest - n.max_seen * id_size) (cache_part n rest)
        → messages ≡ set_in (length part) 0 part cs → Gives n rest ss cs (Ok tt) ids messages
    taken p t q =
        record { answer = e; seen = rw (← e) p; cache = rw (← e) (rw (t ∙ tail (n.max_seen * id_size) rest) at q) }
