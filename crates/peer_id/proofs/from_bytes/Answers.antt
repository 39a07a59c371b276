-- `peer_id::from_bytes` meets its contract: two bytes and just so many more, or no peer id.
use mathlib.Core.Path.{ap, ◌∙◌}
use native.Mathlib.Omega.{arith}
use Prim.Native.Nat.{ℕ}
use lib.ListN.{get_or}
use Rattle.peer_id.specs.PeerId.{hash_of}
use Rattle.peer_id.proofs.Peer.{no-multihash, as_multihash}
use Rattle.peer_id.proofs.from_bytes.Goals as goal

pub returns-in_default : goal.returns-in_default
returns-in_default c = no-multihash c.args.multihash.now (λ z. omega arith)

pub returns-then-size-digest : goal.returns-then-size-digest
returns-then-size-digest c = no-multihash c.args.multihash.now (λ z. omega (arith, c.from-size.ensures))

pub returns : goal.returns
returns c = let s = c.args.multihash.now in as_multihash s _ (omega (arith, c.from-size.ensures))
    (c.hash_of.ensures ∙ ap (λ (n : ℕ). hash_of (get_or s 0 0) n) c.from-size.ensures)
