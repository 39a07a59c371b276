-- Which peer id some bytes are, by the test of their size.
use Prim.Native.Nat.{ℕ, ◌+◌}
use mathlib.Core.Path.{◌≡◌, ◌∙◌}
use mathlib.Core.List.{List}
use mathlib.Core.Logic.{◌≢◌}
use lib.ListN.{length, get_or}
use borrow.Author.Tests.{eq-eqb, ne_eqb}
use Rattle.std.specs.Prelude.{Option, None}
use Rattle.peer_id.specs.declared.PeerId.{PeerId}
use Rattle.peer_id.specs.PeerId.{hash_of, from_bytes}

pub no-multihash : (s : List ℕ) → 2 + get_or s 1 0 ≢ length s → None ≡ from_bytes s
unfolding from_bytes
no-multihash s h = simp (ne_eqb (2 + get_or s 1 0) (length s) h)

pub as_multihash : (s : List ℕ) (r : Option PeerId) → 2 + get_or s 1 0 ≡ length s
    → r ≡ hash_of (get_or s 0 0) (get_or s 1 0) → r ≡ from_bytes s
unfolding from_bytes
as_multihash s r h e = e ∙ simp (eq-eqb (2 + get_or s 1 0) (length s) h)
