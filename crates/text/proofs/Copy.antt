-- spell_text: a copy into the part from a place on is a run of stores.
use Prim.Native.Nat.{ℕ, ◌+◌, ◌-◌, ◌≤◌}
use mathlib.Core.Path.{◌≡◌, sym, ◌∙◌}
use mathlib.Core.List.{List, append_assoc}
use native.Mathlib.Omega.{arith}
use lib.ListN.{length, take, drop}
use lib.Seq.{sets, sets-eq, drop-drop}
use borrow.Rule.Slice.PartMut.{put_mid}

pub copied : (out text y : List ℕ) (at : ℕ) → at + length text ≤ length out → y ≡ text → put_mid at ((at + length text) - at) out y ≡ sets out at text
copied out text y at h e =
    let k : (at + length text) - at ≡ length text = omega arith in
    rw (e, k, drop-drop) (sym (sets-eq text out at h ∙ append_assoc (take at out) text (drop (at + length text) out)))
