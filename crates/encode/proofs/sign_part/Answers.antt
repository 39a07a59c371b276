-- `encode::sign_part` meets its contract: measured where the room may be short, and written where it fits.
use Prim.Native.Nat.{◌≤◌}
use mathlib.Core.Path.{ap}
use native.Mathlib.Omega.{arith}
use lib.ListN.{length}
use Rattle.ids.specs.Ids.{of_written}
use Rattle.canon.specs.Canon.{sign_of}
use Rattle.encode.proofs.Signs.{sign_fits}
use Rattle.encode.proofs.Parts.{too_short, all-put, measured}
use Rattle.basis.specs.declared.Mode.TheVariants.{Groups}
use Rattle.encode.proofs.sign_part.Goals.{then-out-part+else-out-needed, else-out-part}
use Rattle.encode.proofs.sign_part.Goals as goal

pub emit_signed-needed-requires : goal.emit_signed-needed-requires
emit_signed-needed-requires c = let h = c.requires in omega arith

pub returns-then-out-needed : goal.returns-then-out-needed
returns-then-out-needed c =
    let a = c.args in
    let x = sign_of Groups a.part.now in
    let r = too_short x a.out.now _ (measured x _ _ _ c.emit_signed-needed.ensures) c.if-out-needed.true in record {
      value = ap of_written r.0;
      out_after = r.1;
    }

pub emit_signed-requires : goal.emit_signed-requires
emit_signed-requires c = let h = c.requires in omega arith

pub returns : goal.returns
returns c =
    let a = c.args in
    let x = sign_of Groups a.part.now in
    let l : length x ≤ length a.out.now =
    elim c.if-out-part.branch [
      | then-out-part+else-out-needed w ↦ let e = measured x _ _ _ w.emit_signed-needed.ensures in omega (arith, e, w.if-out-needed.false)
      | else-out-part w ↦ sign_fits Groups a.part.now (length a.out.now) c.requires.0 w.if-out-part.false
    ] in
    let e = measured x _ _ _ c.emit_signed.ensures in
    let r = all-put x a.out.now _ e (omega (arith, e, l)) _ _ c.emit_signed.ensures in record {
      value = ap of_written r.0;
      out_after = r.1;
    }
