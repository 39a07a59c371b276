-- `encode::encode_taken` meets its contract: measured where the room may be short, and written where it fits.
use Prim.Native.Nat.{◌≤◌}
use mathlib.Core.Path.{ap}
use native.Mathlib.Omega.{arith}
use lib.ListN.{length}
use Rattle.protobuf.specs.Encode.{of_written}
use Rattle.basis.specs.declared.Mode.TheVariants.{Groups}
use Rattle.basis.specs.Dialect.{spoken}
use Rattle.canon.specs.Canon.{canon_body}
use Rattle.encode.proofs.Parts.{too_short, all-put, measured}
use Rattle.encode.proofs.encode_taken.Goals.{then-out-body+else-out-needed, else-out-body}
use Rattle.encode.proofs.encode_taken.Goals as goal

pub returns-then-out-needed : goal.returns-then-out-needed
returns-then-out-needed c =
    let a = c.args in
    let x = canon_body (spoken Groups a.edition) a.body.now in
    let r = too_short x a.out.now _ (measured x _ _ _ c.emit_body-needed.ensures) c.if-out-needed.true in record {
      value = ap of_written r.0;
      out_after = r.1;
    }

pub returns : goal.returns
returns c =
    let a = c.args in
    let x = canon_body (spoken Groups a.edition) a.body.now in
    let l : length x ≤ length a.out.now =
    elim c.if-out-body.branch [
      | then-out-body+else-out-needed w ↦ let e = measured x _ _ _ w.emit_body-needed.ensures in omega (arith, e, w.if-out-needed.false)
      | else-out-body w ↦ omega (arith, c.requires.0, w.if-out-body.false)
    ] in
    let e = measured x _ _ _ c.emit_body.ensures in
    let r = all-put x a.out.now _ e (omega (arith, e, l)) _ _ c.emit_body.ensures in record {
      value = ap of_written r.0;
      out_after = r.1;
    }
