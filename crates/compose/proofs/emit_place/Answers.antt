-- `compose::emit_place` meets its contract: nothing, or the bytes at the place.
use Rattle.std.specs.Prelude.{option_copied}
use Rattle.std.proofs.Common.{sym, ap, ◌∙◌, arith}
use Rattle.protobuf.specs.Encode.{bytes_field}
use Rattle.rpc.specs.Encode.{optional}
use Rattle.compose.specs.Puts.{puts_none, puts_same}
use Rattle.compose.proofs.emit_place.Goals as goal

pub returns-in-None : goal.returns-in-None
returns-in-None c =
    let a = c.args in
    let e = ap (λ o. optional (bytes_field a.n) (option_copied o)) (sym c.in-None.is) ∙ ap (optional (bytes_field a.n)) c.field_at.ensures in
    puts_same a.out.now a.at _ _ _ _ e (puts_none a.out.now a.at (omega (arith, c.ranges.at.fits)))

pub returns-in-Some : goal.returns-in-Some
returns-in-Some c =
    let a = c.args in
    let e = ap (λ o. optional (bytes_field a.n) (option_copied o)) (sym c.in-Some.is) ∙ ap (optional (bytes_field a.n)) c.field_at.ensures in
    puts_same a.out.now a.at _ _ _ _ e c.emit_part.ensures
