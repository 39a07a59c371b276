-- `protobuf::read_varint_value` meets its contract: a varint ends within the input.
use mathlib.Core.Path.{◌≡◌, ap, ◌∙◌}
use native.Mathlib.Omega.{arith}
use lib.ListN.{drop}
use Rattle.std.proofs.lemmas.Grind.{common_steps}
use Rattle.peer_id.specs.Uvarint.{read_uvarint}
use Rattle.peer_id.specs.Laws.{used}
use Rattle.protobuf.proofs.read_varint_value.Goals as goal

pub overflow_add-result : goal.overflow_add-result
overflow_add-result c =
    let a = c.args in
    let e : c.unwrap_or_default.result.now ≡ drop a.idx a.input.now = grind (arith, common_steps) in
    omega (arith, used a.input.now a.idx _ _ (c.in-Ok.ensures ∙ ap read_uvarint e))
