-- `protobuf::read_any_field` meets its contract: a number whose tag and value are a byte each, and a field with a length of two bytes, are read here, any other
-- field by `read_long_field`.
use mathlib.Core.Path.{refl}
use Rattle.protobuf.proofs.Short.{short-number, middle_field}
use Rattle.protobuf.proofs.read_any_field.Goals as goal

pub returns-then-is_short : goal.returns-then-is_short
returns-then-is_short c =
    let a = c.args in let q = c.is_short.ensures c.if-is_short.true in
    short-number a.mode a.input.now a.idx _ _ c.if-tag_end-input.true refl refl q.0 q.1 q.2 q.3

pub returns-then-len-input : goal.returns-then-len-input
returns-then-len-input c =
    let a = c.args in let q = c.is_middle.ensures c.if-is_middle.true in
    middle_field a.mode a.input.now a.idx _ _ _ c.if-second-input.true refl refl refl q.0 q.1 q.2 q.3 q.4 q.5 c.if-len-input.true
