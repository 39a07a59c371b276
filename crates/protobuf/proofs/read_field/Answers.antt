-- `protobuf::read_field` meets its contract: a length-delimited field whose tag and length are a byte each is read here, any other by `read_any_field`.
use mathlib.Core.Path.{refl}
use Rattle.protobuf.proofs.Short.{short-field, no_field}
use Rattle.protobuf.proofs.read_field.Goals as goal

pub returns-then-input-idx : goal.returns-then-input-idx
returns-then-input-idx c = let a = c.args in no_field a.mode a.input.now a.idx c.if-input-idx.true

pub returns-then-len-input : goal.returns-then-len-input
returns-then-len-input c =
    let a = c.args in let q = c.is_short.ensures c.if-is_short.true in
    short-field a.mode a.input.now a.idx _ _ c.if-tag_end-input.true refl refl q.0 q.1 q.2 q.3 c.if-len-input.true
