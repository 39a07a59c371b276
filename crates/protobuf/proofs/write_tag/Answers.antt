-- `protobuf::write_tag` meets its contract: a tag that can be written fits a number of the machine.
use mathlib.Core.Path.{sym}
use native.Mathlib.Omega.{arith}
use Rattle.protobuf.specs.EncodeLaws.{fine-tag}
use Rattle.protobuf.proofs.write_tag.Goals as goal

pub overflow_mul-field : goal.overflow_mul-field
overflow_mul-field c = let t = fine-tag c.args.field c.args.wire_type (sym (c.in_ok-check_tag.ensures)) in omega arith

pub overflow_add-field : goal.overflow_add-field
overflow_add-field c = let t = fine-tag c.args.field c.args.wire_type (sym (c.in_ok-check_tag.ensures)) in omega arith
