-- `encode::emit_signed` meets its contract: the prefix, and the message's canonical bytes where it ends.
use native.Mathlib.Omega.{arith}
use Rattle.schema.specs.declared.Kind.TheVariants as kind
use Rattle.rpc.specs.Encode.{sign_prefix}
use Rattle.canon.specs.Canon.{canon, sign_of}
use Rattle.encode.specs.Puts.{puts_append}
use Rattle.basis.specs.declared.Mode.TheVariants.{Groups}
use Rattle.encode.proofs.emit_signed.Goals as goal

pub emit_message-requires : goal.emit_message-requires
emit_message-requires c = omega (arith, c.emit_bytes-i.ensures.ends, c.requires)

pub returns : goal.returns
unfolding sign_of
returns c =
    let a = c.args in
    puts_append a.out.now _ _ 0 _ _ sign_prefix (canon Groups kind.RawMessage a.part.now)
    (c.emit_bytes-i.ensures) (c.emit_message.ensures)
