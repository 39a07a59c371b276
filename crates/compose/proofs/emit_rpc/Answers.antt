-- `compose::emit_rpc` meets its contract: subscriptions, messages, the control: the encoding of the RPC that the rows say.
use mathlib.Core.Path.{refl, sym}
use native.Mathlib.Omega.{arith}
use Rattle.compose.specs.Lent.{lent_rows}
use Rattle.compose.specs.Laws.{said-written}
use Rattle.compose.specs.Puts.{puts_same, puts_append}
use Rattle.compose.proofs.Parts.{is_written_lem}
use Rattle.compose.proofs.emit_rpc.Goals as goal

pub emit_rows-i-requires : goal.emit_rows-i-requires
emit_rows-i-requires c =
    record {
      inside = c.requires;
      written = (is_written_lem _ refl, omega arith);
    }

pub emit_rows-j-requires : goal.emit_rows-j-requires
emit_rows-j-requires c =
    record {
      inside = c.requires;
      written = (is_written_lem _ refl, omega arith);
    }

pub returns : goal.returns
returns c =
    let a = c.args in
    puts_same a.out.now 0 _ _ _ _ (sym (said-written a.bytes.now (lent_rows a.records.now)))
    (puts_append a.out.now _ _ 0 _ _ _ _ c.emit_rows-i.ensures (puts_append _ _ _ _ _ _ _ _ c.emit_rows-j.ensures c.emit_control.ensures))
