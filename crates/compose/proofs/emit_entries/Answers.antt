-- `compose::emit_entries` meets its contract: grafts, and then prunes.
use mathlib.Core.Path.{refl}
use native.Mathlib.Omega.{arith}
use Rattle.compose.specs.Puts.{puts_append}
use Rattle.compose.proofs.Parts.{is_written_lem}
use Rattle.compose.proofs.emit_entries.Goals as goal

pub emit_rows-i-requires : goal.emit_rows-i-requires
emit_rows-i-requires c =
    record {
      inside = c.requires;
      written = (is_written_lem _ refl, omega arith);
    }

pub emit_rows-requires : goal.emit_rows-requires
emit_rows-requires c =
    record {
      inside = c.requires;
      written = (is_written_lem _ refl, omega arith);
    }

pub returns : goal.returns
returns c = let a = c.args in puts_append a.out.now _ _ a.at _ _ _ _ c.emit_rows-i.ensures c.emit_rows.ensures
