-- `compose::weigh` meets its contract: each place that is asked for lies within the bytes.
use Rattle.compose.proofs.Tests.{message-places}
use Rattle.compose.proofs.weigh.Goals as goal

pub field_at-from-requires : goal.field_at-from-requires
field_at-from-requires c =
    let a = c.args in
    let m = c.requires.message_row in
    (message-places a.records.now a.bytes.now a.i _ c.requires.inside m.0 m.1 c.row_at-r.ensures).from

pub field_at-requires : goal.field_at-requires
field_at-requires c =
    let a = c.args in
    let m = c.requires.message_row in
    (message-places a.records.now a.bytes.now a.i _ c.requires.inside m.0 m.1 c.row_at-r.ensures).seqno

pub field_at-signature-requires : goal.field_at-signature-requires
field_at-signature-requires c =
    let a = c.args in
    let m = c.requires.message_row in
    (message-places a.records.now a.bytes.now a.i _ c.requires.inside m.0 m.1 c.row_at-r.ensures).signature

pub field_at-key-requires : goal.field_at-key-requires
field_at-key-requires c =
    let a = c.args in
    let m = c.requires.message_row in
    (message-places a.records.now a.bytes.now a.i _ c.requires.inside m.0 m.1 c.row_at-r.ensures).key
