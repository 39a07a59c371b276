-- `inspect::records::put_record` meets its contract: the kind says what is put.
use mathlib.Core.Path.{sym, ap}
use native.Mathlib.Omega.{arith}
use Rattle.text.specs.Laws.{puts_as}
use Rattle.schema.specs.declared.Kind.{Kind}
use Rattle.inspect.specs.Records.{record_text}
use Rattle.lines.specs.Laws.{wrote_puts}
use Rattle.inspect.proofs.records.put_record.Goals as goal

pub returns-in-Rpc : goal.returns-in-Rpc
unfolding record_text
returns-in-Rpc c =
    puts_as (ap (λ (k : Kind). record_text k c.args.s.now c.args.slots) (sym c.in-Rpc.is)) (omega arith) (wrote_puts (omega arith) c.put_word.ensures)

pub returns-in-SubOpts : goal.returns-in-SubOpts
unfolding record_text
returns-in-SubOpts c =
    puts_as (ap (λ (k : Kind). record_text k c.args.s.now c.args.slots) (sym c.in-SubOpts.is)) (omega arith) c.put_sub.ensures

pub returns-in-RawMessage : goal.returns-in-RawMessage
unfolding record_text
returns-in-RawMessage c =
    puts_as (ap (λ (k : Kind). record_text k c.args.s.now c.args.slots) (sym c.in-RawMessage.is)) (omega arith) c.put_message.ensures

pub returns-in-Topic : goal.returns-in-Topic
unfolding record_text
returns-in-Topic c =
    puts_as (ap (λ (k : Kind). record_text k c.args.s.now c.args.slots) (sym c.in-Topic.is)) (omega arith) c.put_whole.ensures

pub returns-in-ControlMessage : goal.returns-in-ControlMessage
unfolding record_text
returns-in-ControlMessage c =
    puts_as (ap (λ (k : Kind). record_text k c.args.s.now c.args.slots) (sym c.in-ControlMessage.is)) (omega arith) (wrote_puts (omega arith) c.put_word-in-ControlMessage.ensures)

pub returns-in-ControlIHave : goal.returns-in-ControlIHave
unfolding record_text
returns-in-ControlIHave c =
    puts_as (ap (λ (k : Kind). record_text k c.args.s.now c.args.slots) (sym c.in-ControlIHave.is)) (omega arith) c.put_first.ensures

pub returns-in-ControlIWant : goal.returns-in-ControlIWant
unfolding record_text
returns-in-ControlIWant c =
    puts_as (ap (λ (k : Kind). record_text k c.args.s.now c.args.slots) (sym c.in-ControlIWant.is)) (omega arith) (wrote_puts (omega arith) c.put_word-in-ControlIWant.ensures)

pub returns-in-MessageId : goal.returns-in-MessageId
unfolding record_text
returns-in-MessageId c =
    puts_as (ap (λ (k : Kind). record_text k c.args.s.now c.args.slots) (sym c.in-MessageId.is)) (omega arith) c.put_whole-in-MessageId.ensures

pub returns-in-ControlGraft : goal.returns-in-ControlGraft
unfolding record_text
returns-in-ControlGraft c =
    puts_as (ap (λ (k : Kind). record_text k c.args.s.now c.args.slots) (sym c.in-ControlGraft.is)) (omega arith) c.put_first-in-ControlGraft.ensures

pub returns-in-ControlPrune : goal.returns-in-ControlPrune
unfolding record_text
returns-in-ControlPrune c =
    puts_as (ap (λ (k : Kind). record_text k c.args.s.now c.args.slots) (sym c.in-ControlPrune.is)) (omega arith) c.put_prune.ensures

pub returns-in-PeerInfo : goal.returns-in-PeerInfo
unfolding record_text
returns-in-PeerInfo c =
    puts_as (ap (λ (k : Kind). record_text k c.args.s.now c.args.slots) (sym c.in-PeerInfo.is)) (omega arith) c.put_peer.ensures

pub returns-in-ControlIDontWant : goal.returns-in-ControlIDontWant
unfolding record_text
returns-in-ControlIDontWant c =
    puts_as (ap (λ (k : Kind). record_text k c.args.s.now c.args.slots) (sym c.in-ControlIDontWant.is)) (omega arith) (wrote_puts (omega arith) c.put_word-in-ControlIDontWant.ensures)
