-- `message::decode` meets its contract: the test of the body and the room pick the case, and where all fit, the records are written.
-- the table goes by the answer
use Prim.Native.Nat.{ℕ, ◌+◌, ◌*◌, ◌/◌, ◌≤◌, ◌<◌}
use mathlib.Core.Path.{◌≡◌, refl, ap, ◌∙◌}
use mathlib.Core.List.{List}
use mathlib.Core.Bool.{Bool}
use native.Mathlib.Omega.{arith}
use lib.ListN.{length}
use borrow.Author.Tests.{lt-ltb, le-ltb}
use lib.Seq.{sets}
use Rattle.std.specs.Prelude.{Result, Ok, Err}
use Rattle.std.proofs.lemmas.Result.{err_from_is_err_and}
use Rattle.basis.specs.declared.Edition.{Edition}
use Rattle.basis.specs.declared.Mode.{Mode}
use Rattle.basis.specs.declared.Mode.TheVariants.{Plain, Groups}
use Rattle.basis.specs.Dialect.{spoken}
use Rattle.basis.specs.declared.Dialect.{Dialect}
use Rattle.basis.specs.Cases.{clash}
use Rattle.basis.specs.Unique.{Leaves}
use Rattle.schema.specs.declared.Kind.TheVariants as kind
use Rattle.schema.specs.Schema.{own_of}
use Rattle.schema.specs.Count.{counted}
use Rattle.schema.specs.Accept.{body_records}
use Rattle.schema.specs.AcceptLaws.{Gate, large, bad, many, passes, gate}
use Rattle.message.specs.declared.Record.{Record}
use Rattle.message.specs.declared.DecodeError.TheVariants as dec
use Rattle.message.specs.declared.DecodeError.{DecodeError}
use Rattle.protobuf.specs.declared.Refusal.{Refusal}
use Rattle.message.specs.Rows.{rows_of, words_of_all}
use Rattle.schema.specs.Modes.{same-has}
use Rattle.message.specs.Modes.{same_rows}
use Rattle.message.specs.RowsLaws.{rows-length}
use Rattle.message.specs.Decode.{has_control, on_count, decode_answer, leaves, decode_table}
use Rattle.message.proofs.decode.Goals as goal

decided : (d : Dialect) (s t : List ℕ) (r : Result (ℕ × Bool) DecodeError) → r ≡ decode_answer d s (length t)
    → Leaves (decode_answer d s (length t)) (decode_table d s t) r (leaves d s t r)
unfolding decode_table
decided d s t r e = record { answer = e; lent = ap (leaves d s t) e }

module _ (d : Dialect) (s : List ℕ) (words : ℕ) where
  answered : (c : Result ℕ Refusal) → c ≡ body_records d s → on_count (words / 20) (has_control d.mode s) c ≡ decode_answer d s words
  unfolding decode_answer
  answered c e = ap (on_count (words / 20) (has_control d.mode s)) e

  module _ (n : ℕ) (e : Ok n ≡ body_records d s) where
    short : words / 20 < n → Err (dec.Room n) ≡ decode_answer d s words
    short r = simp (lt-ltb _ _ r) at (answered (Ok n) e)

    fits : (c : Bool) → c ≡ has_control d.mode s → n ≤ words / 20 → Ok (n, c) ≡ decode_answer d s words
    fits c k r = ap (λ (b : Bool). Ok (n, b)) k ∙ simp (le-ltb _ _ r) at (answered (Ok n) e)

-- what was taken is read alike by the mode that passes over groups

record Alike (d : Dialect) (s : List ℕ) : Type 0 where
  rows : rows_of Groups (kind.Rpc d.edition) 0 s ≡ rows_of d.mode (kind.Rpc d.edition) 0 s
  control : has_control Groups s ≡ has_control d.mode s

alike_in : (mode : Mode) (e : Edition) (s : List ℕ) (n : ℕ) → counted mode (kind.Rpc e) s ≡ Ok n
    → Alike (spoken mode e) s
unfolding has_control
alike_in Plain e s n q = record { rows = same_rows (kind.Rpc e) 0 s n q; control = same-has (kind.Rpc e) s n 3 q }
alike_in Groups e s n q = record { rows = refl; control = refl }

gate-alike : (d : Dialect) (s : List ℕ) (n : ℕ) (r : Result ℕ Refusal) → Gate d s r → Ok n ≡ r → Alike d s
gate-alike d s n _ (large h) e = clash (cc)
gate-alike d s n _ (bad h why q) e = clash (cc)
gate-alike d s n _ (many h m q x) e = clash (cc)
gate-alike d s n _ (passes h m q x) e = alike_in d.mode d.edition s m q

alike : (d : Dialect) (s : List ℕ) (n : ℕ) → Ok n ≡ body_records d s → Alike d s
alike d s n e = gate-alike d s n (body_records d s) (gate d s) e

-- a body that is taken is small, and the rows that were counted have room

of-gate : (d : Dialect) (s t : List ℕ) (n : ℕ) (r : Result ℕ Refusal) → Gate d s r → Ok n ≡ r → n ≤ length t / 20
    → (0 + length s ≤ 65536) × ((0 + length (rows_of d.mode (kind.Rpc d.edition) 0 s)) * 20 ≤ length t)
unfolding own_of
of-gate d s t n _ (large h) e l = clash (cc)
of-gate d s t n _ (bad h why q) e l = clash (cc)
of-gate d s t n _ (many h m q x) e l = clash (cc)
of-gate d s t n _ (passes h m q x) e l =
    let z : n ≡ m = cc in let k = rows-length d.mode (kind.Rpc d.edition) 0 s m q in (omega arith, omega arith)

room : (d : Dialect) (s t : List ℕ) (n : ℕ) → Ok n ≡ body_records d s → n ≤ length t / 20
    → (0 + length s ≤ 65536) × ((0 + length (rows_of d.mode (kind.Rpc d.edition) 0 s)) * 20 ≤ length t)
room d s t n e h = of-gate d s t n (body_records d s) (gate d s) e h

pub returns-in_err-n : goal.returns-in_err-n
returns-in_err-n c =
    let a = c.args in
    let p = err_from_is_err_and c.from_residual.result c.from_residual.ensures.1 in
    rw (p.1, p.2) (decided a.dialect a.body.now a.table.now _ (answered a.dialect a.body.now _ _ c.in_err-n.ensures))

pub returns-then-table-n : goal.returns-then-table-n
returns-then-table-n c =
    let a = c.args in
    decided a.dialect a.body.now a.table.now _ (short a.dialect a.body.now _ _ c.in_ok-n.ensures c.if-table-n.true)

pub write_message-requires : goal.write_message-requires
write_message-requires c =
    let a = c.args in
    let e = c.in_ok-n.ensures in
    rw (alike a.dialect a.body.now _ e).rows (room a.dialect a.body.now a.table.now _ e c.if-table-n.false)

pub returns : goal.returns
returns c =
    let a = c.args in
    let e = c.in_ok-n.ensures in
    let k = alike a.dialect a.body.now _ e in
    let f = fits a.dialect a.body.now _ _ e _ (c.has_control-control.ensures ∙ k.control) c.if-table-n.false in
    let d = decided a.dialect a.body.now a.table.now _ f in
    record {
      answer = d.answer;
      lent = c.write_message.ensures.table_after ∙ ap (λ (rs : List Record). sets a.table.now 0 (words_of_all rs)) k.rows ∙ d.lent;
    }
