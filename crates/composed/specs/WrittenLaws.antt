-- A write that is not refused leaves the encoding of the RPC that the lists say; these bytes are accepted and mean that
-- RPC in every dialect, and decode's records of them read back as it.
use Rattle.std.specs.Prelude.{Result, Ok, Err, ℕ, ◌/◌, ◌%◌, ◌≤◌, ◌≡◌, refl, true, false, List, ◌++◌, length, drop, leb, eqb}
use Rattle.std.proofs.Common.{sym, ap, ◌∙◌, arith, leb-true}
use Rattle.basis.specs.declared.Dialect.{Dialect}
use Rattle.basis.specs.Cases.{either, clash, both}
use Rattle.basis.specs.Bytes.{Bytes}
use Rattle.basis.specs.Writing.{written}
use Rattle.meaning.specs.Size.{records_in}
use Rattle.meaning.specs.Decoded.{present, Within, accepted-exactly, table-means}
use Rattle.compose.specs.declared.Wrong.{Wrong}
use Rattle.compose.specs.Lent.{lent_rows, lent_from, lent_well}
use Rattle.compose.specs.Compose.{put_answer, answering, leaving, write_tested, write_answer, write_left}
use Rattle.compose.specs.Laws.{rows-length}
use Rattle.composed.specs.Written.{Words, said_of, body_of, Wrote, Reads}
use Rattle.composed.specs.Means.{plain-within}
use Rattle.composed.specs.MeansBytes.{said-bytes}
use Rattle.composed.specs.WrittenRows.{passed-of, said_plain, said_sayable, said-records}

-- ---- what a write leaves
put_count : (xs out : List ℕ) (n : ℕ) → put_answer xs out ≡ Ok n
    → (n ≡ length xs) × (n ≤ length out) × (written xs out ≡ xs ++ drop n out)
unfolding put_answer written
put_count xs out n h =
    either (leb (length xs) (length out))
    (λ t. let z = simp t at h in let e : length xs ≡ n = cc in let l = leb-true (length xs) (length out) t in
    (sym e, omega arith, simp t (ap (λ (k : ℕ). xs ++ drop k out) e)))
    (λ t. clash (let z = simp t at h in cc))

wrote_of : (flags : ℕ) (t b out : List ℕ) (n : ℕ) (r : Result (Unit {0}) Wrong) → write_tested flags t b ≡ r
    → answering (put_answer (body_of t b) out) r ≡ Ok n
    → Wrote flags t b out n
unfolding write_left
wrote_of flags t b out n (Ok tt) e h =
    let g = put_count (body_of t b) out n h in
    record { tested = e; count = g.0; fits = g.1; left = ap (leaving out (written (body_of t b) out)) e ∙ g.2 }
wrote_of flags t b out n (Err why) e h = clash (cc)

pub write_leaves : (flags : ℕ) (t b out : List ℕ) (n : ℕ) → write_answer flags t b out ≡ Ok n → Wrote flags t b out n
unfolding write_answer
write_leaves flags t b out n h = wrote_of flags t b out n (write_tested flags t b) refl h

-- ---- what the bytes mean
well-from : (t b : List ℕ) → lent_well t b ≡ true → lent_from (length b) false false (lent_rows t) ≡ true
unfolding lent_well
well-from t b h = (both (eqb (length t % 20) 0) (lent_from (length b) false false (lent_rows t)) h).1

-- each row is one record
pub lent-records : (t b : List ℕ) → lent_well t b ≡ true → records_in (said_of t b) ≡ length t / 20
lent-records t b h = said-records b (length b) (lent_rows t) (well-from t b h) ∙ rows-length t

module _ (d : Dialect) (flags : ℕ) (t b : List ℕ) (w : Words t) (h : write_tested flags t b ≡ Ok tt) where
  -- they are accepted, and mean the RPC that the lists say
  pub written-means : Within d (body_of t b) (said_of t b)
  written-means =
      let p = passed-of flags t b h in
      let n = lent-records t b p.taken.well in
      plain-within d (said_of t b) (said_plain t b w p.taken.texts) (said_sayable b (lent_rows t)) p.short
      (omega (arith, p.taken.few))

  -- decode takes them, with a record for each row, and the records read back as that RPC
  pub written_read : Bytes b → (table : List ℕ) → length t / 20 ≤ length table / 20
      → Reads d (body_of t b) (said_of t b) (length t / 20) table
  written_read c table r =
      let p = passed-of flags t b h in
      let n = lent-records t b p.taken.well in
      let told = (accepted-exactly d (body_of t b) (length table) (length t / 20) (present (said_of t b).control)
      (said-bytes b (lent_rows t) c)).1
      (record {
        rpc = said_of t b;
        within = written-means;
        room = omega arith;
        count = sym n;
        control = refl;
      }) in
      record {
        told = told;
        says = table-means d (body_of t b) table (length t / 20) (present (said_of t b).control) (said_of t b) told
            written-means.means;
      }
