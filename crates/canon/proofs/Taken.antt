-- A body is taken exactly when it means an RPC within capacity; and then its canonical bytes are never longer than it,
-- nor those of a message in it.
use Rattle.std.specs.Prelude.{Result, Ok, Err, ℕ, ◌≤◌, ◌≡◌, List, ◌↔◌, length}
use Rattle.std.proofs.Common.{sym, ap, subst, arith}
use Rattle.basis.specs.declared.Dialect.{Dialect}
use Rattle.basis.specs.declared.Told.{Told}
use Rattle.basis.specs.Bytes.{Bytes}
use Rattle.basis.specs.Cases.{clash}
use Rattle.protobuf.specs.declared.Refusal.{Refusal as Placed}
use Rattle.protobuf.specs.Told.{refusal_told}
use Rattle.protobuf.specs.Walk.{between}
use Rattle.schema.specs.declared.Kind.TheVariants as kind
use Rattle.schema.specs.Accept.{body_records, checked, accept_of}
use Rattle.schema.specs.AcceptLaws.{gate, is-taken, taken_fine}
use Rattle.rpc.specs.Rpc.{Rpc}
use Rattle.meaning.specs.Accepted.{rpc-means, rpc-accepted}
use Rattle.meaning.specs.Decoded.{Refusal, counted-records, refusal-of, of-refusal}
pub use Rattle.meaning.specs.Decoded.{Within}
use Rattle.ids.specs.Ids.{message_at}
use Rattle.canon.specs.Canon.{canon, canon_body}
use Rattle.canon.specs.Shorter.{never_longer}
use Rattle.canon.specs.Messages.{message-found}
use Rattle.canon.proofs.Written.{canon-written, message-shorter}

pub taken : {d : Dialect} {s : List ℕ} {x : Rpc} → Within d s x → accept_of d s ≡ Ok tt
taken {d} {s} {x} w =
    let a = rpc-accepted d s (record { value = x; means = w.means }) in
    let n = counted-records d s a.records x a.counts w.means in
    taken_fine d s (record { records = a.records; counts = a.counts; few = omega (arith, w.few); small = w.small })

only-taken : (d : Dialect) (s : List ℕ) → Bytes s → accept_of d s ≡ Ok tt → (x : Rpc) × Within d s x
only-taken d s b h =
    let t = is-taken d s h in
    let x = rpc-means d s b (record { records = t.records; counts = t.counts }) in
    let n = counted-records d s t.records x.value t.counts x.means in
    (x.value, record { means = x.means; small = t.small; few = omega (arith, t.few) })

-- the calls take a body exactly when it means an RPC within capacity
pub taken-exactly : (d : Dialect) (s : List ℕ) → Bytes s → (accept_of d s ≡ Ok tt) ↔ ((x : Rpc) × Within d s x)
taken-exactly d s b = (only-taken d s b, λ p. taken p.1)

-- and refuse it exactly where the scope does, with what it tells
wrong_counted : (r : Result ℕ Placed) (why : Placed) → checked r ≡ Err why → r ≡ Err why
wrong_counted (Ok n) why h = clash (cc)
wrong_counted (Err w) why h = cc

refused-only : (d : Dialect) (s : List ℕ) (why : Placed) → Bytes s → accept_of d s ≡ Err why
    → Refusal d s (refusal_told why)
unfolding accept_of
refused-only d s why b h = refusal-of d s (body_records d s) why b (gate d s) (wrong_counted (body_records d s) why h)

refused-by : {d : Dialect} {s : List ℕ} {a : Told} → Refusal d s a
    → (why : Placed) × (accept_of d s ≡ Err why) × (refusal_told why ≡ a)
unfolding accept_of
refused-by r = let g = of-refusal r in (g.0, ap checked g.1, g.2)

pub refused-exactly : (d : Dialect) (s : List ℕ) (a : Told) → Bytes s
    → ((why : Placed) × (accept_of d s ≡ Err why) × (refusal_told why ≡ a)) ↔ Refusal d s a
refused-exactly d s a b = (λ p. subst (Refusal d s) p.2 (refused-only d s p.0 b p.1), refused-by)

-- ---- never longer
pub output_shorter : {d : Dialect} {s : List ℕ} {x : Rpc} → Within d s x → length (canon_body d s) ≤ length s
output_shorter {d} {s} w = subst (λ (b : List ℕ). length b ≤ length s) (sym (canon-written w.means))
    (never_longer w.means)

pub taken-shorter : (d : Dialect) (s : List ℕ) → Bytes s → accept_of d s ≡ Ok tt → length (canon_body d s) ≤ length s
taken-shorter d s b h = let t = only-taken d s b h in output_shorter t.1

pub signed-shorter : (d : Dialect) (s : List ℕ) (i a e : ℕ) → Bytes s → accept_of d s ≡ Ok tt
    → message_at d.mode s i ≡ Ok (a, e)
    → length (canon d.mode kind.RawMessage (between s a e)) ≤ length (between s a e)
signed-shorter d s i a e b h q =
    let t = only-taken d s b h in
    let f = message-found i a e t.1.means q in
    message-shorter d.mode f.2
