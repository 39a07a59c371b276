-- Laws of the table: what holds of each row holds of the role of every field; and a submessage's kind ranks lower.
use Rattle.std.specs.Prelude.{ℕ, ◌+◌, ◌<◌, ◌≡◌, List, [], ◌∷◌, eqb}
use Rattle.std.proofs.Common.{sym, subst, arith, eqb-true}
use Rattle.basis.specs.declared.Edition.{Edition}
use Rattle.basis.specs.declared.Edition.TheVariants.{V11, V12}
use Rattle.basis.specs.Cases.{either, clash}
use Rattle.schema.specs.declared.Kind.{Kind}
use Rattle.schema.specs.declared.Kind.TheVariants as kind
use Rattle.schema.specs.declared.Form.{Form}
use Rattle.schema.specs.declared.Form.TheVariants.{Anew, Whole, Merged}
use Rattle.schema.specs.declared.Held.TheVariants as held
use Rattle.schema.specs.declared.Role.{Role}
use Rattle.schema.specs.declared.Role.TheVariants.{Skip, Number, Text, Bytes, Unsigned, Topic, MessageId, Sub}
use Rattle.schema.specs.Schema.{added_in, table, row_from, row_of, is_varint, role_of, formed_as, held_of, rank}

-- ---- what holds of each row, with its number, and of Skip, holds of the role of every field
abbrev pub Rows : (ℕ → Role → Type 0) → ℕ → List Role → Type 0
Rows P i [] = Unit {0}
Rows P i (r ∷ rs) = P i r × Rows P (i + 1) rs

pub each_row_lem : (P : ℕ → Role → Type 0) → ((n : ℕ) → P n Skip) → (i : ℕ) (rs : List Role) → Rows P i rs → (n : ℕ)
    → P n (row_from i rs n)
each_row_lem P z i [] h n = z n
each_row_lem P z i (r ∷ rs) h n =
    either (eqb n i) (λ t. simp t (subst (λ (m : ℕ). P m r) (sym (eqb-true n i t)) h.0))
    (λ t. simp t (each_row_lem P z (i + 1) rs h.1 n))

-- ---- a submessage's kind ranks lower
abbrev Below : Kind → Role → Type 0
Below k Skip = Unit {0}
Below k (Number figure) = Unit {0}
Below k (Text slot) = Unit {0}
Below k (Bytes slot) = Unit {0}
Below k (Unsigned slot) = Unit {0}
Below k Topic = Unit {0}
Below k MessageId = Unit {0}
Below k (Sub j form) = rank j < rank k

added-below : (c e : Edition) → Rows (λ n r. Below (kind.ControlMessage c) r) 5 (added_in e)
unfolding rank
added-below c V11 = tt
added-below c V12 = (omega arith, tt)

rows-below : (k : Kind) → Rows (λ n r. Below k r) 1 (table k)
unfolding rank
rows-below (kind.Rpc e) = (omega arith, (omega arith, (omega arith, tt)))
rows-below kind.SubOpts = (tt, (tt, tt))
rows-below kind.RawMessage = (tt, (tt, (tt, (tt, (tt, (tt, tt))))))
rows-below kind.Topic = tt
rows-below (kind.ControlMessage e) = (omega arith, (omega arith, (omega arith, (omega arith, added-below e e))))
rows-below kind.ControlIHave = (tt, (tt, tt))
rows-below kind.ControlIWant = (tt, tt)
rows-below kind.MessageId = tt
rows-below kind.ControlGraft = (tt, tt)
rows-below kind.ControlPrune = (tt, (omega arith, (tt, tt)))
rows-below kind.PeerInfo = (tt, (tt, tt))
rows-below kind.ControlIDontWant = (tt, tt)

row_below : (k : Kind) (n : ℕ) → Below k (row_of k n)
row_below k n = each_row_lem (λ m r. Below k r) (λ m. tt) 1 (table k) (rows-below k) n

pub row-rank : (k j : Kind) (form : Form) (n : ℕ) → row_of k n ≡ Sub j form → rank j < rank k
row-rank k j form n h = subst (Below k) h (row_below k n)

pub sub-rank : (k j : Kind) (form : Form) (n type : ℕ) → role_of k n type ≡ Sub j form → rank j < rank k
unfolding role_of
sub-rank k j form n type h =
    either (eqb type 2)
    (λ a. either (is_varint (row_of k n)) (λ b. clash (let e = simp (a, b) at h in cc))
    (λ b. row-rank k j form n (simp (a, b) at h)))
    (λ a. either (eqb type 0)
    (λ b. either (is_varint (row_of k n)) (λ c. row-rank k j form n (simp (a, b, c) at h))
    (λ c. clash (let e = simp (a, b, c) at h in cc)))
    (λ b. clash (let e = simp (a, b) at h in cc)))

-- and so does the kind of entries that are written anew
formed_below : (k j i : Kind) (form : Form) → rank i < rank k → formed_as i form ≡ held.Anew j → rank j < rank k
formed_below k j i Anew l h = let e : i ≡ j = cc in rw (← e) l
formed_below k j i Whole l h = clash (cc)
formed_below k j i Merged l h = clash (cc)

role_below : (k j : Kind) (r : Role) → Below k r → held_of r ≡ held.Anew j → rank j < rank k
role_below k j Skip l h = clash (cc)
role_below k j (Number figure) l h = clash (cc)
role_below k j (Text slot) l h = clash (cc)
role_below k j (Bytes slot) l h = clash (cc)
role_below k j (Unsigned slot) l h = clash (cc)
role_below k j Topic l h = clash (cc)
role_below k j MessageId l h = clash (cc)
role_below k j (Sub i form) l h = formed_below k j i form l h

pub held-rank : (k j : Kind) (n : ℕ) → held_of (row_of k n) ≡ held.Anew j → rank j < rank k
held-rank k j n h = role_below k j (row_of k n) (row_below k n) h
