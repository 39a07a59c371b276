-- Between the modes: where the first mode accepts a body, its messages stand in the same places in both and are accepted
-- in the first; and where it accepts a message, the parts of its id are the same.
use Rattle.std.specs.Prelude.{Ok, ℕ, ◌+◌, ◌≡◌, refl, List, eqb}
use Rattle.std.proofs.Common.{sym, ap, ap₂, subst, ◌∙◌}
use Rattle.basis.specs.declared.Mode.TheVariants.{Plain, Groups}
use Rattle.basis.specs.declared.Edition.{Edition}
use Rattle.basis.specs.Cases.{either, clash, of-ok-two}
use Rattle.protobuf.specs.Walk.{Fields, end, refused, ◌then◌, fields_of, between, is_bytes}
use Rattle.schema.specs.declared.Kind.TheVariants as kind
use Rattle.schema.specs.declared.Form.TheVariants.{Whole}
use Rattle.schema.specs.Count.{count_along, counted}
use Rattle.schema.specs.CountLaws.{count_along_lem, then-fits}
use Rattle.schema.specs.Modes.{count_at, sub-accepted, same-fields, same_slots}
use Rattle.ids.specs.Ids.{message_along, message_at, id_parts}

-- ---- the place of message i
pub same_place : (e : Edition) (s : List ℕ) (n : ℕ) → counted Plain (kind.Rpc e) s ≡ Ok n → (i : ℕ)
    → message_at Groups s i ≡ message_at Plain s i
unfolding message_at
same_place e s n q i = ap (message_along i 0) (same-fields (kind.Rpc e) s n q)

-- and that message is accepted
placed-along : (e : Edition) (s : List ℕ) (w : Fields) (i k a z n : ℕ) → message_along i k w ≡ Ok (a, z)
    → count_along (counted Plain) (kind.Rpc e) s w ≡ Ok n
    → (y : ℕ) × (counted Plain kind.RawMessage (between s a z) ≡ Ok y)
placed-along e s end i k a z n h q = clash (cc)
placed-along e s (refused why) i k a z n h q = clash (cc)
placed-along e s (f then w) i k a z n h q =
    let t = then-fits (count_at (kind.Rpc e) s f) (count_along (counted Plain) (kind.Rpc e) s w) n q in
    either (is_bytes 2 f)
    (λ b. either (eqb k i)
    (λ u. let g = of-ok-two (simp (b, u) at h) in
    subst (λ (p : List ℕ). (y : ℕ) × (counted Plain kind.RawMessage p ≡ Ok y)) (ap₂ (between s) g.0 g.1)
    (sub-accepted (kind.Rpc e) kind.RawMessage Whole 2 s f t.0 refl b t.2))
    (λ u. placed-along e s w i (k + 1) a z t.1 (simp (b, u) at h) t.3))
    (λ b. placed-along e s w i k a z t.1 (simp b at h) t.3)

pub message-accepted : (e : Edition) (s : List ℕ) (n i a z : ℕ) → counted Plain (kind.Rpc e) s ≡ Ok n
    → message_at Plain s i ≡ Ok (a, z) → (y : ℕ) × (counted Plain kind.RawMessage (between s a z) ≡ Ok y)
unfolding message_at
message-accepted e s n i a z q h =
    placed-along e s (fields_of Plain s) i 0 a z n h (sym (count_along_lem Plain (kind.Rpc e) s) ∙ q)

-- ---- the parts of a message's id
pub same_parts : (p : List ℕ) (n : ℕ) → counted Plain kind.RawMessage p ≡ Ok n → id_parts Groups p ≡ id_parts Plain p
unfolding id_parts
same_parts p n q = rw (same_slots kind.RawMessage p n q)
