-- Laws of the walk: it moves, stays within the body, and ends.
use Rattle.std.specs.Prelude.{Result, Ok, Err, Option, Some, None, ℕ, zero, suc, ◌-◌, ◌≤◌, ◌<◌, ◌≡◌, refl, List, length, drop, eqb, true, false}
use Rattle.std.proofs.Common.{sym, ap, subst, ◌∙◌, arith, length-take, length-drop, le-ltb, eqb-true}
use Rattle.basis.specs.declared.Mode.{Mode}
use Rattle.basis.specs.Cases.{either}
use Rattle.protobuf.specs.declared.WireError.{WireError}
use Rattle.protobuf.specs.declared.Field.{Field}
use Rattle.protobuf.specs.declared.Refusal.{Refusal}
use Rattle.protobuf.specs.declared.Walked.{Walked}
use Rattle.protobuf.specs.Field.{read_tag, read_len, read_varint, past_value, skip_value, skip_field, of_value, of_part}
use Rattle.protobuf.specs.Field.{of_skip, read_value, of_tag, read_field, walk_skip, walk_tag, walk_step}
use Rattle.protobuf.specs.Refusal.{here}
use Rattle.protobuf.specs.Grammar.{max_groups}
use Rattle.protobuf.specs.Laws.{Stands, skip_value_lem, field-stands, field_end}
use Rattle.protobuf.specs.Walk.{Fields, end, refused, ◌then◌, on_step, walk_from, walk_at, between}

-- the bytes from a up to e
pub between-length : (s : List ℕ) (a e : ℕ) → e ≤ length s → length (between s a e) ≡ e - a
between-length s a e h = rw (length-take (e - a) (drop a s), length-drop a s) (omega arith)

same_step : (f g : ℕ → Fields) (r : Result (Option Field) WireError)
    → ((x : Field) → Ok (Some x) ≡ r → f x.next ≡ g x.next) → on_step f r ≡ on_step g r
same_step f g (Ok None) h = refl
same_step f g (Err why) h = refl
same_step f g (Ok (Some x)) h = ap (λ (w : Fields). x then w) (h x refl)

-- enough is enough
fuel : (f g : ℕ) (mode : Mode) (s : List ℕ) (at : ℕ) → length s - at < f → length s - at < g
    → walk_from f mode s at ≡ walk_from g mode s at
unfolding walk_from
fuel zero g mode s at p q = absurd (omega arith)
fuel (suc f) zero mode s at p q = absurd (omega arith)
fuel (suc f) (suc g) mode s at p q =
    same_step (walk_from f mode s) (walk_from g mode s) (read_field mode s at)
    (λ x h. let m = field-stands mode s at x h in fuel f g mode s x.next (omega arith) (omega arith))

-- the walk, one step on
pub walk_step_lem : (mode : Mode) (s : List ℕ) (at : ℕ)
    → walk_at mode s at ≡ on_step (walk_at mode s) (read_field mode s at)
unfolding walk_at walk_from
walk_step_lem mode s at =
    same_step (walk_from (length s - at) mode s) (walk_at mode s) (read_field mode s at)
    (λ x h. let m = field-stands mode s at x h in fuel (length s - at) (suc (length s - x.next)) mode s x.next
    (omega arith) (omega arith))

-- the same with the step's answer in hand
pub walk_on : (mode : Mode) (s : List ℕ) (at : ℕ) (r : Result (Option Field) WireError) → r ≡ read_field mode s at
    → walk_at mode s at ≡ on_step (walk_at mode s) r
walk_on mode s at r e = walk_step_lem mode s at ∙ ap (on_step (walk_at mode s)) (sym e)

-- past the end there is no field
pub walk_end : (mode : Mode) (s : List ℕ) (at : ℕ) → length s ≤ at → walk_at mode s at ≡ end
walk_end mode s at h = walk_on mode s at (Ok None) (sym (field_end mode s at h))

-- ---- the host's walk is this walk: its step finds the same field, the same end, and the same refusal
abbrev pub outline : Result (Option Field) WireError → Result (Option Walked) Refusal
outline (Ok None) = Ok None
outline (Err why) = Err (here why)
outline (Ok (Some f)) =
    Ok (Some (record { field = f.field; wire_type = f.wire_type; tag_end = f.tag_end; next = record { at = f.next } }))

value-outline : (n type at : ℕ) (r : Result (ℕ × ℕ) WireError)
    → walk_skip n type at (past_value r) ≡ outline (of_value n type at r)
value-outline n type at (Ok (x, e)) = refl
value-outline n type at (Err why) = refl

part-outline : (n type at : ℕ) (r : Result (ℕ × ℕ) WireError)
    → walk_skip n type at (past_value r) ≡ outline (of_part n type at r)
part-outline n type at (Ok (a, e)) = refl
part-outline n type at (Err why) = refl

skip_outline : (n type at : ℕ) (r : Result ℕ WireError) → walk_skip n type at r ≡ outline (of_skip n type at r)
skip_outline n type at (Ok e) = refl
skip_outline n type at (Err why) = refl

-- a value that is no group is passed in the same way in each mode
skip_of : (mode : Mode) (s : List ℕ) (at n type k : ℕ) → eqb type k ≡ true → eqb k 3 ≡ false → eqb k 4 ≡ false
    → skip_field mode max_groups s at n type ≡ skip_value s at type
skip_of mode s at n type k t t3 t4 =
    let e = eqb-true type k t in
    skip_value_lem mode max_groups s at n type (ap (λ (x : ℕ). eqb x 3) e ∙ t3) (ap (λ (x : ℕ). eqb x 4) e ∙ t4)

skip_of-varint : (mode : Mode) (s : List ℕ) (at n type : ℕ) → eqb type 0 ≡ true
    → skip_field mode max_groups s at n type ≡ past_value (read_varint s at)
unfolding skip_value
skip_of-varint mode s at n type t0 = skip_of mode s at n type 0 t0 refl refl ∙ simp t0

skip_of-len : (mode : Mode) (s : List ℕ) (at n type : ℕ) → eqb type 0 ≡ false → eqb type 2 ≡ true
    → skip_field mode max_groups s at n type ≡ past_value (read_len s at)
unfolding skip_value
skip_of-len mode s at n type t0 t2 = skip_of mode s at n type 2 t2 refl refl ∙ simp (t0, t2)

pub read-outline : (mode : Mode) (s : List ℕ) (n type at : ℕ)
    → walk_skip n type at (skip_field mode max_groups s at n type) ≡ outline (read_value mode s n type at)
unfolding read_value
read-outline mode s n type at =
    either (eqb type 0)
    (λ t0. simp t0 (ap (walk_skip n type at) (skip_of-varint mode s at n type t0)
    ∙ value-outline n type at (read_varint s at)))
    (λ t0. either (eqb type 2)
    (λ t2. simp (t0, t2) (ap (walk_skip n type at) (skip_of-len mode s at n type t0 t2)
    ∙ part-outline n type at (read_len s at)))
    (λ t2. simp (t0, t2) (skip_outline n type at (skip_field mode max_groups s at n type))))

tag-outline : (mode : Mode) (s : List ℕ) (r : Result (Option (ℕ × ℕ × ℕ)) WireError)
    → walk_tag mode s r ≡ outline (of_tag mode s r)
tag-outline mode s (Ok None) = refl
tag-outline mode s (Err why) = refl
tag-outline mode s (Ok (Some (n, type, at))) = read-outline mode s n type at

pub walk-outline : (mode : Mode) (s : List ℕ) (at : ℕ) → length s ≤ 65536
    → walk_step mode s at ≡ outline (read_field mode s at)
unfolding walk_step read_field
walk-outline mode s at h = simp (le-ltb _ _ h) (tag-outline mode s (read_tag s at))

-- ---- induction along the walk: what holds at the end and at a refusal, and before a field where it holds after it,
-- holds from every place
module _ (mode : Mode) (s : List ℕ) (P : ℕ → Fields → Type 0) (at-end : (at : ℕ) → P at end)
    (at-refusal : (at : ℕ) (why : WireError)
    → Err why ≡ read_field mode s at → P at (refused why)) (at_field : (at : ℕ) (f : Field) → Stands s at f
    → Ok (Some f) ≡ read_field mode s at → P f.next (walk_at mode s f.next)
    → P at (f then walk_at mode s f.next)) where
  along-step : (at : ℕ) (r : Result (Option Field) WireError) → r ≡ read_field mode s at
      → ((f : Field) → Ok (Some f) ≡ read_field mode s at → P f.next (walk_at mode s f.next))
      → P at (on_step (walk_at mode s) r)
  along-step at (Ok None) e ih = at-end at
  along-step at (Err why) e ih = at-refusal at why e
  along-step at (Ok (Some f)) e ih = at_field at f (field-stands mode s at f e) e (ih f e)

  along-from : (n at : ℕ) → length s - at < n → P at (walk_at mode s at)
  along-from zero at h = absurd (omega arith)
  along-from (suc n) at h =
      subst (P at) (sym (walk_step_lem mode s at))
      (along-step at (read_field mode s at) refl
      (λ f e. let m = field-stands mode s at f e in along-from n f.next (omega arith)))

  pub along : (at : ℕ) → P at (walk_at mode s at)
  along at = along-from (suc (length s - at)) at (omega arith)
