-- A turn of the search for a message, and the writing of an id.
use Prim.Native.Nat.{ℕ, ◌+◌, ◌-◌, ◌≤◌, ◌<◌}
use mathlib.Core.Path.{◌≡◌, refl, sym, ap, subst, ◌∙◌}
use mathlib.Core.Bool.{true, false}
use mathlib.Core.List.{List, ◌++◌}
use native.Mathlib.Omega.{arith}
use lib.ListN.{length, length-append}
use lib.Seq.{length-sets}
use borrow.Author.Tests.{eq-eqb, ne_eqb}
use Rattle.std.specs.Prelude.{Some, None, Result, Ok, Err}
use Rattle.std.specs.Result.{MatchResult, IsErrAnd}
use Rattle.basis.specs.declared.Mode.{Mode}
use Rattle.basis.specs.declared.Dialect.{Dialect}
use Rattle.protobuf.specs.declared.Field.{Field}
use Rattle.protobuf.specs.declared.WireError.{WireError}
use Rattle.protobuf.specs.declared.Refusal.{Refusal as Placed}
use Rattle.ids.specs.declared.MessageError.TheVariants as mess
use Rattle.ids.specs.declared.MessageError.{MessageError}
use Rattle.protobuf.specs.Field.{read_field}
use Rattle.protobuf.specs.Walk.{◌then◌, walk_at, is_bytes, between}
use Rattle.protobuf.specs.EncodeLaws.{put-fits, put-append}
use Rattle.basis.specs.Writing.{answer, written, end_in, set_in}
use Rattle.basis.specs.Unique.{Leaves}
use Rattle.basis.specs.Lists.{answer-fits, answer-short, written-fits, written-short}
use Rattle.protobuf.specs.WalkLaws.{walk_on, between-length}
use Rattle.ids.specs.Ids.{message_along, message_at, id_parts, of_written, id_bytes, answer_id, left_id, answer_at, left_at, answer_checked, left_checked, id_answer, id_left}
use Rattle.schema.specs.Accept.{accept_of}
use Rattle.ids.specs.IdLaws.{Fits}

-- ---- a result whose error was mapped
module _ {A E D : Type 0} (m : Result A D) where
  pub mapped-ok : (P : E → D → Type 0) (r : Result A E) (x : A) → MatchResult r (λ y. m ≡ Ok y) (λ e. IsErrAnd m (P e)) → m ≡ Ok x → r ≡ Ok x
  mapped-ok P (Ok y) x h e = cc
  mapped-ok P (Err why) x h e = absurd (subst (λ (q : Result A D). IsErrAnd q (P why)) e h)

  pub mapped-err : (P : E → D → Type 0) (r : Result A E) (d : D) → MatchResult r (λ y. m ≡ Ok y) (λ e. IsErrAnd m (P e)) → m ≡ Err d
      → (e : E) × (r ≡ Err e) × P e d
  mapped-err P (Ok y) d h e = absurd (cc)
  mapped-err P (Err why) d h e = (why, refl, subst (λ (q : Result A D). IsErrAnd q (P why)) e h)

-- ---- one turn of the search
module _ (mode : Mode) (s : List ℕ) (at i n : ℕ) where
  pub found-end : Ok None ≡ read_field mode s at → message_along i n (walk_at mode s at) ≡ Err n
  found-end e = ap (message_along i n) (walk_on mode s at (Ok None) e)

  pub found-refused : (why : WireError) → Err why ≡ read_field mode s at → message_along i n (walk_at mode s at) ≡ Err n
  found-refused why e = ap (message_along i n) (walk_on mode s at (Err why) e)

  module _ (f : Field) (e : Ok (Some f) ≡ read_field mode s at) where
    on_field : message_along i n (walk_at mode s at) ≡ message_along i n (f then walk_at mode s f.next)
    on_field = ap (message_along i n) (walk_on mode s at (Ok (Some f)) e)

    pub found_here : is_bytes 2 f ≡ true → n ≡ i → message_along i n (walk_at mode s at) ≡ Ok (f.start, f.next)
    found_here t h = simp (t, eq-eqb n i h) at on_field

    pub found-later : is_bytes 2 f ≡ true → (n ≡ i → ⊥)
        → message_along i n (walk_at mode s at) ≡ message_along i (n + 1) (walk_at mode s f.next)
    found-later t h = simp (t, ne_eqb n i h) at on_field

    pub found-past : is_bytes 2 f ≡ false → message_along i n (walk_at mode s at) ≡ message_along i n (walk_at mode s f.next)
    found-past t = simp t at on_field

-- ---- writing an id: its length, and its three parts
pub id-length : (pre p : List ℕ) (a e b f : ℕ) → Fits p a e b f → length (pre ++ id_bytes p a e b f) ≡ length pre + (e - a) + (f - b)
id-length pre p a e b f h =
    let x = between-length p a e h.from.1 in
    let y = between-length p b f h.seqno.1 in
    omega (arith, length-append pre (id_bytes p a e b f), length-append (between p a e) (between p b f), x, y)

pub id-short : (pre p out : List ℕ) (a e b f : ℕ) → Fits p a e b f → length out < length pre + (e - a) + (f - b) →
    (Err (mess.Room (length pre + (e - a) + (f - b))) ≡ of_written (answer (pre ++ id_bytes p a e b f) out)) × (out ≡ written (pre ++ id_bytes p a e b f) out)
id-short pre p out a e b f h l =
    let n = id-length pre p a e b f h in
    let k : length out < length (pre ++ id_bytes p a e b f) = omega (arith, n) in
    (ap (λ (m : ℕ). Err (mess.Room m)) (sym n) ∙ sym (ap of_written (answer-short (pre ++ id_bytes p a e b f) out k)), sym (written-short (pre ++ id_bytes p a e b f) out k))

pub id-put : (pre p out : List ℕ) (a e b f : ℕ) (o₁ o₂ o₃ : List ℕ) (i j k : ℕ) → Fits p a e b f → length pre + (e - a) + (f - b) ≤ length out
    → Leaves (end_in (length pre) 0 pre out) (set_in (length pre) 0 pre out) i o₁
    → Leaves (end_in (length (between p a e)) i (between p a e) o₁) (set_in (length (between p a e)) i (between p a e) o₁) j o₂
    → Leaves (end_in (length (between p b f)) j (between p b f) o₂) (set_in (length (between p b f)) j (between p b f) o₂) k o₃
    → (Ok (length pre + (e - a) + (f - b)) ≡ of_written (answer (pre ++ id_bytes p a e b f) out)) × (o₃ ≡ written (pre ++ id_bytes p a e b f) out)
id-put pre p out a e b f o₁ o₂ o₃ i j k h l p₁ p₂ p₃ =
    let n = id-length pre p a e b f h in
    let x = between-length p a e h.from.1 in
    let y = between-length p b f h.seqno.1 in
    let q₁ = put-fits out 0 pre o₁ i (omega arith) p₁ in
    let l₁ : length o₁ ≡ length out = ap length q₁.1 ∙ length-sets out 0 pre in
    let q₂ = put-fits o₁ i (between p a e) o₂ j (omega (arith, q₁.0, l₁, x)) p₂ in
    let l₂ : length o₂ ≡ length o₁ = ap length q₂.1 ∙ length-sets o₁ i (between p a e) in
    let q₃ = put-fits o₂ j (between p b f) o₃ k (omega (arith, q₁.0, q₂.0, l₁, l₂, x, y)) p₃ in
    let r = put-append out o₁ o₃ 0 i k pre (id_bytes p a e b f) q₁ (put-append o₁ o₂ o₃ i j k (between p a e) (between p b f) q₂ q₃) in
    let m : length (pre ++ id_bytes p a e b f) ≤ length out = omega (arith, n) in
    (ap Ok (sym n) ∙ sym (ap of_written (answer-fits (pre ++ id_bytes p a e b f) out m)), r.1 ∙ sym (written-fits (pre ++ id_bytes p a e b f) out m))

-- ---- which case it is
pub refused-body : (pre : List ℕ) (d : Dialect) (s : List ℕ) (i : ℕ) (out : List ℕ) (why : Placed) → accept_of d s ≡ Err why → (Err (mess.Refused why) ≡ id_answer pre d s i out) × (out ≡ id_left pre d s i out)
unfolding id_answer id_left
refused-body pre d s i out why e = (ap (answer_checked d.mode pre s i out) (sym e), ap (left_checked d.mode pre s i out) (sym e))

pub no-message : (pre : List ℕ) (d : Dialect) (s : List ℕ) (i : ℕ) (out : List ℕ) (n : ℕ) →
    accept_of d s ≡ Ok tt → message_at d.mode s i ≡ Err n → (Err (mess.NoMessage n) ≡ id_answer pre d s i out) × (out ≡ id_left pre d s i out)
unfolding id_answer id_left
no-message pre d s i out n e f =
    (ap (answer_at d.mode pre s out) (sym f) ∙ ap (answer_checked d.mode pre s i out) (sym e), ap (left_at d.mode pre s out) (sym f) ∙ ap (left_checked d.mode pre s i out) (sym e))

pub at-message : (pre : List ℕ) (d : Dialect) (s : List ℕ) (i : ℕ) (out : List ℕ) (a e : ℕ) (r : Result ℕ MessageError) (left : List ℕ) →
    accept_of d s ≡ Ok tt → message_at d.mode s i ≡ Ok (a, e) →
    (r ≡ answer_id pre (between s a e) out (id_parts d.mode (between s a e)))
    × (left ≡ left_id pre (between s a e) out (id_parts d.mode (between s a e))) →
    (r ≡ id_answer pre d s i out) × (left ≡ id_left pre d s i out)
unfolding id_answer id_left
at-message pre d s i out a e r left x f h = (
  h.0 ∙ ap (answer_at d.mode pre s out) (sym f) ∙ ap (answer_checked d.mode pre s i out) (sym x),
  h.1 ∙ ap
      (left_at d.mode pre s out) (sym f) ∙ ap (left_checked d.mode pre s i out) (sym x),
)
