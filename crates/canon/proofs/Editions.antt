-- Where no control of a body has a length-delimited field 5, its canonical bytes are the same in both editions, in
-- either mode, whatever its bytes are.
use Rattle.std.specs.Prelude.{ℕ, ◌≡◌, refl, Bool, false, cond, ◌&&◌, List, [], ◌++◌, length}
use Rattle.std.proofs.Common.{sym, ap, ap₂, ◌∙◌}
use Rattle.basis.specs.declared.Mode.{Mode}
use Rattle.basis.specs.declared.Edition.{Edition}
use Rattle.basis.specs.declared.Edition.TheVariants.{V11, V12}
use Rattle.basis.specs.Cases.{either, neither}
use Rattle.basis.specs.Dialect.{spoken}
use Rattle.protobuf.specs.Walk.{Fields, end, refused, ◌then◌, fields_of, is_bytes, value_in}
use Rattle.protobuf.specs.Encode.{bytes_field}
use Rattle.schema.specs.declared.Kind.TheVariants as kind
use Rattle.schema.specs.declared.Held.TheVariants as held
use Rattle.schema.specs.Schema.{added_in}
use Rattle.schema.specs.Slots.{has_along, has_field}
use Rattle.meaning.specs.Editions.{declines_along, declines}
use Rattle.canon.specs.Canon.{in_order, each_along, held_part, canon, entries_of, merged_of, body_part, canon_body}
use Rattle.canon.specs.Written.{added_part}
use Rattle.canon.proofs.Written.{added-order}

-- nothing is written of a field that is not there
each-absent : (g : List ℕ → List ℕ) (n : ℕ) (s : List ℕ) (w : Fields) → has_along n w ≡ false → each_along g n s w ≡ []
each-absent g n s end h = refl
each-absent g n s (refused why) h = refl
each-absent g n s (f then w) h =
    let t = neither (is_bytes n f) (has_along n w) h in
    ap₂ (λ (b : Bool) (x : List ℕ). cond b (g (value_in s f)) [] ++ x) t.0 (each-absent g n s w t.1)

-- nor of what an edition adds, where no control has it
part-absent : (mode : Mode) (e : Edition) (p : List ℕ) → has_field mode 5 p ≡ false → added_part mode e p ≡ []
unfolding added_part held_part has_field
part-absent mode V11 p h = refl
part-absent mode V12 p h = each-absent (λ q. bytes_field 5 (canon mode kind.ControlIDontWant q)) 5 p (fields_of mode p) h

parts-absent : (mode : Mode) (e : Edition) (s : List ℕ) (w : Fields) → declines_along mode s w ≡ false
    → each_along (added_part mode e) 3 s w ≡ []
parts-absent mode e s end h = refl
parts-absent mode e s (refused why) h = refl
parts-absent mode e s (f then w) h =
    let t = neither (is_bytes 3 f && has_field mode 5 (value_in s f)) (declines_along mode s w) h in
    let ih = parts-absent mode e s w t.1 in
    either (is_bytes 3 f)
    (λ b. simp b (ap₂ (λ (x y : List ℕ). x ++ y) (part-absent mode e (value_in s f) (simp b at t.0)) ih))
    (λ b. simp b ih)

added-absent : (mode : Mode) (e : Edition) (s : List ℕ) → declines mode s ≡ false
    → in_order (entries_of mode (kind.ControlMessage e) 3 s) 5 (length (added_in e)) ≡ []
unfolding entries_of declines
added-absent mode e s h =
    added-order mode e s (entries_of mode (kind.ControlMessage e) 3 s) refl
    ∙ parts-absent mode e s (fields_of mode s) h

same-merged : (mode : Mode) (c e : Edition) (s : List ℕ) → declines mode s ≡ false
    → merged_of mode (kind.ControlMessage c) 3 s ≡ merged_of mode (kind.ControlMessage e) 3 s
unfolding merged_of entries_of
same-merged mode c e s h =
    let entries = entries_of mode (kind.ControlMessage c) 3 s in
    ap (λ (x : List ℕ). entries 1 ++ (entries 2 ++ (entries 3 ++ (entries 4 ++ x))))
    (added-absent mode c s h ∙ sym (added-absent mode e s h))

pub same-canon : (mode : Mode) (c e : Edition) (s : List ℕ) → declines mode s ≡ false
    → canon_body (spoken mode c) s ≡ canon_body (spoken mode e) s
unfolding canon_body body_part
same-canon mode c e s h =
    ap (λ (x : List ℕ). body_part mode s 1 (held.Anew kind.SubOpts) ++ (body_part mode s 2 held.Whole
    ++ (cond (has_field mode 3 s) (bytes_field 3 x) [] ++ []))) (same-merged mode c e s h)
