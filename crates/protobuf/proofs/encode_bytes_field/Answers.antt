-- `protobuf::encode_bytes_field` meets its contract: checked, measured, then its tag, length and bytes are written where they fit.
use Prim.Native.Nat.{◌+◌, ◌*◌, ◌<◌, ◌≤◌}
use mathlib.Core.Path.{◌≡◌, sym, ap, ◌∙◌}
use native.Mathlib.Omega.{arith}
use lib.ListN.{length}
use lib.Seq.{length-sets}
use Rattle.std.specs.Prelude.{Ok, Err}
use Rattle.peer_id.specs.Uvarint.{uvarint}
use Rattle.peer_id.specs.Laws.{at_most_ten}
use Rattle.protobuf.specs.Encode.{tag, tag_refused, bytes_field}
use Rattle.protobuf.specs.EncodeLaws.{put-fits, fine-tag, tag_at-most_ten, bytes_field-length, put_bytes-field, encoded-fits, encoded-short, left-fits, left-short}
use Rattle.protobuf.specs.declared.EncodeError.TheVariants as enc
use Rattle.protobuf.proofs.encode_bytes_field.Goals as goal

pub overflow_mul-field : goal.overflow_mul-field
overflow_mul-field c = let t = fine-tag c.args.field 2 (sym (c.in_ok-check_tag.ensures)) in omega arith

pub overflow_add-field : goal.overflow_add-field
overflow_add-field c = let t = fine-tag c.args.field 2 (sym (c.in_ok-check_tag.ensures)) in omega arith

pub overflow_add-total : goal.overflow_add-total
unfolding tag
overflow_add-total c =
    let a = c.args in
    let t = fine-tag a.field 2 (sym (c.in_ok-check_tag.ensures)) in
    let m = tag_at-most_ten a.field 2 t in
    let n = at_most_ten (length a.«data».now) (omega arith) in
    omega arith

pub overflow_add-total-2 : goal.overflow_add-total-2
unfolding tag
overflow_add-total-2 c =
    let a = c.args in
    let t = fine-tag a.field 2 (sym (c.in_ok-check_tag.ensures)) in
    let m = tag_at-most_ten a.field 2 t in
    let n = at_most_ten (length a.«data».now) (omega arith) in
    omega arith

pub returns-then-out-total : goal.returns-then-out-total
unfolding tag
returns-then-out-total c =
    let a = c.args in
    let f : tag_refused a.field 2 ≡ Ok tt = sym (c.in_ok-check_tag.ensures) in
    let e = bytes_field-length a.field a.«data».now in
    let h : length a.out.now < length (bytes_field a.field a.«data».now) = omega arith in
    record { answer = ap (λ n. Err (enc.Room n)) (omega arith) ∙ sym (encoded-short _ _ _ _ f h); lent = sym (left-short _ _ _ _ f h) }

pub overflow_mul-field-2 : goal.overflow_mul-field-2
overflow_mul-field-2 c = let t = fine-tag c.args.field 2 (sym (c.in_ok-check_tag.ensures)) in omega arith

pub overflow_add-field-2 : goal.overflow_add-field-2
overflow_add-field-2 c = let t = fine-tag c.args.field 2 (sym (c.in_ok-check_tag.ensures)) in omega arith

pub returns : goal.returns
unfolding tag
returns c =
    let a = c.args in
    let f : tag_refused a.field 2 ≡ Ok tt = sym (c.in_ok-check_tag.ensures) in
    let e = bytes_field-length a.field a.«data».now in
    let h : length (bytes_field a.field a.«data».now) ≤ length a.out.now = omega arith in
    let x = uvarint (a.field * 8 + 2) in
    let y = uvarint (length a.«data».now) in
    let p₁ = put-fits a.out.now 0 x _ _ (omega arith) c.put_uvarint-i.ensures in
    let l₁ = ap length p₁.1 ∙ length-sets a.out.now 0 x in
    let p₂ = put-fits _ _ y _ _ (omega (arith, l₁, p₁.0)) c.put_uvarint-j.ensures in
    let l₂ = ap length p₂.1 ∙ length-sets _ _ y in
    let p₃ = put-fits _ _ a.«data».now _ _ (omega (arith, l₁, l₂, p₁.0, p₂.0)) c.put_bytes.ensures in
    let p = put_bytes-field a.out.now _ _ _ 0 _ _ _ a.field a.«data».now p₁ p₂ p₃ in
    record { answer = ap Ok (omega (arith, p.0)) ∙ sym (encoded-fits _ _ _ _ f h); lent = p.1 ∙ sym (left-fits _ _ _ _ f h) }
