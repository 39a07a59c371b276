-- `protobuf::encode_varint_field` meets its contract: checked, measured, then its tag and value are written where they fit.
use Prim.Native.Nat.{◌*◌, ◌≤◌, ◌<◌}
use mathlib.Core.Path.{◌≡◌, sym, ap, ◌∙◌}
use native.Mathlib.Omega.{arith}
use lib.ListN.{length}
use lib.Seq.{length-sets}
use Rattle.std.specs.Prelude.{Ok, Err}
use Rattle.peer_id.specs.Uvarint.{uvarint}
use Rattle.peer_id.specs.Laws.{at_most_ten}
use Rattle.protobuf.specs.Encode.{tag_refused, varint_field}
use Rattle.protobuf.specs.EncodeLaws.{put-fits, fine-tag, tag-varint, varint_field-length, put-varint_field, encoded-fits, encoded-short, left-fits, left-short}
use Rattle.protobuf.specs.declared.EncodeError.TheVariants as enc
use Rattle.protobuf.proofs.encode_varint_field.Goals as goal

pub overflow_mul-field : goal.overflow_mul-field
overflow_mul-field c = let t = fine-tag c.args.field 0 (sym (c.in_ok-check_tag.ensures)) in omega arith

pub overflow_add-total : goal.overflow_add-total
overflow_add-total c =
    let a = c.args in
    let t = fine-tag a.field 0 (sym (c.in_ok-check_tag.ensures)) in
    let m = at_most_ten (a.field * 8) (omega arith) in
    let n = at_most_ten a.value (omega arith) in
    omega arith

pub returns-then-out-total : goal.returns-then-out-total
returns-then-out-total c =
    let a = c.args in
    let f : tag_refused a.field 0 ≡ Ok tt = sym (c.in_ok-check_tag.ensures) in
    let e = varint_field-length a.field a.value in
    let z = ap length (tag-varint a.field) in
    let h : length a.out.now < length (varint_field a.field a.value) = omega arith in
    record { answer = ap (λ n. Err (enc.Room n)) (omega arith) ∙ sym (encoded-short _ _ _ _ f h); lent = sym (left-short _ _ _ _ f h) }

pub overflow_mul-field-2 : goal.overflow_mul-field-2
overflow_mul-field-2 c = let t = fine-tag c.args.field 0 (sym (c.in_ok-check_tag.ensures)) in omega arith

pub returns : goal.returns
returns c =
    let a = c.args in
    let f : tag_refused a.field 0 ≡ Ok tt = sym (c.in_ok-check_tag.ensures) in
    let e = varint_field-length a.field a.value in
    let z = ap length (tag-varint a.field) in
    let h : length (varint_field a.field a.value) ≤ length a.out.now = omega arith in
    let p₁ = put-fits a.out.now 0 (uvarint (a.field * 8)) _ _ (omega arith) c.put_uvarint-i.ensures in
    let l₁ = ap length p₁.1 ∙ length-sets a.out.now 0 (uvarint (a.field * 8)) in
    let p₂ = put-fits _ _ (uvarint a.value) _ _ (omega (arith, l₁, p₁.0)) c.put_uvarint.ensures in
    let p = put-varint_field a.out.now _ _ 0 _ _ a.field a.value (rw (tag-varint a.field) p₁) p₂ in
    record { answer = ap Ok (omega (arith, p.0)) ∙ sym (encoded-fits _ _ _ _ f h); lent = p.1 ∙ sym (left-fits _ _ _ _ f h) }
