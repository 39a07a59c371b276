-- Sign bytes: that they fit, and which case it is.
use Prim.Native.Nat.{ℕ, ◌+◌, ◌-◌, ◌≤◌}
use mathlib.Core.Path.{◌≡◌, sym, ap, ◌∙◌}
use mathlib.Core.List.{List}
use native.Mathlib.Omega.{arith}
use lib.ListN.{length, drop, length-append, length-take, length-drop}
use Rattle.std.specs.Prelude.{Result, Ok, Err}
use Rattle.basis.specs.declared.Mode.{Mode}
use Rattle.basis.specs.declared.Dialect.{Dialect}
use Rattle.basis.specs.Writing.{answer, written}
use Rattle.basis.specs.Unique.{Leaves}
use Rattle.protobuf.specs.declared.Refusal.{Refusal as Placed}
use Rattle.protobuf.specs.Walk.{between}
use Rattle.schema.specs.declared.Kind.TheVariants as kind
use Rattle.ids.specs.declared.MessageError.TheVariants as mess
use Rattle.ids.specs.declared.MessageError.{MessageError}
use Rattle.rpc.specs.Encode.{sign_prefix}
use Rattle.schema.specs.Accept.{accept_of}
use Rattle.ids.specs.Ids.{message_at, of_written}
use Rattle.canon.specs.Canon.{canon, sign_of}
use Rattle.encode.specs.Sign.{sign_at, sign_checked, sign_answer, signed_at, signed_checked, sign_left}

sign_length : (mode : Mode) (p : List ℕ) → length (sign_of mode p) ≡ 14 + length (canon mode kind.RawMessage p)
unfolding sign_of
sign_length mode p = length-append sign_prefix (canon mode kind.RawMessage p)

-- 14 bytes more than the message are enough
pub sign_fits : (mode : Mode) (p : List ℕ) (room : ℕ) → length (canon mode kind.RawMessage p) ≤ length p → length p + 14 ≤ room → length (sign_of mode p) ≤ room
sign_fits mode p room m h = omega (arith, sign_length mode p)

-- a part is no longer than the whole
pub part_small : (s : List ℕ) (a e : ℕ) → length s ≤ 65536 → length (between s a e) ≤ 65536
part_small s a e h = rw (length-take (e - a) (drop a s), length-drop a s) (omega arith)

-- ---- which case it is
pub sign_refused : (d : Dialect) (s : List ℕ) (i : ℕ) (out : List ℕ) (why : Placed) → accept_of d s ≡ Err why → Leaves (sign_answer d s i out) (sign_left d s i out) (Err (mess.Refused why)) out
unfolding sign_answer sign_left
sign_refused d s i out why e = record { answer = ap (sign_checked d.mode s i out) (sym e); lent = ap (signed_checked d.mode s i out) (sym e) }

pub sign_missing : (d : Dialect) (s : List ℕ) (i : ℕ) (out : List ℕ) (n : ℕ) → accept_of d s ≡ Ok tt → message_at d.mode s i ≡ Err n → Leaves (sign_answer d s i out) (sign_left d s i out) (Err (mess.NoMessage n)) out
unfolding sign_answer sign_left
sign_missing d s i out n e f =
    record {
      answer = ap (sign_at d.mode s out) (sym f) ∙ ap (sign_checked d.mode s i out) (sym e);
      lent = ap (signed_at d.mode s out) (sym f) ∙ ap (signed_checked d.mode s i out) (sym e);
    }

pub sign_found : (d : Dialect) (s : List ℕ) (i : ℕ) (out : List ℕ) (a e : ℕ) (r : Result ℕ MessageError) (left : List ℕ) → accept_of d s ≡ Ok tt →
    message_at d.mode s i ≡ Ok (a, e) → (r ≡ of_written (answer (sign_of d.mode (between s a e)) out)) ×
    (left ≡ written (sign_of d.mode (between s a e)) out) → Leaves (sign_answer d s i out) (sign_left d s i out) r left
unfolding sign_answer sign_left
sign_found d s i out a e r left x f h =
    record {
      answer = h.0 ∙ ap (sign_at d.mode s out) (sym f) ∙ ap (sign_checked d.mode s i out) (sym x);
      lent = h.1 ∙ ap (signed_at d.mode s out) (sym f) ∙ ap (signed_checked d.mode s i out) (sym x);
    }
