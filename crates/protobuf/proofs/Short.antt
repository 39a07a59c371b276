-- A field whose tag is a byte: a number of a byte, and bytes whose length takes one byte or two. They are the same in each mode.
use Prim.Native.Nat.{ℕ, suc, ◌+◌, ◌-◌, ◌*◌, ◌/◌, ◌%◌, ◌≤◌, ◌<◌}
use mathlib.Core.Path.{◌≡◌, ap, ap₂, ◌∙◌}
use mathlib.Core.List.{List, ◌∷◌}
use native.Mathlib.Omega.{arith}
use lib.ListN.{length, get_or, drop}
use lib.Seq.{drop-cons}
use lib.Dec.{eqb}
use borrow.Author.Tests.{lt-leb, le-leb, le-ltb, ne_eqb}
use Rattle.std.specs.Prelude.{Ok, Some, None}
use Rattle.basis.specs.declared.Mode.{Mode}
use Rattle.basis.specs.Cases.{either}
use Rattle.peer_id.specs.Uvarint.{group_of, read_from, read_uvarint}
use Rattle.protobuf.specs.Field.{read_tag, read_len, read_varint, read_value, read_field}

short-uvarint : (s : List ℕ) (at b : ℕ) → at < length s → get_or s at 0 ≡ b → b < 128
    → read_uvarint (drop at s) ≡ Ok (b, 1)
unfolding read_uvarint read_from group_of
short-uvarint s at b h e l = rw (drop-cons s at 0 h, e, lt-leb 128 b l) (either (eqb b 0) (λ t. simp t) (λ t. simp t))

short-tag : (s : List ℕ) (at b : ℕ) → at < length s → get_or s at 0 ≡ b → 8 ≤ b → b < 128
    → read_tag s at ≡ Ok (Some (b / 8, b % 8, at + 1))
unfolding read_tag read_varint
short-tag s at b h e k l =
    rw (lt-leb (length s) at h, short-uvarint s at b h e l, ne_eqb (b / 8) 0 (λ z. omega arith), le-ltb 536870911 (b / 8) (omega arith))

short-len : (s : List ℕ) (at b : ℕ) → at < length s → get_or s at 0 ≡ b → b < 128 → b ≤ length s - (at + 1)
    → read_len s at ≡ Ok (at + 1, at + 1 + b)
unfolding read_len read_varint
short-len s at b h e l m = rw (short-uvarint s at b h e l, le-ltb (length s - (at + 1)) b m)

pub short-field : (mode : Mode) (s : List ℕ) (at t b : ℕ) → at + 1 < length s → get_or s at 0 ≡ t
    → get_or s (at + 1) 0 ≡ b → t % 8 ≡ 2 → 8 ≤ t → t < 128 → b < 128 → b ≤ length s - (at + 1 + 1)
    → Ok (Some (record { field = t / 8; wire_type = 2; tag_end = at + 1; value = b; start = at + 1 + 1; next = at + 1 + 1 + b })) ≡ read_field mode s at
unfolding read_field read_value
short-field mode s at t b h e f two some few l m =
    let v : (at + 1 + 1 + b) - (at + 1 + 1) ≡ b = omega arith in
    rw (short-tag s at t (omega arith) e some few, two, short-len s (at + 1) b h f l m, v)

short-value : (s : List ℕ) (at b : ℕ) → at < length s → get_or s at 0 ≡ b → b < 128 → read_varint s at ≡ Ok (b, at + 1)
unfolding read_varint
short-value s at b h e l = rw (short-uvarint s at b h e l)

pub short-number : (mode : Mode) (s : List ℕ) (at t b : ℕ) → at + 1 < length s → get_or s at 0 ≡ t
    → get_or s (at + 1) 0 ≡ b → t % 8 ≡ 0 → 8 ≤ t → t < 128 → b < 128
    → Ok (Some (record { field = t / 8; wire_type = 0; tag_end = at + 1; value = b; start = at + 1 + 1; next = at + 1 + 1 })) ≡ read_field mode s at
unfolding read_field read_value
short-number mode s at t b h e f none some few l = rw (short-tag s at t (omega arith) e some few, none, short-value s (at + 1) b h f l)

-- a length of two bytes
two-groups : (b h : ℕ) (rest : List ℕ) → 128 ≤ b → 1 ≤ h → h < 128
    → read_uvarint (b ∷ h ∷ rest) ≡ Ok (b % 128 + 128 * h, 2)
unfolding read_uvarint read_from group_of
two-groups b h rest m n o = rw (le-leb 128 b m, lt-leb 128 h o, ne_eqb h 0 (λ z. omega arith))

two-uvarint : (s : List ℕ) (at b h : ℕ) → at + 1 < length s → get_or s at 0 ≡ b → get_or s (at + 1) 0 ≡ h → 128 ≤ b
    → 1 ≤ h → h < 128 → read_uvarint (drop at s) ≡ Ok (b % 128 + 128 * h, 2)
two-uvarint s at b h l e f m n o =
    let i : suc at ≡ at + 1 = omega arith in
    let j : suc (at + 1) ≡ at + 1 + 1 = omega arith in
    let p : drop at s ≡ b ∷ drop (at + 1) s = drop-cons s at 0 (omega arith) ∙ ap₂ (λ (x : ℕ) (k : ℕ). x ∷ drop k s) e i in
    let q : drop (at + 1) s ≡ h ∷ drop (at + 1 + 1) s = drop-cons s (at + 1) 0 l ∙ ap₂ (λ (x : ℕ) (k : ℕ). x ∷ drop k s) f j in
    ap read_uvarint (p ∙ ap (λ (r : List ℕ). b ∷ r) q) ∙ two-groups b h (drop (at + 1 + 1) s) m n o

two-len : (s : List ℕ) (at b h : ℕ) → at + 1 < length s → get_or s at 0 ≡ b → get_or s (at + 1) 0 ≡ h → 128 ≤ b
    → 1 ≤ h → h < 128 → b % 128 + 128 * h ≤ length s - (at + 2)
    → read_len s at ≡ Ok (at + 2, at + 2 + (b % 128 + 128 * h))
unfolding read_len read_varint
two-len s at b h l e f m n o q = rw (two-uvarint s at b h l e f m n o, le-ltb (length s - (at + 2)) (b % 128 + 128 * h) q)

pub middle_field : (mode : Mode) (s : List ℕ) (at t b h : ℕ) → at + 1 + 1 < length s → get_or s at 0 ≡ t
    → get_or s (at + 1) 0 ≡ b → get_or s (at + 1 + 1) 0 ≡ h → t % 8 ≡ 2 → 8 ≤ t → t < 128 → 128 ≤ b → 1 ≤ h → h < 128
    → b % 128 + 128 * h ≤ length s - (at + 1 + 1 + 1)
    → Ok (Some (record { field = t / 8; wire_type = 2; tag_end = at + 1; value = b % 128 + 128 * h; start = at + 1 + 1 + 1; next = at + 1 + 1 + 1 + (b % 128 + 128 * h) })) ≡ read_field mode s at
unfolding read_field read_value
middle_field mode s at t b h l e f g two some few m n o q =
    let z : at + 1 + 2 ≡ at + 1 + 1 + 1 = omega arith in
    let v : (at + 1 + 1 + 1 + (b % 128 + 128 * h)) - (at + 1 + 1 + 1) ≡ b % 128 + 128 * h = omega arith in
    rw (short-tag s at t (omega arith) e some few, two, two-len s (at + 1) b h l f g m n o (omega arith), z, v)

pub no_field : (mode : Mode) (s : List ℕ) (at : ℕ) → length s ≤ at → Ok None ≡ read_field mode s at
unfolding read_field read_tag read_varint
no_field mode s at h = rw (le-leb (length s) at h)
