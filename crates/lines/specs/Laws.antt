-- What the pieces of a line make together.
use Rattle.std.specs.Prelude.{ℕ, ◌+◌, ◌≤◌, ◌<◌, ◌≡◌, List, [], Bool, true, false, cond, length, take, replicate, leb}
use Rattle.std.proofs.Common.{sym, ◌∙◌, arith, length-take-le, leb-true}
use Rattle.std.proofs.lemmas.List.{length-replicate}
use Rattle.std.proofs.lemmas.Bool.{lt-leb}
use Rattle.basis.specs.Cases.{either}
use Rattle.basis.specs.Writing.{end_in, set_in}
use Rattle.basis.specs.Lists.{end_fits, set-fits, end_short, set-short}
use Rattle.text.specs.Line.{Puts}
use Rattle.text.specs.Laws.{puts_in}
use Rattle.lines.specs.Lines.{Wrote}

-- two results that meet it are equal
pub wrote_alike : {room at end end2 : ℕ} {xs b a a2 : List ℕ} → Wrote room xs b at a end → Wrote room xs b at a2 end2
    → (a ≡ a2) × (end ≡ end2)
wrote_alike f g = (f.bytes ∙ sym g.bytes, f.place ∙ sym g.place)

-- ---- where there is room
pub wrote_puts : {room at end : ℕ} {xs b a : List ℕ} → at + room ≤ length b → Wrote room xs b at a end
    → Puts room xs b at a end
wrote_puts {room} {at} {end} {xs} {b} {a} h f =
    record { bytes = f.bytes ∙ set-fits room at xs b h; place = f.place ∙ end_fits room at xs b h; small = f.small }

pub puts_wrote : {room at end : ℕ} {xs b a : List ℕ} → at + room ≤ length b → Puts room xs b at a end
    → Wrote room xs b at a end
puts_wrote {room} {at} {end} {xs} {b} {a} h f =
    record {
      bytes = f.bytes ∙ sym (set-fits room at xs b h);
      place = f.place ∙ sym (end_fits room at xs b h);
      small = f.small;
    }

-- ---- where there is none, and where there is nothing to write
pub wrote_short : (room at : ℕ) (xs b : List ℕ) → length b < at + room → Wrote room xs b at b at
wrote_short room at xs b h =
    let e = lt-leb (at + room) (length b) h in
    record { bytes = sym (set-short room at xs b e); place = sym (end_short room at xs b e); small = omega arith }

pub wrote_nothing : (room at : ℕ) (b : List ℕ) → Wrote room [] b at b at
unfolding end_in set_in
wrote_nothing room at b =
    either (leb (at + room) (length b))
    (λ e. record { bytes = rw e; place = rw e (omega arith); small = omega arith })
    (λ e. record { bytes = rw e; place = rw e; small = omega arith })

-- what a writer of `text` did, whose text is small enough
pub wrote_in : {room at end : ℕ} {xs b a : List ℕ} → length xs ≤ room → (end ≡ end_in room at xs b)
    × (a ≡ set_in room at xs b) → Wrote room xs b at a end
wrote_in {room} {at} {end} {xs} {b} {a} l e =
    either (leb (at + room) (length b))
    (λ t. puts_wrote (leb-true _ _ t) (puts_in (leb-true _ _ t) l e))
    (λ t. record { bytes = e.1; place = e.0; small = omega (arith, e.0 ∙ end_short room at xs b t) })

-- ---- the text and the room
pub wrote_as : {room at end : ℕ} {xs ys b a : List ℕ} → xs ≡ ys → Wrote room xs b at a end → Wrote room ys b at a end
wrote_as e f = rw e at f

-- either way of a test
pub wrote_yes : {room at end : ℕ} {xs b a : List ℕ} (t : Bool) (ys : List ℕ) → t ≡ true → Wrote room xs b at a end
    → Wrote room (cond t xs ys) b at a end
wrote_yes t ys e h = rw e h

pub wrote_no : {room at end : ℕ} {ys b a : List ℕ} (t : Bool) (xs : List ℕ) → t ≡ false → Wrote room ys b at a end
    → Wrote room (cond t xs ys) b at a end
wrote_no t xs e h = rw e h

-- it wants more room, which is there
pub wrote_more : {p q at end : ℕ} {xs b a : List ℕ} → p ≤ q → at + q ≤ length b → Wrote p xs b at a end
    → Wrote q xs b at a end
wrote_more {p} {q} {at} {end} {xs} {b} {a} h l f =
    let g = wrote_puts (omega arith) f in
    puts_wrote l (record { bytes = g.bytes; place = g.place; small = omega (arith, g.small) })

-- ---- buffers, as programs lend them
-- a part from the front has as many elements as it was asked for
pub prefix : (k : ℕ) (l : List ℕ) → k ≤ length l → k ≡ length (take k l)
prefix k l h = sym (length-take-le k l h)

-- an array as it is made
pub filled : (n : ℕ) → n ≡ length {A = ℕ} (replicate n 0)
filled n = sym (length-replicate {A = ℕ} n 0)
