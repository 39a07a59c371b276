-- Writing at a place of lent bytes: where the bytes xs end, and that they stand there where there is room for them.
-- Where there is none the answer is the same, so a writer that is lent nothing measures.
use Rattle.std.specs.Prelude.{ℕ, ◌+◌, ◌≤◌, ◌<◌, ◌≡◌, refl, List, [], ◌++◌, cond, length, ltb}
use Rattle.std.proofs.Common.{sym, ap, ◌∙◌, arith, length-append, le-ltb}
use Rattle.std.proofs.lemmas.List.Edits.{sets}
use Rattle.std.proofs.Math.Seq.{length-sets}
use Rattle.basis.specs.Writing.{set_in}
use Rattle.basis.specs.Lists.{sets-append, set-fits}
use Rattle.peer_id.specs.Uvarint.{uvarint}
use Rattle.protobuf.specs.Encode.{tag}

-- xs were written at `at` of the bytes `out`, which are `after` then; they end at `end`
pub record Puts (out : List ℕ) (at : ℕ) (xs after : List ℕ) (end : ℕ) : Type 0 where
  pub ends : end ≡ at + length xs
  pub holds : at + length xs ≤ length out → after ≡ sets out at xs

-- the place after xs is a number of the machine, with some to spare
abbrev pub Fits : ℕ → List ℕ → Type 0
Fits at xs = at + length xs ≤ 4611686018427387904

-- the tag of a length-delimited field n and a length, to be written at a place; nothing for a number that no field has,
-- or a place above 2^62
unfoldable pub head_at : ℕ → ℕ → ℕ → List ℕ
head_at n len at = cond (ltb 536870911 n) [] (cond (ltb 4611686018427387904 at) [] (tag n 2 ++ uvarint len))

pub head-fits : (n len at : ℕ) → n ≤ 536870911 → Fits at (tag n 2 ++ uvarint len)
    → head_at n len at ≡ tag n 2 ++ uvarint len
unfolding head_at
head-fits n len at h f = rw (le-ltb 536870911 n h, le-ltb 4611686018427387904 at (omega arith))

pub puts_none : (out : List ℕ) (at : ℕ) → Puts out at [] out at
puts_none out at = record { ends = omega arith; holds = λ h. refl }

-- what put_uvarint and put_bytes leave
pub puts_set : (out : List ℕ) (at : ℕ) (xs after : List ℕ) (end : ℕ) → end ≡ at + length xs
    → after ≡ set_in (length xs) at xs out → Puts out at xs after end
puts_set out at xs after end p e = record { ends = p; holds = λ h. e ∙ set-fits (length xs) at xs out h }

pub puts_same : (out : List ℕ) (at : ℕ) (xs ys after : List ℕ) (end : ℕ) → xs ≡ ys → Puts out at xs after end
    → Puts out at ys after end
puts_same out at xs ys after end e p = rw (← e) p

-- what put_head leaves
pub puts_head : (out : List ℕ) (n len at : ℕ) (after : List ℕ) (end : ℕ) → n ≤ 536870911
    → Fits at (tag n 2 ++ uvarint len) → end ≡ at + length (head_at n len at)
    → after ≡ set_in (length (head_at n len at)) at (head_at n len at) out → Puts out at (tag n 2 ++ uvarint len) after end
puts_head out n len at after end h f p e =
    puts_same out at (head_at n len at) (tag n 2 ++ uvarint len) after end (head-fits n len at h f)
    (puts_set out at (head_at n len at) after end p e)

-- without the room anything may be left
pub puts_short : (out : List ℕ) (at : ℕ) (xs after : List ℕ) (end : ℕ) → end ≡ at + length xs → length out < end
    → Puts out at xs after end
puts_short out at xs after end p h = record { ends = p; holds = λ r. absurd (omega arith) }

-- xs, and ys where they end, are xs ++ ys
pub puts_append : (out mid after : List ℕ) (at i end : ℕ) (xs ys : List ℕ) → Puts out at xs mid i
    → Puts mid i ys after end → Puts out at (xs ++ ys) after end
puts_append out mid after at i end xs ys p q =
    let l = length-append xs ys in
    record {
      ends = omega (arith, p.ends, q.ends);
      holds = λ r.
          let m = p.holds (omega arith) in
          let k : length mid ≡ length out = ap length m ∙ length-sets out at xs in
          let i' : i ≡ at + length xs = p.ends in
          q.holds (omega arith)
          ∙ ap (λ (x : List ℕ). sets x i ys) m
          ∙ ap (λ (x : ℕ). sets (sets out at xs) x ys) i'
          ∙ sym (sets-append out at xs ys);
    }

-- ---- what fits whole fits in its parts
pub fits-same : (at : ℕ) (xs ys : List ℕ) → xs ≡ ys → Fits at xs → Fits at ys
fits-same at xs ys e h = omega (arith, ap length e)

pub fits-first : (at : ℕ) (xs ys : List ℕ) → Fits at (xs ++ ys) → Fits at xs
fits-first at xs ys h = omega (arith, length-append xs ys)

pub fits_next : (out mid : List ℕ) (at i : ℕ) (xs ys : List ℕ) → Puts out at xs mid i → Fits at (xs ++ ys) → Fits i ys
fits_next out mid at i xs ys p h = omega (arith, p.ends, length-append xs ys)

-- ---- bytes written one part after the other: what is left of them, written at `end` of the bytes as they are, makes
-- all of them
pub record Going (out₀ : List ℕ) (at : ℕ) (all out : List ℕ) (end : ℕ) (rest : List ℕ) : Type 0 where
  pub fits : Fits end rest
  pub goes : (after : List ℕ) (e : ℕ) → Puts out end rest after e → Puts out₀ at all after e

pub going-all : (out : List ℕ) (at : ℕ) (all : List ℕ) → Fits at all → Going out at all out at all
going-all out at all h = record { fits = h; goes = λ after e p. p }

pub going-same : (out : List ℕ) (at : ℕ) (all rest : List ℕ) → all ≡ rest → Fits at all → Going out at all out at rest
going-same out at all rest e h =
    record { fits = fits-same at all rest e h; goes = λ after z p. puts_same out at rest all after z (sym e) p }

module _ (out₀ : List ℕ) (at : ℕ) (all out : List ℕ) (end : ℕ) (rest : List ℕ)
    (g : Going out₀ at all out end rest) where
  pub going-none : rest ≡ [] → Puts out₀ at all out end
  going-none e = g.goes out end (puts_same out end [] rest out end (sym e) (puts_none out end))

  module _ (xs ys : List ℕ) (e : rest ≡ xs ++ ys) where
    pub going-fits : Fits end xs
    going-fits = fits-first end xs ys (fits-same end rest (xs ++ ys) e g.fits)

    pub going-part : (mid : List ℕ) (i : ℕ) → Puts out end xs mid i → Going out₀ at all mid i ys
    going-part mid i p =
        record {
          fits = fits_next out mid end i xs ys p (fits-same end rest (xs ++ ys) e g.fits);
          goes = λ after z q. g.goes after z
              (puts_same out end (xs ++ ys) rest after z (sym e) (puts_append out mid after end i z xs ys p q));
        }
