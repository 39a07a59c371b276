-- The tests of a record, one after the other.
use Prim.Native.Nat.{ℕ, ◌-◌, ◌*◌, ◌≤◌, ◌<◌, min}
use mathlib.Core.Path.{◌≡◌}
use mathlib.Core.List.{List}
use mathlib.Core.Logic.{◌≢◌}
use mathlib.Core.Bool.{Bool, true, false, not}
use lib.ListN.{length, take, drop}
use lib.Dec.{ltb, eqb}
use borrow.Author.Tests.{lt-ltb, le-ltb, le-leb, lt-leb, eq-eqb, ne_eqb}
use Rattle.basis.specs.Little.{little}
use Rattle.play.specs.Ends.{misfits, no_word, is_bad, no_question}
use Rattle.play.specs.Stores.{store_len}

-- ---- a content's length
pub settings : (kind len : ℕ) → kind ≡ 1 → not (eqb len 14) ≡ misfits kind len
unfolding misfits
settings kind len e = rw e

pub admit : (kind len : ℕ) → kind ≡ 2 → ltb len 11 ≡ misfits kind len
unfolding misfits
admit kind len e = rw e

pub beat : (kind len : ℕ) → kind ≡ 3 → not (eqb len 8) ≡ misfits kind len
unfolding misfits
beat kind len e = rw e

pub advertise : (kind len : ℕ) → kind ≡ 4 → ltb len 2 ≡ misfits kind len
unfolding misfits
advertise kind len e = rw e

pub ask : (kind len : ℕ) → kind ≡ 5 → false ≡ misfits kind len
unfolding misfits
ask kind len e = rw e

pub serve : (kind len : ℕ) → kind ≡ 6 → false ≡ misfits kind len
unfolding misfits
serve kind len e = rw e

pub unknown : (kind len : ℕ) → kind ≢ 1 → kind ≢ 2 → kind ≢ 3 → kind ≢ 4 → kind ≢ 5 → kind ≢ 6 → true ≡ misfits kind len
unfolding misfits
unknown kind len a b c d e f =
    simp (ne_eqb _ _ a, ne_eqb _ _ b, ne_eqb _ _ c, ne_eqb _ _ d, ne_eqb _ _ e, ne_eqb _ _ f)

-- ---- the word
pub word : (kind w : ℕ) (s : List ℕ) → kind ≡ 2 → w ≡ little (take (min 1 8) (drop 10 s)) → ltb 1 w ≡ no_word kind s
unfolding no_word
word kind w s e q = rw (e, q)

pub no-admit : (kind : ℕ) (s : List ℕ) → kind ≢ 2 → false ≡ no_word kind s
unfolding no_word
no-admit kind s e = simp (ne_eqb _ _ e)

-- ---- a record
pub not-one : (started : Bool) (kind : ℕ) (s : List ℕ) → misfits kind (length s) ≡ true → true ≡ is_bad started kind s
unfolding is_bad
not-one started kind s m = simp m

pub sets_up : (started : Bool) (kind : ℕ) (s : List ℕ) → misfits kind (length s) ≡ false → kind ≡ 1
    → false ≡ is_bad started kind s
unfolding is_bad
sets_up started kind s m e = simp (m, eq-eqb _ _ e)

pub calls : (started : Bool) (kind : ℕ) (s : List ℕ) (r : Bool) → misfits kind (length s) ≡ false → kind ≢ 1
    → started ≡ true → r ≡ no_word kind s → r ≡ is_bad started kind s
unfolding is_bad
calls started kind s r m e t q = simp (m, ne_eqb _ _ e, t, q)

pub early : (started : Bool) (kind : ℕ) (s : List ℕ) → misfits kind (length s) ≡ false → kind ≢ 1 → started ≡ false
    → true ≡ is_bad started kind s
unfolding is_bad
early started kind s m e t = simp (m, ne_eqb _ _ e, t)

-- ---- a question
pub numbers-cut : (s : List ℕ) → length s < 4 → true ≡ no_question s
unfolding no_question
numbers-cut s h = rw (lt-ltb (length s) 4 h)

pub id-cut : (s : List ℕ) (k : ℕ) → 4 ≤ length s → k ≡ little (take (min 2 8) (drop 2 s))
    → ltb (length s - 4) k ≡ no_question s
unfolding no_question
id-cut s k h e = rw (le-ltb (length s) 4 h, e)

-- ---- how much of a store is lent
pub rows-lent : (most size n : ℕ) → n ≤ most → n * size ≡ store_len most size n
unfolding store_len
rows-lent most size n h = rw (le-leb n most h)

pub none_lent : (most size n : ℕ) → most < n → 0 ≡ store_len most size n
unfolding store_len
none_lent most size n h = rw (lt-leb n most h)
