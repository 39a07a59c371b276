-- `utf8::is_utf8` meets its contract: what is left, run from the state, gives what all gives from the start.
use Prim.Native.Nat.{ℕ, ◌+◌, ◌≤◌, ◌<◌}
use mathlib.Core.Bool.{false}
use mathlib.Core.Path.{◌≡◌, refl, sym, ◌∙◌}
use mathlib.Core.List.{List, [], ◌∷◌}
use native.Mathlib.Numerals.{add-one}
use lib.Dec.{eqb}
use lib.ListN.{length, drop, get_or, drop_of_length-le}
use lib.Seq.{drop-cons}
use Rattle.std.specs.Prelude.{Option, Some, None}
use Rattle.utf8.specs.declared.Want.{Want}
use Rattle.utf8.specs.Utf8.{is_utf8, run, step_of}
use Rattle.utf8.proofs.Leave.{leave}
use Rattle.utf8.proofs.is_utf8.Goals as goal

turn : (s : List ℕ) (i : ℕ) (w : Want) (r : Option Want) → i < length s → r ≡ step_of (Some w) (get_or s i 0)
    → run (Some w) (drop i s) ≡ run r (drop (i + 1) s)
unfolding run
turn s i w r h e = rw (drop-cons s i 0 h, e, add-one i)

never : (s : List ℕ) → false ≡ run None s
unfolding run
never [] = refl
never (b ∷ s) = never s

done : (s : List ℕ) (i : ℕ) (w : Want) → length s ≤ i → eqb w.tails 0 ≡ run (Some w) (drop i s)
unfolding run
done s i w h = rw (drop_of_length-le s h)

pub loop-i-init : goal.loop-i-init
unfolding is_utf8
loop-i-init c = c.past_ascii-i.ensures.s_value

pub returns-in_default : goal.returns-in_default
returns-in_default c =
    let l = c.loop-i in
    never _ ∙ sym (l.invariant ∙ turn c.args.s.now l.i l.last None c.loop-i-test.true c.in_default.ensures)

pub loop-i-preserved-then-last-eq0 : goal.loop-i-preserved-then-last-eq0
loop-i-preserved-then-last-eq0 c =
    let l = c.loop-i in
    let n = c.in-Some.next in
    let k = c.past_ascii-i-then-last-eq0 in
    l.invariant ∙ turn c.args.s.now l.i l.last (Some n) c.loop-i-test.true c.in-Some.ensures
    ∙ leave c.args.s.now n (l.i + 1) k.result c.if-last-eq0.true k.ensures.s_value

pub loop-i-preserved : goal.loop-i-preserved
loop-i-preserved c =
    let l = c.loop-i in
    l.invariant ∙ turn c.args.s.now l.i l.last (Some c.in-Some.next) c.loop-i-test.true c.in-Some.ensures

pub returns : goal.returns
returns c = done c.args.s.now c.loop-i.i c.loop-i.last c.loop-i-test.false ∙ sym c.loop-i.invariant
