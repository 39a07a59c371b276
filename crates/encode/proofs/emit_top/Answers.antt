-- `encode::emit_top` meets its contract: how the field is written picks the case.
use Prim.Native.Nat.{ℕ}
use mathlib.Core.Path.{◌≡◌, sym, ap}
use mathlib.Core.List.{List}
use mathlib.Core.Logic.{◌⊎◌, inl, inr}
use Rattle.schema.specs.declared.Kind.{Kind}
use Rattle.schema.specs.declared.Held.{Held}
use Rattle.schema.specs.declared.Held.TheVariants as held
use Rattle.canon.specs.Canon.{held_part, canon, body_part}
use Rattle.encode.specs.Puts.{puts_none, puts_same, fits-same}
use Rattle.basis.specs.declared.Mode.TheVariants.{Groups}
use Rattle.encode.proofs.emit_top.Goals as goal

-- entries that are written whole or anew
entries : (n : ℕ) (s : List ℕ) (h : Held) → (h ≡ held.Whole) ⊎ ((k : Kind) × (h ≡ held.Anew k)) → body_part Groups s n h ≡ held_part Groups (canon Groups) n s h
unfolding body_part
entries n s h (inl e) = rw e
entries n s h (inr e) = rw e.1

pub emit_held-requires : goal.emit_held-requires
emit_held-requires c =
    let a = c.args in (c.requires.0, fits-same a.at _ _ (entries a.n a.body.now a.held c.in-Whole.is) c.requires.1)

pub emit_control-requires : goal.emit_control-requires
unfolding body_part
emit_control-requires c =
    let a = c.args in
    let pre = c.requires in
    (pre.0, fits-same a.at _ _ (ap (body_part Groups a.body.now a.n) c.in-Merged.is) pre.1)

pub returns-in-Nothing : goal.returns-in-Nothing
unfolding body_part
returns-in-Nothing c =
    let a = c.args in
    puts_same a.out.now a.at _ _ _ _ (sym (ap (body_part Groups a.body.now a.n) c.in-Nothing.is))
    (puts_none a.out.now a.at)

pub returns-in-Whole : goal.returns-in-Whole
returns-in-Whole c =
    let a = c.args in puts_same a.out.now a.at _ _ _ _ (sym (entries a.n a.body.now a.held c.in-Whole.is)) c.emit_held.ensures

pub returns-in-Merged : goal.returns-in-Merged
unfolding body_part
returns-in-Merged c =
    let a = c.args in
    puts_same a.out.now a.at _ _ _ _ (sym (ap (body_part Groups a.body.now a.n)
    c.in-Merged.is)) c.emit_control.ensures
