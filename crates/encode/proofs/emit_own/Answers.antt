-- `encode::emit_own` meets its contract: the role picks the case.
use mathlib.Core.Path.{◌≡◌, sym, ap}
use mathlib.Core.List.{List, []}
use mathlib.Core.Logic.{◌⊎◌, inl, inr}
use Prim.Native.Nat.{ℕ}
use Rattle.schema.specs.declared.Role.{Role}
use Rattle.schema.specs.declared.Role.TheVariants.{Text, Bytes}
use Rattle.schema.specs.declared.Slots.{Slots}
use Rattle.canon.specs.Canon.{placed, slot_in, own_part}
use Rattle.encode.specs.Puts.{puts_none, puts_same, fits-same}
use Rattle.encode.proofs.emit_own.Goals as goal

slot_part : (t : Slots) (n : ℕ) (s : List ℕ) (r : Role) (slot : ℕ) → (r ≡ Text slot) ⊎ (r ≡ Bytes slot) → own_part t n s r ≡ placed n s (slot_in slot t)
unfolding own_part
slot_part t n s r slot (inl h) = rw h
slot_part t n s r slot (inr h) = rw h

pub emit_number-requires : goal.emit_number-requires
unfolding own_part
emit_number-requires c =
    let a = c.args in
    let pre = c.requires in
    (pre.0, fits-same a.at _ _ (ap (own_part a.slots a.n a.input.now) c.in-Number.is) pre.2)

pub emit_slot-requires : goal.emit_slot-requires
emit_slot-requires c =
    let a = c.args in
    let pre = c.requires in
    (pre.0, pre.1, fits-same a.at _ _ (slot_part a.slots a.n a.input.now a.role _ c.in-Text.is) pre.2)

pub returns-in-Skip : goal.returns-in-Skip
unfolding own_part
returns-in-Skip c =
    let a = c.args in
    let e : own_part a.slots a.n a.input.now a.role ≡ [] =
    elim c.in-Skip.is [ inl h ↦ rw h | inr o ↦ elim o [ inl h ↦ rw h.1 | inr o ↦ elim o [ inl h ↦ rw h | inr o ↦ elim o [ inl h ↦ rw h | inr h ↦ rw h.2 ] ] ] ] in
    puts_same a.out.now a.at _ _ _ _ (sym e) (puts_none a.out.now a.at)

pub returns-in-Number : goal.returns-in-Number
unfolding own_part
returns-in-Number c =
    let a = c.args in
    puts_same a.out.now a.at _ _ _ _ (sym (ap (own_part a.slots a.n a.input.now) c.in-Number.is)) c.emit_number.ensures

pub returns-in-Text : goal.returns-in-Text
returns-in-Text c =
    let a = c.args in
    puts_same a.out.now a.at _ _ _ _ (sym (slot_part a.slots a.n a.input.now a.role _ c.in-Text.is)) c.emit_slot.ensures
