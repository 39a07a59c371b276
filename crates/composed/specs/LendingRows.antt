-- On the way to what can be lent: the records of a body lie within it.
use Rattle.std.specs.Prelude.{ℕ, ◌+◌, ◌≤◌, ◌<◌, ◌≡◌, Bool, true, ◌&&◌, List, leb, eqb}
use Rattle.std.proofs.Math.Path.{refl}
use Rattle.std.proofs.Common.{sym, subst, arith, le-leb}
use Rattle.std.proofs.Math.ListN.{length}
use Rattle.basis.specs.declared.Mode.{Mode}
use Rattle.basis.specs.Cases.{either}
use Rattle.protobuf.specs.declared.Field.{Field}
use Rattle.protobuf.specs.Walk.{Fields, fields_of, between}
use Rattle.protobuf.specs.WalkLaws.{along, between-length}
use Rattle.schema.specs.declared.Kind.{Kind}
use Rattle.schema.specs.declared.Kind.TheVariants as kind
use Rattle.schema.specs.declared.Form.{Form}
use Rattle.schema.specs.declared.Place.{Place}
use Rattle.schema.specs.declared.Place.TheVariants as place
use Rattle.schema.specs.declared.Slots.{Slots}
use Rattle.schema.specs.declared.Role.{Role}
use Rattle.schema.specs.declared.Role.TheVariants.{Skip, Number, Text, Bytes, Unsigned, Topic, MessageId, Sub}
use Rattle.schema.specs.Schema.{role_of, rank, own_of}
use Rattle.schema.specs.SchemaLaws.{sub-rank}
use Rattle.schema.specs.Kinds.{by_rank}
use Rattle.schema.specs.Slots.{no_slots, slots_of}
use Rattle.schema.specs.SlotsLaws.{PlaceInside, SlotsInside}
use Rattle.schema.proofs.SlotsLaws.{slots_inside}
use Rattle.message.specs.declared.Record.{Record}
use Rattle.message.specs.Rows.{role_rows, rows_along, own_rows, rows_of}
use Rattle.message.specs.RowsLaws.{rows_along_lem}
use Rattle.rpc.specs.Grammar.{Each, none_left, ◌and◌}
use Rattle.meaning.specs.Table.{each_append}
use Rattle.compose.specs.Lent.{inside_at, fields_inside, row_inside}

-- ---- a row within n bytes
abbrev pub Lies : ℕ → Record → Type 0
Lies n r = row_inside n r ≡ true

pub and_both : (a b : Bool) → a ≡ true → b ≡ true → (a && b) ≡ true
and_both a b e f = rw (e, f)

module _ (mode : Mode) (s : List ℕ) (n at : ℕ) (l : at + length s ≤ n) where
  place_inside : (p : Place) → PlaceInside s p → inside_at n at p ≡ true
  unfolding inside_at
  place_inside place.Absent h = refl
  place_inside (place.Present a e) h =
      let g = h a e refl in and_both (leb a e) (leb (at + e) n) (le-leb a e g.0) (le-leb (at + e) n (omega arith))

  fields_inside_lem : (k : Kind) (t : Slots) → SlotsInside s t → fields_inside n at k t ≡ true
  unfolding fields_inside
  fields_inside_lem (kind.Rpc d) t g = refl
  fields_inside_lem kind.SubOpts t g = place_inside t.first g.first
  fields_inside_lem kind.RawMessage t g =
      and_both (inside_at n at t.first) _ (place_inside t.first g.first)
      (and_both (inside_at n at t.second) _ (place_inside t.second g.second)
      (and_both (inside_at n at t.third) _ (place_inside t.third g.third)
      (and_both (inside_at n at t.fourth) (inside_at n at t.fifth) (place_inside t.fourth g.fourth) (place_inside t.fifth g.fifth))))
  fields_inside_lem kind.Topic t g = refl
  fields_inside_lem (kind.ControlMessage d) t g = refl
  fields_inside_lem kind.ControlIHave t g = refl
  fields_inside_lem kind.ControlIWant t g = refl
  fields_inside_lem kind.MessageId t g = refl
  fields_inside_lem kind.ControlGraft t g = place_inside t.first g.first
  fields_inside_lem kind.ControlPrune t g = place_inside t.first g.first
  fields_inside_lem kind.PeerInfo t g =
      and_both (inside_at n at t.first) (inside_at n at t.second) (place_inside t.first g.first) (place_inside t.second g.second)
  fields_inside_lem kind.ControlIDontWant t g = refl

  -- the message's own row
  own-inside : (k : Kind) → Each (Lies n) (own_rows mode k at s)
  unfolding own_rows row_inside
  own-inside k =
      either (eqb (own_of k) 0) (λ t. simp t none_left)
      (λ t. let r : Lies n (record { kind = k; start = at; end = at + length s; slots = slots_of mode k s }) =
      and_both (leb at (at + length s)) _ (le-leb at (at + length s) (omega arith))
      (and_both (leb (at + length s) n) (fields_inside n at k (slots_of mode k s)) (le-leb (at + length s) n l)
      (fields_inside_lem k (slots_of mode k s) (slots_inside mode k s))) in
      simp t (r and none_left))

-- ---- a field's rows
leaf-inside : (k : Kind) (n a e : ℕ) → fields_inside n a k no_slots ≡ true → a ≤ e → e ≤ n
    → Lies n (record { kind = k; start = a; end = e; slots = no_slots })
unfolding row_inside
leaf-inside k n a e f h l =
    and_both (leb a e) _ (le-leb a e h) (and_both (leb e n) (fields_inside n a k no_slots) (le-leb e n l) f)

role_inside : (mode : Mode) (base n : ℕ) (s : List ℕ) (f : Field) (r : Role) → base + length s ≤ n
    → f.start ≤ f.next → f.next ≤ length s
    → ((j : Kind) (form : Form) (b : ℕ) (p : List ℕ) → r ≡ Sub j form → b + length p ≤ n
    → Each (Lies n) (rows_of mode j b p))
    → Each (Lies n) (role_rows (rows_of mode) base s f r)
unfolding fields_inside
role_inside mode base n s f Skip l o w h = none_left
role_inside mode base n s f (Number figure) l o w h = none_left
role_inside mode base n s f (Text slot) l o w h = none_left
role_inside mode base n s f (Bytes slot) l o w h = none_left
role_inside mode base n s f (Unsigned slot) l o w h = none_left
role_inside mode base n s f Topic l o w h =
    leaf-inside kind.Topic n (base + f.start) (base + f.next) refl (omega arith) (omega arith) and none_left
role_inside mode base n s f MessageId l o w h =
    leaf-inside kind.MessageId n (base + f.start) (base + f.next) refl (omega arith) (omega arith) and none_left
role_inside mode base n s f (Sub k form) l o w h =
    let z = between-length s f.start f.next w in
    h k form (base + f.start) (between s f.start f.next) refl (omega arith)

-- ---- a body's rows
along-inside : (mode : Mode) (k : Kind) (base n : ℕ) (s : List ℕ) → base + length s ≤ n
    → ((j : Kind) (b : ℕ) (p : List ℕ) → rank j < rank k → b + length p ≤ n → Each (Lies n) (rows_of mode j b p))
    → Each (Lies n) (rows_along (rows_of mode) k base s (fields_of mode s))
along-inside mode k base n s l h =
    along mode s (λ (at : ℕ) (w : Fields). Each (Lies n) (rows_along (rows_of mode) k base s w))
    (λ at. none_left)
    (λ at why e. none_left)
    (λ at f st e rest. each_append
    (role_inside mode base n s f (role_of k f.field f.wire_type) l st.ends st.within
    (λ j form b p q m. h j b p (sub-rank k j form f.field f.wire_type q) m))
    rest)
    0

pub rows_inside : (mode : Mode) (k : Kind) (base n : ℕ) (s : List ℕ) → base + length s ≤ n
    → Each (Lies n) (rows_of mode k base s)
rows_inside mode =
    by_rank (λ k. (base n : ℕ) (s : List ℕ) → base + length s ≤ n → Each (Lies n) (rows_of mode k base s))
    (λ k ih base n s l. subst (Each (Lies n)) (sym (rows_along_lem mode k base s))
    (each_append (own-inside mode s n base l k) (along-inside mode k base n s l (λ j b p q m. ih j q b n p m))))
