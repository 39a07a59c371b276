-- Laws of places: along a message's fields, and in its submessages in the same way; a place lies within the message; and
-- a message without refusal has none.
use Rattle.std.specs.Prelude.{Option, Some, None, Ok, ℕ, ◌+◌, ◌-◌, ◌^◌, ◌≤◌, ◌<◌, ◌≡◌, refl, List, length, drop}
use Rattle.std.proofs.Common.{sym, ap, ap₂, subst, ◌∙◌, arith, length-take}
use Rattle.basis.specs.declared.Mode.{Mode}
use Rattle.basis.specs.declared.Spot.{Spot}
use Rattle.basis.specs.Spot.{inside, or_else, Within, Reaches}
use Rattle.basis.specs.Cases.{either, clash}
use Rattle.utf8.specs.Utf8.{is_utf8}
use Rattle.protobuf.specs.declared.Field.{Field}
use Rattle.protobuf.specs.Laws.{Stands}
use Rattle.protobuf.specs.RefusalLaws.{field-within}
use Rattle.protobuf.specs.Walk.{Fields, end, refused, ◌then◌, walk_at, fields_of, between}
use Rattle.protobuf.specs.WalkLaws.{along}
use Rattle.schema.specs.declared.Kind.{Kind}
use Rattle.schema.specs.declared.Form.{Form}
use Rattle.schema.specs.declared.Role.{Role}
use Rattle.schema.specs.declared.Role.TheVariants.{Skip, Number, Text, Bytes, Unsigned, Topic, MessageId, Sub}
use Rattle.schema.specs.Schema.{role_of, rank, own_of}
use Rattle.schema.specs.Count.{text_count, role_count, count_along, counted}
use Rattle.schema.specs.CountLaws.{count_along_lem, plus-fits, then-fits}
use Rattle.schema.specs.SchemaLaws.{sub-rank}
use Rattle.schema.specs.Kinds.{unfolds, by_rank}
use Rattle.schema.specs.Spots.{text_spot, role_spot, spot_along, spot_step, spot_in}

-- ---- in a message: along its fields, and in its submessages in the same way
same_role : (f g : Kind → List ℕ → Option Spot) (s : List ℕ) (x : Field) (r : Role)
    → ((j : Kind) (form : Form) (p : List ℕ) → r ≡ Sub j form → f j p ≡ g j p) → role_spot f s x r ≡ role_spot g s x r
same_role f g s x Skip h = refl
same_role f g s x (Number figure) h = refl
same_role f g s x (Text slot) h = refl
same_role f g s x (Bytes slot) h = refl
same_role f g s x (Unsigned slot) h = refl
same_role f g s x Topic h = refl
same_role f g s x MessageId h = refl
same_role f g s x (Sub k form) h =
    ap (inside x.field x.start) (h k form (between s x.start x.next) refl)

same-along : (f g : Kind → List ℕ → Option Spot) (k : Kind) (s : List ℕ) (w : Fields)
    → ((j : Kind) (p : List ℕ) → rank j < rank k → f j p ≡ g j p) → spot_along f k s w ≡ spot_along g k s w
same-along f g k s end h = refl
same-along f g k s (refused why) h = refl
same-along f g k s (x then w) h =
    ap₂ or_else
    (same_role f g s x (role_of k x.field x.wire_type)
    (λ j form p e. h j p (sub-rank k j form x.field x.wire_type e)))
    (same-along f g k s w h)

pub spot_along_lem : (mode : Mode) (k : Kind) (s : List ℕ) → spot_in mode k s ≡ spot_along (spot_in mode) k s (fields_of mode s)
unfolding spot_in
spot_along_lem mode k s = unfolds (spot_step mode) None (λ f g j p h. same-along f g j p (fields_of mode p) h) k s

-- ---- a place lies within the message
either-within : (n : ℕ) (a b : Option Spot) → Within n a → Within n b → Within n (or_else a b)
either-within n None b p q = q
either-within n (Some spot) b p q = p

inside-within : (n m field start : ℕ) (a : Option Spot) → Within m a → start + m ≤ n → Within n (inside field start a)
inside-within n m field start None p l = tt
inside-within n m field start (Some spot) p l = omega (arith, p)

text-within : (s : List ℕ) (from : ℕ) (f : Field) → Stands s from f → Within (length s) (text_spot s f)
unfolding text_spot
text-within s from f st =
    either (is_utf8 (between s f.start f.next)) (λ t. simp t tt)
    (λ t. simp t (omega (arith, st.tagged, st.ends, st.within)))

role_within : (mode : Mode) (s : List ℕ) (from : ℕ) (f : Field) (r : Role) → Stands s from f
    → ((j : Kind) (form : Form) (p : List ℕ) → r ≡ Sub j form → Within (length p) (spot_in mode j p))
    → Within (length s) (role_spot (spot_in mode) s f r)
role_within mode s from f Skip st ih = tt
role_within mode s from f (Number figure) st ih = tt
role_within mode s from f (Text slot) st ih = text-within s from f st
role_within mode s from f (Bytes slot) st ih = tt
role_within mode s from f (Unsigned slot) st ih = tt
role_within mode s from f Topic st ih = text-within s from f st
role_within mode s from f MessageId st ih = tt
role_within mode s from f (Sub k form) st ih =
    inside-within (length s) (length (between s f.start f.next)) f.field f.start
    (spot_in mode k (between s f.start f.next)) (ih k form (between s f.start f.next) refl)
    (omega (arith, length-take (f.next - f.start) (drop f.start s), st.ends, st.within))

pub spot-within : (mode : Mode) (k : Kind) (s : List ℕ) → Within (length s) (spot_in mode k s)
spot-within mode =
    by_rank (λ k. (s : List ℕ) → Within (length s) (spot_in mode k s))
    (λ k ih s. subst (Within (length s)) (sym (spot_along_lem mode k s))
    (along mode s (λ (from : ℕ) (w : Fields). Within (length s) (spot_along (spot_in mode) k s w))
    (λ from. tt)
    (λ from why e. field-within mode s from why e)
    (λ from f st e rest.
    either-within (length s) (role_spot (spot_in mode) s f (role_of k f.field f.wire_type))
    (spot_along (spot_in mode) k s (walk_at mode s f.next))
    (role_within mode s from f (role_of k f.field f.wire_type) st
    (λ j form p q. ih j (sub-rank k j form f.field f.wire_type q) p)) rest)
    0))

-- and a place within so many bytes, after a start from which they can be counted, can be counted from there
pub within_reaches : (n start : ℕ) (a : Option Spot) → Within n a → start + n < 2 ^ 64 → Reaches start a
within_reaches n start None p l = tt
within_reaches n start (Some spot) p l = omega (arith, p)

-- ---- where records are counted, nothing is refused
text_clean : (s : List ℕ) (f : Field) (n m : ℕ) → text_count s f n ≡ Ok m → text_spot s f ≡ None
unfolding text_count text_spot
text_clean s f n m h =
    either (is_utf8 (between s f.start f.next)) (λ t. simp t) (λ t. clash (let e = simp t at h in cc))

role_clean_by : (mode : Mode) (s : List ℕ) (f : Field) (r : Role) (m : ℕ) → role_count (counted mode) s f r ≡ Ok m
    → ((j : Kind) (form : Form) (p : List ℕ) (x : ℕ) → r ≡ Sub j form → counted mode j p ≡ Ok x
    → spot_in mode j p ≡ None)
    → role_spot (spot_in mode) s f r ≡ None
role_clean_by mode s f Skip m h ih = refl
role_clean_by mode s f (Number figure) m h ih = refl
role_clean_by mode s f (Text slot) m h ih = text_clean s f 0 m h
role_clean_by mode s f (Bytes slot) m h ih = refl
role_clean_by mode s f (Unsigned slot) m h ih = refl
role_clean_by mode s f Topic m h ih = text_clean s f 1 m h
role_clean_by mode s f MessageId m h ih = refl
role_clean_by mode s f (Sub k form) m h ih =
    let t = plus-fits (own_of k) m (counted mode k (between s f.start f.next)) h in
    ap (inside f.field f.start) (ih k form (between s f.start f.next) t.0 refl t.1)

pub count_clean : (mode : Mode) (k : Kind) (s : List ℕ) (n : ℕ) → counted mode k s ≡ Ok n
    → spot_in mode k s ≡ None
count_clean mode =
    by_rank (λ k. (s : List ℕ) (n : ℕ) → counted mode k s ≡ Ok n → spot_in mode k s ≡ None)
    (λ k ih s n h. spot_along_lem mode k s
    ∙ along mode s (λ (from : ℕ) (w : Fields). (m : ℕ) → count_along (counted mode) k s w ≡ Ok m
    → spot_along (spot_in mode) k s w ≡ None)
    (λ from m g. refl)
    (λ from why e m g. clash (cc))
    (λ from f st e rest m g.
    let r = role_of k f.field f.wire_type in
    let t = then-fits (role_count (counted mode) s f r) (count_along (counted mode) k s (walk_at mode s f.next)) m g in
    ap₂ or_else
    (role_clean_by mode s f r t.0 t.2
    (λ j form p x q. ih j (sub-rank k j form f.field f.wire_type q) p x))
    (rest t.1 t.3))
    0 n (sym (count_along_lem mode k s) ∙ h))

-- so of a field whose records are counted
pub role_clean : (mode : Mode) (s : List ℕ) (f : Field) (r : Role) (m : ℕ) → role_count (counted mode) s f r ≡ Ok m
    → role_spot (spot_in mode) s f r ≡ None
role_clean mode s f r m h = role_clean_by mode s f r m h (λ j form p x q e. count_clean mode j p x e)
