-- Laws of counting: along a message's fields, and in its submessages in the same way; and a message has no more records
-- than bytes.
use Rattle.std.specs.Prelude.{Result, Ok, Err, ℕ, ◌+◌, ◌-◌, ◌≤◌, ◌<◌, ◌≡◌, refl, List, length, drop}
use Rattle.std.proofs.Common.{sym, ap, ap₂, ◌∙◌, arith, length-take}
use Rattle.basis.specs.declared.Mode.{Mode}
use Rattle.basis.specs.Cases.{either, clash}
use Rattle.utf8.specs.Utf8.{is_utf8}
use Rattle.protobuf.specs.declared.Field.{Field}
use Rattle.protobuf.specs.Laws.{Stands}
use Rattle.protobuf.specs.Walk.{Fields, end, refused, ◌then◌, walk_at, fields_of, between}
use Rattle.protobuf.specs.WalkLaws.{along}
use Rattle.schema.specs.declared.Kind.{Kind}
use Rattle.schema.specs.declared.Kind.TheVariants as kind
use Rattle.schema.specs.declared.Form.{Form}
use Rattle.schema.specs.declared.Role.{Role}
use Rattle.schema.specs.declared.Role.TheVariants.{Skip, Number, Text, Bytes, Unsigned, Topic, MessageId, Sub}
use Rattle.protobuf.specs.declared.WireError.{WireError}
use Rattle.schema.specs.Schema.{role_of, rank, own_of}
use Rattle.schema.specs.SchemaLaws.{sub-rank}
use Rattle.schema.specs.Kinds.{unfolds, by_rank}
use Rattle.schema.specs.Count.{plus, and_then, text_count, role_count, count_along, count_step, counted, field_count}

-- ---- counting in a message: along its fields, and in its submessages in the same way
same_role : (f g : Kind → List ℕ → Result ℕ WireError) (s : List ℕ) (x : Field) (r : Role)
    → ((j : Kind) (form : Form) (p : List ℕ) → r ≡ Sub j form → f j p ≡ g j p) → role_count f s x r ≡ role_count g s x r
same_role f g s x Skip h = refl
same_role f g s x (Number figure) h = refl
same_role f g s x (Text slot) h = refl
same_role f g s x (Bytes slot) h = refl
same_role f g s x (Unsigned slot) h = refl
same_role f g s x Topic h = refl
same_role f g s x MessageId h = refl
same_role f g s x (Sub k form) h = ap (plus (own_of k)) (h k form (between s x.start x.next) refl)

same-along : (f g : Kind → List ℕ → Result ℕ WireError) (k : Kind) (s : List ℕ) (w : Fields)
    → ((j : Kind) (p : List ℕ) → rank j < rank k → f j p ≡ g j p) → count_along f k s w ≡ count_along g k s w
same-along f g k s end h = refl
same-along f g k s (refused why) h = refl
same-along f g k s (x then w) h =
    ap₂ and_then
    (same_role f g s x (role_of k x.field x.wire_type)
    (λ j form p e. h j p (sub-rank k j form x.field x.wire_type e)))
    (same-along f g k s w h)

pub count_along_lem : (mode : Mode) (k : Kind) (s : List ℕ)
    → counted mode k s ≡ count_along (counted mode) k s (fields_of mode s)
unfolding counted
count_along_lem mode k s = unfolds (count_step mode) (Ok 0) (λ f g j p h. same-along f g j p (fields_of mode p) h) k s

-- ---- a message has no more records than bytes
pub own-one : (k : Kind) → own_of k ≤ 1
unfolding own_of
own-one (kind.Rpc d) = omega arith
own-one kind.SubOpts = omega arith
own-one kind.RawMessage = omega arith
own-one kind.Topic = omega arith
own-one (kind.ControlMessage d) = omega arith
own-one kind.ControlIHave = omega arith
own-one kind.ControlIWant = omega arith
own-one kind.MessageId = omega arith
own-one kind.ControlGraft = omega arith
own-one kind.ControlPrune = omega arith
own-one kind.PeerInfo = omega arith
own-one kind.ControlIDontWant = omega arith

pub text-fits : (s : List ℕ) (f : Field) (n m : ℕ) → text_count s f n ≡ Ok m → m ≡ n
unfolding text_count
text-fits s f n m h =
    either (is_utf8 (between s f.start f.next)) (λ t. let e = simp t at h in cc)
    (λ t. clash (let e = simp t at h in cc))

pub plus-fits : (n m : ℕ) (r : Result ℕ WireError) → plus n r ≡ Ok m → (x : ℕ) × (r ≡ Ok x) × (m ≡ n + x)
plus-fits n m (Ok x) h = (x, refl, cc)
plus-fits n m (Err why) h = clash (cc)

pub plus-refused : (n : ℕ) (r : Result ℕ WireError) (why : WireError) → plus n r ≡ Err why → r ≡ Err why
plus-refused n (Ok m) why h = clash (cc)
plus-refused n (Err w) why h = cc

role_fits : (s : List ℕ) (at : ℕ) (f : Field) (r : Role) (sub : Kind → List ℕ → Result ℕ WireError) (m : ℕ)
    → Stands s at f → role_count sub s f r ≡ Ok m → ((j : Kind) (form : Form) (p : List ℕ) (x : ℕ) → r ≡ Sub j form
    → sub j p ≡ Ok x → x ≤ length p) → m ≤ f.next - at
role_fits s at f Skip sub m st h ih = let e : m ≡ 0 = cc in omega arith
role_fits s at f (Number figure) sub m st h ih = let e : m ≡ 0 = cc in omega arith
role_fits s at f (Text slot) sub m st h ih = let e = text-fits s f 0 m h in omega arith
role_fits s at f (Bytes slot) sub m st h ih = let e : m ≡ 0 = cc in omega arith
role_fits s at f (Unsigned slot) sub m st h ih = let e : m ≡ 0 = cc in omega arith
role_fits s at f Topic sub m st h ih = let e = text-fits s f 1 m h in omega arith
role_fits s at f MessageId sub m st h ih = let e : m ≡ 1 = cc in omega arith
role_fits s at f (Sub k form) sub m st h ih =
    let t = plus-fits (own_of k) m (sub k (between s f.start f.next)) h in
    let l = ih k form (between s f.start f.next) t.0 refl t.1 in
    let g : length (between s f.start f.next) ≤ f.next - f.start =
    rw (length-take (f.next - f.start) (drop f.start s)) (omega arith) in
    let o = own-one k in
    omega (arith, t.2)

pub then-fits : (a b : Result ℕ WireError) (n : ℕ) → and_then a b ≡ Ok n
    → (x : ℕ) × (y : ℕ) × (a ≡ Ok x) × (b ≡ Ok y) × (n ≡ x + y)
then-fits (Ok x) (Ok y) n h = (x, y, refl, refl, cc)
then-fits (Ok x) (Err why) n h = clash (cc)
then-fits (Err why) b n h = clash (cc)

-- along the walk, where submessages keep to it
walk-fits : (mode : Mode) (k : Kind) (s : List ℕ) → ((j : Kind) (p : List ℕ) (x : ℕ) → rank j < rank k
    → counted mode j p ≡ Ok x
    → x ≤ length p) → (at n : ℕ) → count_along (counted mode) k s (walk_at mode s at) ≡ Ok n → n ≤ length s - at
walk-fits mode k s ih =
    along mode s (λ (at : ℕ) (w : Fields). (n : ℕ) → count_along (counted mode) k s w ≡ Ok n → n ≤ length s - at)
    (λ at n h. let e : n ≡ 0 = cc in omega arith)
    (λ at why r n h. clash (cc))
    (λ at f st e rest n h.
    let t = then-fits (role_count (counted mode) s f (role_of k f.field f.wire_type))
    (count_along (counted mode) k s (walk_at mode s f.next)) n h in
    let a = role_fits s at f (role_of k f.field f.wire_type) (counted mode) t.0 st t.2
    (λ j form p x q. ih j p x (sub-rank k j form f.field f.wire_type q)) in
    let b = rest t.1 t.3 in
    omega (arith, t.4))

pub count_fits : (mode : Mode) (k : Kind) (s : List ℕ) (n : ℕ) → counted mode k s ≡ Ok n → n ≤ length s
count_fits mode =
    by_rank (λ k. (s : List ℕ) (n : ℕ) → counted mode k s ≡ Ok n → n ≤ length s)
    (λ k ih s n h. let l = walk-fits mode k s (λ j p x q e. ih j q p x e) 0 n (sym (count_along_lem mode k s)
    ∙ h) in omega arith)

-- a field has no more records than bytes, its tag counted
pub field_fits : (mode : Mode) (k : Kind) (s : List ℕ) (at : ℕ) (f : Field) (m : ℕ) → Stands s at f
    → field_count mode k s f ≡ Ok m
    → m ≤ f.next - at
unfolding field_count
field_fits mode k s at f m st h = role_fits s at f (role_of k f.field f.wire_type) (counted mode) m st h
    (λ j form p x q e. count_fits mode j p x e)
