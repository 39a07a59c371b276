-- Reading a body in a dialect, as theorems about what `decode` tells and leaves, by the scope's numbers and the values
-- beside them: accepted exactly where the body means an RPC within capacity and the table has room; the table then says
-- that RPC; and each refusal exactly where the scope gives it.
use Rattle.std.specs.Prelude.{Option, Some, None, Result, Ok, Err, ℕ, ◌+◌, ◌*◌, ◌/◌, ◌≤◌, ◌<◌, ◌≡◌, refl, Bool, true, false, cond, List, [], ◌∷◌, ◌≢◌, ◌↔◌, length, drop, ltb, eqb}
use Rattle.std.proofs.Common.{sym, ap, ap₂, subst, ◌∙◌, arith, drop_at, ltb-true, ltb-false, lt-ltb, le-ltb}
use Rattle.std.proofs.lemmas.List.Edits.{sets, sets-eq}
use Rattle.std.proofs.Math.Seq.{length-sets}
use Rattle.basis.specs.declared.Mode.{Mode}
use Rattle.basis.specs.declared.Dialect.{Dialect}
use Rattle.basis.specs.declared.Told.{Told}
use Rattle.basis.specs.Refusals.{too_large, too_many-records, short-room}
use Rattle.basis.specs.declared.Spot.{Spot}
use Rattle.basis.specs.Told.{told, placed, done}
use Rattle.basis.specs.Cases.{either, clash, of-ok-two}
use Rattle.basis.specs.Bytes.{Bytes}
use Rattle.utf8.specs.Utf8.{is_utf8}
use Rattle.protobuf.specs.declared.Field.{Field}
use Rattle.protobuf.specs.declared.WireError.{WireError}
use Rattle.protobuf.specs.declared.Refusal.{Refusal as Placed}
use Rattle.protobuf.specs.Refusal.{spot_of, nowhere, placed_as, standing}
use Rattle.protobuf.specs.declared.WireError.TheVariants.{InvalidUtf8, TooLarge, TooManyRecords}
use Rattle.protobuf.specs.Told.{wire_told, refusal_told, refusal_number}
use Rattle.protobuf.specs.RefusalLaws.{wire_range, OfField, low as field-low, of-group as field-group, field-early}
use Rattle.protobuf.specs.Walk.{Fields, end, refused, ◌then◌, fields_of, between}
use Rattle.protobuf.specs.WalkLaws.{along}
use Rattle.schema.specs.declared.Kind.{Kind}
use Rattle.schema.specs.declared.Kind.TheVariants as kind
use Rattle.schema.specs.declared.Form.{Form}
use Rattle.schema.specs.declared.Role.{Role}
use Rattle.schema.specs.declared.Role.TheVariants.{Skip, Number, Text, Bytes as BytesRole, Unsigned, Topic, MessageId}
use Rattle.schema.specs.declared.Role.TheVariants.{Sub}
use Rattle.message.specs.declared.DecodeError.TheVariants as dec
use Rattle.message.specs.declared.DecodeError.{DecodeError}
use Rattle.schema.specs.Spots.{spot_in}
use Rattle.schema.specs.Schema.{role_of, rank, own_of}
use Rattle.schema.specs.Count.{and_then, text_count, role_count, count_along, counted}
use Rattle.schema.specs.SchemaLaws.{sub-rank}
use Rattle.schema.specs.Kinds.{by_rank}
use Rattle.schema.specs.CountLaws.{count_along_lem, plus-refused}
use Rattle.schema.specs.Accept.{body_records}
use Rattle.schema.specs.AcceptLaws.{Gate, large, bad, many, passes, gate, records-taken, records-many, records-large}
use Rattle.schema.specs.AcceptLaws.{records_wrong}
use Rattle.message.specs.Rows.{rows_of, words_of_all}
use Rattle.message.specs.RowsLaws.{rows-length, all-length}
use Rattle.message.specs.Decode.{has_control, on_count, decode_answer, leaves, decode_table}
use Rattle.message.specs.Told.{decoded_told}
use Rattle.rpc.specs.Rpc.{Rpc}
use Rattle.rpc.specs.Grammar.{IsRpc}
use Rattle.meaning.specs.ReadBack.{nothing, gather, read_back}
use Rattle.meaning.specs.Refused.{RefusedAt, told_at}
use Rattle.meaning.specs.Accepted.{rpc-means, rpc-accepted}
use Rattle.meaning.specs.RefusedLaws.{First, first-exactly, first-counts, OfBody, low, of-group, refused-early}
use Rattle.meaning.specs.Back.{read_back_lem, one-rpc}
use Rattle.meaning.specs.Table.{all-records, rows_in, table-back}
use Rattle.meaning.specs.Size.{records_in, rpc-records}

-- ---- what the scope says of a body
-- it means an RPC and is within capacity
pub record Within (d : Dialect) (s : List ℕ) (x : Rpc) : Type 0 where
  pub means : IsRpc d s x
  pub small : length s ≤ 65536
  pub few : records_in x ≤ 512

-- what a body is refused with: 10 above 65,536 bytes, its length; 1 to 7 and 14 to 16, the first in reading order, 1 to
-- 7 with its place; 11 above 512 records, their number
pub data Refusal (d : Dialect) (s : List ℕ) : Told → Type 0 where
  is-large : 65536 < length s → Refusal d s (told too_large (length s ∷ []))
  is_wrong : {path : List ℕ} {offset : ℕ} {why : WireError} → length s ≤ 65536
      → RefusedAt d.mode (kind.Rpc d.edition) 0 s path offset why
      → Refusal d s (placed (told_at why offset path) (wire_told why))
  has-many : {x : Rpc} → length s ≤ 65536 → IsRpc d s x → 512 < records_in x
      → Refusal d s (told too_many-records (records_in x ∷ []))

-- 1 where it is there, and 0 where it is not
abbrev pub present : {A : Type 0} → Option A → ℕ
present None = 0
present (Some x) = 1

-- what `decode` tells, lent a table of so many words: a refusal of the body; 12 where the table has too few rows, with
-- the number of records; else that number, and 1 where the RPC has a control
pub data Decodes (d : Dialect) (s : List ℕ) (words : ℕ) : Told → Type 0 where
  refuses : {a : Told} → Refusal d s a → Decodes d s words a
  short : {x : Rpc} → Within d s x → words / 20 < records_in x → Decodes d s words (told short-room (records_in x ∷ []))
  reads : {x : Rpc} → Within d s x → records_in x ≤ words / 20
      → Decodes d s words (done (records_in x ∷ present x.control ∷ []))

-- ---- the RPC that a body means, and what was counted
-- a body's records are those of the RPC that it means
own-rpc : (d : Dialect) → own_of (kind.Rpc d.edition) ≡ 0
unfolding own_of
own-rpc d = refl

pub counted-records : (d : Dialect) (s : List ℕ) (n : ℕ) (x : Rpc)
    → counted d.mode (kind.Rpc d.edition) s ≡ Ok n → IsRpc d s x → n ≡ records_in x
counted-records d s n x e i =
    let a = rows-length d.mode (kind.Rpc d.edition) 0 s n e in let b = rpc-records i in omega (arith, own-rpc d)

-- where records are counted the body means an RPC with that number of records
record Counts (d : Dialect) (s : List ℕ) (n : ℕ) : Type 0 where
  rpc : Rpc
  means : IsRpc d s rpc
  all : records_in rpc ≡ n

counts : (d : Dialect) (s : List ℕ) (n : ℕ) → Bytes s → counted d.mode (kind.Rpc d.edition) s ≡ Ok n
    → Counts d s n
counts d s n b e =
    let x = rpc-means d s b (record { records = n; counts = e }) in
    record { rpc = x.value; means = x.means; all = sym (counted-records d s n x.value e x.means) }

-- and back
pub meant-count : {d : Dialect} {s : List ℕ} {x : Rpc} → IsRpc d s x
    → counted d.mode (kind.Rpc d.edition) s ≡ Ok (records_in x)
meant-count {d} {s} {x} i =
    let a = rpc-accepted d s (record { value = x; means = i }) in
    a.counts ∙ ap Ok (counted-records d s a.records x a.counts i)

-- decode says that a control is there exactly where the RPC has one
present-cond : {A : Type 0} (c : Bool) (x : A) → present (cond c (Some x) None) ≡ cond c 1 0
present-cond true x = refl
present-cond false x = refl

control-told : {d : Dialect} {s : List ℕ} {x : Rpc} → IsRpc d s x
    → cond (has_control d.mode s) 1 0 ≡ present x.control
unfolding read_back
control-told {d} {s} {x} i =
    sym (present-cond (has_control d.mode s)
    (gather s (rows_of d.mode (kind.Rpc d.edition) 0 s) nothing).control)
    ∙ ap (λ (y : Rpc). present y.control) (read_back_lem i)

-- ---- a body is refused exactly where the scope refuses it
-- the gate's refusal
pub refusal-of : (d : Dialect) (s : List ℕ) (r : Result ℕ Placed) (why : Placed) → Bytes s → Gate d s r → r ≡ Err why
    → Refusal d s (refusal_told why)
refusal-of d s _ why b (large h) e =
    let q : nowhere (TooLarge (length s)) ≡ why = cc in
    subst (λ (w : Placed). Refusal d s (refusal_told w)) q (is-large h)
refusal-of d s _ why b (bad h w q) e =
    let there = spot_in d.mode (kind.Rpc d.edition) s in
    let i = (first-exactly d.mode (kind.Rpc d.edition) s w (placed_as (spot_of w) there) b).0 (q, refl) in
    let z : standing there w ≡ why = cc in
    subst (λ (x : Placed). Refusal d s (refusal_told x)) z
    (subst (λ (x : Option Spot). Refusal d s (placed x (wire_told w))) (sym i.told) (is_wrong h i.is))
refusal-of d s _ why b (many h n q l) e =
    let c = counts d s n b q in
    let z : nowhere (TooManyRecords n) ≡ why = cc in
    subst (λ (w : Placed). Refusal d s (refusal_told w)) (ap (λ (k : ℕ). nowhere (TooManyRecords k)) c.all ∙ z)
    (has-many h c.means (omega (arith, c.all)))
refusal-of d s _ why b (passes h n q l) e = clash (cc)

-- and back: by which case of the answer it is told
pub of-refusal : {d : Dialect} {s : List ℕ} {a : Told} → Refusal d s a
    → (why : Placed) × (body_records d s ≡ Err why) × (refusal_told why ≡ a)
of-refusal {d} {s} (is-large h) = (nowhere (TooLarge (length s)), records-large d s h, refl)
of-refusal {d} {s} (is_wrong {path} {offset} {why} h i) =
    let c = first-counts (record { path = path; offset = offset; is = i; told = refl }) in (
      standing (spot_in d.mode (kind.Rpc d.edition) s) why,
      records_wrong d s why h c.0,
      ap (λ (x : Option Spot). placed x (wire_told why)) c.1,
    )
of-refusal {d} {s} (has-many {x} h i l) =
    (nowhere (TooManyRecords (records_in x)), records-many d s (records_in x) h (meant-count i) l, refl)

-- ---- what decode tells, exactly
of-gate : (d : Dialect) (s : List ℕ) (words : ℕ) (r : Result ℕ Placed) → Bytes s → Gate d s r
    → Decodes d s words (decoded_told (on_count (words / 20) (has_control d.mode s) r))
of-gate d s words _ b (large h) = refuses (is-large h)
of-gate d s words _ b (bad h why e) =
    refuses (refusal-of d s _ (standing (spot_in d.mode (kind.Rpc d.edition) s) why) b (bad h why e) refl)
of-gate d s words _ b (many h n e l) = refuses (refusal-of d s _ (nowhere (TooManyRecords n)) b (many h n e l) refl)
of-gate d s words _ b (passes h n e l) =
    let c = counts d s n b e in
    let w : Within d s c.rpc = record { means = c.means; small = h; few = omega (arith, c.all) } in
    either (ltb (words / 20) n)
    (λ u. simp u (subst (λ (k : ℕ). Decodes d s words (told short-room (k ∷ []))) c.all
    (short w (omega (arith, c.all, ltb-true (words / 20) n u)))))
    (λ u. simp u (subst (λ (k : ℕ). Decodes d s words (done (k ∷ cond (has_control d.mode s) 1 0 ∷ []))) c.all
    (subst (λ (k : ℕ). Decodes d s words (done (records_in c.rpc ∷ k ∷ []))) (sym (control-told c.means))
    (reads w (omega (arith, c.all, ltb-false (words / 20) n u))))))

pub records-within : {d : Dialect} {s : List ℕ} {x : Rpc} → Within d s x
    → body_records d s ≡ Ok (records_in x)
records-within {d} {s} {x} w = records-taken d s (records_in x) w.small (meant-count w.means) w.few

told_of_lem : {d : Dialect} {s : List ℕ} {words : ℕ} {a : Told} → Decodes d s words a
    → decoded_told (decode_answer d s words) ≡ a
unfolding decode_answer
told_of_lem {d} {s} {words} (refuses r) =
    let g = of-refusal r in
    ap (λ (c : Result ℕ Placed). decoded_told (on_count (words / 20) (has_control d.mode s) c)) g.1 ∙ g.2
told_of_lem {d} {s} {words} (short {x} w l) =
    ap (λ (c : Result ℕ Placed). decoded_told (on_count (words / 20) (has_control d.mode s) c)) (records-within w)
    ∙ simp (lt-ltb (words / 20) (records_in x) l)
told_of_lem {d} {s} {words} (reads {x} w l) =
    ap (λ (c : Result ℕ Placed). decoded_told (on_count (words / 20) (has_control d.mode s) c)) (records-within w)
    ∙ simp (le-ltb (words / 20) (records_in x) l) (ap (λ (k : ℕ). done (records_in x ∷ k ∷ [])) (control-told w.means))

decodes : (d : Dialect) (s : List ℕ) (words : ℕ) → Bytes s → Decodes d s words (decoded_told (decode_answer d s words))
unfolding decode_answer
decodes d s words b = of-gate d s words (body_records d s) b (gate d s)

pub decode_exactly : (d : Dialect) (s : List ℕ) (words : ℕ) (a : Told) → Bytes s
    → (decoded_told (decode_answer d s words) ≡ a) ↔ Decodes d s words a
decode_exactly d s words a b = (λ e. subst (Decodes d s words) e (decodes d s words b), told_of_lem)

-- counting refuses by one of 1 to 7; where groups are passed over, also of 14 to 16
field-body : {mode : Mode} {n : ℕ} → OfField mode n → OfBody mode n
field-body (field-low {n = n} l) = low {n = n} (omega arith)
field-body (field-group l u) = of-group l u

text-early : (mode : Mode) (s : List ℕ) (f : Field) (n : ℕ) (why : WireError) → text_count s f n ≡ Err why
    → OfBody mode (refusal_number why)
unfolding text_count
text-early mode s f n why h =
    either (is_utf8 (between s f.start f.next)) (λ t. clash (let e = simp t at h in cc))
    (λ t. let e = simp t at h in let w : why ≡ InvalidUtf8 f.tag_end = cc in rw w (low {n = 7} (omega arith)))

role_early : (mode : Mode) (s : List ℕ) (f : Field) (r : Role) (why : WireError)
    → role_count (counted mode) s f r ≡ Err why
    → ((j : Kind) (form : Form) (p : List ℕ) → r ≡ Sub j form → counted mode j p ≡ Err why
    → OfBody mode (refusal_number why))
    → OfBody mode (refusal_number why)
role_early mode s f Skip why h ih = clash (cc)
role_early mode s f (Number figure) why h ih = clash (cc)
role_early mode s f (Text slot) why h ih = text-early mode s f 0 why h
role_early mode s f (BytesRole slot) why h ih = clash (cc)
role_early mode s f (Unsigned slot) why h ih = clash (cc)
role_early mode s f Topic why h ih = text-early mode s f 1 why h
role_early mode s f MessageId why h ih = clash (cc)
role_early mode s f (Sub k form) why h ih =
    ih k form (between s f.start f.next) refl
    (plus-refused (own_of k) (counted mode k (between s f.start f.next)) why h)

-- the refusals that a walk ends in
data Ending (mode : Mode) : Fields → Type 0 where
  at-end : Ending mode end
  early : {why : WireError} → OfField mode (refusal_number why) → Ending mode (refused why)
  after : {f : Field} {w : Fields} → Ending mode w → Ending mode (f then w)

first-early : (mode : Mode) (s : List ℕ) (k : Kind) (f : Field) (w : Fields) (why : WireError) (r : Result ℕ WireError)
    → role_count (counted mode) s f (role_of k f.field f.wire_type) ≡ r
    → and_then r (count_along (counted mode) k s w) ≡ Err why
    → (count_along (counted mode) k s w ≡ Err why → OfBody mode (refusal_number why))
    → ((j : Kind) (p : List ℕ) → rank j < rank k → counted mode j p ≡ Err why
    → OfBody mode (refusal_number why))
    → OfBody mode (refusal_number why)
first-early mode s k f w why (Ok n) q g rest ih = rest (plus-refused n (count_along (counted mode) k s w) why g)
first-early mode s k f w why (Err v) q g rest ih =
    let e : v ≡ why = cc in
    role_early mode s f (role_of k f.field f.wire_type) why (q ∙ ap Err e)
    (λ j form p u z. ih j p (sub-rank k j form f.field f.wire_type u) z)

then-early : (mode : Mode) (s : List ℕ) (k : Kind) (w : Fields) (why : WireError) → Ending mode w
    → count_along (counted mode) k s w ≡ Err why
    → ((j : Kind) (p : List ℕ) → rank j < rank k → counted mode j p ≡ Err why
    → OfBody mode (refusal_number why))
    → OfBody mode (refusal_number why)
then-early mode s k _ why at-end h ih = clash (cc)
then-early mode s k _ why (early {why = w} e) h ih = let q : w ≡ why = cc in rw (← q) (field-body e)
then-early mode s k _ why (after {f = f} {w = w} x) h ih =
    first-early mode s k f w why (role_count (counted mode) s f (role_of k f.field f.wire_type)) refl h
    (λ g. then-early mode s k w why x g ih) ih

ending : (mode : Mode) (s : List ℕ) → Ending mode (fields_of mode s)
ending mode s = along mode s (λ (at : ℕ) (w : Fields). Ending mode w) (λ at. at-end)
    (λ at why e. early (field-early mode s at why e))
    (λ at f st e r. after r) 0

early-all : (mode : Mode) (k : Kind) (s : List ℕ) (why : WireError) → counted mode k s ≡ Err why
    → OfBody mode (refusal_number why)
early-all mode =
    by_rank (λ k. (s : List ℕ) (why : WireError) → counted mode k s ≡ Err why
    → OfBody mode (refusal_number why))
    (λ k ih s why h. then-early mode s k (fields_of mode s) why (ending mode s) (sym (count_along_lem mode k s) ∙ h)
    (λ j p q z. ih j q p why z))

pub counted-early : (d : Dialect) (s : List ℕ) (why : WireError)
    → counted d.mode (kind.Rpc d.edition) s ≡ Err why → OfBody d.mode (refusal_number why)
counted-early d s why h = early-all d.mode (kind.Rpc d.edition) s why h

-- 10 to 12 are none of them
body-bound : {mode : Mode} {n : ℕ} → OfBody mode n → (n ≢ 10) × (n ≢ 11) × (n ≢ 12)
body-bound (low l) = (λ e. omega arith, λ e. omega arith, λ e. omega arith)
body-bound (of-group l u) = (λ e. omega arith, λ e. omega arith, λ e. omega arith)

-- a body's refusals are 10, 1 to 7 and, where groups are passed over, 14 to 16, and 11
pub data Gated (mode : Mode) : ℕ → Type 0 where
  large-number : Gated mode too_large
  early-number : {n : ℕ} → 0 < n → OfBody mode n → Gated mode n
  many-number : Gated mode too_many-records

pub refusal_gated : {d : Dialect} {s : List ℕ} {a : Told} → Refusal d s a → Gated d.mode a.number
refusal_gated (is-large h) = large-number
refusal_gated (is_wrong {why = why} h i) = early-number (wire_range why).0 (refused-early i)
refusal_gated (has-many h i l) = many-number

-- so 0, 12, 13 and all above 16 are none of them
pub gated_bound : {mode : Mode} {n : ℕ} → Gated mode n → (0 < n) × ((n ≢ 12) × (n ≢ 13) × (n ≤ 16))
gated_bound large-number = (omega arith, (λ e. omega arith, λ e. omega arith, omega arith))
gated_bound (early-number p (low q)) = (p, (λ e. omega arith, λ e. omega arith, omega arith))
gated_bound (early-number p (of-group l u)) = (p, (λ e. omega arith, λ e. omega arith, u))
gated_bound many-number = (omega arith, (λ e. omega arith, λ e. omega arith, omega arith))

-- a body that is within capacity is not refused
pub refusal-within : {d : Dialect} {s : List ℕ} {a : Told} {x : Rpc} → Refusal d s a → Within d s x → ⊥
refusal-within (is-large h) w = omega (arith, w.small)
refusal-within {d} {s} (is_wrong {path} {offset} {why} h i) w =
    let c = first-counts (record { path = path; offset = offset; is = i; told = refl }) in
    clash (let z = meant-count w.means in let y = c.0 in cc)
refusal-within {x = x} (has-many {x = y} h i l) w =
    let e : records_in y ≡ records_in x = ap records_in (one-rpc i w.means) in omega (arith, w.few)

-- ---- accepted exactly where the body means an RPC within capacity and the table has a row for each of its records:
-- with the number of records, and 1 or 0 as the RPC has a control or not
pub record Accepts (d : Dialect) (s : List ℕ) (words n c : ℕ) : Type 0 where
  pub rpc : Rpc
  pub within : Within d s rpc
  pub room : records_in rpc ≤ words / 20
  pub count : n ≡ records_in rpc
  pub control : c ≡ present rpc.control

refusal-nonzero : {d : Dialect} {s : List ℕ} {a : Told} → Refusal d s a → 0 < a.number
refusal-nonzero (is-large h) = omega arith
refusal-nonzero (is_wrong {path} {offset} {why} h i) = (wire_range why).0
refusal-nonzero (has-many h i l) = omega arith

accepts_of : {d : Dialect} {s : List ℕ} {words : ℕ} {a : Told} (n c : ℕ) → Decodes d s words a → a ≡ done (n ∷ c ∷ [])
    → Accepts d s words n c
accepts_of n c (refuses r) e = let z = refusal-nonzero r in
    absurd (omega (arith, ap (λ (t : Told). t.number) e))
accepts_of n c (short w l) e = absurd (omega (arith, ap (λ (t : Told). t.number) e))
accepts_of n c (reads {x} w l) e =
    record {
      rpc = x;
      within = w;
      room = l;
      count = sym (ap (λ (t : Told). t.first) e);
      control = sym (ap (λ (t : Told). t.second) e);
    }

pub accepted-exactly : (d : Dialect) (s : List ℕ) (words n c : ℕ) → Bytes s
    → (decoded_told (decode_answer d s words) ≡ done (n ∷ c ∷ [])) ↔ Accepts d s words n c
accepted-exactly d s words n c b = (
  λ e. accepts_of n c (decodes d s words b) e,
  λ x. told_of_lem (reads x.within x.room)
      ∙ ap₂ (λ (i j : ℕ). done (i ∷ j ∷ [])) (sym x.count) (sym x.control),
)

-- and 0 is told only so
pub accepted-number : (d : Dialect) (s : List ℕ) (words : ℕ) → Bytes s
    → ((decoded_told (decode_answer d s words)).number ≡ 0) ↔ ((x : Rpc) × (Within d s x) × (records_in x ≤ words / 20))
accepted-number d s words b = (
  λ e. forth (decodes d s words b) e,
  λ x. ap (λ (t : Told). t.number) (told_of_lem (reads x.1 x.2)),
)
  where
    forth : {a : Told} → Decodes d s words a → a.number ≡ 0 → (x : Rpc) × (Within d s x) × (records_in x ≤ words / 20)
    forth (refuses r) e = let z = refusal-nonzero r in absurd (omega arith)
    forth (short w l) e = absurd (omega arith)
    forth (reads {x} w l) e = (x, w, l)

-- ---- the table then says the RPC
-- what the numbers say of the answer
told-records : (r : Result (ℕ × Bool) DecodeError) (n c : ℕ) → decoded_told r ≡ done (n ∷ c ∷ []) → (b : Bool) × (r ≡ Ok (n, b))
    × (cond b 1 0 ≡ c)
told-records (Ok (m, b)) n c e = (
  b,
  ap (λ (k : ℕ). Ok (k, b)) (ap (λ (t : Told). t.first) e),
  ap (λ (t : Told). t.second) e,
)
told-records (Err (dec.Refused r)) n c e = let z = (wire_range r.why).0 in
    absurd (omega (arith, ap (λ (t : Told). t.number) e))
told-records (Err (dec.Room m)) n c e = absurd (omega (arith, ap (λ (t : Told). t.number) e))

gate-reads : (d : Dialect) (s : List ℕ) (room : ℕ) (r : Result ℕ Placed) (n : ℕ) (b : Bool) → Gate d s r
    → on_count room (has_control d.mode s) r ≡ Ok (n, b)
    → (counted d.mode (kind.Rpc d.edition) s ≡ Ok n) × (n ≤ room) × (b ≡ has_control d.mode s)
gate-reads d s room _ n b (large h) e = clash (cc)
gate-reads d s room _ n b (bad h why q) e = clash (cc)
gate-reads d s room _ n b (many h m q l) e = clash (cc)
gate-reads d s room _ n b (passes h m q l) e =
    either (ltb room m) (λ u. clash (let z = simp u at e in cc))
    (λ u. let z = of-ok-two (simp u at e) in (q ∙ ap Ok z.0, omega (arith, ltb-false room m u, z.0), sym z.1))

answer-reads : (d : Dialect) (s : List ℕ) (words n : ℕ) (b : Bool) → decode_answer d s words ≡ Ok (n, b)
    → (counted d.mode (kind.Rpc d.edition) s ≡ Ok n) × (n ≤ words / 20) × (b ≡ has_control d.mode s)
unfolding decode_answer
answer-reads d s words n b e = gate-reads d s (words / 20) (body_records d s) n b (gate d s) e

control-read : (b : Bool) → eqb (cond b 1 0) 1 ≡ b
control-read true = refl
control-read false = refl

-- the records that were written, read back from the table, are the RPC that the body means
pub table-means : (d : Dialect) (s t : List ℕ) (n c : ℕ) (x : Rpc)
    → decoded_told (decode_answer d s (length t)) ≡ done (n ∷ c ∷ []) → IsRpc d s x
    → read_back s (rows_in (decode_table d s t) 0 n) (eqb c 1) ≡ x
unfolding decode_table
table-means d s t n c x e i =
    let k = told-records (decode_answer d s (length t)) n c e in
    let g = answer-reads d s (length t) n k.0 k.1 in
    let l : length (rows_of d.mode (kind.Rpc d.edition) 0 s) ≡ n =
    rows-length d.mode (kind.Rpc d.edition) 0 s n g.0 ∙ omega (arith, own-rpc d) in
    let room : length (rows_of d.mode (kind.Rpc d.edition) 0 s) * 20 ≤ length t = omega (arith, g.1) in
    let rows : rows_in (leaves d s t (decode_answer d s (length t))) 0 n ≡ rows_of d.mode (kind.Rpc d.edition) 0 s =
    ap (λ (r : Result (ℕ × Bool) DecodeError). rows_in (leaves d s t r) 0 n) k.1
    ∙ ap (rows_in (sets t 0 (words_of_all (rows_of d.mode (kind.Rpc d.edition) 0 s))) 0) (sym l)
    ∙ table-back t (rows_of d.mode (kind.Rpc d.edition) 0 s)
    (all-records d.mode (kind.Rpc d.edition) 0 s) room in
    let control : eqb c 1 ≡ has_control d.mode s = ap (λ (j : ℕ). eqb j 1) (sym k.2) ∙ control-read k.0
    ∙ g.2 in
    ap₂ (read_back s) rows control ∙ read_back_lem i

-- and only those records were written: the words after them are as they were
pub table-rest : (d : Dialect) (s t : List ℕ) (n c : ℕ) → decoded_told (decode_answer d s (length t)) ≡ done (n ∷ c ∷ [])
    → (length (decode_table d s t) ≡ length t) × (drop (n * 20) (decode_table d s t) ≡ drop (n * 20) t)
unfolding decode_table
table-rest d s t n c e =
    let k = told-records (decode_answer d s (length t)) n c e in
    let g = answer-reads d s (length t) n k.0 k.1 in
    let ws = words_of_all (rows_of d.mode (kind.Rpc d.edition) 0 s) in
    let l : length ws ≡ n * 20 =
    all-length (rows_of d.mode (kind.Rpc d.edition) 0 s)
    ∙ omega (arith, own-rpc d, rows-length d.mode (kind.Rpc d.edition) 0 s n g.0) in
    let z : 0 + length ws ≡ n * 20 = omega arith in
    let left : leaves d s t (decode_answer d s (length t)) ≡ sets t 0 ws = ap (leaves d s t) k.1 in (
      ap length left ∙ length-sets t 0 ws,
      ap (drop (n * 20)) (left ∙ sets-eq ws t 0 (omega (arith, g.1))) ∙ drop_at ws (drop (0 + length ws) t) (n * 20) l
          ∙ ap (λ (j : ℕ). drop j t) z,
    )

-- ---- refusals; that one leaves the table as it was is `refused_decode` of message
-- 10 is given exactly to a body above 65,536 bytes, with its length
large-gate : (d : Dialect) (s : List ℕ) (room n : ℕ) (r : Result ℕ Placed) → Gate d s r
    → decoded_told (on_count room (has_control d.mode s) r) ≡ told too_large (n ∷ []) → (n ≡ length s)
    × (65536 < length s)
large-gate d s room n _ (large h) e = (sym (ap (λ (t : Told). t.first) e), h)
large-gate d s room n _ (bad h why q) e = let l = body-bound (counted-early d s why q) in
    absurd (omega (arith, ap (λ (t : Told). t.number) e))
large-gate d s room n _ (many h m q l) e = absurd (omega (arith, ap (λ (t : Told). t.number) e))
large-gate d s room n _ (passes h m q l) e =
    either (ltb room m) (λ u. absurd (omega (arith, ap (λ (t : Told). t.number) (simp u at e))))
    (λ u. absurd (omega (arith, ap (λ (t : Told). t.number) (simp u at e))))

of-large : (d : Dialect) (s : List ℕ) (words n : ℕ) → decoded_told (decode_answer d s words) ≡ told too_large (n ∷ [])
    → (n ≡ length s) × (65536 < length s)
unfolding decode_answer
of-large d s words n e = large-gate d s (words / 20) n (body_records d s) (gate d s) e

pub too_large-exactly : (d : Dialect) (s : List ℕ) (words n : ℕ)
    → (decoded_told (decode_answer d s words) ≡ told too_large (n ∷ [])) ↔ ((n ≡ length s) × (65536 < length s))
too_large-exactly d s words n = (
  of-large d s words n,
  λ p. told_of_lem (refuses (is-large p.1)) ∙ ap (λ (k : ℕ). told too_large (k ∷ [])) (sym p.0),
)

-- 1 to 7 and, where groups are passed over, 14 to 16 are given exactly to a body of at most 65,536 bytes that means no
-- RPC
pub record Wrong (d : Dialect) (s : List ℕ) : Type 0 where
  pub small : length s ≤ 65536
  pub meaningless : (x : Rpc) → IsRpc d s x → ⊥

pub wrong_exactly : (d : Dialect) (s : List ℕ) (words : ℕ) → Bytes s
    → ((0 < (decoded_told (decode_answer d s words)).number)
    × OfBody d.mode (decoded_told (decode_answer d s words)).number)
    ↔ Wrong d s
wrong_exactly d s words b = (λ p. forth (decodes d s words b) p.0 p.1, λ w. back w (decodes d s words b))
  where
    forth : {a : Told} → Decodes d s words a → 0 < a.number → OfBody d.mode a.number → Wrong d s
    forth (refuses (is-large h)) p q = absurd ((body-bound q).0 refl)
    forth (refuses (is_wrong {path} {offset} {why} h i)) p q =
        let c = first-counts (record { path = path; offset = offset; is = i; told = refl }) in
        record { small = h; meaningless = λ x j. clash (let z = meant-count j in let y = c.0 in cc) }
    forth (refuses (has-many h i l)) p q = absurd ((body-bound q).1 refl)
    forth (short w l) p q = absurd ((body-bound q).2 refl)
    forth (reads w l) p q = absurd (omega arith)

    back : {a : Told} → Wrong d s → Decodes d s words a → (0 < a.number) × OfBody d.mode a.number
    back w (refuses (is-large h)) = absurd (omega (arith, w.small))
    back w (refuses (is_wrong {path} {offset} {why} h i)) = ((wire_range why).0, refused-early i)
    back w (refuses (has-many {x} h i l)) = absurd (w.meaningless x i)
    back w (short {x} v l) = absurd (w.meaningless x v.means)
    back w (reads {x} v l) = absurd (w.meaningless x v.means)

-- and by this reason, at this place, exactly where its first refusal in reading order has them: the test of a body that
-- every call makes
place_of : (d : Dialect) (s : List ℕ) (why : WireError) (spot : Option Spot) (r : Result ℕ Placed) → Bytes s → length s ≤ 65536
    → OfBody d.mode (refusal_number why) → Gate d s r → r ≡ Err (record { why = why; spot = spot })
    → First d.mode (kind.Rpc d.edition) s why spot
place_of d s why spot _ b h n (large l) e = absurd (omega arith)
place_of d s why spot _ b h n (bad l w q) e =
    let there = spot_in d.mode (kind.Rpc d.edition) s in
    let x : ◌≡◌ {A = Placed} (standing there w) (record { why = why; spot = spot }) = cc in
    let z : w ≡ why = ap (λ (r : Placed). r.why) x in
    let y : placed_as (spot_of w) there ≡ spot = ap (λ (r : Placed). r.spot) x in
    (first-exactly d.mode (kind.Rpc d.edition) s why spot b).0
    (q ∙ ap Err z, ap (λ (a : WireError). placed_as (spot_of a) there) (sym z) ∙ y)
place_of d s why spot _ b h n (many l m q g) e =
    let x : nowhere (TooManyRecords m) ≡ record { why = why; spot = spot } = cc in
    let z : TooManyRecords m ≡ why = ap (λ (r : Placed). r.why) x in
    absurd ((body-bound n).1 (ap refusal_number (sym z)))
place_of d s why spot _ b h n (passes l m q g) e = clash (cc)

pub place-exactly : (d : Dialect) (s : List ℕ) (why : WireError) (spot : Option Spot) → Bytes s → length s ≤ 65536
    → ((body_records d s ≡ Err (record { why = why; spot = spot })) × OfBody d.mode (refusal_number why))
    ↔ First d.mode (kind.Rpc d.edition) s why spot
place-exactly d s why spot b h = (
  λ p. place_of d s why spot (body_records d s) b h p.1 (gate d s) p.0,
  λ i. let c = first-counts i in (
    records_wrong d s why h c.0 ∙ ap (λ (x : Option Spot). Err (record { why = why; spot = x })) c.1,
    refused-early i.is,
  ),
)

-- 11 is given exactly to a body that is otherwise well formed and has more than 512 records, with the number of all of
-- them
pub record TooMany (d : Dialect) (s : List ℕ) (n : ℕ) : Type 0 where
  pub rpc : Rpc
  pub means : IsRpc d s rpc
  pub small : length s ≤ 65536
  pub all : n ≡ records_in rpc
  pub many : 512 < n

many-of : {d : Dialect} {s : List ℕ} {words : ℕ} {a : Told} (n : ℕ) → Decodes d s words a
    → a ≡ told too_many-records (n ∷ []) → TooMany d s n
many-of n (refuses (is-large h)) e = absurd (omega (arith, ap (λ (t : Told). t.number) e))
many-of n (refuses (is_wrong h i)) e = let l = body-bound (refused-early i) in
    absurd (omega (arith, ap (λ (t : Told). t.number) e))
many-of n (refuses (has-many {x} h i l)) e =
    let z : n ≡ records_in x = sym (ap (λ (t : Told). t.first) e) in
    record { rpc = x; means = i; small = h; all = z; many = omega arith }
many-of n (short w l) e = absurd (omega (arith, ap (λ (t : Told). t.number) e))
many-of n (reads w l) e = absurd (omega (arith, ap (λ (t : Told). t.number) e))

pub too_many-exactly : (d : Dialect) (s : List ℕ) (words n : ℕ) → Bytes s
    → (decoded_told (decode_answer d s words) ≡ told too_many-records (n ∷ [])) ↔ TooMany d s n
too_many-exactly d s words n b = (
  λ e. many-of n (decodes d s words b) e,
  λ t. told_of_lem (refuses (has-many t.small t.means (omega (arith, t.all, t.many))))
      ∙ ap (λ (k : ℕ). told too_many-records (k ∷ [])) (sym t.all),
)

-- 12 is given exactly to a body that means an RPC within capacity, and has more records than the table has rows, with
-- their number
pub record TooFewRows (d : Dialect) (s : List ℕ) (words n : ℕ) : Type 0 where
  pub rpc : Rpc
  pub within : Within d s rpc
  pub needed : n ≡ records_in rpc
  pub short : words / 20 < n

short-of : {d : Dialect} {s : List ℕ} {words : ℕ} {a : Told} (n : ℕ) → Decodes d s words a
    → a ≡ told short-room (n ∷ []) → TooFewRows d s words n
short-of n (refuses (is-large h)) e = absurd (omega (arith, ap (λ (t : Told). t.number) e))
short-of n (refuses (is_wrong h i)) e = let l = body-bound (refused-early i) in
    absurd (omega (arith, ap (λ (t : Told). t.number) e))
short-of n (refuses (has-many h i l)) e = absurd (omega (arith, ap (λ (t : Told). t.number) e))
short-of n (short {x} w l) e =
    let z : n ≡ records_in x = sym (ap (λ (t : Told). t.first) e) in
    record { rpc = x; within = w; needed = z; short = omega arith }
short-of n (reads w l) e = absurd (omega (arith, ap (λ (t : Told). t.number) e))

pub room-exactly : (d : Dialect) (s : List ℕ) (words n : ℕ) → Bytes s
    → (decoded_told (decode_answer d s words) ≡ told short-room (n ∷ [])) ↔ TooFewRows d s words n
room-exactly d s words n b = (
  λ e. short-of n (decodes d s words b) e,
  λ t. told_of_lem (short t.within (omega (arith, t.needed, t.short)))
      ∙ ap (λ (k : ℕ). told short-room (k ∷ [])) (sym t.needed),
)
