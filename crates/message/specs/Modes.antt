-- Between the modes: what the first mode accepts has the same records in both; of a body that it does not refuse by 5 with
-- wire type 3 or 4, `decode` answers the same and leaves the same table.
use Rattle.std.specs.Prelude.{Result, Ok, ℕ, ◌+◌, ◌<◌, ◌/◌, ◌≡◌, refl, List, ◌++◌, Bool, length, ltb}
use Rattle.std.proofs.Common.{sym, ap, ap₂, ◌∙◌}
use Rattle.basis.specs.declared.Mode.TheVariants.{Plain, Groups}
use Rattle.basis.specs.Cases.{either}
use Rattle.protobuf.specs.declared.Field.{Field}
use Rattle.protobuf.specs.Walk.{Fields, end, refused, ◌then◌, fields_of, value_in}
use Rattle.schema.specs.declared.Kind.{Kind}
use Rattle.schema.specs.declared.Form.{Form}
use Rattle.schema.specs.declared.Role.{Role}
use Rattle.schema.specs.declared.Role.TheVariants.{Skip, Number, Text, Bytes, Unsigned, Topic, MessageId, Sub}
use Rattle.schema.specs.Schema.{rank, own_of}
use Rattle.schema.specs.SchemaLaws.{sub-rank}
use Rattle.schema.specs.Kinds.{by_rank}
use Rattle.schema.specs.Count.{role_count, count_along, counted}
use Rattle.schema.specs.CountLaws.{count_along_lem, plus-fits, then-fits}
use Rattle.message.specs.declared.Record.{Record}
use Rattle.message.specs.Rows.{role_rows, rows_along, own_rows, rows_of}
use Rattle.message.specs.RowsLaws.{rows_along_lem}
use Rattle.std.proofs.lemmas.List.Edits.{sets}
use Rattle.basis.specs.declared.Edition.{Edition}
use Rattle.basis.specs.Dialect.{spoken}
use Rattle.schema.specs.declared.Kind.TheVariants as kind
use Rattle.schema.specs.Accept.{body_records}
use Rattle.schema.specs.AcceptLaws.{Gate, large, bad, many, passes, gate}
use Rattle.message.specs.declared.Record.{Record}
use Rattle.protobuf.specs.declared.Refusal.{Refusal}
use Rattle.message.specs.Rows.{role_rows, rows_along, own_rows, rows_of, words_of_all}
use Rattle.message.specs.RowsLaws.{rows_along_lem}
use Rattle.message.specs.Decode.{has_control, on_count, decode_answer, leaves, decode_table}
use Rattle.schema.specs.Modes.{RoleAt, NoGroupBody, same-fields, same_slots, same-has, same-records}

role_rows_lem : (base : ℕ) (s : List ℕ) (f : Field) (r : Role) (m : ℕ)
    → role_count (counted Plain) s f r ≡ Ok m
    → ((j : Kind) (form : Form) (b : ℕ) (p : List ℕ) (x : ℕ) → r ≡ Sub j form → counted Plain j p ≡ Ok x
    → rows_of Groups j b p ≡ rows_of Plain j b p)
    → role_rows (rows_of Groups) base s f r ≡ role_rows (rows_of Plain) base s f r
role_rows_lem base s f Skip m h ih = refl
role_rows_lem base s f (Number figure) m h ih = refl
role_rows_lem base s f (Text slot) m h ih = refl
role_rows_lem base s f (Bytes slot) m h ih = refl
role_rows_lem base s f (Unsigned slot) m h ih = refl
role_rows_lem base s f Topic m h ih = refl
role_rows_lem base s f MessageId m h ih = refl
role_rows_lem base s f (Sub j form) m h ih =
    let t = plus-fits (own_of j) m (counted Plain j (value_in s f)) h in
    ih j form (base + f.start) (value_in s f) t.0 refl t.1

along-rows : (k : Kind) (base : ℕ) (s : List ℕ) (w : Fields) (n : ℕ)
    → count_along (counted Plain) k s w ≡ Ok n
    → ((j : Kind) (b : ℕ) (p : List ℕ) (x : ℕ) → rank j < rank k → counted Plain j p ≡ Ok x
    → rows_of Groups j b p ≡ rows_of Plain j b p)
    → rows_along (rows_of Groups) k base s w ≡ rows_along (rows_of Plain) k base s w
along-rows k base s end n h ih = refl
along-rows k base s (refused why) n h ih = refl
along-rows k base s (f then w) n h ih =
    let t = then-fits (role_count (counted Plain) s f (RoleAt k f)) (count_along (counted Plain) k s w) n h in
    ap₂ (λ (a b : List Record). a ++ b)
    (role_rows_lem base s f (RoleAt k f) t.0 t.2
    (λ j form b p x u. ih j b p x (sub-rank k j form f.field f.wire_type u)))
    (along-rows k base s w t.1 t.3 ih)

own_rows_lem : (k : Kind) (base : ℕ) (s : List ℕ) (n : ℕ) → counted Plain k s ≡ Ok n
    → own_rows Groups k base s ≡ own_rows Plain k base s
unfolding own_rows
own_rows_lem k base s n h = rw (same_slots k s n h) refl

-- the same records
pub same_rows : (k : Kind) (base : ℕ) (s : List ℕ) (n : ℕ) → counted Plain k s ≡ Ok n
    → rows_of Groups k base s ≡ rows_of Plain k base s
same_rows =
    by_rank (λ k. (base : ℕ) (s : List ℕ) (n : ℕ) → counted Plain k s ≡ Ok n
    → rows_of Groups k base s ≡ rows_of Plain k base s)
    (λ k ih base s n h.
    rows_along_lem Groups k base s
    ∙ ap₂ (λ (a b : List Record). a ++ b) (own_rows_lem k base s n h)
    (ap (rows_along (rows_of Groups) k base s) (same-fields k s n h)
    ∙ along-rows k base s (fields_of Plain s) n (sym (count_along_lem Plain k s) ∙ h) (λ j b p x l. ih j l b p x))
    ∙ sym (rows_along_lem Plain k base s))

-- ---- what `decode` answers and leaves
answer-by : (e : Edition) (s : List ℕ) (room : ℕ) (r : Result ℕ Refusal) → Gate (spoken Plain e) s r
    → on_count room (has_control Groups s) r ≡ on_count room (has_control Plain s) r
unfolding has_control
answer-by e s room _ (large h) = refl
answer-by e s room _ (bad h why q) = refl
answer-by e s room _ (many h n q l) = refl
answer-by e s room _ (passes h n q l) =
    ap (λ (c : Bool). on_count room c (Ok n)) (same-has (kind.Rpc e) s n 3 q)

-- `decode` answers the same of it
pub same_answer : (e : Edition) (s : List ℕ) (words : ℕ) → NoGroupBody e s
    → decode_answer (spoken Groups e) s words ≡ decode_answer (spoken Plain e) s words
unfolding decode_answer
same_answer e s words g =
    ap (on_count (words / 20) (has_control Groups s)) (same-records e s g)
    ∙ answer-by e s (words / 20) (body_records (spoken Plain e) s) (gate (spoken Plain e) s)

gate-leaves : (e : Edition) (s t : List ℕ) (room : ℕ) (c : Bool) (r : Result ℕ Refusal) → Gate (spoken Plain e) s r
    → leaves (spoken Groups e) s t (on_count room c r) ≡ leaves (spoken Plain e) s t (on_count room c r)
gate-leaves e s t room c _ (large h) = refl
gate-leaves e s t room c _ (bad h why q) = refl
gate-leaves e s t room c _ (many h n q l) = refl
gate-leaves e s t room c _ (passes h n q l) =
    either (ltb room n) (λ u. simp u)
    (λ u. simp u (ap (λ (rs : List Record). sets t 0 (words_of_all rs)) (same_rows (kind.Rpc e) 0 s n q)))

same-leaves : (e : Edition) (s t : List ℕ) (words : ℕ)
    → leaves (spoken Groups e) s t (decode_answer (spoken Plain e) s words)
    ≡ leaves (spoken Plain e) s t (decode_answer (spoken Plain e) s words)
unfolding decode_answer
same-leaves e s t words =
    gate-leaves e s t (words / 20) (has_control Plain s) (body_records (spoken Plain e) s) (gate (spoken Plain e) s)

-- and leaves the same table
pub same-table : (e : Edition) (s t : List ℕ) → NoGroupBody e s
    → decode_table (spoken Groups e) s t ≡ decode_table (spoken Plain e) s t
unfolding decode_table
same-table e s t g = ap (leaves (spoken Groups e) s t) (same_answer e s (length t) g) ∙ same-leaves e s t (length t)
