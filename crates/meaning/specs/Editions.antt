-- Laws between the editions, in either mode. Where no control of a body has a length-delimited field 5, both editions
-- read it alike, whatever its bytes are: refusals and their places, the number of records, the records, and what
-- `decode` leaves. And what 1.2 takes 1.1 takes, too: there it means the same RPC without IDONTWANTs. A message's own
-- reading is the same in each, since it has no edition to depend on: neither its kind, nor `message_at`, `id_parts` and
-- `sign_of`, take one.
use Rattle.std.specs.Prelude.{Option, Some, None, Result, Ok, Err, ℕ, ◌+◌, ◌/◌, ◌≤◌, ◌≡◌, refl, Bool, true, false, cond, ◌&&◌, ◌||◌, List, [], ◌∷◌, ◌++◌, map, length, eqb}
use Rattle.std.proofs.Common.{sym, ap, ap₂, subst, ◌∙◌, arith, eqb-true}
use Rattle.std.proofs.lemmas.List.Edits.{sets}
use Rattle.basis.specs.declared.Mode.{Mode}
use Rattle.basis.specs.declared.Edition.{Edition}
use Rattle.basis.specs.declared.Edition.TheVariants.{V11, V12}
use Rattle.basis.specs.Dialect.{spoken}
use Rattle.basis.specs.declared.Spot.{Spot}
use Rattle.basis.specs.Spot.{inside, or_else}
use Rattle.basis.specs.Cases.{either, both, neither}
use Rattle.protobuf.specs.declared.Field.{Field}
use Rattle.protobuf.specs.declared.WireError.{WireError}
use Rattle.protobuf.specs.Walk.{Fields, end, refused, ◌then◌, fields_of, is_bytes, value_in}
use Rattle.schema.specs.declared.Kind.{Kind}
use Rattle.schema.specs.declared.Kind.TheVariants as kind
use Rattle.schema.specs.declared.Form.TheVariants.{Anew, Merged}
use Rattle.schema.specs.declared.Role.{Role}
use Rattle.schema.specs.declared.Role.TheVariants.{Skip, Sub}
use Rattle.schema.specs.Schema.{added_in, table, row_from, row_of, is_varint, role_of, own_of}
use Rattle.schema.specs.SchemaLaws.{Rows, each_row_lem}
use Rattle.schema.specs.Slots.{has_along, has_field}
use Rattle.schema.specs.Count.{plus, and_then, role_count, count_along, counted, field_count}
use Rattle.schema.specs.CountLaws.{count_along_lem}
use Rattle.schema.specs.Spots.{role_spot, spot_along, spot_in}
use Rattle.schema.specs.SpotsLaws.{spot_along_lem}
use Rattle.schema.specs.Accept.{few, body_records, checked, accept_of}
use Rattle.schema.specs.AcceptLaws.{is-taken, taken_fine}
use Rattle.message.specs.declared.Record.{Record}
use Rattle.message.specs.declared.DecodeError.TheVariants as dec
use Rattle.message.specs.declared.DecodeError.{DecodeError}
use Rattle.message.specs.Rows.{role_rows, rows_along, own_rows, rows_of, words_of_all}
use Rattle.message.specs.RowsLaws.{rows_along_lem}
use Rattle.message.specs.Decode.{has_control, on_count, decode_answer, leaves, decode_table}
use Rattle.rpc.specs.Rpc.{ControlMessage, Rpc}
use Rattle.rpc.specs.Grammar.{Pairs, no_pairs, ◌paired◌, IsControl, is_control, join_to, joined, IsRpc, is-rpc}
use Rattle.meaning.specs.Size.{some_records, records_in}
use Rattle.meaning.specs.Decoded.{Within}

-- ---- whether a length-delimited field 3 of a body, a control, has a length-delimited field 5
abbrev pub declines_along : Mode → List ℕ → Fields → Bool
declines_along mode s end = false
declines_along mode s (refused why) = false
declines_along mode s (f then w) = is_bytes 3 f && has_field mode 5 (value_in s f) || declines_along mode s w

unfoldable pub declines : Mode → List ℕ → Bool
declines mode s = declines_along mode s (fields_of mode s)

-- ---- the roles of fields in two editions
-- what an edition adds are fields 5, and they are length-delimited
added_skipped : (e : Edition) (n : ℕ) → eqb n 5 ≡ false → row_from 5 (added_in e) n ≡ Skip
added_skipped V11 n t = refl
added_skipped V12 n t = simp t

added-long : (e : Edition) → Rows (λ n r. is_varint r ≡ false) 5 (added_in e)
added-long V11 = tt
added-long V12 = (refl, tt)

control-long : (d : Edition) (n : ℕ) → is_varint (row_of (kind.ControlMessage d) n) ≡ false
control-long d n =
    each_row_lem (λ m r. is_varint r ≡ false) (λ m. refl) 1 (table (kind.ControlMessage d))
    (refl, (refl, (refl, (refl, added-long d)))) n

rpc-long : (d : Edition) (n : ℕ) → is_varint (row_of (kind.Rpc d) n) ≡ false
rpc-long d n =
    each_row_lem (λ m r. is_varint r ≡ false) (λ m. refl) 1 (table (kind.Rpc d)) (refl, (refl, (refl, tt))) n

-- a role depends on the row alone, where the row is of a length-delimited field
same_role : (j k : Kind) (n type : ℕ) → is_varint (row_of j n) ≡ false → is_varint (row_of k n) ≡ false
    → (eqb type 2 ≡ true → row_of j n ≡ row_of k n) → role_of j n type ≡ role_of k n type
unfolding role_of
same_role j k n type p q h =
    either (eqb type 2) (λ t. simp (t, p, q) (h t))
    (λ t. either (eqb type 0) (λ u. simp (t, u, p, q)) (λ u. simp (t, u)))

control_role : (d e : Edition) (n type : ℕ) → eqb type 2 && eqb n 5 ≡ false
    → role_of (kind.ControlMessage d) n type ≡ role_of (kind.ControlMessage e) n type
control_role d e n type h =
    same_role (kind.ControlMessage d) (kind.ControlMessage e) n type (control-long d n) (control-long e n)
    (λ t. let u : eqb n 5 ≡ false = simp t at h in
    ap (λ (r : Role). cond (eqb n 1) (Sub kind.ControlIHave Anew) (cond (eqb n 2) (Sub kind.ControlIWant Anew)
    (cond (eqb n 3) (Sub kind.ControlGraft Anew) (cond (eqb n 4) (Sub kind.ControlPrune Anew) r))))
    (added_skipped d n u ∙ sym (added_skipped e n u)))

rpc_role : (d e : Edition) (n type : ℕ) → eqb type 2 && eqb n 3 ≡ false
    → role_of (kind.Rpc d) n type ≡ role_of (kind.Rpc e) n type
rpc_role d e n type h =
    same_role (kind.Rpc d) (kind.Rpc e) n type (rpc-long d n) (rpc-long e n)
    (λ t. let u : eqb n 3 ≡ false = simp t at h in simp u)

rpc-control : (d : Edition) (f : Field) → is_bytes 3 f ≡ true
    → role_of (kind.Rpc d) f.field f.wire_type ≡ Sub (kind.ControlMessage d) Merged
unfolding role_of
rpc-control d f h =
    let t = both (eqb f.wire_type 2) (eqb f.field 3) h in
    rw (eqb-true f.wire_type 2 t.0, eqb-true f.field 3 t.1)

-- ---- what goes along the fields of a message by their roles
module _ (mode : Mode) {A : Type 0} (along : Kind → Fields → A) (step : Field → Role → A → A)
    (steps : (k : Kind) (f : Field) (w : Fields)
    → along k (f then w) ≡ step f (role_of k f.field f.wire_type) (along k w))
    (ends : (j k : Kind) → along j end ≡ along k end)
    (stops : (j k : Kind) (why : WireError) → along j (refused why) ≡ along k (refused why)) (d e : Edition) where
  pub same-control : (w : Fields) → has_along 5 w ≡ false
      → along (kind.ControlMessage d) w ≡ along (kind.ControlMessage e) w
  same-control end h = ends (kind.ControlMessage d) (kind.ControlMessage e)
  same-control (refused why) h = stops (kind.ControlMessage d) (kind.ControlMessage e) why
  same-control (f then w) h =
      let n = neither (is_bytes 5 f) (has_along 5 w) h in
      steps (kind.ControlMessage d) f w
      ∙ ap₂ (step f) (control_role d e f.field f.wire_type n.0) (same-control w n.1)
      ∙ sym (steps (kind.ControlMessage e) f w)

  pub same-rpc : (s : List ℕ) → ((f : Field) (x : A) → has_field mode 5 (value_in s f) ≡ false
      → step f (Sub (kind.ControlMessage d) Merged) x ≡ step f (Sub (kind.ControlMessage e) Merged) x)
      → (w : Fields) → declines_along mode s w ≡ false → along (kind.Rpc d) w ≡ along (kind.Rpc e) w
  same-rpc s sub end h = ends (kind.Rpc d) (kind.Rpc e)
  same-rpc s sub (refused why) h = stops (kind.Rpc d) (kind.Rpc e) why
  same-rpc s sub (f then w) h =
      let n = neither (is_bytes 3 f && has_field mode 5 (value_in s f)) (declines_along mode s w) h in
      let ih = same-rpc s sub w n.1 in
      steps (kind.Rpc d) f w
      ∙ either (is_bytes 3 f)
      (λ t. let u : has_field mode 5 (value_in s f) ≡ false = simp t at n.0 in
      ap₂ (step f) (rpc-control d f t) ih ∙ sub f (along (kind.Rpc e) w) u
      ∙ ap (λ (r : Role). step f r (along (kind.Rpc e) w)) (sym (rpc-control e f t)))
      (λ t. ap₂ (step f) (rpc_role d e f.field f.wire_type t) ih)
      ∙ sym (steps (kind.Rpc e) f w)

-- ---- counting, the place of a refusal, and the records
control-counted : (mode : Mode) (d e : Edition) (p : List ℕ) → has_field mode 5 p ≡ false
    → counted mode (kind.ControlMessage d) p ≡ counted mode (kind.ControlMessage e) p
unfolding has_field
control-counted mode d e p h =
    count_along_lem mode (kind.ControlMessage d) p
    ∙ same-control mode (λ k w. count_along (counted mode) k p w) (λ f r x. and_then (role_count (counted mode) p f r) x)
    (λ k f w. refl)
    (λ j k. refl) (λ j k why. refl) d e (fields_of mode p) h
    ∙ sym (count_along_lem mode (kind.ControlMessage e) p)

pub same-counted : (mode : Mode) (d e : Edition) (s : List ℕ) → declines mode s ≡ false
    → counted mode (kind.Rpc d) s ≡ counted mode (kind.Rpc e) s
unfolding declines own_of
same-counted mode d e s h =
    count_along_lem mode (kind.Rpc d) s
    ∙ same-rpc mode (λ k w. count_along (counted mode) k s w) (λ f r x. and_then (role_count (counted mode) s f r) x)
    (λ k f w. refl)
    (λ j k. refl) (λ j k why. refl) d e s
    (λ f x t. ap (λ (c : Result ℕ WireError). and_then (plus 0 c) x) (control-counted mode d e (value_in s f) t)) (fields_of mode s) h
    ∙ sym (count_along_lem mode (kind.Rpc e) s)

control-spot : (mode : Mode) (d e : Edition) (p : List ℕ) → has_field mode 5 p ≡ false
    → spot_in mode (kind.ControlMessage d) p ≡ spot_in mode (kind.ControlMessage e) p
unfolding has_field
control-spot mode d e p h =
    spot_along_lem mode (kind.ControlMessage d) p
    ∙ same-control mode (λ k w. spot_along (spot_in mode) k p w) (λ f r x. or_else (role_spot (spot_in mode) p f r) x)
    (λ k f w. refl)
    (λ j k. refl) (λ j k why. refl) d e (fields_of mode p) h
    ∙ sym (spot_along_lem mode (kind.ControlMessage e) p)

pub same_spot : (mode : Mode) (d e : Edition) (s : List ℕ) → declines mode s ≡ false
    → spot_in mode (kind.Rpc d) s ≡ spot_in mode (kind.Rpc e) s
unfolding declines
same_spot mode d e s h =
    spot_along_lem mode (kind.Rpc d) s
    ∙ same-rpc mode (λ k w. spot_along (spot_in mode) k s w) (λ f r x. or_else (role_spot (spot_in mode) s f r) x)
    (λ k f w. refl)
    (λ j k. refl) (λ j k why. refl) d e s
    (λ f x t. ap (λ (c : Option Spot). or_else (inside f.field f.start c) x) (control-spot mode d e (value_in s f) t))
    (fields_of mode s) h
    ∙ sym (spot_along_lem mode (kind.Rpc e) s)

control_rows_lem : (mode : Mode) (d e : Edition) (base : ℕ) (p : List ℕ) → has_field mode 5 p ≡ false
    → rows_of mode (kind.ControlMessage d) base p ≡ rows_of mode (kind.ControlMessage e) base p
unfolding has_field own_rows own_of
control_rows_lem mode d e base p h =
    rows_along_lem mode (kind.ControlMessage d) base p
    ∙ same-control mode (λ k w. rows_along (rows_of mode) k base p w) (λ f r x. role_rows (rows_of mode) base p f r ++ x)
    (λ k f w. refl)
    (λ j k. refl) (λ j k why. refl) d e (fields_of mode p) h
    ∙ sym (rows_along_lem mode (kind.ControlMessage e) base p)

pub same_rows : (mode : Mode) (d e : Edition) (base : ℕ) (s : List ℕ) → declines mode s ≡ false
    → rows_of mode (kind.Rpc d) base s ≡ rows_of mode (kind.Rpc e) base s
unfolding declines own_rows own_of
same_rows mode d e base s h =
    rows_along_lem mode (kind.Rpc d) base s
    ∙ same-rpc mode (λ k w. rows_along (rows_of mode) k base s w) (λ f r x. role_rows (rows_of mode) base s f r ++ x)
    (λ k f w. refl)
    (λ j k. refl) (λ j k why. refl) d e s
    (λ f x t. ap (λ (l : List Record). l ++ x) (control_rows_lem mode d e (base + f.start) (value_in s f) t))
    (fields_of mode s) h
    ∙ sym (rows_along_lem mode (kind.Rpc e) base s)

-- ---- so the test of a body, and what `decode` answers and leaves, are the same
pub same-records : (mode : Mode) (d e : Edition) (s : List ℕ) → declines mode s ≡ false
    → body_records (spoken mode d) s ≡ body_records (spoken mode e) s
unfolding body_records
same-records mode d e s h = simp (same-counted mode d e s h, same_spot mode d e s h)

pub same_accept : (mode : Mode) (d e : Edition) (s : List ℕ) → declines mode s ≡ false
    → accept_of (spoken mode d) s ≡ accept_of (spoken mode e) s
unfolding accept_of
same_accept mode d e s h = ap checked (same-records mode d e s h)

pub same_answer : (mode : Mode) (d e : Edition) (s : List ℕ) (words : ℕ) → declines mode s ≡ false
    → decode_answer (spoken mode d) s words ≡ decode_answer (spoken mode e) s words
unfolding decode_answer
same_answer mode d e s words h = ap (on_count (words / 20) (has_control mode s)) (same-records mode d e s h)

same-leaves : (mode : Mode) (d e : Edition) (s t : List ℕ) (r : Result (ℕ × Bool) DecodeError) → declines mode s ≡ false
    → leaves (spoken mode d) s t r ≡ leaves (spoken mode e) s t r
same-leaves mode d e s t (Ok (n, c)) h = ap (λ (rs : List Record). sets t 0 (words_of_all rs))
    (same_rows mode d e 0 s h)
same-leaves mode d e s t (Err (dec.Refused r)) h = refl
same-leaves mode d e s t (Err (dec.Room n)) h = refl

pub same-table : (mode : Mode) (d e : Edition) (s t : List ℕ) → declines mode s ≡ false
    → decode_table (spoken mode d) s t ≡ decode_table (spoken mode e) s t
unfolding decode_table
same-table mode d e s t h = ap (leaves (spoken mode d) s t) (same_answer mode d e s (length t) h)
    ∙ same-leaves mode d e s t (decode_answer (spoken mode e) s (length t)) h

-- ---- what 1.2 takes 1.1 takes
-- an RPC as 1.1 has it, without IDONTWANTs
abbrev pub older_control : ControlMessage → ControlMessage
older_control c = record { ihave = c.ihave; iwant = c.iwant; graft = c.graft; prune = c.prune; idontwant = [] }

abbrev pub older_in : Option ControlMessage → Option ControlMessage
older_in None = None
older_in (Some c) = Some (older_control c)

abbrev pub older_rpc : Rpc → Rpc
older_rpc x = record { subscriptions = x.subscriptions; publish = x.publish; control = older_in x.control }

older_control_lem : {mode : Mode} {s : List ℕ} {c : ControlMessage} → IsControl (spoken mode V12) s c
    → IsControl (spoken mode V11) s (older_control c)
older_control_lem (is_control g h1 h2 h3 h4 h5) = is_control g h1 h2 h3 h4 no_pairs

older-controls : {mode : Mode} {ds : List (List ℕ)} {cs : List ControlMessage}
    → Pairs (IsControl (spoken mode V12)) ds cs → Pairs (IsControl (spoken mode V11)) ds (map older_control cs)
older-controls no_pairs = no_pairs
older-controls (p paired ps) = older_control_lem p paired older-controls ps

older-join : (c : ControlMessage) (o : Option ControlMessage)
    → join_to (older_control c) (older_in o) ≡ older_in (join_to c o)
older-join c None = refl
older-join c (Some b) = refl

older-joined : (cs : List ControlMessage) → joined (map older_control cs) ≡ older_in (joined cs)
older-joined [] = refl
older-joined (c ∷ cs) = ap (join_to (older_control c)) (older-joined cs) ∙ older-join c (joined cs)

pub older : {mode : Mode} {s : List ℕ} {x : Rpc} → IsRpc (spoken mode V12) s x → IsRpc (spoken mode V11) s (older_rpc x)
older {mode} (is-rpc {s = s} {ss = ss} {ms = ms} {cs = cs} g h1 h2 h3) =
    subst
    (λ (o : Option ControlMessage). IsRpc (spoken mode V11) s
    (record { subscriptions = ss; publish = ms; control = o }))
    (older-joined cs) (is-rpc g h1 h2 (older-controls h3))

-- with no more records
older-size : (o : Option ControlMessage) → some_records (older_in o) ≤ some_records o
older-size None = omega arith
older-size (Some c) = omega arith

pub older-records : (x : Rpc) → records_in (older_rpc x) ≤ records_in x
unfolding records_in
older-records x = let h = older-size x.control in omega arith

pub older-within : {mode : Mode} {s : List ℕ} {x : Rpc} → Within (spoken mode V12) s x
    → Within (spoken mode V11) s (older_rpc x)
older-within {x = x} w =
    record { means = older w.means; small = w.small; few = omega (arith, w.few, older-records x) }

-- and of the test that the calls make, whatever the bytes are
abbrev NoMore : Result ℕ WireError → Result ℕ WireError → Type 0
NoMore (Ok n) b = (m : ℕ) × (b ≡ Ok m) × (m ≤ n)
NoMore (Err why) b = Unit {0}

no_more-none : (a : Result ℕ WireError) → NoMore a (Ok 0)
no_more-none (Ok n) = (0, refl, omega arith)
no_more-none (Err why) = tt

no_more-same : (a : Result ℕ WireError) → NoMore a a
no_more-same (Ok n) = (n, refl, omega arith)
no_more-same (Err why) = tt

no_more-then : (a b x y : Result ℕ WireError) → NoMore a b → NoMore x y → NoMore (and_then a x) (and_then b y)
no_more-then (Err why) b x y p q = tt
no_more-then (Ok n) b (Err why) y p q = tt
no_more-then (Ok n) b (Ok k) y p q =
    (p.0 + q.0, ap₂ and_then p.1 q.1, omega (arith, p.2, q.2))

no_more-plus : (n : ℕ) (a b : Result ℕ WireError) → NoMore a b → NoMore (plus n a) (plus n b)
no_more-plus n (Ok k) b p = (n + p.0, ap (plus n) p.1, omega (arith, p.2))
no_more-plus n (Err why) b p = tt

-- along the fields of two kinds, field by field
no_more-along : (mode : Mode) (j k : Kind) (s : List ℕ)
    → ((f : Field) → NoMore (field_count mode j s f) (field_count mode k s f))
    → (w : Fields) → NoMore (count_along (counted mode) j s w) (count_along (counted mode) k s w)
unfolding field_count
no_more-along mode j k s h end = (0, refl, omega arith)
no_more-along mode j k s h (refused why) = tt
no_more-along mode j k s h (f then w) =
    no_more-then (role_count (counted mode) s f (role_of j f.field f.wire_type))
    (role_count (counted mode) s f (role_of k f.field f.wire_type)) (count_along (counted mode) j s w)
    (count_along (counted mode) k s w) (h f) (no_more-along mode j k s h w)

no_more-counted : (mode : Mode) (j k : Kind) (s : List ℕ)
    → ((f : Field) → NoMore (field_count mode j s f) (field_count mode k s f))
    → NoMore (counted mode j s) (counted mode k s)
no_more-counted mode j k s h =
    subst (NoMore (counted mode j s)) (sym (count_along_lem mode k s))
    (subst (λ (c : Result ℕ WireError). NoMore c (count_along (counted mode) k s (fields_of mode s))) (sym (count_along_lem mode j s))
    (no_more-along mode j k s h (fields_of mode s)))

added_five : (f : Field) → is_bytes 5 f ≡ true → role_of (kind.ControlMessage V11) f.field f.wire_type ≡ Skip
unfolding role_of
added_five f h =
    let t = both (eqb f.wire_type 2) (eqb f.field 5) h in
    rw (eqb-true f.wire_type 2 t.0, eqb-true f.field 5 t.1)

older-field : (mode : Mode) (p : List ℕ) (f : Field)
    → NoMore (field_count mode (kind.ControlMessage V12) p f) (field_count mode (kind.ControlMessage V11) p f)
unfolding field_count
older-field mode p f =
    let newer = role_count (counted mode) p f (role_of (kind.ControlMessage V12) f.field f.wire_type) in
    either (is_bytes 5 f)
    (λ t. subst (λ (r : Role). NoMore newer (role_count (counted mode) p f r)) (sym (added_five f t))
    (no_more-none newer))
    (λ t. subst (λ (r : Role). NoMore newer (role_count (counted mode) p f r))
    (control_role V12 V11 f.field f.wire_type t) (no_more-same newer))

older-part : (mode : Mode) (s : List ℕ) (f : Field)
    → NoMore (field_count mode (kind.Rpc V12) s f) (field_count mode (kind.Rpc V11) s f)
unfolding field_count own_of
older-part mode s f =
    let newer = role_count (counted mode) s f (role_of (kind.Rpc V12) f.field f.wire_type) in
    either (is_bytes 3 f)
    (λ t. subst (λ (r : Role). NoMore newer (role_count (counted mode) s f r)) (sym (rpc-control V11 f t))
    (subst (λ (r : Role). NoMore (role_count (counted mode) s f r)
    (role_count (counted mode) s f (Sub (kind.ControlMessage V11) Merged))) (sym (rpc-control V12 f t))
    (no_more-plus 0 (counted mode (kind.ControlMessage V12) (value_in s f))
    (counted mode (kind.ControlMessage V11) (value_in s f))
    (no_more-counted mode (kind.ControlMessage V12) (kind.ControlMessage V11) (value_in s f)
    (older-field mode (value_in s f))))))
    (λ t. subst (λ (r : Role). NoMore newer (role_count (counted mode) s f r))
    (rpc_role V12 V11 f.field f.wire_type t) (no_more-same newer))

pub older_accept : (mode : Mode) (s : List ℕ) → accept_of (spoken mode V12) s ≡ Ok tt
    → accept_of (spoken mode V11) s ≡ Ok tt
older_accept mode s h =
    let t = is-taken (spoken mode V12) s h in
    let m = subst (λ (c : Result ℕ WireError). NoMore c (counted mode (kind.Rpc V11) s)) t.counts
    (no_more-counted mode (kind.Rpc V12) (kind.Rpc V11) s (older-part mode s)) in
    taken_fine (spoken mode V11) s
    (record { records = m.0; counts = m.1; few = omega (arith, m.2, t.few); small = t.small })
