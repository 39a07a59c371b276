-- What the writers need of rows and places: codes and kinds, places that lie within the bytes, a field by its place.
use Prim.Native.Nat.{ℕ, zero, suc, ◌+◌, ◌*◌, ◌/◌, ◌≤◌, ◌<◌}
use mathlib.Core.Path.{◌≡◌, refl, sym, ap, subst, ◌∙◌}
use mathlib.Core.Bool.{Bool, true, false, cond, ◌&&◌, ◌||◌}
use mathlib.Core.List.{List, [], ◌∷◌, ◌++◌}
use native.Mathlib.Omega.{arith}
use native.Mathlib.Nat.{zero-add}
use lib.ListN.{length, get_or}
use lib.Dec.{ltb, eqb, leb}
use borrow.Author.Tests.{eqb-true, ne_eqb, leb-true, ltb-true, ltb-false}
use Rattle.std.specs.List.{range_with_len, list_any}
use Rattle.basis.specs.Cases.{either, both}
use Rattle.peer_id.specs.Uvarint.{uvarint}
use Rattle.protobuf.specs.Encode.{tag, varint_field, bytes_field}
use Rattle.protobuf.specs.EncodeLaws.{tag-varint}
use Rattle.schema.specs.declared.Kind.{Kind}
use Rattle.schema.specs.declared.Kind.TheVariants as kind
use Rattle.schema.specs.declared.Place.{Place}
use Rattle.schema.specs.declared.Number.{Number}
use Rattle.schema.specs.declared.Number.TheVariants as number
use Rattle.schema.specs.declared.Slots.{Slots}
use Rattle.schema.specs.Schema.{own_of}
use Rattle.message.specs.declared.Record.{Record}
use Rattle.message.specs.Rows.{kind_code, kind_from, record_from}
use Rattle.meaning.specs.ReadBack.{bytes_at, number_at, raw_of}
use Rattle.meaning.specs.Table.{IsRecord, rows_in}
use Rattle.rpc.specs.Grammar.{nonzero}
use Rattle.rpc.specs.Encode.{optional, repeated, flag, encode_sub_opts, encode_graft, encode_peer_info, encode_prune, sign_prefix, sign_bytes}
use Rattle.compose.specs.Lent.{rows_from, is_code, inside_at, fields_inside, row_inside}
use Rattle.compose.specs.Said.{encode_fields, encode_message, topics_from, peers_from, sub_opts_of, graft_of, peer_of, prune_of, message_of}
use Rattle.compose.specs.Weighed.{capped}
use Rattle.compose.specs.Puts.{Puts, capped-add, puts_short, puts_field, flagged}
use Rattle.compose.specs.Puts.{Written, of-sub_opts, of-message, of-graft, of-prune, row_bytes, row_part, each_row, topic_part, peer_part}
use Rattle.compose.specs.Puts.{slot_at, field_part, has_row, control_bytes}
use Rattle.compose.specs.Laws.{code_kind, rows_step_lem, rows_end_lem, peers-step, topics-step, no-peers, no-topics}

-- ---- codes and kinds
small-code : (c : ℕ) → c ≤ 11 → kind_code (kind_from c) ≡ c
unfolding kind_from kind_code
small-code zero h = refl
small-code (suc zero) h = refl
small-code (suc (suc zero)) h = refl
small-code (suc (suc (suc zero))) h = refl
small-code (suc (suc (suc (suc zero)))) h = refl
small-code (suc (suc (suc (suc (suc zero))))) h = refl
small-code (suc (suc (suc (suc (suc (suc zero)))))) h = refl
small-code (suc (suc (suc (suc (suc (suc (suc zero))))))) h = refl
small-code (suc (suc (suc (suc (suc (suc (suc (suc zero)))))))) h = refl
small-code (suc (suc (suc (suc (suc (suc (suc (suc (suc zero))))))))) h = refl
small-code (suc (suc (suc (suc (suc (suc (suc (suc (suc (suc zero)))))))))) h = refl
small-code (suc (suc (suc (suc (suc (suc (suc (suc (suc (suc (suc zero))))))))))) h = refl
small-code (suc (suc (suc (suc (suc (suc (suc (suc (suc (suc (suc (suc c)))))))))))) h = absurd (omega arith)

other_code : (c : ℕ) → 11 < c → kind_code (kind_from c) ≡ 0
unfolding kind_from kind_code
other_code c h =
    let no : (k : ℕ) → k ≤ 11 → eqb c k ≡ false = λ k l. ne_eqb c k (λ e. absurd (omega arith)) in
    simp (
      no 1 (omega arith),
      no 2 (omega arith),
      no 3 (omega arith),
      no 4 (omega arith),
      no 5 (omega arith),
      no 6 (omega arith),
      no 7 (omega arith),
      no 8 (omega arith),
      no 9 (omega arith),
      no 10 (omega arith),
      no 11 (omega arith),
    )

code-from : (c d : ℕ) → 1 ≤ d → d ≤ 10 → eqb c d ≡ eqb (kind_code (kind_from c)) d
code-from c d l h =
    either (ltb 11 c)
    (λ t. let u = ltb-true 11 c t in
    ne_eqb c d (λ e. absurd (omega arith))
    ∙ sym (ap (λ (x : ℕ). eqb x d) (other_code c u) ∙ ne_eqb 0 d (λ e. absurd (omega arith))))
    (λ t. sym (ap (λ (x : ℕ). eqb x d) (small-code c (ltb-false 11 c t))))

pub row-code : (t : List ℕ) (i c : ℕ) → 1 ≤ c → c ≤ 10 → eqb (get_or t (i * 20) 0) c ≡ eqb (kind_code (record_from t (i * 20)).kind) c
unfolding record_from
row-code t i c l h = code-from (get_or t (i * 20) 0) c l h

-- ---- what lies within
pub row_inside-is : (n : ℕ) (r : Record) → row_inside n r ≡ true
    → (r.start ≤ r.end) × (r.end ≤ n) × (fields_inside n r.start r.kind r.slots ≡ true)
unfolding row_inside
row_inside-is n r h =
    let a = both (leb r.start r.end) (leb r.end n && fields_inside n r.start r.kind r.slots) h in
    let b = both (leb r.end n) (fields_inside n r.start r.kind r.slots) a.1 in
    (leb-true r.start r.end a.0, leb-true r.end n b.0, b.1)

-- the fields of a row of the kind with that code
pub fields_are : (n c : ℕ) (r : Record) → IsRecord (kind_from c) → row_inside n r ≡ true → is_code c r ≡ true
    → fields_inside n r.start (kind_from c) r.slots ≡ true
fields_are n c r o h k =
    subst (λ (x : Kind). fields_inside n r.start x r.slots ≡ true) (code_kind r.kind c o k) (row_inside-is n r h).2

-- the places that they have
pub record MessageInside (n at : ℕ) (t : Slots) : Type 0 where
  pub from : inside_at n at t.first ≡ true
  pub «data» : inside_at n at t.second ≡ true
  pub seqno : inside_at n at t.third ≡ true
  pub signature : inside_at n at t.fourth ≡ true
  pub key : inside_at n at t.fifth ≡ true

pub message-inside_is : (n at : ℕ) (t : Slots) → fields_inside n at kind.RawMessage t ≡ true → MessageInside n at t
unfolding fields_inside
message-inside_is n at t h =
    let a = both (inside_at n at t.first) _ h in
    let b = both (inside_at n at t.second) _ a.1 in
    let c = both (inside_at n at t.third) _ b.1 in
    let d = both (inside_at n at t.fourth) _ c.1 in
    record { from = a.0; «data» = b.0; seqno = c.0; signature = d.0; key = d.1 }

pub message-row : (n : ℕ) (r x : Record) → r ≡ x → row_inside n x ≡ true → is_code 2 x ≡ true → MessageInside n r.start r.slots
unfolding own_of kind_from
message-row n r x e h k =
    subst (λ (y : Record). MessageInside n y.start y.slots) (sym e) (message-inside_is n x.start x.slots (fields_are n 2 x refl h k))

pub sub_opts_inside : (n at : ℕ) (t : Slots) → fields_inside n at kind.SubOpts t ≡ true → inside_at n at t.first ≡ true
unfolding fields_inside
sub_opts_inside n at t h = h

pub graft-inside : (n at : ℕ) (t : Slots) → fields_inside n at kind.ControlGraft t ≡ true → inside_at n at t.first ≡ true
unfolding fields_inside
graft-inside n at t h = h

pub prune-row : (n : ℕ) (r x : Record) → r ≡ x → row_inside n x ≡ true → is_code 9 x ≡ true → inside_at n r.start r.slots.first ≡ true
unfolding own_of kind_from fields_inside
prune-row n r x e h k = subst (λ (y : Record). inside_at n y.start y.slots.first ≡ true) (sym e) (fields_are n 9 x refl h k)

pub sub_opts_row : (n : ℕ) (r x : Record) → r ≡ x → row_inside n x ≡ true → is_code 1 x ≡ true
    → fields_inside n r.start kind.SubOpts r.slots ≡ true
unfolding own_of kind_from
sub_opts_row n r x e h k = subst (λ (y : Record). fields_inside n y.start kind.SubOpts y.slots ≡ true) (sym e) (fields_are n 1 x refl h k)

pub graft-row : (n : ℕ) (r x : Record) → r ≡ x → row_inside n x ≡ true → is_code 8 x ≡ true
    → fields_inside n r.start kind.ControlGraft r.slots ≡ true
unfolding own_of kind_from
graft-row n r x e h k = subst (λ (y : Record). fields_inside n y.start kind.ControlGraft y.slots ≡ true) (sym e) (fields_are n 8 x refl h k)

pub peer-row : (n : ℕ) (r x : Record) → r ≡ x → row_inside n x ≡ true → is_code 10 x ≡ true
    → fields_inside n r.start kind.PeerInfo r.slots ≡ true
unfolding own_of kind_from
peer-row n r x e h k = subst (λ (y : Record). fields_inside n y.start kind.PeerInfo y.slots ≡ true) (sym e) (fields_are n 10 x refl h k)

pub peer-inside : (n at : ℕ) (t : Slots) → fields_inside n at kind.PeerInfo t ≡ true
    → (inside_at n at t.first ≡ true) × (inside_at n at t.second ≡ true)
unfolding fields_inside
peer-inside n at t h = both (inside_at n at t.first) (inside_at n at t.second) h

-- ---- a number
pub number-none : (n : ℕ) (x : Number) → x ≡ number.Absent → optional (varint_field n) (number_at x) ≡ []
number-none n x e = rw e

pub number_is : (n v : ℕ) (x : Number) → x ≡ number.Present v → optional (varint_field n) (number_at x) ≡ uvarint (n * 8) ++ uvarint v
unfolding varint_field
number_is n v x e = rw e (ap (λ (t : List ℕ). t ++ uvarint v) (tag-varint n))

pub flagged-is : (x : Number) → optional (varint_field 1) (number_at (flagged x)) ≡ optional (λ b. varint_field 1 (flag b)) (nonzero (number_at x))
unfolding flagged
flagged-is number.Absent = refl
flagged-is (number.Present v) = either (eqb v 0) (λ t. simp t) (λ t. simp t)

-- ---- a code that is written
-- decided, so that a caller need not name it
abbrev is_written : ℕ → Bool
is_written c = (eqb c 1 || eqb c 2) || (eqb c 8 || eqb c 9)

pub is_written_lem : (c : ℕ) → is_written c ≡ true → Written c
is_written_lem c h =
    either (eqb c 1) (λ t. subst Written (sym (eqb-true c 1 t)) of-sub_opts)
    (λ t1. either (eqb c 2) (λ t. subst Written (sym (eqb-true c 2 t)) of-message)
    (λ t2. either (eqb c 8) (λ t. subst Written (sym (eqb-true c 8 t)) of-graft)
    (λ t8. subst Written (sym (eqb-true c 9 (simp (t1, t2, t8) at h))) of-prune)))

pub written-code : {c : ℕ} → Written c → (1 ≤ c) × (c ≤ 10)
written-code of-sub_opts = (omega arith, omega arith)
written-code of-message = (omega arith, omega arith)
written-code of-graft = (omega arith, omega arith)
written-code of-prune = (omega arith, omega arith)

pub last_code : {c : ℕ} → Written c → (c ≡ 1 → ⊥) → (c ≡ 2 → ⊥) → (c ≡ 8 → ⊥) → c ≡ 9
last_code of-sub_opts e f g = absurd (e refl)
last_code of-message e f g = absurd (f refl)
last_code of-graft e f g = absurd (g refl)
last_code of-prune e f g = refl

pub of_code : {c d : ℕ} (r : Record) → c ≡ d → is_code c r ≡ true → is_code d r ≡ true
of_code r e h = sym (ap (λ (k : ℕ). is_code k r) e) ∙ h

-- ---- a field that was measured
pub measured : (out after d : List ℕ) (len : ℕ) → Puts out 0 d after len → len ≡ capped (length d)
measured out after d len p = p.ends ∙ ap capped (zero-add (length d))

pub field_puts : (front left out mid after : List ℕ) (at i end len n : ℕ) (d : List ℕ) → Puts front 0 d left len
    → Puts out at (tag n 2 ++ uvarint len) mid i → Puts mid i d after end → Puts out at (bytes_field n d) after end
field_puts front left out mid after at i end len n d m p q =
    puts_field out mid after at i end len n d (measured front left d len m) p q

pub field-short : (front left out mid : List ℕ) (at i end len n : ℕ) (d : List ℕ) → Puts front 0 d left len
    → Puts out at (tag n 2 ++ uvarint len) mid i → end ≡ capped (i + len) → length mid < end → Puts out at (bytes_field n d) mid end
field-short front left out mid at i end len n d m p e h =
    let k = measured front left d len m in
    let z : end ≡ capped (i + length d) =
    e ∙ ap capped {x = i + len} {y = len + i} (omega arith)
    ∙ ap (λ (x : ℕ). capped (x + i)) k ∙ capped-add (length d) i
    ∙ ap capped {x = length d + i} {y = i + length d} (omega arith) in
    puts_field out mid mid at i end len n d k p (puts_short mid i d mid end z h)

pub head-is : (n len : ℕ) → uvarint (n * 8 + 2) ++ uvarint len ≡ tag n 2 ++ uvarint len
unfolding tag
head-is n len = refl

-- ---- rows, field by field
pub sub_opts_is : (b : List ℕ) (r : Record) (x : Number) → x ≡ flagged r.slots.number
    → optional (varint_field 1) (number_at x) ++ optional (bytes_field 2) (bytes_at b r.start r.slots.first) ≡ encode_sub_opts (sub_opts_of b r)
unfolding encode_sub_opts
sub_opts_is b r x e =
    ap (λ (l : List ℕ). l ++ optional (bytes_field 2) (bytes_at b r.start r.slots.first))
    (ap (λ (y : Number). optional (varint_field 1) (number_at y)) e ∙ flagged-is r.slots.number)

pub graft-is : (b : List ℕ) (r : Record) → optional (bytes_field 1) (bytes_at b r.start r.slots.first) ≡ encode_graft (graft_of b r)
unfolding encode_graft
graft-is b r = refl

pub peer-is : (b : List ℕ) (r : Record)
    → optional (bytes_field 1) (bytes_at b r.start r.slots.first) ++ optional (bytes_field 2) (bytes_at b r.start r.slots.second)
    ≡ encode_peer_info (peer_of b r)
unfolding encode_peer_info
peer-is b r = refl

pub prune-at : (b : List ℕ) (r x : Record) (rs : List Record) → r ≡ x
    → optional (bytes_field 1) (bytes_at b r.start r.slots.first)
    ++ (repeated (λ p. bytes_field 2 (encode_peer_info p)) (peers_from b rs) ++ optional (varint_field 3) (number_at r.slots.number))
    ≡ encode_prune (prune_of b x rs)
unfolding encode_prune
prune-at b r x rs e = ap (λ (y : Record). encode_prune (prune_of b y rs)) e

-- the fields of a message, by their numbers
pub slot_inside : (n at k : ℕ) (t : Slots) → MessageInside n at t → inside_at n at (slot_at k t) ≡ true
unfolding slot_at
slot_inside n at k t m =
    either (eqb k 1) (λ u. simp u m.from)
    (λ u1. either (eqb k 2) (λ u. simp (u1, u) m.«data»)
    (λ u2. either (eqb k 3) (λ u. simp (u1, u2, u) m.seqno)
    (λ u3. either (eqb k 5) (λ u. simp (u1, u2, u3, u) m.signature) (λ u5. simp (u1, u2, u3, u5) m.key))))

module _ (n : ℕ) (b : List ℕ) (r : Record) (rs : List Record) where
  pub part-topics : n ≡ 4 → repeated (bytes_field 4) (topics_from b rs) ≡ field_part n b r rs
  unfolding field_part
  part-topics e = rw e

  pub part_other : (n ≡ 4 → ⊥) → (p : Place) → p ≡ slot_at n r.slots
      → optional (bytes_field n) (bytes_at b r.start p) ≡ field_part n b r rs
  unfolding field_part
  part_other e p q = ap (λ (x : Place). optional (bytes_field n) (bytes_at b r.start x)) q ∙ simp (ne_eqb n 4 e)

pub fields_at : (b : List ℕ) (r x : Record) (rs : List Record) → r ≡ x
    → field_part 1 b r rs ++ (field_part 2 b r rs ++ (field_part 3 b r rs ++ field_part 4 b r rs)) ≡ encode_fields (message_of b x rs)
unfolding encode_fields field_part slot_at
fields_at b r x rs e = ap (λ (y : Record). encode_fields (message_of b y rs)) e

pub message_at_lem : (b : List ℕ) (r x : Record) (rs : List Record) → r ≡ x
    → encode_fields (message_of b x rs) ++ (field_part 5 b r rs ++ field_part 6 b r rs) ≡ encode_message (message_of b x rs)
unfolding encode_message field_part slot_at
message_at_lem b r x rs e = ap (λ (y : Record). encode_fields (message_of b x rs) ++ (field_part 5 b y rs ++ field_part 6 b y rs)) e

pub signed_is : (b : List ℕ) (r : Record) (rs : List Record) → sign_prefix ++ encode_fields (message_of b r rs) ≡ sign_bytes (message_of b r rs)
unfolding sign_bytes encode_fields
signed_is b r rs = refl

-- ---- what is left of a list at a row
module _ (t b : List ℕ) (i : ℕ) where
  pub peers_over : length t / 20 ≤ i → repeated (λ p. bytes_field 2 (encode_peer_info p)) (peers_from b (rows_from t i)) ≡ []
  peers_over h = ap (λ (rs : List Record). repeated (λ p. bytes_field 2 (encode_peer_info p)) (peers_from b rs)) (rows_end_lem t i h)
      ∙ ap (repeated (λ p. bytes_field 2 (encode_peer_info p))) (no-peers b)

  pub topics_over : length t / 20 ≤ i → repeated (bytes_field 4) (topics_from b (rows_from t i)) ≡ []
  topics_over h = ap (λ (rs : List Record). repeated (bytes_field 4) (topics_from b rs)) (rows_end_lem t i h)
      ∙ ap (repeated (bytes_field 4)) (no-topics b)

  pub each_over : (c n : ℕ) → length t / 20 ≤ i → each_row c n b (rows_from t i) ≡ []
  each_over c n h = ap (each_row c n b) (rows_end_lem t i h)

  module _ (h : i < length t / 20) where
    peers-at : peers_from b (rows_from t i)
        ≡ cond (is_code 9 (record_from t (i * 20))) [] (cond (is_code 10 (record_from t (i * 20)))
        (peer_of b (record_from t (i * 20)) ∷ peers_from b (rows_from t (i + 1))) (peers_from b (rows_from t (i + 1))))
    peers-at = ap (peers_from b) (rows_step_lem t i h) ∙ peers-step b (record_from t (i * 20)) (rows_from t (i + 1))

    topics_at_lem : topics_from b (rows_from t i)
        ≡ cond (is_code 2 (record_from t (i * 20))) [] (cond (is_code 3 (record_from t (i * 20)))
        (raw_of b (record_from t (i * 20)) ∷ topics_from b (rows_from t (i + 1))) (topics_from b (rows_from t (i + 1))))
    topics_at_lem = ap (topics_from b) (rows_step_lem t i h) ∙ topics-step b (record_from t (i * 20)) (rows_from t (i + 1))

    pub peers-stop : is_code 9 (record_from t (i * 20)) ≡ true → repeated (λ p. bytes_field 2 (encode_peer_info p)) (peers_from b (rows_from t i)) ≡ []
    peers-stop e = ap (repeated (λ p. bytes_field 2 (encode_peer_info p))) peers-at ∙ simp e

    pub peers-next : is_code 9 (record_from t (i * 20)) ≡ false
        → repeated (λ p. bytes_field 2 (encode_peer_info p)) (peers_from b (rows_from t i))
        ≡ peer_part b (record_from t (i * 20)) ++ repeated (λ p. bytes_field 2 (encode_peer_info p)) (peers_from b (rows_from t (i + 1)))
    peers-next e =
        ap (repeated (λ p. bytes_field 2 (encode_peer_info p))) peers-at
        ∙ either (is_code 10 (record_from t (i * 20))) (λ u. simp (e, u)) (λ u. simp (e, u))

    pub topics-stop : is_code 2 (record_from t (i * 20)) ≡ true → repeated (bytes_field 4) (topics_from b (rows_from t i)) ≡ []
    topics-stop e = ap (repeated (bytes_field 4)) topics_at_lem ∙ simp e

    pub topics-next : is_code 2 (record_from t (i * 20)) ≡ false
        → repeated (bytes_field 4) (topics_from b (rows_from t i))
        ≡ topic_part b (record_from t (i * 20)) ++ repeated (bytes_field 4) (topics_from b (rows_from t (i + 1)))
    topics-next e =
        ap (repeated (bytes_field 4)) topics_at_lem
        ∙ either (is_code 3 (record_from t (i * 20))) (λ u. simp (e, u)) (λ u. simp (e, u))

    pub each_next : (c n : ℕ) → each_row c n b (rows_from t i)
        ≡ row_part c n b (record_from t (i * 20)) (rows_from t (i + 1)) ++ each_row c n b (rows_from t (i + 1))
    each_next c n = ap (each_row c n b) (rows_step_lem t i h)

-- ---- a graft or a prune: the test of each row by its number is that of the row
abbrev pub is_control : List ℕ → ℕ → Bool
is_control t i = is_code 8 (record_from t (i * 20)) || is_code 9 (record_from t (i * 20))

pub any_control : (t : List ℕ) (i n : ℕ) → list_any (is_control t) (range_with_len i n) ≡ has_row (rows_in t i n)
any_control t i zero = refl
any_control t i (suc n) = ap (λ (b : Bool). is_control t i || b) (any_control t (i + 1) n)

-- ---- rows by their codes
pub row-sub_opts : (c : ℕ) (b : List ℕ) (r x : Record) (rs : List Record) → r ≡ x → c ≡ 1 → encode_sub_opts (sub_opts_of b r) ≡ row_bytes c b x rs
unfolding row_bytes
row-sub_opts c b r x rs q e = ap (λ (y : Record). encode_sub_opts (sub_opts_of b y)) q ∙ rw e

pub row-message : (c : ℕ) (b : List ℕ) (r : Record) (rs : List Record) → c ≡ 2 → encode_message (message_of b r rs) ≡ row_bytes c b r rs
unfolding row_bytes
row-message c b r rs e = rw e

pub row-graft : (c : ℕ) (b : List ℕ) (r x : Record) (rs : List Record) → r ≡ x → c ≡ 8 → encode_graft (graft_of b r) ≡ row_bytes c b x rs
unfolding row_bytes
row-graft c b r x rs q e = ap (λ (y : Record). encode_graft (graft_of b y)) q ∙ rw e

pub row-prune : (c : ℕ) (b : List ℕ) (r : Record) (rs : List Record) → c ≡ 9 → encode_prune (prune_of b r rs) ≡ row_bytes c b r rs
unfolding row_bytes
row-prune c b r rs e = rw e

pub control-none : (b : List ℕ) (rs : List Record) → has_row rs ≡ false → control_bytes b rs ≡ []
unfolding control_bytes
control-none b rs e = simp e

pub control-some : (b : List ℕ) (rs : List Record) → has_row rs ≡ true → bytes_field 3 (each_row 8 3 b rs ++ each_row 9 4 b rs) ≡ control_bytes b rs
unfolding control_bytes
control-some b rs e = simp e

-- ---- a row that adds something, or nothing
pub peer-yes : (b : List ℕ) (r x : Record) → r ≡ x → is_code 10 x ≡ true → bytes_field 2 (encode_peer_info (peer_of b r)) ≡ peer_part b x
peer-yes b r x e h = ap (λ (y : Record). bytes_field 2 (encode_peer_info (peer_of b y))) e ∙ sym (ap (λ (t : Bool). cond t (bytes_field 2 (encode_peer_info (peer_of b x))) []) h)

pub peer-no : (b : List ℕ) (x : Record) → is_code 10 x ≡ false → [] ≡ peer_part b x
peer-no b x h = sym (ap (λ (t : Bool). cond t (bytes_field 2 (encode_peer_info (peer_of b x))) []) h)

pub topic-yes : (b : List ℕ) (r x : Record) → r ≡ x → is_code 3 x ≡ true → bytes_field 4 (raw_of b r) ≡ topic_part b x
topic-yes b r x e h = ap (λ (y : Record). bytes_field 4 (raw_of b y)) e ∙ sym (ap (λ (t : Bool). cond t (bytes_field 4 (raw_of b x)) []) h)

pub topic-no : (b : List ℕ) (x : Record) → is_code 3 x ≡ false → [] ≡ topic_part b x
topic-no b x h = sym (ap (λ (t : Bool). cond t (bytes_field 4 (raw_of b x)) []) h)

pub topic-row : (n : ℕ) (r x : Record) → r ≡ x → row_inside n x ≡ true → (r.start ≤ r.end) × (r.end ≤ n)
topic-row n r x e h = let z = row_inside-is n x h in subst (λ (y : Record). (y.start ≤ y.end) × (y.end ≤ n)) (sym e) (z.0, z.1)

pub row-yes : (c n : ℕ) (b : List ℕ) (x : Record) (rs : List Record) → is_code c x ≡ true → bytes_field n (row_bytes c b x rs) ≡ row_part c n b x rs
row-yes c n b x rs h = sym (ap (λ (t : Bool). cond t (bytes_field n (row_bytes c b x rs)) []) h)

pub row-no : (c n : ℕ) (b : List ℕ) (x : Record) (rs : List Record) → is_code c x ≡ false → [] ≡ row_part c n b x rs
row-no c n b x rs h = sym (ap (λ (t : Bool). cond t (bytes_field n (row_bytes c b x rs)) []) h)
