-- The fields of a group and its end tag are passed over exactly where the grammar has them.
use Rattle.std.specs.Prelude.{Result, Ok, Err, Option, Some, None, ℕ, zero, suc, ◌+◌, ◌-◌, ◌*◌, ◌≤◌, ◌<◌, ◌≡◌, refl, List, [], ◌∷◌, ◌++◌, false, length, drop, eqb}
use Rattle.std.proofs.Common.{sym, ap, ap₂, ◌∙◌, append_assoc, arith, length-append, length-drop, eqb-true, eq-eqb, le-ltb}
use Rattle.std.proofs.Math.Path.{subst}
use Rattle.basis.specs.Cases.{either, clash}
use Rattle.basis.specs.Bytes.{Bytes}
use Rattle.peer_id.specs.Uvarint.{uvarint}
use Rattle.peer_id.specs.Laws.{uvarint-some}
use Rattle.protobuf.specs.Grammar.{Payload, number, eight, bytes, group, four, Entry, Value, varint, i64}
use Rattle.protobuf.specs.Grammar.{len-prefix, i32, BodyIn, none, field, a_group, Holds, value, grouped}
use Rattle.protobuf.specs.Field.{read_tag, read_len, read_varint, skip_fixed, past_value, skip_value, opened}
use Rattle.protobuf.specs.Field.{passed, and_on, in_group, skip_from, skip_group}
use Rattle.protobuf.specs.Laws.{Moves, passed_moves, from_moves, group-step}
use Rattle.protobuf.specs.Walk.{between}
use Rattle.protobuf.specs.WalkLaws.{between-length}
use Rattle.protobuf.specs.Spelt.{reads-spelt, drop-front, split, varint-spelt, part-spelt, tag-spelt, fixed_at}
use Rattle.protobuf.specs.Spelt.{left-fits, fixed_reads, tag-reads}
use Rattle.protobuf.specs.declared.WireError.{WireError}

-- what may stand after a tag makes a field of a body
pub in_front : {l n type : ℕ} {v rest : List ℕ} {p : Payload} {es : List Entry} → 1 ≤ n → n ≤ 536870911
    → Holds l n type v p → BodyIn l rest es
    → BodyIn l (uvarint (n * 8 + type) ++ (v ++ rest)) (record { field = n; payload = p } ∷ es)
in_front low high (value w) r = field low high w r
in_front low high (grouped g) r = a_group low high g r

-- ---- from the reader: a value that is passed stands there, and the grammar has it
pub record Past (l n type : ℕ) (s : List ℕ) (to e : ℕ) : Type 0 where
  pub bytes_of : List ℕ
  pub holds : Payload
  pub is : Holds l n type bytes_of holds
  pub here : drop to s ≡ bytes_of ++ drop e s

past-varint : (l n : ℕ) (s : List ℕ) (to e : ℕ) (r : Result (ℕ × ℕ) WireError) → Bytes s → r ≡ read_varint s to
    → Ok e ≡ past_value r → Past l n 0 s to e
past-varint l n s to e (Ok (x, y)) b q h =
    let t = varint-spelt s to x y b q in
    let z : e ≡ y = cc in
    rw z (record { bytes_of = uvarint x; holds = number x; is = value (varint t.bound); here = t.here })
past-varint l n s to e (Err why) b q h = clash (cc)

past-len : (l n : ℕ) (s : List ℕ) (to e : ℕ) (r : Result (ℕ × ℕ) WireError) → Bytes s → r ≡ read_len s to
    → Ok e ≡ past_value r → Past l n 2 s to e
past-len l n s to e (Ok (a, y)) b q h =
    let t = part-spelt s to a y b q in
    let d = between s a y in
    let g : length d ≡ y - a = between-length s a y t.within in
    let z : e ≡ y = cc in
    rw z
    (record {
      bytes_of = uvarint (length d) ++ d;
      holds = bytes d;
      is = value (len-prefix {d = d} (rw g t.size.bound));
      here = t.size.here ∙ ap₂ (λ (k : ℕ) (x : List ℕ). uvarint k ++ x) (sym g) (split s a y t.order)
          ∙ sym (append_assoc (uvarint (length d)) d (drop y s));
    })
past-len l n s to e (Err why) b q h = clash (cc)

past_fixed : (l n type k : ℕ) (s : List ℕ) (to e : ℕ) (holds : List ℕ → Payload)
    → ((d : List ℕ) → length d ≡ k → Value type d (holds d)) → 0 < k → Ok e ≡ skip_fixed (length s) to k
    → Past l n type s to e
past_fixed l n type k s to e holds v z h =
    let t = fixed_at s to k e z h in
    let g : length (between s to e) ≡ k = between-length s to e t.within ∙ omega (arith, t.ends) in
    let o : to ≤ e = omega (arith, t.ends) in
    record {
      bytes_of = between s to e;
      holds = holds (between s to e);
      is = value (v (between s to e) g);
      here = split s to e o;
    }

past_value_lem : (l n type : ℕ) (s : List ℕ) (to e : ℕ) → Bytes s → Ok e ≡ skip_value s to type → Past l n type s to e
unfolding skip_value
past_value_lem l n type s to e b h =
    either (eqb type 0)
    (λ t. subst (λ (k : ℕ). Past l n k s to e) (sym (eqb-true type 0 t))
    (past-varint l n s to e (read_varint s to) b refl (simp t at h)))
    (λ t0. either (eqb type 2)
    (λ t. subst (λ (k : ℕ). Past l n k s to e) (sym (eqb-true type 2 t))
    (past-len l n s to e (read_len s to) b refl (simp (t0, t) at h)))
    (λ t2. either (eqb type 5)
    (λ t. subst (λ (k : ℕ). Past l n k s to e) (sym (eqb-true type 5 t))
    (past_fixed l n 5 4 s to e four (λ d g. i32 g) (omega arith) (simp (t0, t2, t) at h)))
    (λ t5. either (eqb type 1)
    (λ t. subst (λ (k : ℕ). Past l n k s to e) (sym (eqb-true type 1 t))
    (past_fixed l n 1 8 s to e eight (λ d g. i64 g) (omega arith) (simp (t0, t2, t5, t) at h)))
    (λ t. clash (let k = simp (t0, t2, t5, t) at h in cc)))))

-- the fields of a group n from `at` on, and its end tag, up to e
pub record Closed (l n : ℕ) (s : List ℕ) (at e : ℕ) : Type 0 where
  pub bytes_of : List ℕ
  pub entries : List Entry
  pub is : BodyIn l bytes_of entries
  pub here : drop at s ≡ (bytes_of ++ uvarint (n * 8 + 4)) ++ drop e s
  pub ends : e ≡ at + length bytes_of + length (uvarint (n * 8 + 4))

-- a field in front of what is closed
front : {l n type m at to x e : ℕ} (s : List ℕ) → 1 ≤ m → m ≤ 536870911
    → drop at s ≡ uvarint (m * 8 + type) ++ drop to s → to ≡ at + length (uvarint (m * 8 + type))
    → (p : Past l m type s to x) → x ≡ to + length p.bytes_of → Closed l n s x e → Closed l n s at e
front {l} {n} {type} {m} {at} {to} {x} {e} s low high h g p y c =
    let t = uvarint (m * 8 + type) in
    let v = p.bytes_of in
    let w = c.bytes_of in
    let z = uvarint (n * 8 + 4) in
    record {
      bytes_of = t ++ (v ++ w);
      entries = record { field = m; payload = p.holds } ∷ c.entries;
      is = in_front low high p.is c.is;
      here = h ∙ ap (λ (i : List ℕ). t ++ i) (p.here ∙ ap (λ (i : List ℕ). v ++ i) c.here
          ∙ sym (append_assoc v (w ++ z) (drop e s))
          ∙ ap (λ (i : List ℕ). i ++ drop e s) (sym (append_assoc v w z)))
          ∙ sym (append_assoc t ((v ++ w) ++ z) (drop e s))
          ∙ ap (λ (i : List ℕ). i ++ drop e s) (sym (append_assoc t (v ++ w) z));
      ends = omega (arith, g, y, c.ends, length-append t (v ++ w), length-append v w);
    }

-- where what is passed ends
pub past-ends : {l n type to e : ℕ} (s : List ℕ) (p : Past l n type s to e) → to < e → e ≤ length s
    → e ≡ to + length p.bytes_of
past-ends {to = to} {e = e} s p low high =
    let h : length s - to ≡ length p.bytes_of + (length s - e) =
    sym (length-drop to s) ∙ ap length p.here ∙ length-append p.bytes_of (drop e s)
    ∙ ap (λ (k : ℕ). length p.bytes_of + k) (length-drop e s) in
    omega arith

closes : {l n at e : ℕ} (s : List ℕ) → Closed l n s at e → Past (suc l) n 3 s at e
closes {n = n} s c =
    record {
      bytes_of = c.bytes_of ++ uvarint (n * 8 + 4);
      holds = group c.bytes_of;
      is = grouped c.is;
      here = c.here;
    }

-- what passes a group finds it closed, so does what passes its fields
abbrev Closing : List ℕ → (ℕ → ℕ → ℕ → Result ℕ WireError) → Type 0
Closing s go = (l at n e : ℕ) → Ok e ≡ go l at n → Closed l n s at e

module _ (s : List ℕ) (b : Bytes s) (go : ℕ → ℕ → ℕ → Result ℕ WireError) (closed : Closing s go) (moves : Moves s go) where
  opened-past : (l at n e : ℕ) → Ok e ≡ opened go l at n → Past l n 3 s at e
  opened-past zero at n e h = clash (cc)
  opened-past (suc l) at n e h = closes s (closed l at n e h)

  pub passed-past : (l at n type e : ℕ) → Ok e ≡ passed go l s at n type → Past l n type s at e
  unfolding passed
  passed-past l at n type e h =
      either (eqb type 3)
      (λ t. subst (λ (k : ℕ). Past l n k s at e) (sym (eqb-true type 3 t)) (opened-past l at n e (simp t at h)))
      (λ t3. either (eqb type 4) (λ t4. clash (let k = simp (t3, t4) at h in cc))
      (λ t4. past_value_lem l n type s at e b (simp (t3, t4) at h)))

  on_closed : (l at n m type to e : ℕ) (r : Result ℕ WireError) → Ok (Some (m, type, to)) ≡ read_tag s at
      → r ≡ passed go l s to m type → Ok e ≡ and_on (λ x. go l x n) r → Closed l n s at e
  on_closed l at n m type to e (Ok x) q p h =
      let t = tag-spelt s at m type to b q in
      let w = passed-past l to m type x p in
      let y = passed_moves s go moves l to m type x p in
      front s t.least t.most t.spells.here t.spells.ends w (past-ends s w y.0 y.1)
      (closed l x n e h)
  on_closed l at n m type to e (Err why) q p h = clash (cc)

  in_closed : (l at n e : ℕ) (r : Result (Option (ℕ × ℕ × ℕ)) WireError) → r ≡ read_tag s at
      → Ok e ≡ in_group go l s n r → Closed l n s at e
  in_closed l at n e (Ok None) q h = clash (cc)
  in_closed l at n e (Err why) q h = clash (cc)
  in_closed l at n e (Ok (Some (m, type, to))) q h =
      either (eqb type 4)
      (λ t4. either (eqb m n)
      (λ w. let k = simp (t4, w) at h in
      let t = tag-spelt s at m type to b q in
      let z : e ≡ to = cc in
      let i : uvarint (m * 8 + type) ≡ uvarint (n * 8 + 4) =
      ap₂ (λ (x y : ℕ). uvarint (x * 8 + y)) (eqb-true m n w) (eqb-true type 4 t4) in
      record {
        bytes_of = [];
        entries = [];
        is = none;
        here = t.spells.here ∙ ap₂ (λ (x : List ℕ) (y : ℕ). x ++ drop y s) i (sym z);
        ends = z ∙ t.spells.ends ∙ ap (λ (x : List ℕ). at + length x) i ∙ omega arith;
      })
      (λ w. clash (let k = simp (t4, w) at h in cc)))
      (λ t4. on_closed l at n m type to e (passed go l s to m type) q refl (simp t4 at h))

from-closed : (k : ℕ) (s : List ℕ) → Bytes s → Closing s (skip_from k s)
unfolding skip_from
from-closed zero s b l at n e h = clash (cc)
from-closed (suc k) s b l at n e h =
    in_closed s b (skip_from k s) (from-closed k s b) (from_moves k s) l at n e (read_tag s at) refl h

pub group-closed : (s : List ℕ) → Bytes s → Closing s (λ l. skip_group l s)
unfolding skip_group
group-closed s b l at n e h = from-closed (suc (length s - at)) s b l at n e h

-- ---- from the grammar: what it has is passed
-- a value
value_passes : {type : ℕ} {v : List ℕ} {p : Payload} (s : List ℕ) (to : ℕ) (rest : List ℕ) → Value type v p
    → drop to s ≡ v ++ rest → skip_value s to type ≡ Ok (to + length v)
unfolding skip_value read_varint read_len
value_passes s to rest (varint {v} b) h = simp (reads-spelt s to v rest b h)
value_passes s to rest (i64 {d} g) h = fixed_reads s to d rest 8 (omega arith) g h
    ∙ ap (λ (k : ℕ). Ok (to + k)) (sym g)
value_passes s to rest (i32 {d} g) h = fixed_reads s to d rest 4 (omega arith) g h
    ∙ ap (λ (k : ℕ). Ok (to + k)) (sym g)
value_passes s to rest (len-prefix {d} b) h =
    let u = uvarint (length d) in
    let h1 : drop to s ≡ u ++ (d ++ rest) = h ∙ append_assoc u d rest in
    let a = to + length u in
    let l = left-fits s to u (d ++ rest) (omega (arith, uvarint-some (length d))) h1 in
    let k : length d ≤ length s - a = omega (arith, length-append d rest) in
    let e : a + length d ≡ to + length (u ++ d) = omega (arith, length-append u d) in
    simp (reads-spelt s to (length d) (d ++ rest) b h1, le-ltb _ _ k) (ap Ok e)

value_type : {type : ℕ} {v : List ℕ} {p : Payload} → Value type v p → (eqb type 3 ≡ false) × (eqb type 4 ≡ false)
    × (type < 8)
value_type (varint b) = (refl, refl, omega arith)
value_type (i64 g) = (refl, refl, omega arith)
value_type (len-prefix b) = (refl, refl, omega arith)
value_type (i32 g) = (refl, refl, omega arith)

passed-value : (l : ℕ) (s : List ℕ) (to m type e : ℕ) → eqb type 3 ≡ false → eqb type 4 ≡ false
    → skip_value s to type ≡ Ok e → passed (λ j. skip_group j s) l s to m type ≡ Ok e
unfolding passed
passed-value l s to m type e t3 t4 q = simp (t3, t4) q

passed-group : (l : ℕ) (s : List ℕ) (to m e : ℕ) → skip_group l s to m ≡ Ok e
    → passed (λ j. skip_group j s) (suc l) s to m 3 ≡ Ok e
unfolding passed
passed-group l s to m e q = q

-- a tag and what it passes, in a group
tag_on : (l : ℕ) (s : List ℕ) (at n m type : ℕ) (v rest : List ℕ) → 1 ≤ m → m ≤ 536870911 → type < 8
    → eqb type 4 ≡ false → drop at s ≡ uvarint (m * 8 + type) ++ (v ++ rest)
    → passed (λ j. skip_group j s) l s (at + length (uvarint (m * 8 + type))) m type
    ≡ Ok (at + length (uvarint (m * 8 + type)) + length v)
    → skip_group l s at n ≡ skip_group l s (at + length (uvarint (m * 8 + type)) + length v) n
tag_on l s at n m type v rest low high bits t4 h p =
    group-step l s at n ∙ ap (in_group (λ j. skip_group j s) l s n) (tag-reads s at m type (v ++ rest) low high bits h)
    ∙ simp (t4, p)

-- a group's end tag
group-ends : (l : ℕ) (s : List ℕ) (at n : ℕ) (rest : List ℕ) → 1 ≤ n → n ≤ 536870911
    → drop at s ≡ uvarint (n * 8 + 4) ++ rest → skip_group l s at n ≡ Ok (at + length (uvarint (n * 8 + 4)))
group-ends l s at n rest low high h =
    group-step l s at n ∙ ap (in_group (λ j. skip_group j s) l s n) (tag-reads s at n 4 rest low high (omega arith) h)
    ∙ simp (eq-eqb n n refl)

-- the fields of a group, up to what follows them
pub group_over : {l : ℕ} {v : List ℕ} {es : List Entry} (s : List ℕ) (at n : ℕ) (rest : List ℕ) → BodyIn l v es
    → drop at s ≡ v ++ rest → skip_group l s at n ≡ skip_group l s (at + length v) n
group_over {l} s at n rest none h = ap (λ (k : ℕ). skip_group l s k n) (omega arith)
group_over {l} s at n rest (field {n = m} {type = type} {v = v} {rest = more} lo hi w r) h =
    let t = uvarint (m * 8 + type) in
    let y = value_type w in
    let h1 : drop at s ≡ t ++ (v ++ (more ++ rest)) = h ∙ append_assoc t (v ++ more) rest
    ∙ ap (λ (i : List ℕ). t ++ i) (append_assoc v more rest) in
    let h2 : drop (at + length t) s ≡ v ++ (more ++ rest) = drop-front s at t (v ++ (more ++ rest)) h1 in
    let h3 : drop (at + length t + length v) s ≡ more ++ rest = drop-front s (at + length t) v (more ++ rest) h2 in
    tag_on l s at n m type v (more ++ rest) lo hi y.2 y.1 h1
    (passed-value l s _ m type _ y.0 y.1 (value_passes s (at + length t) (more ++ rest) w h2))
    ∙ group_over s (at + length t + length v) n rest r h3
    ∙ ap (λ (k : ℕ). skip_group l s k n) (omega (arith, length-append t (v ++ more), length-append v more))
group_over s at n rest (a_group {l = l} {n = m} {v = v} {rest = more} lo hi g r) h =
    let t = uvarint (m * 8 + 3) in
    let y = uvarint (m * 8 + 4) in
    let h1 : drop at s ≡ t ++ ((v ++ y) ++ (more ++ rest)) = h ∙ append_assoc t ((v ++ y) ++ more) rest
    ∙ ap (λ (i : List ℕ). t ++ i) (append_assoc (v ++ y) more rest) in
    let h2 : drop (at + length t) s ≡ (v ++ y) ++ (more ++ rest) = drop-front s at t ((v ++ y) ++ (more ++ rest)) h1 in
    let h3 : drop (at + length t + length (v ++ y)) s ≡ more ++ rest =
    drop-front s (at + length t) (v ++ y) (more ++ rest) h2 in
    let h4 : drop (at + length t) s ≡ v ++ (y ++ (more ++ rest)) = h2 ∙ append_assoc v y (more ++ rest) in
    let i : skip_group l s (at + length t) m ≡ Ok (at + length t + length (v ++ y)) =
    group_over s (at + length t) m (y ++ (more ++ rest)) g h4
    ∙ group-ends l s (at + length t + length v) m (more ++ rest) lo hi
    (drop-front s (at + length t) v (y ++ (more ++ rest)) h4)
    ∙ ap Ok (omega (arith, length-append v y)) in
    tag_on (suc l) s at n m 3 (v ++ y) (more ++ rest) lo hi (omega arith) refl h1 (passed-group l s _ m _ i)
    ∙ group_over s (at + length t + length (v ++ y)) n rest r h3
    ∙ ap (λ (k : ℕ). skip_group (suc l) s k n)
    (omega (arith, length-append t ((v ++ y) ++ more), length-append (v ++ y) more))

-- the fields of a group and its end tag
pub group-passes : {l : ℕ} {v : List ℕ} {es : List Entry} (s : List ℕ) (at n : ℕ) (rest : List ℕ) → 1 ≤ n
    → n ≤ 536870911 → BodyIn l v es → drop at s ≡ v ++ (uvarint (n * 8 + 4) ++ rest)
    → skip_group l s at n ≡ Ok (at + length v + length (uvarint (n * 8 + 4)))
group-passes {l} {v} s at n rest low high g h =
    group_over s at n (uvarint (n * 8 + 4) ++ rest) g h
    ∙ group-ends l s (at + length v) n rest low high (drop-front s at v (uvarint (n * 8 + 4) ++ rest) h)
