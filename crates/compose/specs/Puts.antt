-- Writing at a place of lent bytes: where the bytes xs end, and that they stand there where there is room for them. Where there is none the answer is the same,
-- so a writer that is lent nothing measures. An end stops at 2^64 - 1.
use Rattle.std.specs.Prelude.{Result, Ok, Err, ℕ, ◌+◌, ◌*◌, ◌/◌, ◌≤◌, ◌<◌, ◌≡◌, refl, Bool, true, false, cond, ◌||◌, List}
use Rattle.std.specs.Prelude.{[], ◌∷◌, ◌++◌, length, drop, ltb, eqb}
use Rattle.std.proofs.Common.{sym, ap, subst, ◌∙◌, append_assoc, arith, length-append, ltb-true, ltb-false, le-ltb}
use Rattle.std.proofs.lemmas.List.Edits.{sets}
use Rattle.std.proofs.Math.Seq.{length-sets}
use Rattle.basis.specs.Cases.{either}
use Rattle.basis.specs.Writing.{set_in}
use Rattle.basis.specs.Lists.{sets-append, set-fits}
use Rattle.peer_id.specs.Uvarint.{uvarint}
use Rattle.protobuf.specs.Encode.{tag, bytes_field}
use Rattle.schema.specs.declared.Place.{Place}
use Rattle.schema.specs.declared.Number.{Number}
use Rattle.schema.specs.declared.Number.TheVariants as number
use Rattle.schema.specs.declared.Slots.{Slots}
use Rattle.message.specs.declared.Record.{Record}
use Rattle.message.specs.Rows.{record_from}
use Rattle.meaning.specs.ReadBack.{bytes_at, raw_of}
use Rattle.rpc.specs.Encode.{optional, repeated, encode_sub_opts, encode_graft, encode_peer_info, encode_prune}
use Rattle.compose.specs.declared.Wrong.{Wrong}
use Rattle.compose.specs.declared.Wrong.TheVariants.{NoMessage}
use Rattle.compose.specs.Lent.{rows_from, lent_rows, is_code}
use Rattle.compose.specs.Said.{encode_message, topics_from, sub_opts_of, graft_of, peer_of, prune_of, message_of, messages_in}
use Rattle.compose.specs.Weighed.{capped}

-- xs were written at `at` of the bytes `out`, which are `after` then; they end at `end`
pub record Puts (out : List ℕ) (at : ℕ) (xs after : List ℕ) (end : ℕ) : Type 0 where
  pub ends : end ≡ capped (at + length xs)
  pub holds : at + length xs ≤ length out → at + length xs ≤ 18446744073709551615 → after ≡ sets out at xs

-- ---- an end that stops
pub capped_small : (n : ℕ) → n ≤ 18446744073709551615 → capped n ≡ n
unfolding capped
capped_small n h =
    either (ltb n 18446744073709551615) (λ t. simp t)
    (λ t. let l = ltb-false n 18446744073709551615 t in let e : 18446744073709551615 ≡ n = omega arith in simp t e)

pub capped-most : (n : ℕ) → 18446744073709551615 ≤ n → capped n ≡ 18446744073709551615
unfolding capped
capped-most n h = simp (le-ltb n 18446744073709551615 h)

pub capped-bound : (n : ℕ) → (capped n ≤ 18446744073709551615) × (capped n ≤ n)
capped-bound n =
    either (ltb n 18446744073709551615)
    (λ t. let l = ltb-true n 18446744073709551615 t in let e = capped_small n (omega arith) in (omega arith, omega arith))
    (λ t. let l = ltb-false n 18446744073709551615 t in let e = capped-most n l in (omega arith, omega arith))

pub capped-add : (m n : ℕ) → capped (capped m + n) ≡ capped (m + n)
capped-add m n =
    either (ltb m 18446744073709551615)
    (λ t. let l = ltb-true m 18446744073709551615 t in ap (λ (k : ℕ). capped (k + n)) (capped_small m (omega arith)))
    (λ t.
    let l = ltb-false m 18446744073709551615 t in
    ap (λ (k : ℕ). capped (k + n)) (capped-most m l)
    ∙ capped-most (18446744073709551615 + n) (omega arith)
    ∙ sym (capped-most (m + n) (omega arith)))

-- a length that does not pass a bound passes it stopped neither
pub capped-below : (n m : ℕ) → m < 18446744073709551615 → capped n ≤ m → n ≤ m
capped-below n m h l =
    either (ltb n 18446744073709551615)
    (λ t. let u = ltb-true n 18446744073709551615 t in let e = capped_small n (omega arith) in omega arith)
    (λ t. let u = ltb-false n 18446744073709551615 t in let e = capped-most n u in absurd (omega arith))

-- ---- writers
pub puts_none : (out : List ℕ) (at : ℕ) → at ≤ 18446744073709551615 → Puts out at [] out at
puts_none out at h =
    record {
      ends = sym (ap capped {x = at + 0} {y = at} (omega arith) ∙ capped_small at h);
      holds = λ f g. refl;
    }

-- what put_uvarint and put_bytes leave
pub puts_set : (out : List ℕ) (at : ℕ) (xs after : List ℕ) (end : ℕ) → end ≡ capped (at + length xs)
    → after ≡ set_in (length xs) at xs out → Puts out at xs after end
puts_set out at xs after end p e = record { ends = p; holds = λ h g. e ∙ set-fits (length xs) at xs out h }

pub puts_same : (out : List ℕ) (at : ℕ) (xs ys after : List ℕ) (end : ℕ) → xs ≡ ys → Puts out at xs after end
    → Puts out at ys after end
puts_same out at xs ys after end e p = subst (λ (l : List ℕ). Puts out at l after end) e p

pub puts_bound : (out : List ℕ) (at : ℕ) (xs after : List ℕ) (end : ℕ) → Puts out at xs after end → end ≤ 18446744073709551615
puts_bound out at xs after end p = let c = capped-bound (at + length xs) in omega (arith, p.ends, c.0)

-- without the room anything may be left
pub puts_short : (out : List ℕ) (at : ℕ) (xs after : List ℕ) (end : ℕ) → end ≡ capped (at + length xs) → length out < end
    → Puts out at xs after end
puts_short out at xs after end p h =
    record { ends = p; holds = λ r g. let c = capped-bound (at + length xs) in absurd (omega (arith, p, c.1)) }

-- xs, and ys where they end, are xs ++ ys
pub puts_append : (out mid after : List ℕ) (at i end : ℕ) (xs ys : List ℕ) → Puts out at xs mid i
    → Puts mid i ys after end → Puts out at (xs ++ ys) after end
puts_append out mid after at i end xs ys p q =
    let l = length-append xs ys in
    let s : at + length xs + length ys ≡ at + length (xs ++ ys) = omega arith in
    record {
      ends = q.ends ∙ ap (λ (k : ℕ). capped (k + length ys)) p.ends ∙ capped-add (at + length xs) (length ys) ∙ ap capped s;
      holds = λ r g.
          let m = p.holds (omega arith) (omega arith) in
          let k : length mid ≡ length out = ap length m ∙ length-sets out at xs in
          let i' : i ≡ at + length xs = p.ends ∙ capped_small (at + length xs) (omega arith) in
          q.holds (omega arith) (omega arith)
          ∙ ap (λ (x : List ℕ). sets x i ys) m
          ∙ ap (λ (x : ℕ). sets (sets out at xs) x ys) i'
          ∙ sym (sets-append out at xs ys);
    }

-- a field whose length was measured: its head, and then its bytes
pub puts_field : (out mid after : List ℕ) (at i end len n : ℕ) (d : List ℕ) → len ≡ capped (length d)
    → Puts out at (tag n 2 ++ uvarint len) mid i → Puts mid i d after end → Puts out at (bytes_field n d) after end
unfolding bytes_field
puts_field out mid after at i end len n d e p q =
    either (ltb 18446744073709551615 (length d))
    (λ t. let l = ltb-true 18446744073709551615 (length d) t in
    let a = length-append (tag n 2) (uvarint (length d) ++ d) in
    let b = length-append (uvarint (length d)) d in
    record {
      ends = q.ends ∙ capped-most (i + length d) (omega arith)
          ∙ sym (capped-most (at + length (tag n 2 ++ (uvarint (length d) ++ d))) (omega arith));
      holds = λ r g. absurd (omega arith);
    })
    (λ t. let l = ltb-false 18446744073709551615 (length d) t in
    let k : len ≡ length d = e ∙ capped_small (length d) l in
    puts_same out at ((tag n 2 ++ uvarint len) ++ d) (tag n 2 ++ (uvarint (length d) ++ d)) after end
    (append_assoc (tag n 2) (uvarint len) d ∙ ap (λ (x : ℕ). tag n 2 ++ (uvarint x ++ d)) k)
    (puts_append out mid after at i end (tag n 2 ++ uvarint len) d p q))

-- ---- bytes written one part after the other: what is left of them, written at `end` of the bytes as they are, makes
-- all of them
pub record Going (out₀ : List ℕ) (at : ℕ) (all out : List ℕ) (end : ℕ) (rest : List ℕ) : Type 0 where
  pub bound : end ≤ 18446744073709551615
  pub goes : (after : List ℕ) (e : ℕ) → Puts out end rest after e → Puts out₀ at all after e

pub going-all : (out : List ℕ) (at : ℕ) (all : List ℕ) → at ≤ 18446744073709551615 → Going out at all out at all
going-all out at all h = record { bound = h; goes = λ after e p. p }

module _ (out₀ : List ℕ) (at : ℕ) (all out : List ℕ) (end : ℕ) (rest : List ℕ) (g : Going out₀ at all out end rest) where
  -- nothing is left
  pub going-none : rest ≡ [] → Puts out₀ at all out end
  going-none e = g.goes out end (puts_same out end [] rest out end (sym e) (puts_none out end g.bound))

  -- the next part is nothing
  pub going-same : (ys : List ℕ) → rest ≡ ys → Going out₀ at all out end ys
  going-same ys e = record { bound = g.bound; goes = λ after z p. g.goes after z (puts_same out end ys rest after z (sym e) p) }

  -- the next part was written
  pub going-part : (xs ys : List ℕ) → rest ≡ xs ++ ys → (mid : List ℕ) (i : ℕ) → Puts out end xs mid i → Going out₀ at all mid i ys
  going-part xs ys e mid i p =
      record {
        bound = puts_bound out end xs mid i p;
        goes = λ after z q. g.goes after z
            (puts_same out end (xs ++ ys) rest after z (sym e) (puts_append out mid after end i z xs ys p q));
      }

-- of a flag only whether it is zero is written
unfoldable pub flagged : Number → Number
flagged number.Absent = number.Absent
flagged (number.Present v) = number.Present (cond (eqb v 0) 0 1)

-- ---- the fields of a message
-- a row of the table that is one
abbrev pub IsMessageRow : List ℕ → ℕ → Type 0
IsMessageRow t i = (i < length t / 20) × (is_code 2 (record_from t (i * 20)) ≡ true)

-- the place of its singular field n
unfoldable pub slot_at : ℕ → Slots → Place
slot_at n t =
    cond (eqb n 1) t.first
    (cond (eqb n 2) t.second (cond (eqb n 3) t.third (cond (eqb n 5) t.fourth t.fifth)))

-- what is written of the field n, before the rows rs
unfoldable pub field_part : ℕ → List ℕ → Record → List Record → List ℕ
field_part n b r rs =
    cond (eqb n 4) (repeated (bytes_field 4) (topics_from b rs))
    (optional (bytes_field n) (bytes_at b r.start (slot_at n r.slots)))

-- ---- the walk over rows of one kind
-- the bytes of a row of the kind with that code, before the rows rs
unfoldable pub row_bytes : ℕ → List ℕ → Record → List Record → List ℕ
row_bytes c b r rs =
    cond (eqb c 1) (encode_sub_opts (sub_opts_of b r))
    (cond (eqb c 2) (encode_message (message_of b r rs))
    (cond (eqb c 8) (encode_graft (graft_of b r)) (encode_prune (prune_of b r rs))))

-- each of them as a field n
abbrev pub row_part : ℕ → ℕ → List ℕ → Record → List Record → List ℕ
row_part c n b r rs = cond (is_code c r) (bytes_field n (row_bytes c b r rs)) []

abbrev pub each_row : ℕ → ℕ → List ℕ → List Record → List ℕ
each_row c n b [] = []
each_row c n b (r ∷ rs) = row_part c n b r rs ++ each_row c n b rs

-- what a row adds to the topics of the message, and to the peers of the prune, before it
abbrev pub topic_part : List ℕ → Record → List ℕ
topic_part b r = cond (is_code 3 r) (bytes_field 4 (raw_of b r)) []

abbrev pub peer_part : List ℕ → Record → List ℕ
peer_part b r = cond (is_code 10 r) (bytes_field 2 (encode_peer_info (peer_of b r))) []

-- the kinds that are written so
pub data Written : ℕ → Type 0 where
  of-sub_opts : Written 1
  of-message : Written 2
  of-graft : Written 8
  of-prune : Written 9

-- a graft or a prune is there
abbrev pub has_row : List Record → Bool
has_row [] = false
has_row (r ∷ rs) = (is_code 8 r || is_code 9 r) || has_row rs

-- the control: grafts, then prunes; nothing where there are none
unfoldable pub control_bytes : List ℕ → List Record → List ℕ
control_bytes b rs = cond (has_row rs) (bytes_field 3 (each_row 8 3 b rs ++ each_row 9 4 b rs)) []

-- ---- the row of the message at an index, or how many there are
pub data FindsRow (t b : List ℕ) (index : ℕ) : Result ℕ Wrong → Type 0 where
  found : {i : ℕ} → i < length t / 20 → is_code 2 (record_from t (i * 20)) ≡ true
      → drop index (messages_in b (lent_rows t)) ≡ message_of b (record_from t (i * 20)) (rows_from t (i + 1)) ∷ messages_in b (rows_from t (i + 1))
      → FindsRow t b index (Ok i)
  missing : {n : ℕ} → length (messages_in b (lent_rows t)) ≡ n → n ≤ index → FindsRow t b index (Err (NoMessage n))
