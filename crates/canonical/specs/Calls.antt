-- What the calls that write tell and leave, by the scope's numbers and the values beside them, said of the RPC that the
-- body means and of nothing else, one exact theorem for each call. A body is refused by 10, by 1 to 7, by 14 to 16
-- where groups are passed over, or by 11, and nothing is changed; or it means an RPC within capacity. Then `encode`
-- writes that RPC, `sign_bytes` what is signed of its message i, `message_id` and `seen_message_id` that message's id;
-- 20 where there is no message i; 12 where there is no room.
use Rattle.std.specs.Prelude.{Option, Some, Result, Ok, Err, ℕ, ◌-◌, ◌≤◌, ◌<◌, ◌≡◌, refl, ◌||◌, List, [], ◌∷◌, ◌++◌}
use Rattle.std.specs.Prelude.{◌↔◌, length, ltb, leb, eqb}
use Rattle.std.proofs.Common.{sym, ap, ap₂, subst, ◌∙◌, arith, zero-add, leb-true, leb-false, le-leb}
use Rattle.std.proofs.Math.ListN.{drop}
use Rattle.std.proofs.lemmas.Bool.{lt-leb}
use Rattle.basis.specs.declared.Mode.{Mode}
use Rattle.basis.specs.declared.Dialect.{Dialect}
use Rattle.basis.specs.Cases.{either}
use Rattle.basis.specs.Bytes.{Bytes}
use Rattle.basis.specs.Lists.{answer-fits, answer-short}
use Rattle.basis.specs.Writing.{answer, written, no_room}
use Rattle.basis.specs.declared.Told.{Told}
use Rattle.basis.specs.Refusals.{no-message, missing-from, invalid_from, invalid_seqno, short-room}
use Rattle.basis.specs.Told.{told, done}
use Rattle.protobuf.specs.declared.Refusal.{Refusal as Placed}
use Rattle.protobuf.specs.Told.{refusal_told, encoded_told}
use Rattle.protobuf.specs.Encode.{of_written}
use Rattle.protobuf.specs.Walk.{between}
use Rattle.protobuf.specs.WalkLaws.{between-length}
use Rattle.protobuf.specs.Exactly.{body_walks}
use Rattle.schema.specs.declared.Kind.TheVariants as kind
use Rattle.schema.specs.declared.Place.{Place}
use Rattle.schema.specs.declared.Place.TheVariants as place
use Rattle.basis.specs.declared.ShortRoom.{ShortRoom}
use Rattle.ids.specs.declared.IdError.TheVariants as noid
use Rattle.ids.specs.declared.IdError.{IdError}
use Rattle.schema.specs.Accept.{accept_of}
use Rattle.schema.specs.Slots.{slots_of}
use Rattle.schema.specs.SlotsLaws.{PlaceInside}
use Rattle.schema.proofs.SlotsLaws.{slots_inside}
use Rattle.rpc.specs.Rpc.{RawMessage, Rpc}
use Rattle.rpc.specs.Grammar.{IsMessage, is-message, IsRpc}
use Rattle.rpc.specs.Encode.{encode_rpc, sign_bytes}
use Rattle.rpc.specs.Id.{Id, no-from, bad-from, bad-seqno, id, with_seqno, with_from, message_id}
use Rattle.meaning.specs.ReadBack.{bytes_at}
use Rattle.meaning.specs.Back.{message-from, message-seqno, slot_value, whole_part}
use Rattle.meaning.specs.Decoded.{Within, Refusal, Gated, refusal_gated, gated_bound, refusal-within}
use Rattle.ids.specs.Told.{message_told}
use Rattle.ids.specs.Ids.{message_at, on_seqno, on_from, id_parts, of_written as message, answer_id, left_id, answer_at, left_at}
use Rattle.ids.specs.Ids.{answer_checked, left_checked, id_answer, id_left}
use Rattle.encode.specs.Encode.{encode_checked, encode_answer, encoded_checked, encode_left}
use Rattle.encode.specs.Sign.{sign_at, sign_checked, sign_answer, signed_at, signed_checked, sign_left}
use Rattle.canon.specs.Canon.{canon_body}
use Rattle.canon.proofs.Taken.{taken, taken-exactly, refused-exactly}
use Rattle.canon.proofs.Written.{canon-written, sign_written}
use Rattle.canon.specs.Messages.{Nth, nth_bound, nth_same, message-found, message-missing}

-- ---- what the scope has the calls tell and leave
-- a writer of the bytes xs: their number, and they stand at the front of what was lent; or 12, the room needed, and
-- nothing changes
pub data Writes (xs out : List ℕ) : Told → List ℕ → Type 0 where
  fits : length xs ≤ length out → Writes xs out (done (length xs ∷ [])) (xs ++ drop (length xs) out)
  short : length out < length xs → Writes xs out (told short-room (length xs ∷ [])) out

-- a call that is given a body: the body is refused, and nothing changes; or it means an RPC within capacity, and the
-- rule R says the rest
pub data Given (d : Dialect) (s out : List ℕ) (R : Rpc → Told → List ℕ → Type 0) : Told → List ℕ → Type 0 where
  refuses : {a : Told} → Refusal d s a → Given d s out R a out
  takes : {x : Rpc} {a : Told} {left : List ℕ} → Within d s x → R x a left → Given d s out R a left

-- of message i of these: 20, how many there are, and nothing changes; or the rule R says the rest
pub data OfMessage (i : ℕ) (ms : List RawMessage) (out : List ℕ) (R : RawMessage → Told → List ℕ → Type 0)
    : Told → List ℕ → Type 0 where
  no_such : length ms ≤ i → OfMessage i ms out R (told no-message (length ms ∷ [])) out
  such : {m : RawMessage} {a : Told} {left : List ℕ} → Nth i ms m → R m a left → OfMessage i ms out R a left

-- an id, after what stands before it: 21, 22 or 23, and nothing changes; or its bytes
pub data WritesId (pre out : List ℕ) : Id → Told → List ℕ → Type 0 where
  from-missing : WritesId pre out no-from (told missing-from []) out
  from_invalid : {n : ℕ} → WritesId pre out (bad-from n) (told invalid_from (n ∷ [])) out
  seqno_invalid : WritesId pre out bad-seqno (told invalid_seqno []) out
  writes-id : {bs : List ℕ} {a : Told} {left : List ℕ} → Writes (pre ++ bs) out a left → WritesId pre out (id bs) a left

-- encode
abbrev pub Encodes : Dialect → List ℕ → List ℕ → Told → List ℕ → Type 0
Encodes d s out = Given d s out (λ x. Writes (encode_rpc x) out)

-- sign_bytes, of message i
abbrev pub Signs : Dialect → List ℕ → ℕ → List ℕ → Told → List ℕ → Type 0
Signs d s i out = Given d s out (λ x. OfMessage i x.publish out (λ m. Writes (sign_bytes m) out))

-- message_id and seen_message_id, of message i, with what stands before the id
abbrev pub Identifies : List ℕ → Dialect → List ℕ → ℕ → List ℕ → Told → List ℕ → Type 0
Identifies pre d s i out = Given d s out (λ x. OfMessage i x.publish out (λ m. WritesId pre out (message_id m)))

-- ---- a writer
module _ (tell : Result ℕ ShortRoom → Told) (tell-bytes : (n : ℕ) → tell (Ok n) ≡ done (n ∷ []))
    (tell-room : (n : ℕ) → tell (Err (no_room n)) ≡ told short-room (n ∷ [])) (xs out : List ℕ) where
  pub writes : Writes xs out (tell (answer xs out)) (written xs out)
  unfolding answer written
  writes =
      either (leb (length xs) (length out))
      (λ t. simp t (subst (λ (a : Told). Writes xs out a (xs ++ drop (length xs) out)) (sym (tell-bytes (length xs)))
      (fits (leb-true _ _ t))))
      (λ t. simp t (subst (λ (a : Told). Writes xs out a out) (sym (tell-room (length xs))) (short (leb-false _ _ t))))

  writes-only : {a : Told} {left : List ℕ} → Writes xs out a left → (tell (answer xs out) ≡ a) × (written xs out ≡ left)
  unfolding written
  writes-only (fits h) = (ap tell (answer-fits xs out h) ∙ tell-bytes (length xs), simp (le-leb _ _ h))
  writes-only (short h) = (ap tell (answer-short xs out h) ∙ tell-room (length xs), simp (lt-leb _ _ h))

-- ---- a call that is given a body, by what it tells and leaves for each outcome of the one test
module _ (d : Dialect) (s out : List ℕ) (b : Bytes s) (R : Rpc → Told → List ℕ → Type 0) (tell : Result (Unit {0}) Placed → Told)
    (left : Result (Unit {0}) Placed → List ℕ) (tell-wrong : (why : Placed) → tell (Err why) ≡ refusal_told why)
    (left-wrong : (why : Placed) → left (Err why) ≡ out)
    (fine : (x : Rpc) → Within d s x → R x (tell (Ok tt)) (left (Ok tt))) where
  given : (c : Result (Unit {0}) Placed) → accept_of d s ≡ c → Given d s out R (tell c) (left c)
  given (Err why) e =
      subst (λ (a : Told). Given d s out R a (left (Err why))) (sym (tell-wrong why))
      (subst (λ (l : List ℕ). Given d s out R (refusal_told why) l) (sym (left-wrong why))
      (refuses ((refused-exactly d s (refusal_told why) b).0 (why, e, refl))))
  given (Ok tt) e = let w = (taken-exactly d s b).0 e in takes w.1 (fine w.0 w.1)

  -- it is 0, 12 or more exactly where the body means an RPC within capacity
  given-takes : ((x : Rpc) (a : Told) (l : List ℕ) → R x a l → Gated d.mode a.number → ⊥)
      → (Gated d.mode (tell (accept_of d s)).number → ⊥) ↔ ((x : Rpc) × Within d s x)
  given-takes other = (λ h. forth h (given (accept_of d s) refl), λ w g. back w.1 g (given (accept_of d s) refl))
    where
      forth : {a : Told} {l : List ℕ} → (Gated d.mode a.number → ⊥) → Given d s out R a l
          → (x : Rpc) × Within d s x
      forth h (refuses r) = absurd (h (refusal_gated r))
      forth h (takes {x} w r) = (x, w)

      back : {x : Rpc} {a : Told} {l : List ℕ} → Within d s x → Gated d.mode a.number → Given d s out R a l → ⊥
      back w g (refuses r) = refusal-within r w
      back {a = a} {l = l} w g (takes {x} v r) = other x a l r g

  given-exactly : ((x : Rpc) (a : Told) (l : List ℕ) → Within d s x → R x a l → (tell (Ok tt) ≡ a) × (left (Ok tt) ≡ l))
      → (a : Told) (l : List ℕ) → ((tell (accept_of d s) ≡ a) × (left (accept_of d s) ≡ l)) ↔ Given d s out R a l
  given-exactly only a l = (
    λ p. subst (λ (z : Told). Given d s out R z l) p.0
        (subst (λ (z : List ℕ). Given d s out R (tell (accept_of d s)) z) p.1 (given (accept_of d s) refl)),
    back,
  )
    where
      back : {a : Told} {l : List ℕ} → Given d s out R a l → (tell (accept_of d s) ≡ a) × (left (accept_of d s) ≡ l)
      back {a} (refuses r) =
          let g = (refused-exactly d s a b).1 r in
          (ap tell g.1 ∙ tell-wrong g.0 ∙ g.2, ap left g.1 ∙ left-wrong g.0)
      back {a} {l} (takes {x} w r) = let f = only x a l w r in (ap tell (taken w) ∙ f.0, ap left (taken w) ∙ f.1)

-- ---- encode
encode_fine : {d : Dialect} {s : List ℕ} {x : Rpc} (out : List ℕ) → Within d s x
    → Writes (encode_rpc x) out (encoded_told (of_written (answer (canon_body d s) out))) (written (canon_body d s) out)
encode_fine {d} {s} {x} out w =
    subst (λ (bs : List ℕ). Writes (encode_rpc x) out (encoded_told (of_written (answer bs out))) (written bs out))
    (sym (canon-written w.means))
    (writes (λ z. encoded_told (of_written z)) (λ n. refl) (λ n. refl) (encode_rpc x) out)

encode_only : {d : Dialect} {s : List ℕ} {x : Rpc} {a : Told} {l : List ℕ} (out : List ℕ) → Within d s x
    → Writes (encode_rpc x) out a l
    → (encoded_told (of_written (answer (canon_body d s) out)) ≡ a) × (written (canon_body d s) out ≡ l)
encode_only {d} {s} {x} {a} {l} out w r =
    subst (λ (bs : List ℕ). (encoded_told (of_written (answer bs out)) ≡ a) × (written bs out ≡ l))
    (sym (canon-written w.means))
    (writes-only (λ z. encoded_told (of_written z)) (λ n. refl) (λ n. refl) (encode_rpc x) out r)

writes_other : {mode : Mode} {xs out : List ℕ} {a : Told} {l : List ℕ} → Writes xs out a l
    → Gated mode a.number → ⊥
writes_other (fits h) g = let z = gated_bound g in omega (arith, z.0)
writes_other (short h) g = let z = gated_bound g in omega (arith, z.1)

-- encode tells a and leaves l exactly where the scope has it do so
pub encode_exactly : (d : Dialect) (s out : List ℕ) (a : Told) (l : List ℕ) → Bytes s
    → ((encoded_told (encode_answer d s out) ≡ a) × (encode_left d s out ≡ l)) ↔ Encodes d s out a l
unfolding encode_answer encode_left
encode_exactly d s out a l b =
    given-exactly d s out b (λ x. Writes (encode_rpc x) out) (λ c. encoded_told (encode_checked d s out c))
    (encoded_checked d s out) (λ why. refl) (λ why. refl) (λ x. encode_fine out) (λ x z k. encode_only out) a l

-- it tells none of these refusals exactly where the body means an RPC within capacity
pub encode_takes : (d : Dialect) (s out : List ℕ) → Bytes s
    → (Gated d.mode (encoded_told (encode_answer d s out)).number → ⊥)
    ↔ ((x : Rpc) × Within d s x)
unfolding encode_answer
encode_takes d s out b =
    given-takes d s out b (λ x. Writes (encode_rpc x) out) (λ c. encoded_told (encode_checked d s out c))
    (encoded_checked d s out) (λ why. refl) (λ why. refl) (λ x. encode_fine out)
    (λ x z k. writes_other)

-- ---- the message at an index
-- where message i of the RPC stands in the body
pub found_in : {d : Dialect} {s : List ℕ} {x : Rpc} {m : RawMessage} (i : ℕ) (r : Result (ℕ × ℕ) ℕ) → IsRpc d s x
    → Nth i x.publish m → message_at d.mode s i ≡ r
    → (a : ℕ) × (e : ℕ) × (message_at d.mode s i ≡ Ok (a, e)) × (IsMessage d.mode (between s a e) m)
found_in {d} {s} i (Ok (a, e)) g n q =
    let f = message-found i a e g q in
    (a, e, q, subst (λ (y : RawMessage). IsMessage d.mode (between s a e) y) (nth_same f.1 n) f.2)
found_in i (Err k) g n q = let l = message-missing i k g q in let b = nth_bound n in absurd (omega arith)

pub none_in : {d : Dialect} {s : List ℕ} {x : Rpc} (i : ℕ) (r : Result (ℕ × ℕ) ℕ) → IsRpc d s x
    → length x.publish ≤ i → message_at d.mode s i ≡ r → message_at d.mode s i ≡ Err (length x.publish)
none_in i (Ok (a, e)) g l q = let f = message-found i a e g q in let b = nth_bound f.1 in absurd (omega arith)
none_in i (Err k) g l q = let m = message-missing i k g q in q ∙ ap Err m.0

-- by what is told and left for each outcome of the search for message i
module _ {d : Dialect} {s : List ℕ} {x : Rpc} (w : Within d s x) (i : ℕ) (out : List ℕ)
    (R : RawMessage → Told → List ℕ → Type 0) (tell : Result (ℕ × ℕ) ℕ → Told) (left : Result (ℕ × ℕ) ℕ → List ℕ)
    (tell_None : (n : ℕ) → tell (Err n) ≡ told no-message (n ∷ [])) (left-none : (n : ℕ) → left (Err n) ≡ out) where
  of-message : ((a e : ℕ) (m : RawMessage) → IsMessage d.mode (between s a e) m
      → R m (tell (Ok (a, e))) (left (Ok (a, e))))
      → (r : Result (ℕ × ℕ) ℕ) → message_at d.mode s i ≡ r → OfMessage i x.publish out R (tell r) (left r)
  of-message fine (Ok (a, e)) q = let f = message-found i a e w.means q in such f.1 (fine a e f.0 f.2)
  of-message fine (Err n) q =
      let m = message-missing i n w.means q in
      subst (λ (z : Told). OfMessage i x.publish out R z (left (Err n)))
      (sym (tell_None n ∙ ap (λ (k : ℕ). told no-message (k ∷ [])) m.0))
      (subst (λ (l : List ℕ). OfMessage i x.publish out R (told no-message (length x.publish ∷ [])) l)
      (sym (left-none n)) (no_such m.1))

  of-message-only : {z : Told} {l : List ℕ}
      → ((a e : ℕ) (m : RawMessage) → IsMessage d.mode (between s a e) m → R m z l
      → (tell (Ok (a, e)) ≡ z) × (left (Ok (a, e)) ≡ l)) → OfMessage i x.publish out R z l
      → (tell (message_at d.mode s i) ≡ z) × (left (message_at d.mode s i) ≡ l)
  of-message-only only (no_such h) =
      let f = none_in i (message_at d.mode s i) w.means h refl in
      (ap tell f ∙ tell_None (length x.publish), ap left f ∙ left-none (length x.publish))
  of-message-only only (such {m} n r) =
      let f = found_in i (message_at d.mode s i) w.means n refl in
      let g = only f.0 f.1 m f.3 r in
      (ap tell f.2 ∙ g.0, ap left f.2 ∙ g.1)

-- ---- sign_bytes
module _ {d : Dialect} {s : List ℕ} {x : Rpc} (i : ℕ) (out : List ℕ) (w : Within d s x) where
  sign_fine : OfMessage i x.publish out (λ m. Writes (sign_bytes m) out)
      (message_told (sign_at d.mode s out (message_at d.mode s i)))
      (signed_at d.mode s out (message_at d.mode s i))
  sign_fine =
      of-message w i out (λ m. Writes (sign_bytes m) out) (λ r. message_told (sign_at d.mode s out r))
      (signed_at d.mode s out) (λ n. refl) (λ n. refl)
      (λ a e m g. subst (λ (bs : List ℕ). Writes (sign_bytes m) out (message_told (message (answer bs out)))
      (written bs out)) (sym (sign_written d.mode g))
      (writes (λ z. message_told (message z)) (λ n. refl) (λ n. refl) (sign_bytes m) out)) (message_at d.mode s i) refl

  sign_only : {t : Told} {l : List ℕ} → OfMessage i x.publish out (λ m. Writes (sign_bytes m) out) t l
      → (message_told (sign_at d.mode s out (message_at d.mode s i)) ≡ t)
      × (signed_at d.mode s out (message_at d.mode s i) ≡ l)
  sign_only {t} {l} =
      of-message-only w i out (λ m. Writes (sign_bytes m) out) (λ r. message_told (sign_at d.mode s out r))
      (signed_at d.mode s out) (λ n. refl) (λ n. refl)
      (λ a e m g r. subst (λ (bs : List ℕ). (message_told (message (answer bs out)) ≡ t) × (written bs out ≡ l))
      (sym (sign_written d.mode g))
      (writes-only (λ z. message_told (message z)) (λ n. refl) (λ n. refl) (sign_bytes m) out r))

of-message_other : {mode : Mode} {i : ℕ} {ms : List RawMessage} {out : List ℕ}
    {R : RawMessage → Told → List ℕ → Type 0} {a : Told} {l : List ℕ}
    → ((m : RawMessage) (z : Told) (k : List ℕ) → R m z k → Gated mode z.number → ⊥)
    → OfMessage i ms out R a l → Gated mode a.number → ⊥
of-message_other other (no_such h) g = let z = gated_bound g in omega (arith, z.1)
of-message_other {a = a} {l = l} other (such {m} n r) g = other m a l r g

-- sign_bytes tells a and leaves l exactly where the scope has it do so
pub sign_exactly : (d : Dialect) (s : List ℕ) (i : ℕ) (out : List ℕ) (a : Told) (l : List ℕ) → Bytes s
    → ((message_told (sign_answer d s i out) ≡ a) × (sign_left d s i out ≡ l)) ↔ Signs d s i out a l
unfolding sign_answer sign_left
sign_exactly d s i out a l b =
    given-exactly d s out b (λ x. OfMessage i x.publish out (λ m. Writes (sign_bytes m) out))
    (λ c. message_told (sign_checked d.mode s i out c)) (signed_checked d.mode s i out) (λ why. refl) (λ why. refl)
    (λ x. sign_fine i out) (λ x z k w q. sign_only i out w q) a l

pub sign_takes : (d : Dialect) (s : List ℕ) (i : ℕ) (out : List ℕ) → Bytes s
    → (Gated d.mode (message_told (sign_answer d s i out)).number → ⊥) ↔ ((x : Rpc) × Within d s x)
unfolding sign_answer
sign_takes d s i out b =
    given-takes d s out b (λ x. OfMessage i x.publish out (λ m. Writes (sign_bytes m) out))
    (λ c. message_told (sign_checked d.mode s i out c)) (signed_checked d.mode s i out) (λ why. refl) (λ why. refl)
    (λ x. sign_fine i out) (λ x z k. of-message_other (λ m y j. writes_other))

-- ---- message_id and seen_message_id, with what stands before the id
abbrev to_id : List ℕ → Result ((ℕ × ℕ) × (ℕ × ℕ)) IdError → Id
to_id p (Err noid.MissingFrom) = no-from
to_id p (Err (noid.InvalidFrom n)) = bad-from n
to_id p (Err noid.InvalidSeqno) = bad-seqno
to_id p (Ok ((a, e), (b, f))) = id (between p a e ++ between p b f)

id-gives : (pre p out : List ℕ) (r : Result ((ℕ × ℕ) × (ℕ × ℕ)) IdError)
    → WritesId pre out (to_id p r) (message_told (answer_id pre p out r)) (left_id pre p out r)
id-gives pre p out (Err noid.MissingFrom) = from-missing
id-gives pre p out (Err (noid.InvalidFrom n)) = from_invalid
id-gives pre p out (Err noid.InvalidSeqno) = seqno_invalid
id-gives pre p out (Ok ((a, e), (b, f))) =
    writes-id (writes (λ z. message_told (message z)) (λ n. refl) (λ n. refl)
    (pre ++ (between p a e ++ between p b f)) out)

id-only : (pre p out : List ℕ) (r : Result ((ℕ × ℕ) × (ℕ × ℕ)) IdError) {t : Told} {l : List ℕ} → WritesId pre out (to_id p r) t l
    → (message_told (answer_id pre p out r) ≡ t) × (left_id pre p out r ≡ l)
id-only pre p out (Err noid.MissingFrom) from-missing = (refl, refl)
id-only pre p out (Err (noid.InvalidFrom n)) from_invalid = (refl, refl)
id-only pre p out (Err noid.InvalidSeqno) seqno_invalid = (refl, refl)
id-only pre p out (Ok ((a, e), (b, f))) (writes-id r) =
    writes-only (λ z. message_told (message z)) (λ n. refl) (λ n. refl) (pre ++ (between p a e ++ between p b f)) out r

bytes-there : (p : List ℕ) (a e : ℕ) → bytes_at p 0 (place.Present a e) ≡ Some (between p a e)
bytes-there p a e = ap₂ (λ (x y : ℕ). Some (between p x y)) (zero-add a) (zero-add e)

seqno-same : (p : List ℕ) (a e : ℕ) (q : Place) → PlaceInside p q
    → to_id p (on_seqno a e q) ≡ with_seqno (between p a e) (bytes_at p 0 q)
seqno-same p a e place.Absent h = refl
seqno-same p a e (place.Present b f) h =
    let l = between-length p b f (h b f refl).1 in
    (either (eqb (f - b) 0 || ltb 64 (f - b)) (λ t. rw l (simp t)) (λ t. rw l (simp t)))
    ∙ ap (with_seqno (between p a e)) (sym (bytes-there p b f))

from-same : (p : List ℕ) (f q : Place) → PlaceInside p f → PlaceInside p q
    → to_id p (on_from f q) ≡ with_from (bytes_at p 0 f) (bytes_at p 0 q)
from-same p place.Absent q h k = refl
from-same p (place.Present a e) q h k =
    let l = between-length p a e (h a e refl).1 in
    (either (eqb (e - a) 0 || ltb 64 (e - a)) (λ t. rw l (simp t)) (λ t. rw l (simp t (seqno-same p a e q k))))
    ∙ ap (λ (o : Option (List ℕ)). with_from o (bytes_at p 0 q)) (sym (bytes-there p a e))

-- the places of from and seqno hold the id of the message that the bytes mean
id_same : (mode : Mode) {p : List ℕ} {m : RawMessage} → IsMessage mode p m → to_id p (id_parts mode p) ≡ message_id m
unfolding id_parts message_id
id_same mode (is-message {s = p} {es = es} g u) =
    let w = body_walks mode p es g in
    let i = slots_inside mode kind.RawMessage p in
    from-same p (slots_of mode kind.RawMessage p).first (slots_of mode kind.RawMessage p).third i.first i.third
    ∙ ap₂ with_from
    (slot_value mode p 0 p kind.RawMessage (λ t. t.first) 1 w.fields es (whole_part p) message-from w.walked
    w.entries refl)
    (slot_value mode p 0 p kind.RawMessage (λ t. t.third) 3 w.fields es (whole_part p) message-seqno w.walked
    w.entries refl)

-- by the places of from and seqno
pub id-named : (mode : Mode) {p : List ℕ} {m : RawMessage} (a e b f : ℕ) → IsMessage mode p m
    → id_parts mode p ≡ Ok ((a, e), (b, f))
    → message_id m ≡ id (between p a e ++ between p b f)
id-named mode {p} a e b f i q = sym (id_same mode i) ∙ ap (to_id p) q

module _ {d : Dialect} {s : List ℕ} {x : Rpc} (pre : List ℕ) (i : ℕ) (out : List ℕ) (w : Within d s x) where
  id-fine : OfMessage i x.publish out (λ m. WritesId pre out (message_id m))
      (message_told (answer_at d.mode pre s out (message_at d.mode s i)))
      (left_at d.mode pre s out (message_at d.mode s i))
  id-fine =
      of-message w i out (λ m. WritesId pre out (message_id m)) (λ r. message_told (answer_at d.mode pre s out r))
      (left_at d.mode pre s out) (λ n. refl) (λ n. refl)
      (λ a e m g. subst (λ (n : Id). WritesId pre out n
      (message_told (answer_id pre (between s a e) out (id_parts d.mode (between s a e))))
      (left_id pre (between s a e) out (id_parts d.mode (between s a e)))) (id_same d.mode g)
      (id-gives pre (between s a e) out (id_parts d.mode (between s a e)))) (message_at d.mode s i) refl

  id-told : {t : Told} {l : List ℕ} → OfMessage i x.publish out (λ m. WritesId pre out (message_id m)) t l
      → (message_told (answer_at d.mode pre s out (message_at d.mode s i)) ≡ t)
      × (left_at d.mode pre s out (message_at d.mode s i) ≡ l)
  id-told {t} {l} =
      of-message-only w i out (λ m. WritesId pre out (message_id m)) (λ r. message_told (answer_at d.mode pre s out r))
      (left_at d.mode pre s out) (λ n. refl) (λ n. refl)
      (λ a e m g r. id-only pre (between s a e) out (id_parts d.mode (between s a e))
      (subst (λ (n : Id). WritesId pre out n t l) (sym (id_same d.mode g)) r))

id_other : {mode : Mode} {pre out : List ℕ} {n : Id} {a : Told} {l : List ℕ} → WritesId pre out n a l
    → Gated mode a.number → ⊥
id_other from-missing g = let z = gated_bound g in omega (arith, z.1)
id_other from_invalid g = let z = gated_bound g in omega (arith, z.1)
id_other seqno_invalid g = let z = gated_bound g in omega (arith, z.1)
id_other (writes-id r) g = writes_other r g

-- message_id and seen_message_id tell a and leave l exactly where the scope has them do so
pub id-exactly : (pre : List ℕ) (d : Dialect) (s : List ℕ) (i : ℕ) (out : List ℕ) (a : Told) (l : List ℕ) → Bytes s
    → ((message_told (id_answer pre d s i out) ≡ a) × (id_left pre d s i out ≡ l)) ↔ Identifies pre d s i out a l
unfolding id_answer id_left
id-exactly pre d s i out a l b =
    given-exactly d s out b (λ x. OfMessage i x.publish out (λ m. WritesId pre out (message_id m)))
    (λ c. message_told (answer_checked d.mode pre s i out c)) (left_checked d.mode pre s i out)
    (λ why. refl) (λ why. refl)
    (λ x. id-fine pre i out) (λ x z k w q. id-told pre i out w q) a l

pub id-takes : (pre : List ℕ) (d : Dialect) (s : List ℕ) (i : ℕ) (out : List ℕ) → Bytes s
    → (Gated d.mode (message_told (id_answer pre d s i out)).number → ⊥) ↔ ((x : Rpc) × Within d s x)
unfolding id_answer
id-takes pre d s i out b =
    given-takes d s out b (λ x. OfMessage i x.publish out (λ m. WritesId pre out (message_id m)))
    (λ c. message_told (answer_checked d.mode pre s i out c)) (left_checked d.mode pre s i out)
    (λ why. refl) (λ why. refl)
    (λ x. id-fine pre i out) (λ x z k. of-message_other (λ m y j. id_other))
