-- What the pieces of a line make together.
use Prim.Native.Nat.{ℕ, ◌+◌, ◌-◌, ◌≤◌, ◌<◌}
use mathlib.Core.Path.{◌≡◌, refl, sym, ◌∙◌}
use mathlib.Core.List.{List, [], ◌∷◌, ◌++◌}
use mathlib.Core.Logic.{◌≢◌}
use mathlib.Core.Bool.{Bool, true, false}
use native.Mathlib.Omega.{arith}
use lib.ListN.{length, take, drop, length-drop, length-take, drop_of_length-le}
use lib.Seq.{take_all}
use lib.Dec.{leb, ltb}
use borrow.Author.Tests.{ltb-true, ltb-false, lt-ltb, le-ltb, le-leb, lt-leb, ne_eqb}
use Rattle.std.specs.Prelude.{Result, Ok, Err, Option}
use Rattle.basis.specs.Cases.{either}
use Rattle.basis.specs.Little.{little}
use Rattle.basis.specs.declared.Mode.{Mode}
use Rattle.basis.specs.declared.Mode.TheVariants.{Plain}
use Rattle.basis.specs.declared.Dialect.{Dialect}
use Rattle.basis.specs.Dialect.{dialect_of}
use Rattle.basis.specs.declared.Told.{Told}
use Rattle.text.specs.Line.{Puts, decimal, number, hex}
use Rattle.text.specs.Laws.{puts_then, puts_as}
use Rattle.peer_id.specs.Uvarint.{read_uvarint}
use Rattle.peer_id.specs.declared.PeerId.{PeerId}
use Rattle.peer_id.specs.PeerId.{from_bytes}
use Rattle.key.specs.declared.PublicKeyError.{PublicKeyError}
use Rattle.key.specs.declared.PublicKey.{PublicKey}
use Rattle.peer_id.specs.declared.VarintError.{VarintError}
use Rattle.protobuf.specs.declared.Refusal.{Refusal}
use Rattle.protobuf.specs.declared.Walked.{Walked}
use Rattle.key.specs.Key.{code_of}
use Rattle.key.specs.Told.{key_told}
use Rattle.key.specs.Decode.{decode_protobuf}
use Rattle.utf8.specs.Utf8.{is_utf8}
use Rattle.protobuf.specs.Field.{walk_step}
use Rattle.lines.specs.Lines.{Wrote, refusal}
use Rattle.lines.specs.Laws.{wrote_as, puts_wrote}
use Rattle.inspect.specs.Records.{bytes_text}
use Rattle.inspect.specs.Senders.{key_text, peer_id_text, key_answer, peer_answer}
use Rattle.inspect.specs.Answers.{walk, varint, walk_answer, spoken_answer, varint_answer, utf8_answer, answer_to, closed, line_of}

-- ---- an answer
pub walk-short : (mode : Mode) (s : List ℕ) → length s < 8 → [] ≡ walk_answer mode s
unfolding walk_answer
walk-short mode s h = simp (lt-ltb _ _ h)

pub walk_answer_lem : (mode : Mode) (s : List ℕ) (at : ℕ) (w : Result (Option Walked) Refusal) → 8 ≤ length s → at ≡ little (take 8 (drop 0 s)) → w ≡ walk_step mode (take (length s - 8) (drop 8 s)) at
    → (32 ∷ 119 ∷ 97 ∷ 108 ∷ 107 ∷ []) ++ walk w ≡ walk_answer mode s
unfolding walk_answer
walk_answer_lem mode s at w h p e =
    let f : take (length s - 8) (drop 8 s) ≡ drop 8 s = take_all (length s - 8) (drop 8 s) (rw (length-drop 8 s) (omega arith)) in
    simp (le-ltb _ _ h, e, f, p)

-- of a dialect: its place is cut, its number is none, or its mode is the walk's
pub spoken-short : (s : List ℕ) → length s < 9 → [] ≡ spoken_answer s
unfolding spoken_answer
spoken-short s h =
    either (ltb 3 (little (take 1 s)))
    (λ e. rw e)
    (λ e. rw e (walk-short (dialect_of (little (take 1 s))).mode (drop 1 s) (rw (length-drop 1 s) (omega arith))))

pub spoken_high : (s : List ℕ) (n : ℕ) → n ≡ little (take 1 (drop 0 s)) → 3 < n → [] ≡ spoken_answer s
unfolding spoken_answer
spoken_high s n p h = simp (← p, lt-ltb _ _ h)

spoken-low : (s : List ℕ) (n : ℕ) → n ≡ little (take 1 (drop 0 s)) → n ≤ 3 → walk_answer (dialect_of n).mode (drop 1 s) ≡ spoken_answer s
unfolding spoken_answer
spoken-low s n p h = simp (← p, le-ltb _ _ h)

pub spoken_answer_lem : (s : List ℕ) (n : ℕ) (d : Dialect) → n ≡ little (take 1 (drop 0 s)) → n ≤ 3 → d ≡ dialect_of n
    → walk_answer d.mode (take (length s - 1) (drop 1 s)) ≡ spoken_answer s
spoken_answer_lem s n d p h e =
    let f : take (length s - 1) (drop 1 s) ≡ drop 1 s = take_all (length s - 1) (drop 1 s) (rw (length-drop 1 s) (omega arith)) in
    rw (e, f) (spoken-low s n p h)

pub varint_answer_lem : (s : List ℕ) (v : Result (ℕ × ℕ) VarintError) → v ≡ read_uvarint s → (32 ∷ 118 ∷ 97 ∷ 114 ∷ 105 ∷ 110 ∷ 116 ∷ []) ++ varint v ≡ varint_answer s
unfolding varint_answer
varint_answer_lem s v e = rw e

pub utf8_yes : (s : List ℕ) → is_utf8 s ≡ true → 32 ∷ 117 ∷ 116 ∷ 102 ∷ 56 ∷ 32 ∷ 121 ∷ 101 ∷ 115 ∷ [] ≡ utf8_answer s
unfolding utf8_answer
utf8_yes s e = rw e

pub utf8_no : (s : List ℕ) → is_utf8 s ≡ false → 32 ∷ 117 ∷ 116 ∷ 102 ∷ 56 ∷ 32 ∷ 110 ∷ 111 ∷ [] ≡ utf8_answer s
unfolding utf8_answer
utf8_no s e = rw e

pub key_answer_lem : (s : List ℕ) (k : Result PublicKey PublicKeyError) → k ≡ decode_protobuf s → (32 ∷ 107 ∷ 101 ∷ 121 ∷ []) ++ key_text s k ≡ key_answer s
unfolding key_answer
key_answer_lem s k e = rw e

pub peer_answer_lem : (s : List ℕ) (p : Option PeerId) → p ≡ from_bytes s → (32 ∷ 112 ∷ 101 ∷ 101 ∷ 114 ∷ []) ++ peer_id_text s p ≡ peer_answer s
unfolding peer_answer
peer_answer_lem s p e = rw e

pub key-there : (s : List ℕ) (k : Result PublicKey PublicKeyError) (key : PublicKey) (code : ℕ) → k ≡ Ok key
    → code ≡ code_of key.key_type → number code ++ bytes_text (drop key.start s) ≡ key_text s k
unfolding key_text
key-there s k key code e f = rw (e, f)

pub key-refused : (s : List ℕ) (k : Result PublicKey PublicKeyError) (why : PublicKeyError) (t : Told) → k ≡ Err why → t ≡ key_told k → refusal t ≡ key_text s k
unfolding key_text
key-refused s k why t e f = rw (f, e)

-- the bytes from a place on
pub rest-none : (s : List ℕ) (start : ℕ) → length s ≤ start → 32 ∷ 61 ∷ [] ≡ bytes_text (drop start s)
unfolding bytes_text hex
rest-none s start h = rw (drop_of_length-le s h)

pub rest_some : (s : List ℕ) (start : ℕ) → bytes_text (take (length s - start) (drop start s)) ≡ bytes_text (drop start s)
rest_some s start = rw (take_all (length s - start) (drop start s) (rw (length-drop start s) (omega arith)))

-- ---- a kind
pub kind_walk : (kind : ℕ) (s : List ℕ) → kind ≡ 5 → walk_answer Plain s ≡ answer_to kind s
unfolding answer_to
kind_walk kind s e = rw e

pub kind_varint : (kind : ℕ) (s : List ℕ) → kind ≡ 6 → varint_answer s ≡ answer_to kind s
unfolding answer_to
kind_varint kind s e = rw e

pub kind_utf8 : (kind : ℕ) (s : List ℕ) → kind ≡ 7 → utf8_answer s ≡ answer_to kind s
unfolding answer_to
kind_utf8 kind s e = rw e

pub kind_key : (kind : ℕ) (s : List ℕ) → kind ≡ 8 → key_answer s ≡ answer_to kind s
unfolding answer_to
kind_key kind s e = rw e

pub kind_peer : (kind : ℕ) (s : List ℕ) → kind ≡ 9 → peer_answer s ≡ answer_to kind s
unfolding answer_to
kind_peer kind s e = rw e

pub kind_spoken : (kind : ℕ) (s : List ℕ) → kind ≡ 25 → spoken_answer s ≡ answer_to kind s
unfolding answer_to
kind_spoken kind s e = rw e

pub kind_unknown : (kind : ℕ) (s : List ℕ) → kind ≢ 5 → kind ≢ 6 → kind ≢ 7 → kind ≢ 8 → kind ≢ 9 → kind ≢ 25 → [] ≡ answer_to kind s
unfolding answer_to
kind_unknown kind s a b c d e f = simp (ne_eqb _ _ a, ne_eqb _ _ b, ne_eqb _ _ c, ne_eqb _ _ d, ne_eqb _ _ e, ne_eqb _ _ f)

-- ---- whether there is an answer
walk-some : (mode : Mode) (s : List ℕ) → 8 ≤ length s → 0 < length (walk_answer mode s)
unfolding walk_answer
walk-some mode s h = simp (le-ltb _ _ h) (omega arith)

walk-there : (mode : Mode) (s : List ℕ) → leb 8 (length s) ≡ ltb 0 (length (walk_answer mode s))
walk-there mode s =
    either (ltb (length s) 8)
    (λ e. let h = ltb-true (length s) 8 e in lt-leb 8 (length s) h ∙ rw (← walk-short mode s h))
    (λ e. let h = ltb-false (length s) 8 e in le-leb 8 (length s) h ∙ sym (lt-ltb 0 (length (walk_answer mode s)) (walk-some mode s h)))

pub has-walk : (kind : ℕ) (s : List ℕ) → kind ≡ 5 → leb 8 (length s) ≡ ltb 0 (length (answer_to kind s))
has-walk kind s e = rw (← kind_walk kind s e) (walk-there Plain s)

pub spoken-none : (s : List ℕ) → length s < 9 → false ≡ ltb 0 (length (spoken_answer s))
spoken-none s h = rw (← spoken-short s h)

pub spoken-there : (s : List ℕ) (n : ℕ) → n ≡ little (take 1 (drop 0 s)) → 9 ≤ length s → leb n 3 ≡ ltb 0 (length (spoken_answer s))
spoken-there s n p l =
    either (ltb 3 n)
    (λ e. let h = ltb-true 3 n e in lt-leb n 3 h ∙ rw (← spoken_high s n p h))
    (λ e. let h = ltb-false 3 n e in
    let some = walk-some (dialect_of n).mode (drop 1 s) (rw (length-drop 1 s) (omega arith)) in
    le-leb n 3 h ∙ sym (lt-ltb 0 (length (spoken_answer s)) (rw (← spoken-low s n p h) some)))

pub has-spoken : (kind : ℕ) (s : List ℕ) {r : Bool} → kind ≡ 25 → r ≡ ltb 0 (length (spoken_answer s)) → r ≡ ltb 0 (length (answer_to kind s))
has-spoken kind s e p = rw (← kind_spoken kind s e) p

pub has-varint : (kind : ℕ) (s : List ℕ) → kind ≡ 6 → true ≡ ltb 0 (length (answer_to kind s))
unfolding varint_answer
has-varint kind s e = rw (← kind_varint kind s e) (sym (lt-ltb 0 (length (varint_answer s)) (omega arith)))

pub has_utf8 : (kind : ℕ) (s : List ℕ) → kind ≡ 7 → true ≡ ltb 0 (length (answer_to kind s))
unfolding utf8_answer
has_utf8 kind s e = rw (← kind_utf8 kind s e) (sym (lt-ltb 0 (length (utf8_answer s)) (omega arith)))

pub has_key : (kind : ℕ) (s : List ℕ) → kind ≡ 8 → true ≡ ltb 0 (length (answer_to kind s))
unfolding key_answer
has_key kind s e = rw (← kind_key kind s e) (sym (lt-ltb 0 (length (key_answer s)) (omega arith)))

pub has-peer : (kind : ℕ) (s : List ℕ) → kind ≡ 9 → true ≡ ltb 0 (length (answer_to kind s))
unfolding peer_answer
has-peer kind s e = rw (← kind_peer kind s e) (sym (lt-ltb 0 (length (peer_answer s)) (omega arith)))

pub has-none : (kind : ℕ) (s : List ℕ) → kind ≢ 5 → kind ≢ 6 → kind ≢ 7 → kind ≢ 8 → kind ≢ 9 → kind ≢ 25 → false ≡ ltb 0 (length (answer_to kind s))
has-none kind s a b c d e f = rw (← kind_unknown kind s a b c d e f)

-- ---- a line
closed_some : (n : ℕ) (xs : List ℕ) → 0 < length xs → decimal n ++ (xs ++ (10 ∷ [])) ≡ closed n xs
unfolding closed
closed_some n [] h = absurd (omega arith)
closed_some n (x ∷ xs) h = refl

pub line_put : (n kind : ℕ) (s : List ℕ) {p q o i j r : ℕ} {b m a z : List ℕ} → 0 < length (answer_to kind s)
    → Puts p (decimal n) b 0 m i → Puts q (answer_to kind s) m i a j → Puts o (10 ∷ []) a j z r → p + (q + o) ≤ 131328
    → 131328 ≤ length b → Wrote 131328 (line_of n kind s) b 0 z r
unfolding line_of
line_put n kind s k f g e h l =
    wrote_as (closed_some n (answer_to kind s) k) (puts_wrote l (puts_as refl h (puts_then f (puts_then g e))))

-- a part of a slice is no longer
pub front-small : (k m : ℕ) (l : List ℕ) → k ≤ m → length (take k l) ≤ m
front-small k m l h = rw (length-take k l) (omega arith)
