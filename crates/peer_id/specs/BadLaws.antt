-- A varint is refused exactly where the scope's words refuse it, and for the same reason.
use Rattle.std.specs.Prelude.{Result, Ok, Err, ℕ, ◌+◌, ◌≤◌, ◌<◌, ◌≡◌, refl, List, [], ◌∷◌, ◌++◌, ◌≢◌, ◌↔◌, length}
use Rattle.std.proofs.Common.{sym, ap, subst, ◌∙◌, append_assoc, append-nil, arith, length-append}
use Rattle.basis.specs.Cases.{clash}
use Rattle.peer_id.specs.declared.VarintError.{VarintError}
use Rattle.peer_id.specs.declared.VarintError.TheVariants.{BufferTooShort, Overflow, NonCanonical}
use Rattle.peer_id.specs.declared.Group.{Group}
use Rattle.peer_id.specs.Uvarint.{group_of, read_from, read_uvarint, below, on_group}
use Rattle.peer_id.specs.Laws.{Says, more, last, says, is-more}
use Rattle.peer_id.specs.Laws.{large as says-large, padded as says-padded}
use Rattle.peer_id.specs.Bad.{Open, Bad, short, large, padded}

-- ---- from the reader: a front of open bytes was passed
below-refused : (b : ℕ) (r : Result (ℕ × ℕ) VarintError) (e : VarintError) → below b r ≡ Err e → r ≡ Err e
below-refused b (Ok (v, n)) e h = clash (cc)
below-refused b (Err w) e h = cc

one_more_lem : (f : List ℕ) (b : ℕ) → Open f → 128 ≤ b → Open (f ++ (b ∷ []))
one_more_lem [] b o h = (h, tt)
one_more_lem (c ∷ f) b o h = (o.0, one_more_lem f b o.1 h)

on_byte : (f s : List ℕ) (b : ℕ) (e : VarintError) (g : Result Group VarintError) → Open f → length f ≤ 9
    → Says (length f) b g → on_group g b (read_from (length f + 1) s) ≡ Err e
    → (length f ≢ 9 → 128 ≤ b → read_from (length f + 1) s ≡ Err e → Bad (f ++ (b ∷ s)) e) → Bad (f ++ (b ∷ s)) e
on_byte f s b e _ o l (more p q) h go = go p q (below-refused b (read_from (length f + 1) s) e h)
on_byte f s b e _ o l (last p q r) h go = clash (cc)
on_byte f s b e _ o l (says-large p q) h go = let w : Overflow ≡ e = cc in subst (Bad (f ++ (b ∷ s))) w (large f s o p q)
on_byte f s b e _ o l (says-padded p q) h go =
    let w : NonCanonical ≡ e = cc in
    let some : 1 ≤ length f = at_least (length f) q in
    subst (Bad (f ++ (b ∷ s))) w (subst (λ (c : ℕ). Bad (f ++ (c ∷ s)) NonCanonical) (sym p) (padded f s o some l))
  where
    at_least : (n : ℕ) → n ≢ 0 → 1 ≤ n
    at_least n z = omega arith

passed : (f s : List ℕ) (e : VarintError) → Open f → length f ≤ 9 → read_from (length f) s ≡ Err e → Bad (f ++ s) e
unfolding read_from
passed f [] e o l h =
    let w : BufferTooShort ≡ e = cc in
    subst (Bad (f ++ [])) w (subst (λ (g : List ℕ). Bad g BufferTooShort) (sym (append-nil f)) (short f o l))
passed f (b ∷ s) e o l h =
    on_byte f s b e (group_of (length f) b) o l (says (length f) b) h
    (λ n q r.
    let z : length (f ++ (b ∷ [])) ≡ length f + 1 = length-append f (b ∷ []) in
    subst (λ (g : List ℕ). Bad g e) (append_assoc f (b ∷ []) s)
    (passed (f ++ (b ∷ [])) s e (one_more_lem f b o q) (omega (arith, z, n)) (ap (λ (k : ℕ). read_from k s) z ∙ r)))

-- ---- and back: open bytes are passed
past : (f s : List ℕ) (k : ℕ) (e : VarintError) → Open f → k + length f ≤ 9 → read_from (k + length f) s ≡ Err e
    → read_from k (f ++ s) ≡ Err e
unfolding read_from
past [] s k e o l h = ap (λ (n : ℕ). read_from n s) (omega arith) ∙ h
past (b ∷ f) s k e o l h =
    let n : k ≢ 9 = λ z. omega arith in
    let r = past f s (k + 1) e o.1 (omega arith) (ap (λ (n : ℕ). read_from n s) (omega arith) ∙ h) in
    simp (is-more k b n o.0, r)

to-large : {k b : ℕ} {g : Result Group VarintError} → Says k b g → k ≡ 9 → 1 < b → g ≡ Err Overflow
to-large (more p q) n l = absurd (p n)
to-large (last p q r) n l = let m = q n in absurd (omega arith)
to-large (says-large p q) n l = refl
to-large (says-padded p q) n l = absurd (omega arith)

to-padded : {k b : ℕ} {g : Result Group VarintError} → Says k b g → b ≡ 0 → 1 ≤ k → g ≡ Err NonCanonical
to-padded (more p q) z l = absurd (omega arith)
to-padded (last p q r) z l = let m = r z in absurd (omega arith)
to-padded (says-large p q) z l = absurd (omega arith)
to-padded (says-padded p q) z l = refl

is_bad_lem : {s : List ℕ} {e : VarintError} → Bad s e → read_uvarint s ≡ Err e
unfolding read_uvarint read_from
is_bad_lem (short s o l) = ap (read_from 0) (sym (append-nil s)) ∙ past s [] 0 BufferTooShort o (omega arith) refl
is_bad_lem (large s rest {b} o n l) =
    past s (b ∷ rest) 0 Overflow o (omega arith)
    (ap (λ (g : Result Group VarintError). on_group g b (read_from (0 + length s + 1) rest))
    (to-large (says (0 + length s) b) (omega arith) l))
is_bad_lem (padded s rest o p l) =
    past s (0 ∷ rest) 0 NonCanonical o (omega arith)
    (ap (λ (g : Result Group VarintError). on_group g 0 (read_from (0 + length s + 1) rest))
    (to-padded (says (0 + length s) 0) refl (omega arith)))

-- a varint is refused, and why, exactly where the scope says so
pub bad-exactly : (s : List ℕ) (e : VarintError) → (read_uvarint s ≡ Err e) ↔ Bad s e
unfolding read_uvarint
bad-exactly s e = (λ h. passed [] s e tt (omega arith) h, is_bad_lem)
