-- The message at an index of a body is that message of the RPC that the body means; and where there is none, the number
-- of messages is told.
use Rattle.std.specs.Prelude.{Ok, Err, ℕ, zero, suc, ◌+◌, ◌≤◌, ◌<◌, ◌≡◌, refl, Bool, cond, List, [], ◌∷◌, length, eqb}
use Rattle.std.proofs.Common.{sym, ap, ap₂, subst, ◌∙◌, arith, eqb-true}
use Rattle.std.proofs.lemmas.Bool.{eqb-false}
use Rattle.basis.specs.declared.Mode.{Mode}
use Rattle.basis.specs.declared.Dialect.{Dialect}
use Rattle.basis.specs.Cases.{either, clash, of-ok-two}
use Rattle.protobuf.specs.declared.Field.{Field}
use Rattle.protobuf.specs.Grammar.{Entry}
use Rattle.protobuf.specs.Walk.{whole, between, entries_of, is_bytes, value_in}
use Rattle.protobuf.specs.Exactly.{body_walks}
use Rattle.rpc.specs.Rpc.{RawMessage, Rpc}
use Rattle.rpc.specs.Grammar.{bytes_in, Pairs, no_pairs, ◌paired◌, IsMessage, is-message, IsRpc, is-rpc}
use Rattle.meaning.specs.Entries.{put_bytes_lem}
use Rattle.ids.specs.Ids.{message_along, message_at}

-- x is the element i of a list
pub data Nth {A : Type 0} : ℕ → List A → A → Type 0 where
  here : {x : A} {xs : List A} → Nth 0 (x ∷ xs) x
  there : {i : ℕ} {x y : A} {xs : List A} → Nth i xs y → Nth (suc i) (x ∷ xs) y

pub nth_bound : {A : Type 0} {i : ℕ} {xs : List A} {x : A} → Nth i xs x → i < length xs
nth_bound here = omega arith
nth_bound (there n) = let l = nth_bound n in omega arith

pub nth_same : {A : Type 0} {i : ℕ} {xs : List A} {x y : A} → Nth i xs x → Nth i xs y → x ≡ y
nth_same here here = refl
nth_same (there n) (there m) = nth_same n m

-- a message's bytes are those that mean it
pub raw-is : (mode : Mode) {p : List ℕ} {m : RawMessage} → IsMessage mode p m → m.raw ≡ p
raw-is mode (is-message g u) = refl

-- with n messages passed, the message k further on is the element k of those that are left
list_at : (s : List ℕ) (fs : List Field) (i n k a e : ℕ) → i ≡ n + k → message_along i n (whole fs) ≡ Ok (a, e)
    → Nth k (bytes_in 2 (entries_of s fs)) (between s a e)
list_at s [] i n k a e q h = clash (cc)
list_at s (f ∷ fs) i n k a e q h =
    let ds = bytes_in 2 (entries_of s fs) in
    let pb = put_bytes_lem s 2 f ds in
    either (is_bytes 2 f)
    (λ t. subst (λ (l : List (List ℕ)). Nth k l (between s a e))
    (sym (pb ∙ ap (λ (x : Bool). cond x (value_in s f ∷ ds) ds) t))
    (either (eqb n i)
    (λ u. let g = of-ok-two (simp (t, u) at h) in
    let z = eqb-true n i u in
    subst (λ (j : ℕ). Nth j (value_in s f ∷ ds) (between s a e)) (omega arith)
    (subst (λ (d : List ℕ). Nth 0 (value_in s f ∷ ds) d) (ap₂ (between s) g.0 g.1) here))
    (λ u. let g = simp (t, u) at h in
    let z = eqb-false n i u in
    step k (λ j r. list_at s fs i (n + 1) j a e r g) q z)))
    (λ t. subst (λ (l : List (List ℕ)). Nth k l (between s a e))
    (sym (pb ∙ ap (λ (x : Bool). cond x (value_in s f ∷ ds) ds) t)) (list_at s fs i n k a e q (simp t at h)))
  where
    step : (k : ℕ) → ((j : ℕ) → i ≡ n + 1 + j → Nth j (bytes_in 2 (entries_of s fs)) (between s a e)) → i ≡ n + k
        → (n ≡ i → ⊥) → Nth k (value_in s f ∷ bytes_in 2 (entries_of s fs)) (between s a e)
    step zero r q z = absurd (z (omega arith))
    step (suc j) r q z = there (r j (omega arith))

-- and where there is none, all are counted
list_count : (s : List ℕ) (fs : List Field) (i n m : ℕ) → n ≤ i → message_along i n (whole fs) ≡ Err m
    → (m ≡ n + length (bytes_in 2 (entries_of s fs))) × (m ≤ i)
list_count s [] i n m l h = let e : n ≡ m = cc in omega arith
list_count s (f ∷ fs) i n m l h =
    let ds = bytes_in 2 (entries_of s fs) in
    let pb = put_bytes_lem s 2 f ds in
    either (is_bytes 2 f)
    (λ t. let g = ap length (pb ∙ ap (λ (x : Bool). cond x (value_in s f ∷ ds) ds) t) in
    either (eqb n i) (λ u. clash (let k = simp (t, u) at h in cc))
    (λ u. let z = eqb-false n i u in let r = list_count s fs i (n + 1) m (lt_of n i l z) (simp (t, u) at h) in
    omega (arith, g)))
    (λ t. let g = ap length (pb ∙ ap (λ (x : Bool). cond x (value_in s f ∷ ds) ds) t) in let r = list_count s fs i n m l
    (simp t at h) in omega (arith, g))
  where
    lt_of : (n i : ℕ) → n ≤ i → (n ≡ i → ⊥) → n + 1 ≤ i
    lt_of n i l z = omega arith

-- ---- in the RPC
pairs_nth : (mode : Mode) {ds : List (List ℕ)} {ms : List RawMessage} {i : ℕ} {d : List ℕ}
    → Pairs (IsMessage mode) ds ms → Nth i ds d
    → (m : RawMessage) × (Nth i ms m) × (IsMessage mode d m)
pairs_nth mode no_pairs n = elim n [ ]
pairs_nth mode (◌paired◌ {y = m} p ps) here = (m, here, p)
pairs_nth mode (p paired ps) (there n) = let r = pairs_nth mode ps n in (r.0, there r.1, r.2)

pairs-length : (mode : Mode) {ds : List (List ℕ)} {ms : List RawMessage} → Pairs (IsMessage mode) ds ms
    → length ds ≡ length ms
pairs-length mode no_pairs = refl
pairs-length mode (p paired ps) = ap suc (pairs-length mode ps)

-- the message that is found is that of the RPC
pub message-found : {d : Dialect} {s : List ℕ} {x : Rpc} (i a e : ℕ) → IsRpc d s x → message_at d.mode s i ≡ Ok (a, e)
    → (m : RawMessage) × (Nth i x.publish m) × (IsMessage d.mode (between s a e) m)
unfolding message_at
message-found {d} i a e (is-rpc {s = s} {es = es} g h1 h2 h3) q =
    let w = body_walks d.mode s es g in
    let n = list_at s w.fields i 0 i a e (omega arith) (ap (message_along i 0) (sym w.walked) ∙ q) in
    pairs_nth d.mode h2 (subst (λ (l : List Entry). Nth i (bytes_in 2 l) (between s a e)) w.entries n)

-- where none is found, the RPC has no message at the index, and its messages are counted
pub message-missing : {d : Dialect} {s : List ℕ} {x : Rpc} (i n : ℕ) → IsRpc d s x → message_at d.mode s i ≡ Err n
    → (n ≡ length x.publish) × (length x.publish ≤ i)
unfolding message_at
message-missing {d} i n (is-rpc {s = s} {es = es} g h1 h2 h3) q =
    let w = body_walks d.mode s es g in
    let c = list_count s w.fields i 0 n (omega arith) (ap (message_along i 0) (sym w.walked) ∙ q) in
    let k = ap (λ (l : List Entry). length (bytes_in 2 l)) w.entries in
    let l = pairs-length d.mode h2 in
    omega (arith, c.0, c.1, k, l)
