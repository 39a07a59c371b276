-- A call's number and values, from those of the answer that it tells.
use Prim.Native.Nat.{ℕ, zero, suc}
use mathlib.Core.Path.{◌≡◌, refl, sym, ap, ◌∙◌}
use mathlib.Core.Bool.{Bool, true, false, cond}
use mathlib.Core.List.{List, [], ◌∷◌}
use native.Mathlib.Omega.{arith}
use lib.ListN.{take, set}
use lib.Seq.{sets}
use Rattle.std.specs.Prelude.{Result, Ok, Err, Option, Some, None}
use Rattle.basis.specs.declared.Spot.{Spot}
use Rattle.basis.specs.declared.Told.{Told}
use Rattle.basis.specs.Cases.{either, clash}
use Rattle.basis.specs.Refusals.{malformed}
use Rattle.basis.specs.Told.{values_of, told, done, fault_told, fine_told}
use Rattle.node.specs.declared.Node.{Node}
use Rattle.basis.specs.declared.Fault.TheVariants as fault
use Rattle.basis.specs.declared.Fault.{Fault}
use Rattle.node.specs.Calls.{start_answer, start_node}
use Rattle.node.specs.State.{legal_settings, fresh_node}
use Rattle.stored.specs.Layout.{node_bytes, node_in}
use Rattle.pradulins.specs.Handed.{spot_words, handed}
use Rattle.pradulins.specs.Holds.{is_settled, settings_told, flags_told}
use Rattle.pradulins.specs.Unique.{Starts, Settles}

-- ---- the first n of four values, stored one after the other
module _ (n a b d e : ℕ) (vs : List ℕ) where
  pub one-stored : n ≡ 1 → set vs 0 a ≡ sets vs 0 (take n (a ∷ b ∷ d ∷ e ∷ []))
  one-stored h = rw h

  pub two-stored : n ≡ 2 → set (set vs 0 a) 1 b ≡ sets vs 0 (take n (a ∷ b ∷ d ∷ e ∷ []))
  two-stored h = rw h

  pub three-stored : n ≡ 3 → set (set (set vs 0 a) 1 b) 2 d ≡ sets vs 0 (take n (a ∷ b ∷ d ∷ e ∷ []))
  three-stored h = rw h

pub all-stored : (n a b d e : ℕ) (vs : List ℕ) → (n ≡ 0 → ⊥) → (n ≡ 1 → ⊥) → (n ≡ 2 → ⊥) → (n ≡ 3 → ⊥) → set (set (set (set vs 0 a) 1 b) 2 d) 3 e ≡ sets vs 0 (take n (a ∷ b ∷ d ∷ e ∷ []))
all-stored zero a b d e vs h k l m = absurd (h refl)
all-stored (suc zero) a b d e vs h k l m = absurd (k refl)
all-stored (suc (suc zero)) a b d e vs h k l m = absurd (l refl)
all-stored (suc (suc (suc zero))) a b d e vs h k l m = absurd (m refl)
all-stored (suc (suc (suc (suc zero)))) a b d e vs h k l m = refl
all-stored (suc (suc (suc (suc (suc n))))) a b d e vs h k l m = refl

-- ---- a place
module _ (spot : Option Spot) (vs : List ℕ) where
  pub nowhere-stored : spot ≡ None → vs ≡ sets vs 4 (spot_words spot)
  nowhere-stored e = rw e

  pub spot-stored : (s : Spot) → spot ≡ Some s
      → set (set (set (set vs 4 s.offset) 5 s.outer) 6 s.middle) 7 s.inner ≡ sets vs 4 (spot_words spot)
  spot-stored s e = rw e

-- ---- both
pub told-both : (t : Told) (vs : List ℕ) {ws xs : List ℕ} → ws ≡ sets vs 0 (values_of t) → xs ≡ sets ws 4 (spot_words t.spot) → xs ≡ handed t vs
told-both t vs e f = f ∙ ap (λ (l : List ℕ). sets l 4 (spot_words t.spot)) e

-- ---- what is told of the answer a, which is b; vs are the values before
pub told_as : {A : Type 0} (told : A → Told) (vs : List ℕ) {a b : A} {t : Told} {r : ℕ} {ws : List ℕ} → b ≡ a → t ≡ told b → (r ≡ t.number) × (ws ≡ handed t vs)
    → (r ≡ (told a).number) × (ws ≡ handed (told a) vs)
told_as told vs {a} {b} {t} e q h =
    let s : t ≡ told a = q ∙ ap told e in
    (h.0 ∙ ap (λ (x : Told). x.number) s, h.1 ∙ ap (λ (x : Told). handed x vs) s)

-- ---- a start, by whether its settings are legal
abbrev start_of : Bool → Result (Unit {0}) Fault
start_of legal = cond legal (Ok tt) (Err fault.BadSetting)

module _ {A : Type 0} (legal : Bool) (x y : A) where
  on_started : Ok tt ≡ start_of legal → cond legal x y ≡ x
  on_started h = either legal (λ e. rw e) (λ e. let z = rw e at h in clash (cc))

  on_bad : {why : Fault} → Err why ≡ start_of legal → cond legal x y ≡ y
  on_bad h = either legal (λ e. let z = rw e at h in clash (cc)) (λ e. rw e)

module _ (t m h k f : ℕ) (old : List ℕ) where
  pub start-refused : {why : Fault} {r : Told} → Err why ≡ start_answer m h k f → r ≡ fault_told why
      → Starts old t m h k f r.number old
  unfolding start_answer
  start-refused e q =
      record {
        number = ap (λ (x : Told). x.number) (q ∙ ap fine_told e);
        node = sym (on_bad (legal_settings m h k f) (node_bytes (fresh_node t m h k f)) old e);
      }

  pub start-made : {n : Node} {bytes : List ℕ} → Ok tt ≡ start_answer m h k f → n ≡ start_node t m h k f
      → bytes ≡ node_bytes n → Starts old t m h k f 0 bytes
  unfolding start_answer start_node
  start-made e p w =
      let legal = legal_settings m h k f in
      let new = fresh_node t m h k f in
      record {
        number = ap (λ (s : Result (Unit {0}) Fault). (fine_told s).number) e;
        node = w ∙ ap node_bytes (p ∙ on_started legal new (fresh_node 0 0 1 0 0) e)
            ∙ sym (on_started legal (node_bytes new) old e);
      }

-- ---- what a node holds
module _ (n : Node) {r : Told} where
  pub settings-legal : Ok tt ≡ start_answer n.max_seen n.cache.history_len n.cache.max_messages n.cache.flags
      → r ≡ told 0 (n.ttl ∷ n.max_seen ∷ n.cache.history_len ∷ n.cache.max_messages ∷ []) → r ≡ settings_told n
  unfolding start_answer
  settings-legal h q =
      q ∙ sym (on_started (is_settled n) (done (n.ttl ∷ n.max_seen ∷ n.cache.history_len ∷ n.cache.max_messages ∷ []))
      (told malformed []) h)

  pub settings-bad : {why : Fault} → Err why ≡ start_answer n.max_seen n.cache.history_len n.cache.max_messages n.cache.flags
      → r ≡ told malformed [] → r ≡ settings_told n
  unfolding start_answer
  settings-bad h q =
      q ∙ sym (on_bad (is_settled n) (done (n.ttl ∷ n.max_seen ∷ n.cache.history_len ∷ n.cache.max_messages ∷ []))
      (told malformed []) h)

-- ---- the flags, behind the four other settings
told-flags : (b : Bool) (vs : List ℕ) (x : ℕ) → (cond b (done vs) (told malformed [])).number ≡ 0 → cond b (x ∷ []) [] ≡ x ∷ []
told-flags true vs x h = refl
told-flags false vs x h = absurd (omega arith)

kept-flags : (b : Bool) (vs : List ℕ) (x : ℕ) → ((cond b (done vs) (told malformed [])).number ≡ 0 → ⊥) → cond b (x ∷ []) [] ≡ []
kept-flags true vs x h = absurd (h refl)
kept-flags false vs x h = refl

module _ (s vs : List ℕ) {r : ℕ} {ws : List ℕ} (h : (r ≡ (settings_told (node_in s)).number) × (ws ≡ handed (settings_told (node_in s)) vs)) where
  pub flags-stored : (m : Node) → m ≡ node_in s → r ≡ 0 → Settles s vs 0 (set ws 4 m.cache.flags)
  flags-stored m e z =
      let n = node_in s in
      let f : flags_told n ≡ n.cache.flags ∷ [] =
      told-flags (is_settled n) (n.ttl ∷ n.max_seen ∷ n.cache.history_len ∷ n.cache.max_messages ∷ []) n.cache.flags (sym h.0 ∙ z) in
      record { number = sym z ∙ h.0; values = rw (e, h.1, f) }

  pub flags-refused : (r ≡ 0 → ⊥) → Settles s vs r ws
  flags-refused z =
      let n = node_in s in
      let f : flags_told n ≡ [] =
      kept-flags (is_settled n) (n.ttl ∷ n.max_seen ∷ n.cache.history_len ∷ n.cache.max_messages ∷ []) n.cache.flags (λ e. z (h.0 ∙ e)) in
      record { number = h.0; values = rw (h.1, f) }
