-- What the C interface tells of a node is what the gateway has that the node and its stores are; and its settings are told of
-- every state that a call takes.
use Rattle.std.specs.Prelude.{Result, Ok, Err, ℕ, zero, suc, ◌^◌, ◌<◌, ◌≡◌, refl, Bool, true, false, cond, ◌↔◌, List, [], ◌∷◌, length, get_or, replicate, leb}
use Rattle.std.proofs.Common.{ap, ◌∙◌, arith}
use Rattle.std.proofs.lemmas.List.{length-replicate}
use Rattle.std.proofs.lemmas.List.Edits.{sets}
use borrow.Author.Tests.{le-leb, leb-true}
use Rattle.basis.specs.Cases.{both}
use Rattle.basis.specs.Lists.{zeros-below}
use Rattle.basis.specs.declared.Told.{Told}
use Rattle.basis.specs.Refusals.{bad_setting, malformed}
use Rattle.basis.specs.Told.{told, done, fault_told, fine_told}
use Rattle.admission.specs.Flags.{max_flags, known_flags}
use Rattle.seen.specs.State.{max_ids, fresh as noIds}
use Rattle.seen.specs.EntriesLaws.{length-entries}
use Rattle.mcache.specs.State.{legal, fresh, max_history, message_limit}
use Rattle.mcache.specs.StateLaws.{fine-tests as cache-tests}
use Rattle.mcache.specs.CachedLaws.{length-cached}
use Rattle.node.specs.declared.Node.{Node}
use Rattle.basis.specs.declared.Fault.TheVariants as fault
use Rattle.basis.specs.declared.Fault.{Fault}
use Rattle.node.specs.State.{gateway_in, legal_settings, fresh_node}
use Rattle.node.specs.StateLaws.{fine-tests}
use Rattle.node.specs.Calls.{lent_of, on_lent, start_answer}
use Rattle.stored.specs.Layout.{node_in, node_bytes, head_of, Fits}
use Rattle.stored.specs.LayoutLaws.{stored_loaded}
use Rattle.pradulins.specs.Holds.{is_settled, settings_told, flags_told, state_told}
use Rattle.pradulins.specs.Unique.{Starts, Settles}

-- ---- settings
-- a node that was started tells those that it was started with
settings-fresh : (ttl max_seen history max flags : ℕ) → legal_settings max_seen history max flags ≡ true
    → settings_told (fresh_node ttl max_seen history max flags) ≡ done (ttl ∷ max_seen ∷ history ∷ max ∷ [])
unfolding fresh_node fresh
settings-fresh ttl max_seen history max flags h = rw h

flags-fresh : (ttl max_seen history max flags : ℕ) → legal_settings max_seen history max flags ≡ true
    → flags_told (fresh_node ttl max_seen history max flags) ≡ flags ∷ []
unfolding fresh_node fresh
flags-fresh ttl max_seen history max flags h = rw h

-- the numbers of a fresh node fit its bytes
cons-small : (x : ℕ) (l : List ℕ) (m : ℕ) → x < m → ((i : ℕ) → get_or l i 0 < m) → (i : ℕ) → get_or (x ∷ l) i 0 < m
cons-small x l m h k zero = h
cons-small x l m h k (suc i) = k i

head_small : (a b c d m : ℕ) → a < m → b < m → c < m → d < m → (i : ℕ)
    → get_or (a ∷ b ∷ 0 ∷ 0 ∷ 0 ∷ c ∷ d ∷ 0 ∷ 0 ∷ 0 ∷ []) i 0 < m
head_small a b c d m h k l n =
    let z : 0 < m = omega arith in
    let max : List ℕ = d ∷ replicate 3 0 in
    let history : List ℕ = c ∷ max in
    let count : List ℕ = 0 ∷ history in
    let start : List ℕ = 0 ∷ count in
    let clock : List ℕ = 0 ∷ start in
    cons-small a (b ∷ clock) m h (cons-small b clock m k (cons-small 0 start m z (cons-small 0 count m z
    (cons-small 0 history m z (cons-small c max m l (cons-small d (replicate 3 0) m n (λ i. zeros-below 3 m i z)))))))

fresh-fits : (ttl max_seen history max flags : ℕ) → ttl < 2 ^ 64 → legal_settings max_seen history max flags ≡ true
    → Fits (fresh_node ttl max_seen history max flags)
unfolding legal_settings legal fresh_node noIds fresh head_of known_flags
fresh-fits ttl max_seen history max flags t h =
    let a = both (leb max_seen max_ids) _ h in
    let b = both (leb 1 history) _ a.1 in
    let c = both (leb history max_history) _ b.1 in
    let d = both (leb max message_limit) _ c.1 in
    record {
      head = head_small ttl max_seen history max (2 ^ 64) t (omega (arith, leb-true max_seen max_ids a.0))
          (omega (arith, leb-true history max_history c.0)) (omega (arith, leb-true max message_limit d.0));
      expiries = length-replicate {A = ℕ} max_ids 0;
      expiry = λ i. zeros-below max_ids (2 ^ 64) i (omega arith);
      id-lengths = length-replicate {A = ℕ} max_ids 0;
      generations = length-replicate {A = ℕ} message_limit 0;
      generation = λ i. zeros-below message_limit (2 ^ 64) i (omega arith);
      windows = length-replicate {A = ℕ} message_limit 0;
      lengths = length-replicate {A = ℕ} message_limit 0;
      message-length = λ i. zeros-below message_limit (2 ^ 16) i (omega arith);
      cached-id-lengths = length-replicate {A = ℕ} message_limit 0;
      cached_ids_lem = length-replicate {A = ℕ} 8192 0;
      topic-counts = length-replicate {A = ℕ} message_limit 0;
      topic-starts = length-replicate {A = ℕ} 256 0;
      topic-start = λ i. zeros-below 256 (2 ^ 16) i (omega arith);
      topic-lengths = length-replicate {A = ℕ} 256 0;
      topic-length = λ i. zeros-below 256 (2 ^ 16) i (omega arith);
      flags = omega (arith, leb-true flags max_flags d.1);
    }

taken_start : (b : Bool) → 0 ≡ (fine_told (cond b (Ok tt) (Err fault.BadSetting))).number → b ≡ true
taken_start true h = refl
taken_start false h = absurd (omega arith)

pub settings-started : {s made vs ws : List ℕ} {ttl max_seen history max flags r : ℕ} → ttl < 2 ^ 64
    → Starts s ttl max_seen history max flags 0 made → Settles made vs r ws
    → (r ≡ 0) × (ws ≡ sets vs 0 (ttl ∷ max_seen ∷ history ∷ max ∷ flags ∷ []))
unfolding start_answer
settings-started {s} {made} {vs} {ws} {ttl} {max_seen} {history} {max} {flags} t a b =
    let l = taken_start (legal_settings max_seen history max flags) a.number in
    let m : made ≡ node_bytes (fresh_node ttl max_seen history max flags) = rw l at a.node in
    let n : node_in made ≡ fresh_node ttl max_seen history max flags =
    ap node_in m ∙ stored_loaded (fresh_node ttl max_seen history max flags) (fresh-fits ttl max_seen history max flags t l) in
    let e : settings_told (node_in made) ≡ done (ttl ∷ max_seen ∷ history ∷ max ∷ []) =
    ap settings_told n ∙ settings-fresh ttl max_seen history max flags l in
    let f : flags_told (node_in made) ≡ flags ∷ [] = ap flags_told n ∙ flags-fresh ttl max_seen history max flags l in
    (b.number ∙ ap (λ (x : Told). x.number) e, b.values ∙ rw (e, f))

-- 42 comes exactly where a start would meet 40, and nothing else is refused
told-settings : (b : Bool) (x : Told) → x.number ≡ 0
    → ((cond b x (told malformed [])).number ≡ malformed)
    ↔ ((fine_told (cond b (Ok tt) (Err fault.BadSetting))).number ≡ bad_setting)
told-settings true x e = (λ h. absurd (omega arith), λ h. absurd (omega arith))
told-settings false x e = (λ h. refl, λ h. refl)

pub settings-exactly : (n : Node) → ((settings_told n).number ≡ malformed)
    ↔ ((fine_told (start_answer n.max_seen n.cache.history_len n.cache.max_messages n.cache.flags)).number ≡ bad_setting)
unfolding start_answer
settings-exactly n =
    told-settings (is_settled n)
    (done (n.ttl ∷ n.max_seen ∷ n.cache.history_len ∷ n.cache.max_messages ∷ [])) refl

-- ---- the state: 40, 41 and 42 come exactly where the lent node and its stores meet them
told-state : (l : Result (Unit {0}) Fault) (vs : List ℕ) → (on_lent fault_told l (done vs)).number ≡ (fine_told l).number
told-state (Ok tt) vs = refl
told-state (Err why) vs = refl

pub state-number : (n : Node) (ss cs : List ℕ) → (state_told n ss cs).number ≡ (fine_told (lent_of n ss cs)).number
state-number n ss cs = told-state (lent_of n ss cs) (n.clock ∷ n.seen.count ∷ n.cache.count ∷ [])

-- ---- what is told of a state that a call takes: its settings
module _ (n : Node) (ss cs : List ℕ) (fine : lent_of n ss cs ≡ Ok tt) where
  taken-legal : is_settled n ≡ true
  unfolding legal_settings legal
  taken-legal =
      let t = fine-tests n ss cs fine in
      let k = cache-tests n.cache cs t.messages in
      simp (
        le-leb n.max_seen max_ids t.few,
        le-leb 1 n.cache.history_len k.history_some,
        le-leb n.cache.history_len max_history k.history_few,
        le-leb n.cache.max_messages message_limit k.few,
        k.known,
      )

  pub settings_say : (settings_told n
      ≡ done ((gateway_in n ss cs).ttl
      ∷ (gateway_in n ss cs).max_seen
      ∷ (gateway_in n ss cs).history_len
      ∷ (gateway_in n ss cs).max_messages
      ∷ []))
      × (flags_told n ≡ (gateway_in n ss cs).flags ∷ [])
  unfolding gateway_in
  settings_say = (rw taken-legal, rw taken-legal)

  -- ---- and its clock and counts are those of the gateway that it is
  pub state-says : state_told n ss cs
      ≡ done ((gateway_in n ss cs).clock ∷ length (gateway_in n ss cs).seen ∷ length (gateway_in n ss cs).cache ∷ [])
  unfolding gateway_in
  state-says = rw (fine, length-entries n.max_seen n.seen ss, length-cached n.cache cs)
