-- Identical bytes: once neither gateway lacks anything of a topic, both advertise it in the same bytes.
use Rattle.std.specs.Prelude.{ℕ, ◌≤◌, ◌≡◌, refl, true, not, ◌&&◌, length}
use Rattle.std.proofs.Common.{sym, subst, ◌∙◌, ⊎_elim}
use Rattle.std.proofs.Math.Path.{ap}
use Rattle.std.proofs.Math.Bool.{or-true}
use mathlib.Core.List.Memᴰ
use mathlib.Core.List.{List, [], ◌∷◌, Memᴰ}
use Rattle.basis.specs.declared.Mode.{Mode}
use Rattle.basis.specs.Dialect.{mode_of}
use Rattle.basis.specs.Cases.{either, clash}
use Rattle.rows.specs.Ids.{same_bytes, among}
use Rattle.rows.specs.IdsLaws.{same_self, same_equal}
use Rattle.admission.specs.Admission.{topics_of}
use Rattle.admission.specs.AdmissionLaws.{one-id}
use Rattle.seen.specs.Entries.{Entry}
use Rattle.mcache.specs.Messages.{Cached, topics, gossip_ids}
use Rattle.mcache.specs.GossipLaws.{in_among}
use Rattle.node.specs.Gateway.{Gateway, knows, advertisement}
use Rattle.node.specs.Calls.{told_in, bytes_for, advertise_bytes, max_rpc_size}
use Rattle.node.specs.Laws.{told-gateway}
use Rattle.history.specs.History.{State, gateway_of, Settings, Call, after_all}
use Rattle.agreement.specs.Premises.{MessageSet, Alike, Premises}
use Rattle.agreement.specs.Round.{missing, lacked}
use Rattle.agreement.specs.Rows.{Rows, none, row, rows_under, rows-known}
use Rattle.agreement.specs.Holding.{Holding}
use Rattle.agreement.proofs.Holding.{set-alike, holding-all}
use Rattle.agreement.specs.Sorted.{Carried, told-carried}
use Rattle.agreement.proofs.Lacking.{fine, all-recent}
use Rattle.agreement.proofs.Played.{advertise-done, advertise-is}
use Rattle.agreement.specs.Identical.{Kept, Entered, Identical}

-- ---- the rows, by message and by entry
pub rows-kept : {flags least most : ℕ} {ms : List (List ℕ)} {es : List Entry} {cs : List Cached} (c : Cached)
    → Rows flags least most ms es cs → Memᴰ c cs → Kept flags c ms
unfolding among
rows-kept c none d = absurd (Memᴰ.not-nil d)
rows-kept c (row {m} {c = k} {ms} x rs) d =
    ⊎_elim
    (λ (e : c ≡ k). rw e (record { was_got = rw x.message (simp (same_self m)); own = rw x.message x.own }))
    (λ r. let q = rows-kept c rs r in
    record { was_got = rw q.was_got (or-true (same_bytes m c.message)); own = q.own })
    (Memᴰ.cases_cons d)

pub rows-entry : {flags least most : ℕ} {ms : List (List ℕ)} {es : List Entry} {cs : List Cached} (m : List ℕ)
    → Rows flags least most ms es cs → among m ms ≡ true → Entered flags m cs
unfolding among
rows-entry m none h = clash (cc)
rows-entry m (row {m = k} {c} {ms} x rs) h =
    either (same_bytes k m)
    (λ t.
    let e = same_equal k m t in
    record { entry = c; there = Memᴰ.head refl; message = x.message ∙ e; own = rw (← e) x.own })
    (λ t.
    let r = rows-entry m rs (simp t at h) in
    record { entry = r.entry; there = Memᴰ.tail r.there; message = r.message; own = r.own })

-- ---- where nothing is missing, what carries the topic is held
pub none-missing : (mode : Mode) (topic : List ℕ) (g : Gateway) (cs : List Cached) (c : Cached)
    → missing mode topic g cs ≡ []
    → Memᴰ c cs → Memᴰ topic (topics mode c) → knows g c.id ≡ true
unfolding missing
none-missing mode topic g [] c e d t = absurd (Memᴰ.not-nil d)
none-missing mode topic g (k ∷ cs) c e d t =
    either (among topic (topics mode k) && not (knows g k.id))
    (λ u. clash (let z = simp u at e in cc))
    (λ u.
    ⊎_elim
    (λ (q : c ≡ k).
    let w : among topic (topics mode k) ≡ true = rw (← q) (in_among topic (topics mode c) t) in
    rw q (either (knows g k.id) (λ v. v) (λ v. clash (let z = simp (w, v) at u in cc))))
    (λ r. none-missing mode topic g cs c (simp u at e) r t)
    (Memᴰ.cases_cons d))

module _ {flags : ℕ} {set : List (List ℕ)} (ms : MessageSet flags set) where
  -- what one gateway carries the other carries too, where it lacks nothing
  carried_over : {x y : Settings} {firstA pastA leftA firstB pastB left_b : ℕ} {rsA rsB : List ℕ}
      {gotA gotB : List (List ℕ)} {a b : State}
      → Holding set x firstA pastA rsA leftA gotA a → Holding set y firstB pastB rsB left_b gotB b
      → x.flags ≡ flags → y.flags ≡ flags → (topic i : List ℕ) → lacked topic b a ≡ []
      → Carried (mode_of flags) i topic (gateway_of a).cache → Carried (mode_of flags) i topic (gateway_of b).cache
  carried_over {gotA} {gotB} {a} {b} ha hb ea eb topic i z c =
      let k = rows-kept c.entry (rows_under ea ha.held.rows) c.cached in
      let inside = ha.held.from-set c.entry.message k.was_got in
      let n = subst (λ (f : ℕ). missing (mode_of f) topic (gateway_of b) (gateway_of a).cache ≡ []) (ha.held.flags ∙ ea)
      z in
      let s = none-missing (mode_of flags) topic (gateway_of b) (gateway_of a).cache c.entry n c.cached
      c.carries in
      let g : among c.entry.message gotB ≡ true =
      sym (rows-known ms c.entry.message c.entry.id inside k.own (gateway_of b) (hb.held.flags ∙ eb)
      hb.held.from-set (rows_under eb hb.held.rows))
      ∙ s in
      let r = rows-entry c.entry.message (rows_under eb hb.held.rows) g in
      record {
        entry = r.entry;
        cached = r.there;
        named = one-id flags c.entry.message r.entry.id c.entry.id r.own k.own ∙ c.named;
        carries = subst (λ (m : List ℕ). Memᴰ topic (topics_of (mode_of flags) m)) (sym r.message) c.carries;
      }

  -- ---- two gateways that lack nothing of each other
  module _ {x y : Settings} {firstA pastA leftA firstB pastB left_b : ℕ} {rsA rsB : List ℕ} {gotA gotB : List (List ℕ)}
      {a b : State}
      (ha : Holding set x firstA pastA rsA leftA gotA a) (hb : Holding set y firstB pastB rsB left_b gotB b)
      (ea : x.flags ≡ flags) (eb : y.flags ≡ flags) (topic : List ℕ) (windows windows2 : ℕ)
      (wide : x.history_len ≤ windows) (wide2 : y.history_len ≤ windows2) (done-a : lacked topic a b ≡ [])
      (done-b : lacked topic b a ≡ []) where
    same-told : told_in a.node a.messages topic windows ≡ told_in b.node b.messages topic windows2
    same-told =
        told-gateway a.node a.ids a.messages topic windows (fine ha topic windows wide)
        ∙ ap (λ (f : ℕ). gossip_ids (mode_of f) topic windows (gateway_of a).cache) (ha.held.flags ∙ ea)
        ∙ told-carried (mode_of flags) topic windows windows2 (gateway_of a).cache (gateway_of b).cache
        (all-recent ha topic windows wide) (all-recent hb topic windows2 wide2)
        (λ i. (carried_over ha hb ea eb topic i done-b, carried_over hb ha eb ea topic i done-a))
        ∙ sym (ap (λ (f : ℕ). gossip_ids (mode_of f) topic windows2 (gateway_of b).cache) (hb.held.flags ∙ eb))
        ∙ sym (told-gateway b.node b.ids b.messages topic windows2 (fine hb topic windows2 wide2))

    pub same_bytes_lem : advertise_bytes a.node a.messages topic windows ≡ advertise_bytes b.node
        b.messages topic windows2
    unfolding advertise_bytes
    same_bytes_lem = ap (λ (l : List (List ℕ)). bytes_for l (advertisement topic l)) same-told

-- ---- for two histories under the premises; each gateway advertises with its own windows and its own buffer
pub identical-bytes : {set : List (List ℕ)} {x y : Settings} {calls_a_lem calls_b_lem : List Call} {a b : State}
    → MessageSet x.flags set → Premises set x calls_a_lem a → Premises set y calls_b_lem b → Alike x y
    → (topic : List ℕ) → length topic ≤ 1024
    → lacked topic (after_all calls_a_lem a) (after_all calls_b_lem b) ≡ []
    → lacked topic (after_all calls_b_lem b) (after_all calls_a_lem a) ≡ []
    → (windows-a windows-b : ℕ) → x.history_len ≤ windows-a → y.history_len ≤ windows-b
    → (out-a out-b : List ℕ) → max_rpc_size ≤ length out-a → max_rpc_size ≤ length out-b
    → Identical topic windows-a windows-b out-a out-b (after_all calls_a_lem a) (after_all calls_b_lem b)
identical-bytes ms pa pb alike topic short done-a done-b windows-a windows-b wide-a wide-b out-a out-b room-a room-b =
    let ha = holding-all ms pa in
    let hb = holding-all (set-alike alike ms) pb in
    record {
      taken_a = advertise-done ha topic short windows-a out-a room-a;
      taken_b = advertise-done hb topic short windows-b out-b room-b;
      same =
          advertise-is ha topic short windows-a out-a room-a
          ∙ same_bytes_lem ms ha hb refl (sym alike) topic windows-a windows-b wide-a wide-b done-a done-b
          ∙ sym (advertise-is hb topic short windows-b out-b room-b);
    }
