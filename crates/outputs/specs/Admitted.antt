-- What an admit takes, and what it tells, whole: by the RPC that the body means in the call's edition and the gateway.
use Rattle.std.specs.Prelude.{Result, Ok, Err, ℕ, ◌≤◌, ◌<◌, ◌≡◌, Bool, cond, ◌↔◌, length, ltb}
use Rattle.std.proofs.Math.Path.{refl, sym, ap}
use Rattle.std.proofs.Common.{subst, ◌∙◌}
use mathlib.Core.List.{List, [], ◌∷◌}
use borrow.Author.Tests.{ltb-true, ltb-false, lt-ltb, le-ltb}
use Rattle.basis.specs.declared.Edition.{Edition}
use Rattle.basis.specs.declared.Fault.{Fault}
use Rattle.basis.specs.Dialect.{mode_of, spoken}
use Rattle.basis.specs.Cases.{either}
use Rattle.basis.specs.Bytes.{Bytes}
use Rattle.basis.specs.declared.Told.{Told}
use Rattle.basis.specs.Told.{told, done, fault_told}
use Rattle.basis.specs.Refusals.{no-message, clock-back}
use Rattle.protobuf.specs.declared.Refusal.{Refusal as Placed}
use Rattle.protobuf.specs.Told.{refusal_told}
use Rattle.protobuf.specs.Walk.{between}
use Rattle.schema.specs.Accept.{accept_of}
use Rattle.rpc.specs.Rpc.{RawMessage, Rpc}
use Rattle.rpc.specs.Id.{message_id, id as the-id}
use Rattle.rpc.specs.Grammar.{IsMessage}
use Rattle.ids.specs.Ids.{message_at, id_bytes}
use Rattle.admission.specs.declared.Unfit.{Unfit}
use Rattle.admission.specs.Admission.{admission_of}
use Rattle.admission.specs.AdmissionLaws.{fit_parts}
use Rattle.admission.specs.Told.{unfit_told}
use Rattle.meaning.specs.Decoded.{Refusal}
use Rattle.canonical.specs.Calls.{found_in, none_in, id-named}
use Rattle.canon.specs.Messages.{Nth, raw-is, message-found, message-missing}
use Rattle.canon.proofs.Taken.{Within, taken as accepted, taken-exactly, refused-exactly}
use Rattle.node.specs.declared.Node.{Node}
use Rattle.node.specs.declared.AdmitError.TheVariants as admit
use Rattle.node.specs.declared.Novelty.TheVariants as novelty
use Rattle.node.specs.Told.{admit_told}
use Rattle.node.specs.Gateway.{form_of, is_new}
use Rattle.node.specs.State.{gateway_in}
use Rattle.node.specs.Calls.{lent_of, on_lent, no, taken, plan_fit, plan_at, plan_body, planned, held_at, admit_answer}
use Rattle.node.specs.Laws.{Takes, plan_takes, is_new_lem}

-- the state is fine; the body means an RPC within capacity, in the edition; m is its message i, as it stood in the
-- body; it is fit under the node's flags and with the host's word, and id is its id; and the clock is not ahead
pub record AdmitTakes (n : Node) (ss cs : List ℕ) (ed : Edition) (body : List ℕ) (i : ℕ) (word : Bool) (at : ℕ)
    (m id : List ℕ) : Type 0 where
  pub fine : lent_of n ss cs ≡ Ok tt
  pub rpc : Rpc
  pub within : Within (spoken (mode_of n.cache.flags) ed) body rpc
  pub message : RawMessage
  pub indexed : Nth i rpc.publish message
  pub raw : message.raw ≡ m
  pub from_start : ℕ
  pub from_end : ℕ
  pub seqno-start : ℕ
  pub seqno-end : ℕ
  pub fit : admission_of n.cache.flags m word ≡ Ok ((from_start, from_end), (seqno-start, seqno-end))
  pub named : message_id message ≡ the-id id
  pub forward : n.clock ≤ at

-- what an admit tells: each row of the table where the ones before it do not apply; then new, or a duplicate, as the
-- gateway has it
pub data AdmitTells (n : Node) (ss cs : List ℕ) (ed : Edition) (body : List ℕ) (i : ℕ) (word : Bool) (at : ℕ)
    : Told → Type 0 where
  -- 40, 41, 42
  faulty : {why : Fault} → lent_of n ss cs ≡ Err why → AdmitTells n ss cs ed body i word at (fault_told why)
  -- 10, 1 to 7 and 14 to 16, 11
  refuses : {a : Told} → lent_of n ss cs ≡ Ok tt → Refusal (spoken (mode_of n.cache.flags) ed) body a
      → AdmitTells n ss cs ed body i word at a
  -- 20: no message at that index, with the number of messages
  no_such : {x : Rpc} → lent_of n ss cs ≡ Ok tt → Within (spoken (mode_of n.cache.flags) ed) body x
      → length x.publish ≤ i
      → AdmitTells n ss cs ed body i word at (told no-message (length x.publish ∷ []))
  -- 21 to 30 and 34 to 36
  unfit : {x : Rpc} {m : RawMessage} {why : Unfit} → lent_of n ss cs ≡ Ok tt
      → Within (spoken (mode_of n.cache.flags) ed) body x
      → Nth i x.publish m → admission_of n.cache.flags m.raw word ≡ Err why
      → AdmitTells n ss cs ed body i word at (unfit_told why)
  -- 31: now below the clock, with the clock
  back : {x : Rpc} {m : RawMessage} {a e b f : ℕ} → lent_of n ss cs ≡ Ok tt
      → Within (spoken (mode_of n.cache.flags) ed) body x
      → Nth i x.publish m → admission_of n.cache.flags m.raw word ≡ Ok ((a, e), (b, f)) → at < n.clock
      → AdmitTells n ss cs ed body i word at (told clock-back (n.clock ∷ []))
  -- 1 where the id of the message is new, 0 where it is not
  says : {x : Rpc} {m : RawMessage} {a e b f : ℕ} {id : List ℕ} → lent_of n ss cs ≡ Ok tt
      → Within (spoken (mode_of n.cache.flags) ed) body x
      → Nth i x.publish m → admission_of n.cache.flags m.raw word ≡ Ok ((a, e), (b, f)) → n.clock ≤ at
      → message_id m ≡ the-id id
      → AdmitTells n ss cs ed body i word at (done (cond (is_new at m.raw id (gateway_in n ss cs)) 1 0 ∷ []))

module _ (n : Node) (ss cs : List ℕ) (ed : Edition) (body : List ℕ) (i : ℕ) (word : Bool) (at : ℕ)
    (m id : List ℕ) where
  of-rpc : AdmitTakes n ss cs ed body i word at m id → Takes n ss cs ed body i word at m id
  of-rpc t =
      let f = found_in i (message_at (mode_of n.cache.flags) body i) t.within.means t.indexed refl in
      let b : m ≡ between body f.0 f.1 = sym t.raw ∙ raw-is (mode_of n.cache.flags) f.3 in
      let own : message_id t.message ≡ the-id (id_bytes m t.from_start t.from_end t.seqno-start
      t.seqno-end) =
      id-named (mode_of n.cache.flags) t.from_start t.from_end t.seqno-start t.seqno-end
      (subst (λ (p : List ℕ). IsMessage (mode_of n.cache.flags) p t.message) (sym b) f.3)
      (fit_parts n.cache.flags m word t.from_start t.from_end t.seqno-start t.seqno-end t.fit) in
      let e : the-id id ≡ the-id (id_bytes m t.from_start t.from_end t.seqno-start t.seqno-end) =
      sym t.named ∙ own in
      record {
        fine = t.fine;
        accepted = accepted t.within;
        start = f.0;
        next = f.1;
        there = f.2;
        bytes = b;
        from_start = t.from_start;
        from_end = t.from_end;
        seqno-start = t.seqno-start;
        seqno-end = t.seqno-end;
        fit = t.fit;
        named = cc;
        forward = t.forward;
      }

  in_rpc : Bytes body → Takes n ss cs ed body i word at m id → AdmitTakes n ss cs ed body i word at m id
  in_rpc b t =
      let x = (taken-exactly (spoken (mode_of n.cache.flags) ed) body b).0 t.accepted in
      let f = message-found i t.start t.next x.1.means t.there in
      record {
        fine = t.fine;
        rpc = x.0;
        within = x.1;
        message = f.0;
        indexed = f.1;
        raw = raw-is (mode_of n.cache.flags) f.2 ∙ sym t.bytes;
        from_start = t.from_start;
        from_end = t.from_end;
        seqno-start = t.seqno-start;
        seqno-end = t.seqno-end;
        fit = t.fit;
        named = id-named (mode_of n.cache.flags) t.from_start t.from_end t.seqno-start t.seqno-end
            (subst (λ (p : List ℕ). IsMessage (mode_of n.cache.flags) p f.0) (sym t.bytes) f.2)
            (fit_parts n.cache.flags m word t.from_start t.from_end t.seqno-start t.seqno-end t.fit)
            ∙ ap the-id (sym t.named);
        forward = t.forward;
      }

  -- an admit takes the message m under id exactly then
  pub admit-takes : Bytes body
      → (planned n ss cs ed body i word at ≡ taken m id) ↔ AdmitTakes n ss cs ed body i word at m id
  admit-takes b =
      let p = plan_takes n ss cs ed body i word at m id in
      (λ h. in_rpc b (p.0 h), λ t. p.1 (of-rpc t))

-- ---- what it tells
module _ (n : Node) (ss cs : List ℕ) (ed : Edition) (body : List ℕ) (i : ℕ) (word : Bool) (at : ℕ) where
  abbrev Tells : Told → Type 0
  Tells a = AdmitTells n ss cs ed body i word at a

  -- what is told of a message that is taken under an id
  abbrev new_told : List ℕ → List ℕ → Told
  new_told p id = done (cond (is_new at p id (gateway_in n ss cs)) 1 0 ∷ [])

  new_told_lem : lent_of n ss cs ≡ Ok tt → (p id : List ℕ)
      → admit_told (cond (held_at n ss at (form_of (mode_of n.cache.flags) p id)) (Ok novelty.Duplicate) (Ok novelty.New))
      ≡ new_told p id
  new_told_lem fine p id =
      rw (is_new_lem n ss cs fine at p id) (either (held_at n ss at (form_of (mode_of n.cache.flags) p id)) (λ t. rw t)
      (λ t. rw t))

  -- ---- it tells one of these
  module _ (fine : lent_of n ss cs ≡ Ok tt) (x : Rpc)
      (w : Within (spoken (mode_of n.cache.flags) ed) body x) where
    of-fit : (p : List ℕ) (m : RawMessage) → Nth i x.publish m → IsMessage (mode_of n.cache.flags) p m
        → (q : Result ((ℕ × ℕ) × (ℕ × ℕ)) Unfit)
        → admission_of n.cache.flags p word ≡ q → Tells (admit_told (admit_answer n ss at (plan_fit n at p q)))
    of-fit p m k g (Err why) e =
        let u : admission_of n.cache.flags m.raw word
        ≡ Err why = rw (raw-is (mode_of n.cache.flags) g) e in unfit fine w k u
    of-fit p m k g (Ok ((a, z), (b, f))) e =
        let u : admission_of n.cache.flags m.raw word
        ≡ Ok ((a, z), (b, f)) = rw (raw-is (mode_of n.cache.flags) g) e in
        either (ltb at n.clock) (λ t. rw t (back fine w k u (ltb-true at n.clock t)))
        (λ t. rw (t, new_told_lem fine p (id_bytes p a z b f))
        (subst (λ (l : List ℕ). Tells (new_told l (id_bytes p a z b f))) (raw-is (mode_of n.cache.flags) g)
        (says {id = id_bytes p a z b f} fine w k u (ltb-false at n.clock t)
        (id-named (mode_of n.cache.flags) a z b f g (fit_parts n.cache.flags p word a z b f e)))))

    of_at : (r : Result (ℕ × ℕ) ℕ) → message_at (mode_of n.cache.flags) body i ≡ r
        → Tells (admit_told (admit_answer n ss at (plan_at n at word body r)))
    of_at (Err k) e = let m = message-missing i k w.means e in rw m.0 (no_such fine w m.1)
    of_at (Ok (a, z)) e =
        let f = message-found i a z w.means e in
        of-fit (between body a z) f.0 f.1 f.2 (admission_of n.cache.flags (between body a z) word) refl

  of-body : Bytes body → lent_of n ss cs ≡ Ok tt → (r : Result (Unit {0}) Placed)
      → accept_of (spoken (mode_of n.cache.flags) ed) body ≡ r
      → Tells (admit_told (admit_answer n ss at (plan_body n at word body i r)))
  of-body b fine (Err why) e =
      refuses fine ((refused-exactly (spoken (mode_of n.cache.flags) ed) body (refusal_told why) b).0 (why, e, refl))
  of-body b fine (Ok tt) e =
      let x = (taken-exactly (spoken (mode_of n.cache.flags) ed) body b).0 e in of_at fine x.0 x.1
      (message_at (mode_of n.cache.flags) body i) refl

  of_lent_lem : Bytes body → (l : Result (Unit {0}) Fault) → lent_of n ss cs ≡ l → Tells (admit_told (admit_answer n ss at
      (on_lent (λ (why : Fault). no (Err (admit.Faulty why))) l
      (plan_body n at word body i (accept_of (spoken (mode_of n.cache.flags) ed) body)))))
  of_lent_lem b (Err why) e = faulty e
  of_lent_lem b (Ok tt) e = of-body b e (accept_of (spoken (mode_of n.cache.flags) ed) body) refl

  tells : Bytes body → Tells (admit_told (admit_answer n ss at (planned n ss cs ed body i word at)))
  unfolding planned
  tells b = of_lent_lem b (lent_of n ss cs) refl

  -- ---- and no other
  only : Bytes body → {a : Told} → Tells a → admit_told (admit_answer n ss at (planned n ss cs ed body i word at)) ≡ a
  unfolding planned
  only b (faulty e) = rw e
  only b {a} (refuses fine r) =
      let g = (refused-exactly (spoken (mode_of n.cache.flags) ed) body a b).1 r in rw (fine, g.1) g.2
  only b (no_such fine w l) = rw (
    fine,
    accepted w,
    none_in i (message_at (mode_of n.cache.flags) body i)
        w.means l refl,
  )
  only b (unfit fine w k e) =
      let f = found_in i (message_at (mode_of n.cache.flags) body i) w.means k refl in
      let u = rw (raw-is (mode_of n.cache.flags) f.3) at e in
      rw (fine, accepted w, f.2, u)
  only b (back fine w k e l) =
      let f = found_in i (message_at (mode_of n.cache.flags) body i) w.means k refl in
      let u = rw (raw-is (mode_of n.cache.flags) f.3) at e in
      rw (fine, accepted w, f.2, u, lt-ltb at n.clock l)
  only b (says {a = a} {e = z} {b = c} {f = d} {id = id} fine w k e l q) =
      let f = found_in i (message_at (mode_of n.cache.flags) body i) w.means k refl in
      let p = between body f.0 f.1 in
      let u : admission_of n.cache.flags p word ≡ Ok ((a, z), (c, d)) = rw
      (raw-is (mode_of n.cache.flags) f.3) at e in
      let o : the-id id ≡ the-id (id_bytes p a z c d) = sym q ∙ id-named (mode_of n.cache.flags) a z c d f.3
      (fit_parts n.cache.flags p word a z c d u) in
      let s : id_bytes p a z c d ≡ id = cc in
      rw (fine, accepted w, f.2, u, le-ltb at n.clock l, s)
      (new_told_lem fine p id ∙ ap (λ (l : List ℕ). new_told l id) (sym (raw-is (mode_of n.cache.flags) f.3)))

  pub admit-exactly : Bytes body → (a : Told)
      → (admit_told (admit_answer n ss at (planned n ss cs ed body i word at)) ≡ a)
      ↔ AdmitTells n ss cs ed body i word at a
  admit-exactly b a = (λ e. subst (AdmitTells n ss cs ed body i word at) e (tells b), only b)
