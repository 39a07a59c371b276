-- On the way to what can be lent: of what is gathered it is seen that each row is held, and that its text is UTF-8; and an RPC that is meant has UTF-8 in texts and numbers below 2^64.
use Rattle.std.specs.Prelude.{Ok, ℕ, ◌+◌, ◌≡◌, refl, Bool, true, ◌&&◌, ◌||◌, List, [], ◌∷◌, eqb}
use Rattle.std.proofs.Common.{sym, ◌∙◌}
use Rattle.std.proofs.Math.Bool.{or-false, or-true}
use Rattle.basis.specs.declared.Mode.{Mode}
use Rattle.basis.specs.declared.Dialect.{Dialect}
use Rattle.basis.specs.Cases.{either, clash}
use Rattle.utf8.specs.Grammar.{Utf8}
use Rattle.utf8.specs.Laws.{exactly}
use Rattle.protobuf.specs.Walk.{between}
use Rattle.schema.specs.declared.Kind.{Kind}
use Rattle.schema.specs.declared.Kind.TheVariants as kind
use Rattle.schema.specs.declared.Place.{Place}
use Rattle.schema.specs.declared.Place.TheVariants as place
use Rattle.schema.specs.Schema.{own_of}
use Rattle.message.specs.declared.Record.{Record}
use Rattle.message.specs.Rows.{kind_code}
use Rattle.rpc.specs.Rpc.{SubOpts, RawMessage, ControlIHave, ControlIWant, ControlGraft, PeerInfo, ControlPrune, ControlMessage}
use Rattle.rpc.specs.Grammar.{Each, none_left, ◌and◌, Pairs, no_pairs, ◌paired◌}
use Rattle.rpc.specs.Grammar.{IsSubOpts, is-sub_opts, IsMessage, is-message, IsGraft, is-graft, IsPrune, is-prune, IsControl, is_control}
use Rattle.meaning.specs.ReadBack.{bytes_at, Gathered, nothing, gather_kind, gather}
use Rattle.meaning.specs.Back.{state, flat}
use Rattle.meaning.specs.Table.{AllRecords, each_append}
use Rattle.canonical.specs.Means.{opt, each_last, numbers-small}
use Rattle.compose.specs.Lent.{is_code, row_inside, held_by, lent_from}
use Rattle.compose.specs.Compose.{moved, text_in, text_of, text_fine, texts_fine}
use Rattle.composed.specs.Written.{PlainPrune, PlainControl}
use Rattle.composed.specs.WrittenRows.{fine-both, Texts, Waits}
use Rattle.composed.specs.LendingRows.{Lies, and_both}

-- ---- held
record Held (k : Kind) (m p : Bool) (g : Gathered) : Type 0 where
  holds : held_by m p k ≡ true
  rest : Waits (m || eqb (kind_code k) 2) (p || eqb (kind_code k) 9) g

held_kind : (k : Kind) (b : List ℕ) (r : Record) (g : Gathered) (m p : Bool) → own_of k ≡ 1 → Waits m p (gather_kind k b r g)
    → Held k m p g
unfolding held_by kind_code own_of
held_kind (kind.Rpc d) b r g m p o w = clash (o)
held_kind kind.SubOpts b r g m p o w =
    record {
      holds = refl;
      rest = record {
        topics = λ e. w.topics (sym (or-false m) ∙ e);
        peers = λ e. w.peers (sym (or-false p) ∙ e);
        ids = w.ids;
        ihave = w.ihave;
        iwant = w.iwant;
        idontwant = w.idontwant;
      };
    }
held_kind kind.RawMessage b r g m p o w =
    record {
      holds = refl;
      rest = record {
        topics = λ e. let z = sym (or-true m) ∙ e in clash (cc);
        peers = λ e. w.peers (sym (or-false p) ∙ e);
        ids = w.ids;
        ihave = w.ihave;
        iwant = w.iwant;
        idontwant = w.idontwant;
      };
    }
held_kind kind.Topic b r g m p o w =
    record {
      holds = either m (λ t. t) (λ t. let z = w.topics t in clash (cc));
      rest = record {
        topics = λ e. let z = w.topics (sym (or-false m) ∙ e) in clash (cc);
        peers = λ e. w.peers (sym (or-false p) ∙ e);
        ids = w.ids;
        ihave = w.ihave;
        iwant = w.iwant;
        idontwant = w.idontwant;
      };
    }
held_kind (kind.ControlMessage d) b r g m p o w = clash (o)
held_kind kind.ControlIHave b r g m p o w = let z = w.ihave in clash (cc)
held_kind kind.ControlIWant b r g m p o w = let z = w.iwant in clash (cc)
held_kind kind.MessageId b r g m p o w = let z = w.ids in clash (cc)
held_kind kind.ControlGraft b r g m p o w =
    record {
      holds = refl;
      rest = record {
        topics = λ e. w.topics (sym (or-false m) ∙ e);
        peers = λ e. w.peers (sym (or-false p) ∙ e);
        ids = w.ids;
        ihave = w.ihave;
        iwant = w.iwant;
        idontwant = w.idontwant;
      };
    }
held_kind kind.ControlPrune b r g m p o w =
    record {
      holds = refl;
      rest = record {
        topics = λ e. w.topics (sym (or-false m) ∙ e);
        peers = λ e. let z = sym (or-true p) ∙ e in clash (cc);
        ids = w.ids;
        ihave = w.ihave;
        iwant = w.iwant;
        idontwant = w.idontwant;
      };
    }
held_kind kind.PeerInfo b r g m p o w =
    record {
      holds = either p (λ t. t) (λ t. let z = w.peers t in clash (cc));
      rest = record {
        topics = λ e. w.topics (sym (or-false m) ∙ e);
        peers = λ e. let z = w.peers (sym (or-false p) ∙ e) in clash (cc);
        ids = w.ids;
        ihave = w.ihave;
        iwant = w.iwant;
        idontwant = w.idontwant;
      };
    }
held_kind kind.ControlIDontWant b r g m p o w = let z = w.idontwant in clash (cc)

-- rows that lie within n bytes, where nothing waits, are lent well
pub waits_lent : (b : List ℕ) (n : ℕ) (m p : Bool) (rs : List Record) → AllRecords rs → Each (Lies n) rs
    → Waits m p (gather b rs nothing) → lent_from n m p rs ≡ true
waits_lent b n m p [] none_left none_left w = refl
waits_lent b n m p (r ∷ rs) (o and os) (i and is) w =
    let h = held_kind r.kind b r (gather b rs nothing) m p o w in
    let m' = m || is_code 2 r in
    let p' = p || is_code 9 r in
    and_both (held_by m p r.kind) (row_inside n r && lent_from n m' p' rs) h.holds
    (and_both (row_inside n r) (lent_from n m' p' rs) i (waits_lent b n m' p' rs os is h.rest))

-- ---- texts
between-text : (b : List ℕ) (a e : ℕ) → Utf8 (between b a e) → text_fine b (place.Present a e) ≡ Ok tt
unfolding text_fine
between-text b a e u = simp ((exactly (between b a e)).1 u)

at-text : (b : List ℕ) (at : ℕ) (p : Place) → Each Utf8 (opt (bytes_at b at p)) → text_fine b (moved at p) ≡ Ok tt
unfolding text_fine
at-text b at place.Absent u = refl
at-text b at (place.Present a e) (u and none_left) = between-text b (at + a) (at + e) u

each-head : {A : Type 0} {P : A → Type 0} {x : A} {xs : List A} → Each P (x ∷ xs) → P x
each-head (p and ps) = p

each_tail : {A : Type 0} {P : A → Type 0} {x : A} {xs : List A} → Each P (x ∷ xs) → Each P xs
each_tail (p and ps) = ps

record Told (k : Kind) (b : List ℕ) (r : Record) (g : Gathered) : Type 0 where
  fine : text_fine b (text_in k r) ≡ Ok tt
  rest : Texts g

told_kind : (k : Kind) (b : List ℕ) (r : Record) (g : Gathered) → Texts (gather_kind k b r g) → Told k b r g
unfolding text_fine
told_kind (kind.Rpc d) b r g o = record { fine = refl; rest = o }
told_kind kind.SubOpts b r g o =
    record {
      fine = at-text b r.start r.slots.first (each-head o.subscriptions);
      rest = record {
        topics = o.topics;
        subscriptions = each_tail o.subscriptions;
        publish = o.publish;
        grafts = o.grafts;
        prunes = o.prunes;
      };
    }
told_kind kind.RawMessage b r g o =
    record {
      fine = refl;
      rest = record {
        topics = each-head o.publish;
        subscriptions = o.subscriptions;
        publish = each_tail o.publish;
        grafts = o.grafts;
        prunes = o.prunes;
      };
    }
told_kind kind.Topic b r g o =
    record {
      fine = between-text b r.start r.end (each-head o.topics);
      rest = record {
        topics = each_tail o.topics;
        subscriptions = o.subscriptions;
        publish = o.publish;
        grafts = o.grafts;
        prunes = o.prunes;
      };
    }
told_kind (kind.ControlMessage d) b r g o = record { fine = refl; rest = o }
told_kind kind.ControlIHave b r g o =
    record {
      fine = refl;
      rest = record { topics = o.topics; subscriptions = o.subscriptions; publish = o.publish; grafts = o.grafts; prunes = o.prunes };
    }
told_kind kind.ControlIWant b r g o =
    record {
      fine = refl;
      rest = record { topics = o.topics; subscriptions = o.subscriptions; publish = o.publish; grafts = o.grafts; prunes = o.prunes };
    }
told_kind kind.MessageId b r g o =
    record {
      fine = refl;
      rest = record { topics = o.topics; subscriptions = o.subscriptions; publish = o.publish; grafts = o.grafts; prunes = o.prunes };
    }
told_kind kind.ControlGraft b r g o =
    record {
      fine = at-text b r.start r.slots.first (each-head o.grafts);
      rest = record {
        topics = o.topics;
        subscriptions = o.subscriptions;
        publish = o.publish;
        grafts = each_tail o.grafts;
        prunes = o.prunes;
      };
    }
told_kind kind.ControlPrune b r g o =
    record {
      fine = at-text b r.start r.slots.first (each-head o.prunes).topic;
      rest = record {
        topics = o.topics;
        subscriptions = o.subscriptions;
        publish = o.publish;
        grafts = o.grafts;
        prunes = each_tail o.prunes;
      };
    }
told_kind kind.PeerInfo b r g o =
    record {
      fine = refl;
      rest = record { topics = o.topics; subscriptions = o.subscriptions; publish = o.publish; grafts = o.grafts; prunes = o.prunes };
    }
told_kind kind.ControlIDontWant b r g o =
    record {
      fine = refl;
      rest = record {
        topics = o.topics;
        subscriptions = o.subscriptions;
        publish = o.publish;
        grafts = o.grafts;
        prunes = o.prunes;
      };
    }

pub texts_fine_lem : (b : List ℕ) (rs : List Record) → Texts (gather b rs nothing) → texts_fine b rs ≡ Ok tt
unfolding text_of
texts_fine_lem b [] o = refl
texts_fine_lem b (r ∷ rs) o =
    let h = told_kind r.kind b r (gather b rs nothing) o in
    fine-both (text_fine b (text_of r)) (texts_fine b rs) h.fine (texts_fine_lem b rs h.rest)

-- ---- what is meant
pub pairs-each : {X : Type 0} {R : List ℕ → X → Type 0} {P : X → Type 0} → ((d : List ℕ) (x : X) → R d x → P x)
    → {ds : List (List ℕ)} {xs : List X} → Pairs R ds xs → Each P xs
pairs-each f no_pairs = none_left
pairs-each f (◌paired◌ {x = d} {y = x} p ps) = f d x p and pairs-each f ps

sub_opts_plain : (mode : Mode) (d : List ℕ) (o : SubOpts) → IsSubOpts mode d o → Each Utf8 (opt o.topic_id)
sub_opts_plain mode _ _ (is-sub_opts g u) = each_last u

pub message-plain : (mode : Mode) (d : List ℕ) (m : RawMessage) → IsMessage mode d m → Each Utf8 m.topic_ids
message-plain mode _ _ (is-message g u) = u

graft-plain : (mode : Mode) (d : List ℕ) (g : ControlGraft) → IsGraft mode d g → Each Utf8 (opt g.topic_id)
graft-plain mode _ _ (is-graft g u) = each_last u

prune-plain : (mode : Mode) (d : List ℕ) (p : ControlPrune) → IsPrune mode d p → PlainPrune p
prune-plain mode _ _ (is-prune g u h) = record { topic = each_last u; backoff = each_last (numbers-small 3 g) }

control-plain : (d : Dialect) (s : List ℕ) (c : ControlMessage) → IsControl d s c → PlainControl c
control-plain d _ _ (is_control g h1 h2 h3 h4 h5) =
    record { grafts = pairs-each (graft-plain d.mode) h3; prunes = pairs-each (prune-plain d.mode) h4 }

flat-plain : {cs : List ControlMessage} → Each PlainControl cs → PlainControl (flat cs)
flat-plain none_left = record { grafts = none_left; prunes = none_left }
flat-plain (p and ps) =
    let q = flat-plain ps in
    record { grafts = each_append p.grafts q.grafts; prunes = each_append p.prunes q.prunes }

pub meant-texts : (d : Dialect) {d1 d2 d3 : List (List ℕ)} {ss : List SubOpts} {ms : List RawMessage}
    {cs : List ControlMessage}
    → Pairs (IsSubOpts d.mode) d1 ss → Pairs (IsMessage d.mode) d2 ms → Pairs (IsControl d) d3 cs
    → Texts (state [] [] [] ss ms (flat cs))
meant-texts d h1 h2 h3 =
    let c = flat-plain (pairs-each (control-plain d) h3) in
    record {
      topics = none_left;
      subscriptions = pairs-each (sub_opts_plain d.mode) h1;
      publish = pairs-each (message-plain d.mode) h2;
      grafts = c.grafts;
      prunes = c.prunes;
    }
