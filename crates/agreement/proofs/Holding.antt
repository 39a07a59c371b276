-- What a gateway holds in a history under the premises: the messages got, each once, the oldest first. Their marked ids
-- are the ids seen, they are the messages cached, and nothing ever leaves.
use Rattle.std.specs.Prelude.{Option, Some, None, Ok, ℕ, suc, ◌+◌, ◌-◌, ◌*◌, ◌≤◌, ◌<◌, ◌≡◌, refl, Bool, cond, ◌||◌}
use Rattle.std.specs.Prelude.{List, [], ◌∷◌, ◌++◌, length, get_or, leb, ltb, eqb}
use Rattle.std.proofs.Common.{sym, subst, ◌∙◌, append-nil, append_assoc, zero-lt-suc, length-append, leb-true}
use Rattle.std.proofs.Math.Path.{ap}
use Rattle.std.proofs.Math.Bool.{true, false, not, not-not}
use native.Mathlib.Omega.{arith}
use Rattle.basis.specs.Dialect.{mode_of}
use Rattle.basis.specs.declared.Edition.{Edition}
use Rattle.basis.specs.Cases.{either, clash, both}
use Rattle.basis.specs.Bytes.{Bytes}
use Rattle.basis.specs.Lists.{sets-bytes}
use Rattle.rows.specs.Rows.{place_of}
use Rattle.rows.specs.Ids.{same_bytes, among, distinct}
use Rattle.rows.specs.IdsLaws.{same_equal, among-append, distinct_snoc, all-few}
use Rattle.admission.specs.Admission.{gives_id}
use Rattle.seen.specs.Entries.{until}
use Rattle.seen.specs.EntriesLaws.{until-later, until-within, insert_room, insert_held_lem}
use Rattle.mcache.specs.declared.MessageCache.{MessageCache}
use Rattle.mcache.specs.State.{dropped, message_size, ring_of}
use Rattle.mcache.specs.Calls.{index_in, entered_store, stored_under}
use Rattle.mcache.specs.Readers.{room-keeps-all}
use Rattle.node.specs.declared.Node.{Node}
use Rattle.node.specs.declared.Novelty.TheVariants as novelty
use Rattle.node.specs.Gateway.{Gateway, started, form_of, is_new, after_admit, after_beat}
use Rattle.node.specs.State.{rises_from}
use Rattle.node.specs.Calls.{taken, held_at, admit_cache, beat_answer}
use Rattle.node.specs.Laws.{is_new_lem, beat-says}
use Rattle.node.specs.WellFormedLaws.{rises_less, first-least}
use Rattle.history.specs.History.{State, gateway_of, Settings, Fresh, Call, admit, heartbeat, advertise, ask, serve}
use Rattle.history.specs.History.{plan_in, after, after_all, reading, readings, first_of, beat, beats, refusal_at}
use Rattle.history.specs.History.{explain, brought, answer_in}
use Rattle.history.specs.Laws.{started_by}
use Rattle.history.proofs.Laws.{node-clock, after-keeps, fresh_keeps, fresh-starts, fresh-clock}
use Rattle.history.proofs.Laws.{admit-none, taken-number, admit-leaves, admit-clock, beat-leaves, beat-clock}
use Rattle.history.proofs.Laws.{brings_that, brought_plan, unbrought_plan}
use Rattle.agreement.specs.Premises.{MessageSet, MemberAt, Members, member, Clock, Premises}
use Rattle.agreement.specs.Rows.{none as no_rows, rows_snoc, rows-lengths, rows-live, rows-shift, rows-held}
use Rattle.agreement.specs.Holding.{with_got, got_by, got_next, got_all, Holds, Ahead, Reads, Holding, past_next}
use Rattle.agreement.specs.Holding.{past_all}

-- ---- a call that brings nothing, and one that brings a message of the set, are members
pub member-none : (flags : ℕ) (set : List (List ℕ)) (c : Call) → brought flags c ≡ None → MemberAt flags set c
member-none flags set c e m t = clash (let q = sym e ∙ (brings_that flags m c).0 t in cc)

pub member-some : (flags : ℕ) (set : List (List ℕ)) (c : Call) (m : List ℕ) → brought flags c ≡ Some m
    → among m set ≡ true → MemberAt flags set c
member-some flags set c m e inside k t =
    let q = sym e ∙ (brings_that flags k c).0 t in
    let r : m ≡ k = cc in
    ap (λ (o : List ℕ). among o set) (sym r) ∙ inside

-- ---- a set of messages under some flags is one under flags that are the same
pub set-alike : {flags other : ℕ} {set : List (List ℕ)} → flags ≡ other → MessageSet flags set → MessageSet other set
set-alike {set} e ms = subst (λ (f : ℕ). MessageSet f set) e ms

-- ---- one more message got
among_one : (m k : List ℕ) → among k (m ∷ []) ≡ true → m ≡ k
unfolding among
among_one m k h = either (same_bytes m k) (λ t. same_equal m k t) (λ t. clash (let z = simp t at h in cc))

or_left : (a b : Bool) → a ≡ false → (a || b) ≡ true → b ≡ true
or_left a b h k = rw h at k

from_snoc : (set got : List (List ℕ)) (m : List ℕ) → among m set ≡ true
    → ((k : List ℕ) → among k got ≡ true → among k set ≡ true)
    → (k : List ℕ) → among k (got ++ (m ∷ [])) ≡ true → among k set ≡ true
from_snoc set got m inside from k h =
    either (among k got) (λ t. from k t)
    (λ t. rw (← among_one m k (or_left (among k got) (among k (m ∷ [])) t (rw (among-append k got (m ∷ [])) at h)))
    inside)

-- a set has room for one more of its messages
room-more : (set got : List (List ℕ)) (m : List ℕ) → among m set ≡ true → among m got ≡ false → distinct got ≡ true
    → ((k : List ℕ) → among k got ≡ true → among k set ≡ true)
    → length got < length set
room-more set got m inside fresh d from =
    let f = all-few set (got ++ (m ∷ [])) (distinct_snoc got m d fresh) (from_snoc set got m inside from) in
    let e = length-append got (m ∷ []) in
    omega arith

module _ {set : List (List ℕ)} {x : Settings} {first past : ℕ} {got : List (List ℕ)} {g : Gateway}
    (h : Holds set x first past got g) (at : ℕ) (lasting : at < until first x.ttl) where
  -- ---- an admit of a message of the set
  module _ (ms : MessageSet x.flags set) (later : first ≤ at) (m id : List ℕ) (inside : among m set ≡ true)
      (own : gives_id x.flags m id ≡ true) where
    -- it is new exactly where it is not among those got
    pub holds-new : is_new at m id g ≡ not (among m got)
    unfolding is_new
    holds-new = rw (h.flags, rows-live at lasting h.rows, (rows-held ms m id inside own h.from-set h.rows).0)

    holds-again : among m got ≡ true → Holds set x first past got (after_admit at m id g)
    unfolding after_admit
    holds-again t =
        let v = rows-live at lasting h.rows in
        let k = (rows-held ms m id inside own h.from-set h.rows).0 ∙ t in
        let n : is_new at m id g ≡ false = holds-new ∙ ap not t in
        record {
          ttl = h.ttl;
          max_seen = h.max_seen;
          history_len = h.history_len;
          max_messages = h.max_messages;
          flags = h.flags;
          set-seen = h.set-seen;
          set-cached = h.set-cached;
          each-once = h.each-once;
          from-set = h.from-set;
          rows = rw (
            n,
            v,
            h.flags,
            insert_held_lem g.max_seen (form_of (mode_of x.flags) m id) at g.ttl g.seen k,
          ) h.rows;
        }

    holds_more : among m got ≡ false → Holds set x first past (got ++ (m ∷ [])) (after_admit at m id g)
    unfolding after_admit
    holds_more t =
        let v = rows-live at lasting h.rows in
        let a = rows-held ms m id inside own h.from-set h.rows in
        let n : is_new at m id g ≡ true = holds-new ∙ ap not t in
        let l = rows-lengths h.rows in
        let r = room-more set got m inside t h.each-once h.from-set in
        let u = until-later first at x.ttl later in
        record {
          ttl = h.ttl;
          max_seen = h.max_seen;
          history_len = h.history_len;
          max_messages = h.max_messages;
          flags = h.flags;
          set-seen = h.set-seen;
          set-cached = h.set-cached;
          each-once = distinct_snoc got m h.each-once t;
          from-set = from_snoc set got m inside h.from-set;
          rows =
              rw (
                n,
                v,
                h.flags,
                insert_room g.max_seen (form_of (mode_of x.flags) m id) at g.ttl g.seen (a.0 ∙ t)
                    (omega (arith, h.max_seen, h.set-seen, l.0)),
                room-keeps-all g.max_messages id m g.cache (a.1 ∙ t)
                    (omega (arith, h.max_messages, h.set-cached, l.1)),
                h.ttl,
              )
              (rows_snoc h.rows (record { own = own; seen = refl; message = refl; lasts = u; young = omega arith }));
        }

    pub holds-admit : Holds set x first past (with_got m got) (after_admit at m id g)
    holds-admit = either (among m got) (λ t. rw t (holds-again t)) (λ t. rw t (holds_more t))

  -- ---- a heartbeat
  pub holds-beat : suc past < x.history_len → Holds set x first (suc past) got (after_beat at g)
  unfolding after_beat
  holds-beat few =
      let v = rows-live at lasting h.rows in
      record {
        ttl = h.ttl;
        max_seen = h.max_seen;
        history_len = h.history_len;
        max_messages = h.max_messages;
        flags = h.flags;
        set-seen = h.set-seen;
        set-cached = h.set-cached;
        each-once = h.each-once;
        from-set = h.from-set;
        rows = rw v (rows-shift g.history_len (rw h.history_len few) h.rows);
      }

pub ahead-next : {x : Settings} {first past clock at : ℕ} {rs : List ℕ} {left : ℕ}
    → Ahead x first past clock (at ∷ rs) left → Reads x first past clock at rs left
unfolding rises_from
ahead-next {x} {first} {past} {clock} {at} {rs} {left} a =
    let b = both (leb clock at) (rises_from at rs) a.rises in
    record {
      forward = leb-true clock at b.0;
      later = a.from_first 0 (zero-lt-suc (length rs));
      lasting = a.lasting 0 (zero-lt-suc (length rs));
      rest = record {
        rises = b.1;
        from_first = λ i h. a.from_first (suc i) (omega arith);
        lasting = λ i h. a.lasting (suc i) (omega arith);
        few = a.few;
      };
    }

-- where the clock stays
pub reads_kept : {x : Settings} {first past clock at : ℕ} {rs : List ℕ} {left : ℕ} → Reads x first past clock at rs left
    → Ahead x first past clock rs left
reads_kept {x} {first} {past} {clock} {at} {rs} r =
    record {
      rises = rises_less clock at rs r.forward r.rest.rises;
      from_first = r.rest.from_first;
      lasting = r.rest.lasting;
      few = r.rest.few;
    }

-- ---- the start
started-holds : {set : List (List ℕ)} {x : Settings} (first : ℕ) → length set ≤ x.max_seen
    → length set ≤ x.max_messages
    → Holds set x first 0 [] (started_by x)
unfolding started distinct among
started-holds first a b =
    record {
      ttl = refl;
      max_seen = refl;
      history_len = refl;
      max_messages = refl;
      flags = refl;
      set-seen = a;
      set-cached = b;
      each-once = refl;
      from-set = λ m h. clash (cc);
      rows = no_rows;
    }

pub holding-fresh : {set : List (List ℕ)} {x : Settings} {s : State} (rs : List ℕ) (left : ℕ) → Fresh x s
    → length set ≤ x.max_seen → length set ≤ x.max_messages → Clock x rs
    → left < x.history_len → Holding set x (get_or rs 0 0) 0 rs left [] s
holding-fresh {set} {x} {s} rs left f room-seen room-cached k few =
    let first = get_or rs 0 0 in
    record {
      kept = fresh_keeps f;
      held = subst (λ (h : Gateway). Holds set x first 0 [] h) (sym (fresh-starts f))
          (started-holds first room-seen room-cached);
      bytes = f.bytes;
      ahead =
          subst (λ (c : ℕ). Ahead x first 0 c rs left) (sym (fresh-clock f))
          (record {
            rises = k.rises;
            from_first = first-least rs k.rises;
            lasting = λ i h. until-within (get_or rs i 0) first x.ttl (k.within-ttl i h) (k.below_last i h);
            few = omega arith;
          });
    }

pub holding-start : {set : List (List ℕ)} {x : Settings} {calls : List Call} {s : State} → Premises set x calls s
    → Holding set x (first_of calls) 0 (readings calls) (beats calls) [] s
holding-start {set} {x} {calls} {s} p = holding-fresh (readings calls) (beats calls) p.fresh p.set-seen
    p.set-cached p.clock p.few_heartbeats

-- ---- an admit: one that brings nothing changes nothing; one that brings a message of the set
-- the message is bytes, and so is the store then
entered-bytes : (c : MessageCache) (st m : List ℕ) → Bytes st → Bytes m → Bytes (entered_store c st m)
unfolding entered_store
entered-bytes c st m h g =
    let d = dropped ((c.count + 1) - c.max_messages) c in
    either (eqb c.max_messages 0) (λ t. simp t h)
    (λ t. simp t (sets-bytes st (place_of (ring_of d) d.count * message_size) m h g))

stored_bytes : (c : MessageCache) (st m id : List ℕ) → Bytes st → Bytes m → Bytes (stored_under c st m id)
unfolding stored_under
stored_bytes c st m id h g = either (ltb (index_in c id) c.count) (λ t. simp t h)
    (λ t. simp t (entered-bytes c st m h g))

admit-bytes : (n : Node) (ss cs : List ℕ) (at : ℕ) (m id : List ℕ) → Bytes cs → Bytes m
    → Bytes (admit_cache n ss cs at (taken m id))
admit-bytes n ss cs at m id h g =
    either (held_at n ss at (form_of (mode_of n.cache.flags) m id)) (λ t. simp t h)
    (λ t. simp t (stored_bytes n.cache cs m id h g))

module _ {set : List (List ℕ)} {x : Settings} {first past : ℕ} {got : List (List ℕ)} {s : State} (ed : Edition)
    (body : List ℕ) (i : ℕ) (word : Bool) (at : ℕ) {rs : List ℕ} {left : ℕ}
    (h : Holding set x first past (at ∷ rs) left got s) where
  -- its reading
  pub admit-reads : Reads x first past (gateway_of s).clock at rs left
  admit-reads = ahead-next h.ahead

  -- it is not refused for its reading
  pub admit-forward : s.node.clock ≤ at
  admit-forward = rw (← node-clock s) admit-reads.forward

  module _ (ms : MessageSet x.flags set) (m : List ℕ) (e : brought x.flags (admit ed body i word at) ≡ Some m)
      (inside : among m set ≡ true) where
    -- the message passes admission
    abbrev id : List ℕ
    id = (ms.admissible m inside).0

    abbrev own : gives_id x.flags m id ≡ true
    own = (ms.admissible m inside).1

    -- so it is taken
    pub admit-takes : plan_in s ed body i word at ≡ taken m (ms.admissible m inside).0
    admit-takes = brought_plan s x.flags h.held.flags ed body i word at m id e own h.kept.fine admit-forward

    -- and is seen exactly where it is among those got
    admit-held : held_at s.node s.ids at (form_of (mode_of s.node.cache.flags) m id) ≡ among m got
    admit-held =
        let a = holds-new h.held at admit-reads.lasting ms admit-reads.later m id inside own in
        let b = is_new_lem s.node s.ids s.messages h.kept.fine at m id in
        sym (not-not (held_at s.node s.ids at (form_of (mode_of s.node.cache.flags) m id)))
        ∙ ap not (sym b ∙ a)
        ∙ not-not (among m got)

    -- ---- a message of the set that comes in is answered duplicate where it was got before, and else new
    pub admit-answers : answer_in s ed body i word at ≡ cond (among m got) (Ok novelty.Duplicate) (Ok novelty.New)
    admit-answers = rw (admit-takes, admit-held)

    pub admit-done : refusal_at s (admit ed body i word at) ≡ 0
    admit-done = taken-number s ed body i word at m id admit-takes

    some_stored : Bytes (after (admit ed body i word at) s).messages
    unfolding after
    some_stored = rw admit-takes
        (admit-bytes s.node s.ids s.messages at m id h.bytes (ms.bytes m inside))

    admit-holding : Holding set x first past rs left (with_got m got) (after (admit ed body i word at) s)
    admit-holding =
        let g = sym (admit-leaves s ed body i word at m id admit-takes h.kept.typed) in
        let c = admit-clock s ed body i word at m id admit-takes h.kept.typed in
        record {
          kept = after-keeps (admit ed body i word at) s h.kept;
          held =
              subst (λ (k : Gateway). Holds set x first past (with_got m got) k) g
              (holds-admit h.held at admit-reads.lasting ms admit-reads.later m id inside own);
          bytes = some_stored;
          ahead = subst (λ (k : ℕ). Ahead x first past k rs left) (sym c) admit-reads.rest;
        }

  module _ (ms : MessageSet x.flags set) (inside : MemberAt x.flags set (admit ed body i word at)) where
    by-brought : (o : Option (List ℕ)) → brought x.flags (admit ed body i word at) ≡ o
        → Holding set x first past rs left (got_by got o) (after (admit ed body i word at) s)
    by-brought None e =
        let p = unbrought_plan s x.flags h.held.flags ed body i word at e in
        subst (λ (t : State). Holding set x first past rs left got t)
        (sym (admit-none s ed body i word at p.0 p.1))
        (record { kept = h.kept; held = h.held; bytes = h.bytes; ahead = reads_kept admit-reads })
    by-brought (Some m) e = admit-holding ms m e (inside m ((brings_that x.flags m (admit ed body i word at)).1 e))

    pub holding-admit : Holding set x first past rs left (got_next x.flags got (admit ed body i word at))
        (after (admit ed body i word at) s)
    holding-admit = by-brought (brought x.flags (admit ed body i word at)) refl

-- ---- a heartbeat
module _ {set : List (List ℕ)} {x : Settings} {first past : ℕ} {got : List (List ℕ)} {s : State} (at : ℕ) {rs : List ℕ}
    (left : ℕ)
    (h : Holding set x first past (at ∷ rs) (suc left) got s) where
  beat-ahead : Ahead x first (suc past) (gateway_of s).clock (at ∷ rs) left
  beat-ahead =
      let a = h.ahead in
      let f = a.few in
      record { rises = a.rises; from_first = a.from_first; lasting = a.lasting; few = omega arith }

  beat-few : suc past < x.history_len
  beat-few = let f = beat-ahead.few in omega arith

  pub beat-reads : Reads x first (suc past) (gateway_of s).clock at rs left
  beat-reads = ahead-next beat-ahead

  pub beat-forward : s.node.clock ≤ at
  beat-forward = rw (← node-clock s) beat-reads.forward

  -- it is done
  pub beat-answers : beat_answer s.node s.ids s.messages at ≡ Ok tt
  beat-answers = beat-says s.node s.ids s.messages at h.kept.fine beat-forward

  beat-bytes : Bytes (after (heartbeat at) s).messages
  unfolding after
  beat-bytes = h.bytes

  pub holding-beat : Holding set x first (suc past) rs left got (after (heartbeat at) s)
  holding-beat =
      let g = beat-leaves s h.kept at beat-forward in
      let c = beat-clock s h.kept at beat-forward in
      record {
        kept = after-keeps (heartbeat at) s h.kept;
        held = subst (λ (k : Gateway). Holds set x first (suc past) got k) (sym g)
            (holds-beat h.held at beat-reads.lasting beat-few);
        bytes = beat-bytes;
        ahead = subst (λ (k : ℕ). Ahead x first (suc past) k rs left) (sym c) beat-reads.rest;
      }

-- ---- any call
left-same : {set : List (List ℕ)} {x : Settings} {first past : ℕ} {rs : List ℕ} {got : List (List ℕ)} {s : State}
    (a b : ℕ) → a ≡ b → Holding set x first past rs a got s → Holding set x first past rs b got s
left-same {set} {x} {first} {past} {rs} {got} {s} a b e h = subst (λ (n : ℕ). Holding set x first past rs n got s) e h

module _ {set : List (List ℕ)} {x : Settings} {first past : ℕ} {got : List (List ℕ)} {s : State}
    (ms : MessageSet x.flags set) (rs : List ℕ) (left : ℕ) where
  -- with readings and heartbeats that come after it
  pub holding-next : (c : Call) → Holding set x first past (reading c ++ rs) (beat c + left) got s
      → MemberAt x.flags set c → Holding set x first (past_next past c) rs left (got_next x.flags got c) (after c s)
  unfolding after brought
  holding-next (admit ed body i word at) h inside =
      holding-admit ed body i word at (left-same (0 + left) left (omega arith) h) ms inside
  holding-next (heartbeat at) h inside = holding-beat at left (left-same (1 + left) (suc left) (omega arith) h)
  holding-next (advertise topic windows out) h inside = left-same (0 + left) left (omega arith) h
  holding-next (ask ed body out) h inside = left-same (0 + left) left (omega arith) h
  holding-next (serve ed body second out) h inside = left-same (0 + left) left (omega arith) h
  holding-next (explain id topic windows) h inside = left-same (0 + left) left (omega arith) h

-- ---- after some calls, with readings and heartbeats that come after them
pub members-here : {flags : ℕ} {set : List (List ℕ)} {c : Call} {cs : List Call} → Members flags set (c ∷ cs)
    → MemberAt flags set c
members-here (member a rest) = a

pub members-rest : {flags : ℕ} {set : List (List ℕ)} {c : Call} {cs : List Call} → Members flags set (c ∷ cs)
    → Members flags set cs
members-rest (member a rest) = rest

pub holding_on : {set : List (List ℕ)} {x : Settings} {first past : ℕ} {got : List (List ℕ)} {s : State}
    → MessageSet x.flags set → (calls : List Call) (rs : List ℕ) (left : ℕ)
    → Holding set x first past (readings calls ++ rs) (beats calls + left) got s → Members x.flags set calls
    → Holding set x first (past_all past calls) rs left (got_all x.flags got calls) (after_all calls s)
unfolding got_all after_all readings beats past_all
holding_on ms [] rs left h ins = left-same (0 + left) left (omega arith) h
holding_on {set} {x} {first} {past} {got} {s} ms (c ∷ cs) rs left h ins =
    let e : (reading c ++ readings cs) ++ rs ≡ reading c ++ (readings cs ++ rs) =
    append_assoc (reading c) (readings cs) rs in
    let f : (beat c + beats cs) + left ≡ beat c + (beats cs + left) = omega arith in
    let k = left-same ((beat c + beats cs) + left) (beat c + (beats cs + left)) f
    (subst (λ (l : List ℕ). Holding set x first past l ((beat c + beats cs) + left) got s) e h) in
    holding_on {past = past_next past c} {got = got_next x.flags got c} {s = after c s} ms cs rs left
    (holding-next ms (readings cs ++ rs) (beats cs + left) c k (members-here ins)) (members-rest ins)

pub holding-all : {set : List (List ℕ)} {x : Settings} {calls : List Call} {s : State} → MessageSet x.flags set
    → Premises set x calls s
    → Holding set x (first_of calls) (past_all 0 calls) [] 0 (got_all x.flags [] calls) (after_all calls s)
holding-all {set} {x} {calls} {s} ms p =
    holding_on ms calls [] 0
    (left-same (beats calls) (beats calls + 0) (omega arith)
    (subst (λ (l : List ℕ). Holding set x (first_of calls) 0 l (beats calls) [] s) (sym (append-nil (readings calls)))
    (holding-start p)))
    p.members
