-- A message of an RPC is taken exactly where it is fit, by its fields.
use Rattle.std.specs.Prelude.{Some, None, Ok, ℕ, ◌-◌, ◌≤◌, ◌≡◌, refl, Bool, ◌↔◌, length, ltb}
use Rattle.std.proofs.Common.{sym, ap, ◌∙◌, arith, zero-add}
use Rattle.std.proofs.Math.Path.{ap₂, subst}
use mathlib.Core.List.{List, [], ◌∷◌}
use borrow.Author.Tests.{ltb-true, ltb-false, le-ltb, ne_eqb}
use Rattle.basis.specs.declared.Mode.{Mode}
use Rattle.basis.specs.Dialect.{mode_of}
use Rattle.basis.specs.Cases.{either, clash}
use Rattle.basis.specs.Bytes.{Bytes}
use Rattle.peer_id.specs.MultihashLaws.{peer-size}
use Rattle.peer_id.specs.Multihash.{IsPeerId}
use Rattle.protobuf.specs.Walk.{between}
use Rattle.protobuf.specs.WalkLaws.{between-length}
use Rattle.protobuf.specs.Exactly.{body_walks}
use Rattle.schema.specs.declared.Kind.TheVariants as kind
use Rattle.schema.specs.declared.Place.{Place}
use Rattle.schema.specs.declared.Place.TheVariants as place
use Rattle.schema.specs.Slots.{slots_of}
use Rattle.schema.specs.SlotsLaws.{PlaceInside}
use Rattle.schema.proofs.SlotsLaws.{slots_inside}
use Rattle.rpc.specs.Rpc.{RawMessage}
use Rattle.rpc.specs.Grammar.{IsMessage, is-message, Each, none_left, ◌and◌}
use Rattle.meaning.specs.ReadBack.{bytes_at}
use Rattle.meaning.specs.Back.{message-from, message-seqno, message-signature, message-key, slot_value, whole_part}
use Rattle.canon.specs.Messages.{raw-is}
use Rattle.ids.specs.Ids.{on_from, id_parts}
use Rattle.ids.specs.IdLaws.{id-fits, id-some, parts-there}
use Rattle.admission.specs.Admission.{first_long, topics_of, admission_of}
use Rattle.admission.specs.Fit.{KeyOf, given_at, Backed}
use Rattle.admission.specs.Fit as fit
use Rattle.admission.specs.FitLaws.{fit-exactly}
use Rattle.outputs.specs.Cached.{topics-mean}
use Rattle.outputs.specs.Fits.{BackedMessage, signed, unsigned, FitMessage}

-- ---- what field_at in the places of a message's fields is what the bytes mean
given-bytes : (p : List ℕ) (q : Place) → given_at p q ≡ bytes_at p 0 q
given-bytes p place.Absent = refl
given-bytes p (place.Present a e) = sym (ap₂ (λ (x y : ℕ). Some (between p x y)) (zero-add a) (zero-add e))

pub record FieldsGiven (mode : Mode) (p : List ℕ) (m : RawMessage) : Type 0 where
  pub from : given_at p (slots_of mode kind.RawMessage p).first ≡ m.from
  pub seqno : given_at p (slots_of mode kind.RawMessage p).third ≡ m.seqno
  pub signature : given_at p (slots_of mode kind.RawMessage p).fourth ≡ m.signature
  pub key : given_at p (slots_of mode kind.RawMessage p).fifth ≡ m.key

pub fields-given : (mode : Mode) {p : List ℕ} {m : RawMessage} → IsMessage mode p m → FieldsGiven mode p m
fields-given mode (is-message {s = p} {es = es} g u) =
    let w = body_walks mode p es g in
    let s = slots_of mode kind.RawMessage p in
    record {
      from = given-bytes p s.first
          ∙ slot_value mode p 0 p kind.RawMessage (λ t. t.first) 1 w.fields es (whole_part p) message-from
          w.walked
          w.entries refl;
      seqno = given-bytes p s.third
          ∙ slot_value mode p 0 p kind.RawMessage (λ t. t.third) 3 w.fields es (whole_part p) message-seqno
          w.walked
          w.entries refl;
      signature = given-bytes p s.fourth
          ∙ slot_value mode p 0 p kind.RawMessage (λ t. t.fourth) 5 w.fields es (whole_part p) message-signature
          w.walked w.entries refl;
      key = given-bytes p s.fifth
          ∙ slot_value mode p 0 p kind.RawMessage (λ t. t.fifth) 6 w.fields es (whole_part p) message-key
          w.walked
          w.entries refl;
    }

-- a field that is there has its place, and as many bytes
record FieldAt (p : List ℕ) (q : Place) (d : List ℕ) : Type 0 where
  start : ℕ
  next : ℕ
  there : q ≡ place.Present start next
  bytes : between p start next ≡ d
  size : next - start ≡ length d

field_at : (p : List ℕ) (q : Place) (d : List ℕ) → PlaceInside p q → given_at p q ≡ Some d → FieldAt p q d
field_at p place.Absent d i h = clash (cc)
field_at p (place.Present a e) d i h =
    let x : between p a e ≡ d = cc in
    record {
      start = a;
      next = e;
      there = refl;
      bytes = x;
      size = sym (between-length p a e (i a e refl).1) ∙ ap length x;
    }

-- ---- no topic is long
all_short : (l : List (List ℕ)) → first_long l ≡ 0 → Each (λ (t : List ℕ). length t ≤ 1024) l
unfolding first_long
all_short [] h = none_left
all_short (t ∷ l) h =
    either (ltb 1024 (length t))
    (λ u. let z : length t ≡ 0 = simp u at h in let w = ltb-true 1024 (length t) u in absurd (omega arith))
    (λ u. ltb-false 1024 (length t) u and all_short l (simp u at h))

none-long : {l : List (List ℕ)} → Each (λ (t : List ℕ). length t ≤ 1024) l → first_long l ≡ 0
unfolding first_long
none-long none_left = refl
none-long (◌and◌ {x = t} {xs = l} h r) = rw (le-ltb 1024 (length t) h) (none-long r)

-- and one that is not there has none
not-given : (p : List ℕ) (q : Place) → given_at p q ≡ None → q ≡ place.Absent
not-given p place.Absent h = refl
not-given p (place.Present a e) h = clash (cc)

module _ (flags : ℕ) {p : List ℕ} {m : RawMessage} (i : IsMessage (mode_of flags) p m) (bp : Bytes p) (word : Bool) where
  -- what stands behind it, by its places and by its fields
  backed-fields : {s : List ℕ} → Backed flags p word s → BackedMessage flags m word s
  backed-fields {s} (fit.signed y k w) =
      let g = fields-given (mode_of flags) i in
      let z = (slots_inside (mode_of flags) kind.RawMessage p).fourth y.start y.next y.there in
      signed {signature = between p y.start y.next} (sym g.signature ∙ ap (given_at p) y.there)
      (between-length p y.start y.next z.1 ∙ y.size) (subst (KeyOf s) g.key k) w
  backed-fields (fit.unsigned t f4 f5) =
      let g = fields-given (mode_of flags) i in
      unsigned t (sym g.signature ∙ ap (given_at p) f4) (sym g.key ∙ ap (given_at p) f5)

  backed-places : {s : List ℕ} → BackedMessage flags m word s → Backed flags p word s
  backed-places {s} (signed {signature} there whole k given) =
      let g = fields-given (mode_of flags) i in
      let f = (slots_inside (mode_of flags) kind.RawMessage p).fourth in
      let w = field_at p (slots_of (mode_of flags) kind.RawMessage p).fourth signature f (g.signature ∙ there) in
      fit.signed (record { start = w.start; next = w.next; there = w.there; size = w.size ∙ whole })
      (subst (KeyOf s) (sym g.key) k) given
  backed-places (unsigned t a b) =
      let g = fields-given (mode_of flags) i in
      fit.unsigned t (not-given p (slots_of (mode_of flags) kind.RawMessage p).fourth (g.signature ∙ a))
      (not-given p (slots_of (mode_of flags) kind.RawMessage p).fifth (g.key ∙ b))

  by-fields : (a e b f : ℕ) → admission_of flags p word ≡ Ok ((a, e), (b, f)) → FitMessage flags m word
  by-fields a e b f h =
      let x = (fit-exactly flags p word a e b f bp).0 h in
      let g = fields-given (mode_of flags) i in
      let t = parts-there (mode_of flags) p a e b f x.parts in
      let n = id-fits (mode_of flags) p a e b f x.parts in
      let o = id-some (mode_of flags) p a e b f x.parts in
      let l = between-length p b f n.seqno.1 in
      let k = (topics-mean (mode_of flags) i).0 in
      record {
        sender = between p a e;
        from = sym g.from ∙ ap (given_at p) t.0;
        hash = x.hash;
        digest = x.digest;
        peer = x.peer;
        number = between p b f;
        seqno = sym g.seqno ∙ ap (given_at p) t.1;
        number-some = omega (arith, o.1);
        number_short = omega (arith, n.seqno-short);
        backed = backed-fields x.backed;
        topic = rw k x.limits.some;
        few = rw k x.limits.few;
        short = rw k (all_short (topics_of (mode_of flags) p) x.limits.short);
        small = rw (raw-is (mode_of flags) i) x.limits.small;
      }

  by-places : FitMessage flags m word → (a : ℕ) × (e : ℕ) × (b : ℕ) × (f : ℕ)
      × (admission_of flags p word ≡ Ok ((a, e), (b, f)))
  unfolding id_parts
  by-places x =
      let g = fields-given (mode_of flags) i in
      let s = slots_inside (mode_of flags) kind.RawMessage p in
      let u = field_at p (slots_of (mode_of flags) kind.RawMessage p).first x.sender s.first (g.from ∙ x.from) in
      let v = field_at p (slots_of (mode_of flags) kind.RawMessage p).third x.number s.third (g.seqno
      ∙ x.seqno) in
      let z = peer-size x.peer in
      let k = (topics-mean (mode_of flags) i).0 in
      let parts : id_parts (mode_of flags) p ≡ Ok ((u.start, u.next), (v.start, v.next)) =
      ap₂ on_from u.there v.there
      ∙ simp (
        ne_eqb (u.next - u.start) 0 (λ q. absurd (omega (arith, u.size, z.0))),
        le-ltb 64 (u.next - u.start) (omega (arith, u.size, z.1)),
        ne_eqb (v.next - v.start) 0 (λ q. absurd (omega (arith, v.size, x.number-some))),
        le-ltb 64 (v.next - v.start) (omega (arith, v.size, x.number_short)),
      ) in (
        u.start,
        u.next,
        v.start,
        v.next,
        (fit-exactly flags p word u.start u.next v.start v.next bp).1
            (record {
              parts = parts;
              hash = x.hash;
              digest = x.digest;
              peer = subst (λ (l : List ℕ). IsPeerId l x.hash x.digest) (sym u.bytes) x.peer;
              backed = subst (Backed flags p word) (sym u.bytes) (backed-places x.backed);
              limits = record {
                some = rw k at x.topic;
                few = rw k at x.few;
                short = none-long (rw k at x.short);
                small = rw (raw-is (mode_of flags) i) at x.small;
              };
            }),
      )

  -- the bytes of a message are taken exactly where the message that they mean is fit
  pub fit-message : ((a : ℕ) × (e : ℕ) × (b : ℕ) × (f : ℕ) × (admission_of flags p word ≡ Ok ((a, e), (b, f))))
      ↔ FitMessage flags m word
  fit-message = (λ x. by-fields x.0 x.1 x.2 x.3 x.4, by-places)
