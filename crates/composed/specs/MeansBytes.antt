-- What is written is bytes where what is lent is.
use Rattle.std.specs.Prelude.{Option, Some, None, ℕ, zero, suc, ◌+◌, ◌*◌, ◌/◌, ◌%◌, ◌-◌, ◌≤◌, ◌<◌, List, [], ◌∷◌, map, length, drop, ltb}
use Rattle.std.proofs.Common.{sym, subst, arith, ltb-true, ltb-false}
use Rattle.basis.specs.Cases.{either}
use Rattle.basis.specs.Bytes.{Bytes}
use Rattle.basis.specs.Lists.{take-bytes, drop-bytes}
use Rattle.peer_id.specs.Uvarint.{uvarint}
use Rattle.peer_id.specs.Laws.{uvarint-small, uvarint_big}
use Rattle.protobuf.specs.Walk.{between}
use Rattle.protobuf.specs.Encode.{tag, varint_field, bytes_field}
use Rattle.schema.specs.declared.Kind.{Kind}
use Rattle.schema.specs.declared.Kind.TheVariants as kind
use Rattle.schema.specs.declared.Place.{Place}
use Rattle.schema.specs.declared.Place.TheVariants as place
use Rattle.message.specs.declared.Record.{Record}
use Rattle.rpc.specs.Rpc.{RawMessage, ControlGraft, ControlPrune, ControlMessage}
use Rattle.rpc.specs.Grammar.{Each, none_left, ◌and◌, nonzero}
use Rattle.rpc.specs.Encode.{optional, repeated, flag, encode_sub_opts, encode_graft, encode_peer_info, encode_prune, encode_control, encode_rpc}
use Rattle.meaning.specs.ReadBack.{bytes_at, number_at, Gathered, nothing, gather_kind, gather}
use Rattle.meaning.specs.Table.{each_append}
use Rattle.canonical.specs.Means.{opt}
use Rattle.compose.specs.Said.{encode_fields, encode_message, renewed, subscriptions_in, messages_in, grafts_in, prunes_in, control_of, said}

-- ---- each of a list is a byte
abbrev Low : List ℕ → Type 0
Low s = Each (λ x. x < 256) s

each-low : (s : List ℕ) → Bytes s → Low s
each-low [] h = none_left
each-low (x ∷ s) h = h 0 and each-low s (λ i. h (suc i))

low-bytes : {s : List ℕ} → Low s → Bytes s
low-bytes none_left i = omega arith
low-bytes (p and ps) zero = p
low-bytes (p and ps) (suc i) = low-bytes ps i

uvarint-from : (f n : ℕ) → n ≤ f → Low (uvarint n)
uvarint-from zero n h = subst Low (sym (uvarint-small n (omega arith))) (let k : n < 256 = omega arith in k and none_left)
uvarint-from (suc f) n h =
    either (ltb n 128)
    (λ t. let l = ltb-true n 128 t in subst Low (sym (uvarint-small n l)) (let k : n < 256 = omega arith in k and none_left))
    (λ t. let l = ltb-false n 128 t in
    subst Low (sym (uvarint_big n l)) (let k : n % 128 + 128 < 256 = omega arith in k and uvarint-from f (n / 128) (omega arith)))

uvarint-low : (n : ℕ) → Low (uvarint n)
uvarint-low n = uvarint-from n n (omega arith)

-- ---- fields
varint-low : (n v : ℕ) → Low (varint_field n v)
unfolding varint_field tag
varint-low n v = each_append (uvarint-low (n * 8 + 0)) (uvarint-low v)

field-low : (n : ℕ) (d : List ℕ) → Low d → Low (bytes_field n d)
unfolding bytes_field tag
field-low n d h =
    each_append (uvarint-low (n * 8 + 2))
    (each_append (uvarint-low (length d)) h)

optional-low : (n : ℕ) (o : Option (List ℕ)) → Each Low (opt o) → Low (optional (bytes_field n) o)
optional-low n None h = none_left
optional-low n (Some d) (p and none_left) = field-low n d p

number-low : {A : Type 0} (n : ℕ) (f : A → ℕ) (o : Option A) → Low (optional (λ v. varint_field n (f v)) o)
number-low n f None = none_left
number-low n f (Some v) = varint-low n (f v)

repeated-low : {X : Type 0} (n : ℕ) (enc : X → List ℕ) (xs : List X) → Each (λ x. Low (enc x)) xs
    → Low (repeated (λ x. bytes_field n (enc x)) xs)
repeated-low n enc [] none_left = none_left
repeated-low n enc (x ∷ xs) (p and ps) =
    each_append (field-low n (enc x) p)
    (repeated-low n enc xs ps)

-- ---- what rows say
-- the encodings of what is gathered are bytes
record Octets (g : Gathered) : Type 0 where
  topics : Each Low g.topics
  peers : Each (λ p. Low (encode_peer_info p)) g.peers
  subscriptions : Each (λ o. Low (encode_sub_opts o)) g.subscriptions
  publish : Each (λ m. Low (encode_message m)) g.publish
  grafts : Each (λ x. Low (encode_graft x)) g.control.graft
  prunes : Each (λ p. Low (encode_prune p)) g.control.prune

module _ (b : List ℕ) (h : Bytes b) where
  part_low : (a e : ℕ) → Low (between b a e)
  part_low a e = each-low (between b a e) (take-bytes (e - a) (drop a b) (drop-bytes a b h))

  place-low : (at : ℕ) (p : Place) → Each Low (opt (bytes_at b at p))
  place-low at place.Absent = none_left
  place-low at (place.Present a e) = part_low (at + a) (at + e) and none_left

  place-field : (n at : ℕ) (p : Place) → Low (optional (bytes_field n) (bytes_at b at p))
  place-field n at p = optional-low n (bytes_at b at p) (place-low at p)

  octets_kind : (k : Kind) (r : Record) (g : Gathered) → Octets g → Octets (gather_kind k b r g)
  unfolding encode_peer_info encode_sub_opts encode_message encode_fields encode_graft encode_prune
  octets_kind (kind.Rpc d) r g o = o
  octets_kind kind.SubOpts r g o =
      record {
        topics = o.topics;
        peers = o.peers;
        subscriptions = each_append (number-low 1 flag (nonzero (number_at r.slots.number))) (place-field 2 r.start r.slots.first) and o.subscriptions;
        publish = o.publish;
        grafts = o.grafts;
        prunes = o.prunes;
      }
  octets_kind kind.RawMessage r g o =
      record {
        topics = none_left;
        peers = o.peers;
        subscriptions = o.subscriptions;
        publish =
            each_append
            (each_append (place-field 1 r.start r.slots.first)
            (each_append (place-field 2 r.start r.slots.second)
            (each_append (place-field 3 r.start r.slots.third) (repeated-low 4 (λ d. d) g.topics o.topics))))
            (each_append (place-field 5 r.start r.slots.fourth) (place-field 6 r.start r.slots.fifth))
            and o.publish;
        grafts = o.grafts;
        prunes = o.prunes;
      }
  octets_kind kind.Topic r g o =
      record {
        topics = part_low r.start r.end and o.topics;
        peers = o.peers;
        subscriptions = o.subscriptions;
        publish = o.publish;
        grafts = o.grafts;
        prunes = o.prunes;
      }
  octets_kind (kind.ControlMessage d) r g o = o
  octets_kind kind.ControlIHave r g o = record { topics = o.topics; peers = o.peers; subscriptions = o.subscriptions; publish = o.publish; grafts = o.grafts; prunes = o.prunes }
  octets_kind kind.ControlIWant r g o = record { topics = o.topics; peers = o.peers; subscriptions = o.subscriptions; publish = o.publish; grafts = o.grafts; prunes = o.prunes }
  octets_kind kind.MessageId r g o = record { topics = o.topics; peers = o.peers; subscriptions = o.subscriptions; publish = o.publish; grafts = o.grafts; prunes = o.prunes }
  octets_kind kind.ControlGraft r g o =
      record {
        topics = o.topics;
        peers = o.peers;
        subscriptions = o.subscriptions;
        publish = o.publish;
        grafts = place-field 1 r.start r.slots.first and o.grafts;
        prunes = o.prunes;
      }
  octets_kind kind.ControlPrune r g o =
      record {
        topics = o.topics;
        peers = none_left;
        subscriptions = o.subscriptions;
        publish = o.publish;
        grafts = o.grafts;
        prunes =
            each_append (place-field 1 r.start r.slots.first)
            (each_append (repeated-low 2 encode_peer_info g.peers o.peers) (number-low 3 (λ v. v) (number_at r.slots.number)))
            and o.prunes;
      }
  octets_kind kind.PeerInfo r g o =
      record {
        topics = o.topics;
        peers = each_append (place-field 1 r.start r.slots.first) (place-field 2 r.start r.slots.second) and o.peers;
        subscriptions = o.subscriptions;
        publish = o.publish;
        grafts = o.grafts;
        prunes = o.prunes;
      }
  octets_kind kind.ControlIDontWant r g o =
      record {
        topics = o.topics;
        peers = o.peers;
        subscriptions = o.subscriptions;
        publish = o.publish;
        grafts = o.grafts;
        prunes = o.prunes;
      }

  octets : (rs : List Record) → Octets (gather b rs nothing)
  octets [] =
      record {
        topics = none_left;
        peers = none_left;
        subscriptions = none_left;
        publish = none_left;
        grafts = none_left;
        prunes = none_left;
      }
  octets (r ∷ rs) = octets_kind r.kind r (gather b rs nothing) (octets rs)

raw-low : {ms : List RawMessage} → Each (λ m. Low (encode_message m)) ms → Each (λ m. Low m.raw) (map renewed ms)
raw-low none_left = none_left
raw-low (p and ps) = p and raw-low ps

control-low : (gs : List ControlGraft) (ps : List ControlPrune) → Each (λ g. Low (encode_graft g)) gs → Each (λ p. Low (encode_prune p)) ps
    → Low (optional (λ c. bytes_field 3 (encode_control c)) (control_of gs ps))
unfolding encode_control
control-low [] [] p q = none_left
control-low [] (x ∷ ps) p q = field-low 3 _ (each_append (repeated-low 4 encode_prune (x ∷ ps) q) none_left)
control-low (g ∷ gs) ps p q =
    field-low 3 _
    (each_append (repeated-low 3 encode_graft (g ∷ gs) p) (each_append (repeated-low 4 encode_prune ps q) none_left))

said-low : (b : List ℕ) (rs : List Record) → Bytes b → Low (encode_rpc (said b rs))
unfolding encode_rpc said subscriptions_in messages_in grafts_in prunes_in
said-low b rs h =
    let o = octets b h rs in
    each_append (repeated-low 1 encode_sub_opts (gather b rs nothing).subscriptions o.subscriptions)
    (each_append (repeated-low 2 (λ m. m.raw) (map renewed (gather b rs nothing).publish) (raw-low o.publish))
    (control-low (gather b rs nothing).control.graft (gather b rs nothing).control.prune o.grafts o.prunes))

pub said-bytes : (b : List ℕ) (rs : List Record) → Bytes b → Bytes (encode_rpc (said b rs))
said-bytes b rs h = low-bytes (said-low b rs h)
