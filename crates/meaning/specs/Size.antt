-- How many records an RPC has, by the scope's list: each SubOpts, message, topic of a message, IHAVE, IWANT, message
-- id, GRAFT, PRUNE, PeerInfo and IDONTWANT; and a body has as many as the RPC that it means.
use Rattle.std.specs.Prelude.{Option, Some, None, ℕ, ◌+◌, ◌≡◌, refl, List, [], ◌∷◌, length}
use Rattle.std.proofs.Common.{ap, ◌∙◌, arith}
use Rattle.basis.specs.declared.Dialect.{Dialect}
use Rattle.schema.specs.declared.Kind.{Kind}
use Rattle.schema.specs.declared.Kind.TheVariants as kind
use Rattle.schema.specs.Schema.{own_of}
use Rattle.message.specs.declared.Record.{Record}
use Rattle.message.specs.Rows.{rows_of}
use Rattle.rpc.specs.Rpc.{SubOpts, RawMessage, ControlIHave, ControlIWant, ControlGraft, PeerInfo, ControlPrune}
use Rattle.rpc.specs.Rpc.{ControlIDontWant, ControlMessage, Rpc}
use Rattle.rpc.specs.Grammar.{none_left, ◌and◌, joined, IsRpc, is-rpc}
use Rattle.meaning.specs.ReadBack.{Gathered, nothing, gather_kind, gather}
use Rattle.meaning.specs.Back.{flat, joined-some, rpc-gathered}
use Rattle.meaning.specs.Table.{AllRecords, all-records}

-- ---- the records of an RPC
abbrev pub sum_of : {X : Type 0} → (X → ℕ) → List X → ℕ
sum_of f [] = 0
sum_of f (x ∷ xs) = f x + sum_of f xs

abbrev pub control_records : ControlMessage → ℕ
control_records c =
    sum_of (λ h. 1 + length h.message_ids) c.ihave
    + sum_of (λ w. 1 + length w.message_ids) c.iwant
    + length c.graft
    + sum_of (λ p. 1 + length p.peers) c.prune
    + sum_of (λ d. 1 + length d.message_ids) c.idontwant

abbrev pub some_records : Option ControlMessage → ℕ
some_records None = 0
some_records (Some c) = control_records c

unfoldable pub records_in : Rpc → ℕ
records_in x = length x.subscriptions + sum_of (λ m. 1 + length m.topic_ids) x.publish + some_records
    x.control

-- ---- each record that is gathered counts once
abbrev pub size : Gathered → ℕ
size g =
    length g.topics + length g.ids + length g.peers + length g.subscriptions
    + sum_of (λ m. 1 + length m.topic_ids) g.publish
    + control_records g.control

size_kind : (k : Kind) (b : List ℕ) (r : Record) (g : Gathered) → size (gather_kind k b r g) ≡ own_of k + size g
unfolding own_of
size_kind (kind.Rpc d) b r g = omega arith
size_kind kind.SubOpts b r g = omega arith
size_kind kind.RawMessage b r g = omega arith
size_kind kind.Topic b r g = omega arith
size_kind (kind.ControlMessage d) b r g = omega arith
size_kind kind.ControlIHave b r g = omega arith
size_kind kind.ControlIWant b r g = omega arith
size_kind kind.MessageId b r g = omega arith
size_kind kind.ControlGraft b r g = omega arith
size_kind kind.ControlPrune b r g = omega arith
size_kind kind.PeerInfo b r g = omega arith
size_kind kind.ControlIDontWant b r g = omega arith

abbrev pub weight : List Record → ℕ
weight rs = sum_of (λ r. own_of r.kind) rs

pub size-gather : (b : List ℕ) (rs : List Record) (g : Gathered) → size (gather b rs g) ≡ weight rs + size g
size-gather b [] g = omega arith
size-gather b (r ∷ rs) g = size_kind r.kind b r (gather b rs g) ∙ omega (arith, size-gather b rs g)

-- ---- and each record of a body is gathered
weight-each : {rs : List Record} → AllRecords rs → weight rs ≡ length rs
weight-each none_left = refl
weight-each (p and ps) = omega (arith, weight-each ps)

flat-records : (cs : List ControlMessage) → some_records (joined cs) ≡ control_records (flat cs)
flat-records [] = refl
flat-records (c ∷ cs) = ap some_records (joined-some c cs)

-- a body has as many records as the RPC that it means
pub rpc-records : {d : Dialect} {b : List ℕ} {x : Rpc} → IsRpc d b x
    → length (rows_of d.mode (kind.Rpc d.edition) 0 b) ≡ records_in x
unfolding records_in
rpc-records {d} (is-rpc {s = s} {es = es} {ss = ss} {ms = ms} {cs = cs} g h1 h2 h3) =
    let e = ap size (rpc-gathered d s es ss ms cs g h1 h2 h3) in
    let w = weight-each (all-records d.mode (kind.Rpc d.edition) 0 s) in
    let z = size-gather s (rows_of d.mode (kind.Rpc d.edition) 0 s) nothing in
    omega (arith, e, w, z, flat-records cs)
