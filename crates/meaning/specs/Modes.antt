-- What the first mode accepts the second accepts, with the same meaning.
use Rattle.std.specs.Prelude.{ℕ, ◌-◌, ◌≡◌, List}
use Rattle.basis.specs.declared.Mode.TheVariants.{Plain, Groups}
use Rattle.basis.specs.declared.Edition.{Edition}
use Rattle.basis.specs.Dialect.{spoken}
use Rattle.protobuf.specs.ModeLaws.{plain_body}
use Rattle.schema.specs.declared.Kind.TheVariants as kind
use Rattle.rpc.specs.Rpc.{SubOpts, RawMessage, ControlIHave, ControlIWant, ControlGraft, PeerInfo, ControlPrune}
use Rattle.rpc.specs.Rpc.{ControlIDontWant, ControlMessage, Rpc}
use Rattle.rpc.specs.Grammar.{Pairs, no_pairs, ◌paired◌, IsSubOpts, is-sub_opts, IsMessage, is-message, IsIHave}
use Rattle.rpc.specs.Grammar.{is-ihave, IsIWant, is-iwant, IsGraft, is-graft, IsPeerInfo, is-peer_info, IsPrune}
use Rattle.rpc.specs.Grammar.{is-prune, IsIDontWant, is-idontwant, IsControl, is_control, IsRpc, is-rpc}
use Rattle.meaning.specs.Back.{one-rpc}
use Rattle.meaning.specs.Decoded.{Within}

-- ---- what the first mode accepts the second accepts, with the same meaning
pub pairs_of : {A B : Type 0} {R S : A → B → Type 0} {xs : List A} {ys : List B} → ((x : A) (y : B) → R x y → S x y)
    → Pairs R xs ys → Pairs S xs ys
pairs_of h no_pairs = no_pairs
pairs_of h (◌paired◌ {x = x} {y = y} p ps) = h x y p paired pairs_of h ps

-- a subscription
pub plain-sub_opts : {s : List ℕ} {x : SubOpts} → IsSubOpts Plain s x → IsSubOpts Groups s x
plain-sub_opts (is-sub_opts g h) = is-sub_opts (plain_body g) h

-- a message
pub plain-message : {s : List ℕ} {m : RawMessage} → IsMessage Plain s m → IsMessage Groups s m
plain-message (is-message g h) = is-message (plain_body g) h

-- an IHAVE
pub plain-ihave : {s : List ℕ} {x : ControlIHave} → IsIHave Plain s x → IsIHave Groups s x
plain-ihave (is-ihave g h) = is-ihave (plain_body g) h

-- an IWANT
pub plain-iwant : {s : List ℕ} {x : ControlIWant} → IsIWant Plain s x → IsIWant Groups s x
plain-iwant (is-iwant g) = is-iwant (plain_body g)

-- a GRAFT
pub plain-graft : {s : List ℕ} {x : ControlGraft} → IsGraft Plain s x → IsGraft Groups s x
plain-graft (is-graft g h) = is-graft (plain_body g) h

-- a peer of a PRUNE
pub plain-peer_info : {s : List ℕ} {x : PeerInfo} → IsPeerInfo Plain s x → IsPeerInfo Groups s x
plain-peer_info (is-peer_info g) = is-peer_info (plain_body g)

-- a PRUNE
pub plain-prune : {s : List ℕ} {x : ControlPrune} → IsPrune Plain s x → IsPrune Groups s x
plain-prune (is-prune g h ps) = is-prune (plain_body g) h (pairs_of (λ x y. plain-peer_info) ps)

-- an IDONTWANT
pub plain-idontwant : {s : List ℕ} {x : ControlIDontWant} → IsIDontWant Plain s x → IsIDontWant Groups s x
plain-idontwant (is-idontwant g) = is-idontwant (plain_body g)

-- a control
pub plain-control : {e : Edition} {s : List ℕ} {c : ControlMessage} → IsControl (spoken Plain e) s c
    → IsControl (spoken Groups e) s c
plain-control (is_control g hs ws gs ps ds) =
    is_control (plain_body g) (pairs_of (λ x y. plain-ihave) hs) (pairs_of (λ x y. plain-iwant) ws)
    (pairs_of (λ x y. plain-graft) gs) (pairs_of (λ x y. plain-prune) ps) (pairs_of (λ x y. plain-idontwant) ds)

-- a body
pub plain-means : {e : Edition} {s : List ℕ} {x : Rpc} → IsRpc (spoken Plain e) s x → IsRpc (spoken Groups e) s x
plain-means (is-rpc g ss ms cs) =
    is-rpc (plain_body g) (pairs_of (λ x y. plain-sub_opts) ss) (pairs_of (λ x y. plain-message) ms)
    (pairs_of (λ x y. plain-control) cs)

-- and it has no other meaning there
pub same_meaning : {e : Edition} {s : List ℕ} {x y : Rpc} → IsRpc (spoken Plain e) s x → IsRpc (spoken Groups e) s y
    → x ≡ y
same_meaning p q = one-rpc (plain-means p) q

-- a body within capacity
pub plain-within : {e : Edition} {s : List ℕ} {x : Rpc} → Within (spoken Plain e) s x → Within (spoken Groups e) s x
plain-within w = record { means = plain-means w.means; small = w.small; few = w.few }
