-- Bodies that are a field or several, each of bytes, and what they mean, in every dialect: messages that are published;
-- a control, with one IHAVE or one IWANT; and nothing.
use Rattle.std.specs.Prelude.{Option, Some, None, ℕ, ◌^◌, ◌≤◌, ◌<◌, ◌+◌, ◌≡◌, refl, false, List, [], ◌∷◌, ◌++◌, length, eqb}
use Rattle.std.proofs.Common.{sym, ap, ap₂, subst, append-nil, arith, length-append}
use Rattle.basis.specs.declared.Mode.{Mode}
use Rattle.basis.specs.declared.Edition.{Edition}
use Rattle.basis.specs.declared.Edition.TheVariants.{V11, V12}
use Rattle.basis.specs.declared.Dialect.{Dialect}
use Rattle.basis.specs.Cases.{clash}
use Rattle.utf8.specs.Grammar.{Utf8}
use Rattle.protobuf.specs.Grammar.{Body, none as no_fields}
use Rattle.protobuf.specs.Encode.{bytes_field}
use Rattle.protobuf.specs.EncodeLaws.{field-holds}
use Rattle.rpc.specs.Rpc.{RawMessage, ControlIHave, ControlIWant, ControlMessage, Rpc}
use Rattle.rpc.specs.Grammar.{bytes_in, last, Each, none_left, ◌and◌, Pairs, no_pairs, ◌paired◌, IsSubOpts, IsMessage}
use Rattle.rpc.specs.Grammar.{IsIHave, is-ihave, IsIWant, is-iwant, IsGraft, IsPrune, IsIDontWant, idontwants_in}
use Rattle.rpc.specs.Grammar.{IsControl, is_control, IsRpc, is-rpc}
use Rattle.rpc.specs.Encode.{encode_rpc, repeated}
use Rattle.meaning.specs.Size.{records_in}
use Rattle.canonical.specs.Means.{body-append, Sized, bytes_entries, bytes-body, bytes-here, bytes-there}
use Rattle.canonical.specs.Means.{fields-sized, found}
use Rattle.canon.proofs.Taken.{Within}
use Rattle.node.specs.Gateway.{controlled, advertisement, request}
use Rattle.node.specs.Calls.{bytes_for}
use Rattle.node.specs.WireLaws.{advertisement-bytes, request-bytes}

-- ---- fields that are not there
no-subs : {X : Type 0} (R : List ℕ → X → Type 0) (n m : ℕ) (ds : List (List ℕ)) → eqb n m ≡ false
    → Pairs R (bytes_in m (bytes_entries n ds)) []
no-subs R n m ds e = subst (λ (l : List (List ℕ)). Pairs R l []) (sym (bytes-there n m e ds)) no_pairs

-- nor an IDONTWANT, to either edition
no-idontwants : (mode : Mode) (e : Edition) (n : ℕ) (ds : List (List ℕ)) → eqb n 5 ≡ false
    → Pairs (IsIDontWant mode) (idontwants_in e (bytes_entries n ds)) []
no-idontwants mode V11 n ds e = no_pairs
no-idontwants mode V12 n ds e = no-subs (IsIDontWant mode) n 5 ds e

-- and those that are
subs : {X : Type 0} (R : List ℕ → X → Type 0) (n : ℕ) {ds : List (List ℕ)} {xs : List X} → Pairs R ds xs
    → Pairs R (bytes_in n (bytes_entries n ds)) xs
subs R n {ds} {xs} p = subst (λ (l : List (List ℕ)). Pairs R l xs) (sym (bytes-here n ds)) p

-- one field
one_field : (mode : Mode) (n : ℕ) → 1 ≤ n → n ≤ 536870911 → (d : List ℕ) → Sized d
    → Body mode (bytes_field n d) (bytes_entries n (d ∷ []))
one_field mode n l m d z = subst (λ (s : List ℕ). Body mode s (bytes_entries n (d ∷ []))) (append-nil (bytes_field n d))
    (bytes-body mode n l m (d ∷ []) (z and none_left))

-- ---- no bytes mean an RPC with nothing in it
abbrev pub nothing : Rpc
nothing = record { subscriptions = []; publish = []; control = None }

pub nothing-means : (d : Dialect) → Within d [] nothing
unfolding records_in
nothing-means d = record { means = is-rpc no_fields no_pairs no_pairs no_pairs; small = omega arith; few = omega arith }

-- ---- messages
abbrev pub published : List RawMessage → Rpc
published ms = record { subscriptions = []; publish = ms; control = None }

pub messages-mean : (d : Dialect) {ds : List (List ℕ)} {ms : List RawMessage} → Each Sized ds
    → Pairs (IsMessage d.mode) ds ms
    → IsRpc d (repeated (bytes_field 2) ds) (published ms)
messages-mean d {ds} {ms} z p =
    is-rpc (bytes-body d.mode 2 (omega arith) (omega arith) ds z) (no-subs (IsSubOpts d.mode) 2 1 ds refl)
    (subs (IsMessage d.mode) 2 p)
    (no-subs (IsControl d) 2 3 ds refl)

-- ---- a control, and in it one IHAVE or one IWANT
abbrev pub one_iHave : ControlIHave → ControlMessage
one_iHave h = record { ihave = h ∷ []; iwant = []; graft = []; prune = []; idontwant = [] }

abbrev pub one_iWant : ControlIWant → ControlMessage
one_iWant w = record { ihave = []; iwant = w ∷ []; graft = []; prune = []; idontwant = [] }

pub control-means : {d : Dialect} {s : List ℕ} {c : ControlMessage} → Sized s → IsControl d s c
    → IsRpc d (bytes_field 3 s) (controlled c)
control-means {d} {s} {c} z p =
    let ds = s ∷ [] in
    is-rpc (one_field d.mode 3 (omega arith) (omega arith) s z) (no-subs (IsSubOpts d.mode) 3 1 ds refl)
    (no-subs (IsMessage d.mode) 3 2 ds refl)
    (subs (IsControl d) 3 (p paired no_pairs))

pub ihave-means : (d : Dialect) {s : List ℕ} {h : ControlIHave} → Sized s → IsIHave d.mode s h
    → IsControl d (bytes_field 1 s) (one_iHave h)
ihave-means d {s} {h} z p =
    let ds = s ∷ [] in
    is_control (one_field d.mode 1 (omega arith) (omega arith) s z) (subs (IsIHave d.mode) 1 (p paired no_pairs))
    (no-subs (IsIWant d.mode) 1 2 ds refl)
    (no-subs (IsGraft d.mode) 1 3 ds refl) (no-subs (IsPrune d.mode) 1 4 ds refl)
    (no-idontwants d.mode d.edition 1 ds refl)

pub iwant-means : (d : Dialect) {s : List ℕ} {w : ControlIWant} → Sized s → IsIWant d.mode s w
    → IsControl d (bytes_field 2 s) (one_iWant w)
iwant-means d {s} {w} z p =
    let ds = s ∷ [] in
    is_control (one_field d.mode 2 (omega arith) (omega arith) s z) (no-subs (IsIHave d.mode) 2 1 ds refl)
    (subs (IsIWant d.mode) 2 (p paired no_pairs))
    (no-subs (IsGraft d.mode) 2 3 ds refl) (no-subs (IsPrune d.mode) 2 4 ds refl)
    (no-idontwants d.mode d.edition 2 ds refl)

-- a topic and ids
pub topic_ids_lem : (mode : Mode) (topic : List ℕ) (ids : List (List ℕ)) → Utf8 topic → Sized topic → Each Sized ids
    → IsIHave mode (bytes_field 1 topic ++ repeated (bytes_field 2) ids)
    (record { topic_id = Some topic; message_ids = ids })
topic_ids_lem mode topic ids u z w =
    let a = bytes_entries 1 (topic ∷ []) in
    let b = bytes_entries 2 ids in
    let d1 : bytes_in 1 (a ++ b) ≡ topic ∷ [] =
    found 1 a b (topic ∷ []) [] (bytes-here 1 (topic ∷ [])) (bytes-there 2 1 refl ids) in
    let d2 : bytes_in 2 (a ++ b) ≡ ids = found 2 a b [] ids (bytes-there 1 2 refl (topic ∷ [])) (bytes-here 2 ids) in
    let g = body-append (one_field mode 1 (omega arith) (omega arith) topic z)
    (bytes-body mode 2 (omega arith) (omega arith) ids w) in
    subst (IsIHave mode (bytes_field 1 topic ++ repeated (bytes_field 2) ids))
    (ap₂ (λ (y : Option (List ℕ)) (i : List (List ℕ)). record { topic_id = y; message_ids = i }) (ap last d1) d2)
    (is-ihave g (subst (Each Utf8) (sym d1) (u and none_left)))

-- ids alone
pub ids-alone : (mode : Mode) (ids : List (List ℕ)) → Each Sized ids
    → IsIWant mode (repeated (bytes_field 1) ids) (record { message_ids = ids })
ids-alone mode ids w =
    subst (IsIWant mode (repeated (bytes_field 1) ids)) (ap (λ (i : List (List ℕ)). record { message_ids = i })
    (bytes-here 1 ids))
    (is-iwant (bytes-body mode 1 (omega arith) (omega arith) ids w))

-- ---- the RPCs that a node writes
-- ids, or none
pub by_cases : {A : Type 0} (ids : List (List ℕ)) → (ids ≡ [] → A) → ((ids ≡ [] → ⊥) → A) → A
by_cases [] f g = f refl
by_cases (i ∷ is) f g = g (λ e. clash (cc))

-- where there are no ids to name, no bytes
pub no_bytes : (ids : List (List ℕ)) (x : Rpc) → ids ≡ [] → bytes_for ids x ≡ []
no_bytes ids x e = rw e

-- and where there are, those of the RPC
pub some_bytes : (ids : List (List ℕ)) (x : Rpc) → (ids ≡ [] → ⊥) → bytes_for ids x ≡ encode_rpc x
some_bytes [] x there = absurd (there refl)
some_bytes (i ∷ is) x there = refl

pub advertisement-means : (d : Dialect) (topic : List ℕ) (ids : List (List ℕ)) → Utf8 topic
    → length (encode_rpc (advertisement topic ids)) < 2 ^ 64
    → IsRpc d (encode_rpc (advertisement topic ids)) (advertisement topic ids)
unfolding advertisement
advertisement-means d topic ids u h =
    let t = bytes_field 1 topic in
    let i = repeated (bytes_field 2) ids in
    let e = advertisement-bytes topic ids in
    let n = ap length e in
    let a = field-holds 3 (bytes_field 1 (t ++ i)) in
    let b = field-holds 1 (t ++ i) in
    let l = length-append t i in
    let f = field-holds 1 topic in
    rw e (control-means (omega arith)
    (ihave-means d (omega arith) (topic_ids_lem d.mode topic ids u (omega arith) (fields-sized 2 ids (omega arith)))))

pub request-means : (d : Dialect) (ids : List (List ℕ)) → length (encode_rpc (request ids)) < 2 ^ 64
    → IsRpc d (encode_rpc (request ids)) (request ids)
unfolding request
request-means d ids h =
    let i = repeated (bytes_field 1) ids in
    let e = request-bytes ids in
    let n = ap length e in
    let a = field-holds 3 (bytes_field 2 i) in
    let b = field-holds 2 i in
    rw e (control-means (omega arith) (iwant-means d (omega arith)
    (ids-alone d.mode ids (fields-sized 1 ids (omega arith)))))

-- ---- how many records they have
pub records-told : (topic : List ℕ) (ids : List (List ℕ)) → records_in (advertisement topic ids) ≡ 1 + length ids
unfolding records_in advertisement
records-told topic ids = omega arith

pub records-asked : (ids : List (List ℕ)) → records_in (request ids) ≡ 1 + length ids
unfolding records_in request
records-asked ids = omega arith
