-- The canonical bytes of an RPC mean it, and hold no groups but those in its messages.
use Rattle.std.specs.Prelude.{Option, Some, None, ℕ, suc, ◌+◌, ◌*◌, ◌^◌, ◌≤◌, ◌<◌, ◌≡◌, refl, Bool, true, false, cond, List}
use Rattle.std.specs.Prelude.{[], ◌∷◌, ◌++◌, length, eqb}
use Rattle.std.proofs.Common.{sym, ap, ap₂, subst, ◌∙◌, append_assoc, append-nil, arith, length-append, eq-eqb}
use Rattle.basis.specs.declared.Mode.{Mode}
use Rattle.basis.specs.declared.Edition.{Edition}
use Rattle.basis.specs.declared.Edition.TheVariants.{V11, V12}
use Rattle.basis.specs.declared.Dialect.{Dialect}
use Rattle.basis.specs.Dialect.{spoken}
use Rattle.peer_id.specs.Uvarint.{uvarint}
use Rattle.utf8.specs.Grammar.{Utf8}
use Rattle.protobuf.specs.Grammar.{Payload, number, eight, bytes, group, four, Entry, Value, varint, i64, len-prefix}
use Rattle.protobuf.specs.Grammar.{i32, BodyIn, none as no_fields, field, a_group, Body}
use Rattle.protobuf.specs.Encode.{tag, varint_field, bytes_field}
use Rattle.protobuf.specs.EncodeLaws.{bytes_field-length, field-holds}
use Rattle.meaning.specs.Back.{mk_prune, same-prune}
use Rattle.rpc.specs.Rpc.{SubOpts, RawMessage, ControlIHave, ControlIWant, ControlGraft, PeerInfo, ControlPrune}
use Rattle.rpc.specs.Rpc.{ControlIDontWant, ControlMessage, Rpc}
use Rattle.rpc.specs.Grammar.{put_number, numbers_in, put_bytes, bytes_in, or_else, last, nonzero, Each, none_left, ◌and◌}
use Rattle.rpc.specs.Grammar.{Pairs, no_pairs, ◌paired◌, IsSubOpts, is-sub_opts, IsMessage, is-message, IsIHave}
use Rattle.rpc.specs.Grammar.{is-ihave, IsIWant, is-iwant, IsGraft, is-graft, IsPeerInfo, is-peer_info, IsPrune}
use Rattle.rpc.specs.Grammar.{is-prune, IsIDontWant, is-idontwant, idontwants_in, IsControl, is_control, join, join_to}
use Rattle.rpc.specs.Grammar.{joined, IsRpc, is-rpc}
use Rattle.rpc.specs.Encode.{optional, repeated, flag, encode_sub_opts, encode_iHave, encode_iWant, encode_graft}
use Rattle.rpc.specs.Encode.{encode_peer_info, encode_prune, encode_iDont_want, encode_control, encode_rpc}
use Rattle.canon.specs.Shorter.{sub_opts_shorter, ihave-shorter, iwant-shorter, graft-shorter, peer_info_shorter}
use Rattle.canon.specs.Shorter.{prune-shorter, idontwant-shorter, never_longer, raw_same}

-- ---- writing fields gives a body of them
front_assoc : (a b c d : List ℕ) → (a ++ (b ++ c)) ++ d ≡ a ++ (b ++ (c ++ d))
front_assoc a b c d = append_assoc a (b ++ c) d ∙ ap (λ (x : List ℕ). a ++ x) (append_assoc b c d)

pub body-append : {l : ℕ} {a b : List ℕ} {es fs : List Entry} → BodyIn l a es → BodyIn l b fs
    → BodyIn l (a ++ b) (es ++ fs)
body-append no_fields h = h
body-append {l} {b = b} {fs = fs} (field {n = n} {type = type} {v = v} {rest = rest} {p = p} {es = es} low high w r) h =
    subst (λ (x : List ℕ). BodyIn l x (record { field = n; payload = p } ∷ (es ++ fs)))
    (sym (front_assoc (uvarint (n * 8 + type)) v rest b)) (field low high w (body-append r h))
body-append {b = b} {fs = fs} (a_group {l = l} {n = n} {v = v} {rest = rest} {es = es} low high g r) h =
    subst (λ (x : List ℕ). BodyIn (suc l) x (record { field = n; payload = group v } ∷ (es ++ fs)))
    (sym (front_assoc (uvarint (n * 8 + 3)) (v ++ uvarint (n * 8 + 4)) rest b)) (a_group low high g (body-append r h))

one-body : (mode : Mode) {type : ℕ} {v : List ℕ} {p : Payload} (n : ℕ) → 1 ≤ n → n ≤ 536870911 → Value type v p
    → Body mode (uvarint (n * 8 + type) ++ v) (record { field = n; payload = p } ∷ [])
one-body mode {type} {v} {p} n l m w =
    subst (λ (x : List ℕ). Body mode (uvarint (n * 8 + type) ++ x) (record { field = n; payload = p } ∷ []))
    (append-nil v) (field l m w no_fields)

-- what fits a length
abbrev pub Sized : List ℕ → Type 0
Sized d = length d < 2 ^ 64

abbrev pub Small : ℕ → Type 0
Small v = v < 2 ^ 64

abbrev pub bytes_entries : ℕ → List (List ℕ) → List Entry
bytes_entries n [] = []
bytes_entries n (d ∷ ds) = record { field = n; payload = bytes d } ∷ bytes_entries n ds

abbrev number_entries : ℕ → List ℕ → List Entry
number_entries n [] = []
number_entries n (v ∷ vs) = record { field = n; payload = number v } ∷ number_entries n vs

pub bytes-body : (mode : Mode) (n : ℕ) → 1 ≤ n → n ≤ 536870911 → (ds : List (List ℕ)) → Each Sized ds
    → Body mode (repeated (bytes_field n) ds) (bytes_entries n ds)
unfolding bytes_field tag
bytes-body mode n l m [] none_left = no_fields
bytes-body mode n l m (d ∷ ds) (p and ps) = body-append (one-body mode n l m (len-prefix p))
    (bytes-body mode n l m ds ps)

number-body : (mode : Mode) (n : ℕ) → 1 ≤ n → n ≤ 536870911 → (vs : List ℕ) → Each Small vs
    → Body mode (repeated (varint_field n) vs) (number_entries n vs)
unfolding varint_field tag
number-body mode n l m [] none_left = no_fields
number-body mode n l m (v ∷ vs) (p and ps) = body-append (one-body mode n l m (varint p)) (number-body mode n l m vs ps)

-- ---- and those fields are found in it
bytes-append : (m : ℕ) (es fs : List Entry) → bytes_in m (es ++ fs) ≡ bytes_in m es ++ bytes_in m fs
bytes-append m [] fs = refl
bytes-append m (e ∷ es) fs = ap (put_bytes (eqb e.field m) e.payload) (bytes-append m es fs)
    ∙ put (eqb e.field m) e.payload (bytes_in m es) (bytes_in m fs)
  where
    put : (t : Bool) (p : Payload) (xs ys : List (List ℕ)) → put_bytes t p (xs ++ ys) ≡ put_bytes t p xs ++ ys
    put t (number v) xs ys = refl
    put t (eight d) xs ys = refl
    put true (bytes d) xs ys = refl
    put false (bytes d) xs ys = refl
    put t (group d) xs ys = refl
    put t (four d) xs ys = refl

numbers-append : (m : ℕ) (es fs : List Entry) → numbers_in m (es ++ fs) ≡ numbers_in m es ++ numbers_in m fs
numbers-append m [] fs = refl
numbers-append m (e ∷ es) fs = ap (put_number (eqb e.field m) e.payload) (numbers-append m es fs)
    ∙ put (eqb e.field m) e.payload (numbers_in m es) (numbers_in m fs)
  where
    put : (t : Bool) (p : Payload) (xs ys : List ℕ) → put_number t p (xs ++ ys) ≡ put_number t p xs ++ ys
    put true (number v) xs ys = refl
    put false (number v) xs ys = refl
    put t (eight d) xs ys = refl
    put t (bytes d) xs ys = refl
    put t (group d) xs ys = refl
    put t (four d) xs ys = refl

pub bytes-here : (n : ℕ) (ds : List (List ℕ)) → bytes_in n (bytes_entries n ds) ≡ ds
bytes-here n [] = refl
bytes-here n (d ∷ ds) = ap (λ (t : Bool). cond t (d ∷ bytes_in n (bytes_entries n ds)) (bytes_in n (bytes_entries n ds)))
    (eq-eqb n n refl) ∙ ap (λ (l : List (List ℕ)). d ∷ l) (bytes-here n ds)

pub bytes-there : (n m : ℕ) → eqb n m ≡ false → (ds : List (List ℕ)) → bytes_in m (bytes_entries n ds) ≡ []
bytes-there n m e [] = refl
bytes-there n m e (d ∷ ds) =
    ap (λ (t : Bool). cond t (d ∷ bytes_in m (bytes_entries n ds)) (bytes_in m (bytes_entries n ds))) e
    ∙ bytes-there n m e ds

numbers-here : (n : ℕ) (vs : List ℕ) → numbers_in n (number_entries n vs) ≡ vs
numbers-here n [] = refl
numbers-here n (v ∷ vs) =
    ap (λ (t : Bool). cond t (v ∷ numbers_in n (number_entries n vs)) (numbers_in n (number_entries n vs)))
    (eq-eqb n n refl) ∙ ap (λ (l : List ℕ). v ∷ l) (numbers-here n vs)

no_bytes : (n m : ℕ) (vs : List ℕ) → bytes_in m (number_entries n vs) ≡ []
no_bytes n m [] = refl
no_bytes n m (v ∷ vs) = no_bytes n m vs

no-numbers : (n m : ℕ) (ds : List (List ℕ)) → numbers_in m (bytes_entries n ds) ≡ []
no-numbers n m [] = refl
no-numbers n m (d ∷ ds) = no-numbers n m ds

-- ---- an optional field is a list of at most one
abbrev pub opt : {A : Type 0} → Option A → List A
opt None = []
opt (Some x) = x ∷ []

pub optional-opt : {A : Type 0} (f : A → List ℕ) (o : Option A) → repeated f (opt o) ≡ optional f o
optional-opt f None = refl
optional-opt f (Some x) = append-nil (f x)

pub last-opt : {A : Type 0} (o : Option A) → last (opt o) ≡ o
last-opt None = refl
last-opt (Some x) = refl

each-opt-step : {A : Type 0} {P : A → Type 0} (o : Option A) (x : A) → P x → Each P (opt o) → Each P (opt (or_else o x))
each-opt-step None x p ps = p and none_left
each-opt-step (Some y) x p ps = ps

pub each_last : {A : Type 0} {P : A → Type 0} {xs : List A} → Each P xs → Each P (opt (last xs))
each_last none_left = none_left
each_last (◌and◌ {x = x} {xs = xs} p ps) = each-opt-step (last xs) x p (each_last ps)

-- ---- what stands in fields fits a length where they do
pub fields-sized : (n : ℕ) (ds : List (List ℕ)) → length (repeated (bytes_field n) ds) < 2 ^ 64 → Each Sized ds
fields-sized n [] h = none_left
fields-sized n (d ∷ ds) h =
    let l = length-append (bytes_field n d) (repeated (bytes_field n) ds) in
    let f = field-holds n d in
    let k : Sized d = omega arith in
    k and fields-sized n ds (omega arith)

pub field-sized : (n : ℕ) (o : Option (List ℕ)) → length (optional (bytes_field n) o) < 2 ^ 64 → Each Sized (opt o)
field-sized n o h = fields-sized n (opt o) (omega (arith, ap length (optional-opt (bytes_field n) o)))

-- ---- what stands in a body fits a length
value-sized : {type : ℕ} {v : List ℕ} {p : Payload} (t : Bool) (ds : List (List ℕ)) → Value type v p → Each Sized ds
    → Each Sized (put_bytes t p ds)
value-sized t ds (varint b) h = h
value-sized t ds (i64 g) h = h
value-sized true ds (len-prefix b) h = b and h
value-sized false ds (len-prefix b) h = h
value-sized t ds (i32 g) h = h

pub bytes-sized : {l : ℕ} {s : List ℕ} {es : List Entry} (m : ℕ) → BodyIn l s es → Each Sized (bytes_in m es)
bytes-sized m no_fields = none_left
bytes-sized m (field {n = n} {es = es} low high w r) = value-sized (eqb n m) (bytes_in m es) w (bytes-sized m r)
bytes-sized m (a_group low high g r) = bytes-sized m r

value-small : {type : ℕ} {v : List ℕ} {p : Payload} (t : Bool) (vs : List ℕ) → Value type v p → Each Small vs
    → Each Small (put_number t p vs)
value-small true vs (varint b) h = b and h
value-small false vs (varint b) h = h
value-small t vs (i64 g) h = h
value-small t vs (len-prefix b) h = h
value-small t vs (i32 g) h = h

pub numbers-small : {l : ℕ} {s : List ℕ} {es : List Entry} (m : ℕ) → BodyIn l s es → Each Small (numbers_in m es)
numbers-small m no_fields = none_left
numbers-small m (field {n = n} {es = es} low high w r) = value-small (eqb n m) (numbers_in m es) w (numbers-small m r)
numbers-small m (a_group low high g r) = numbers-small m r

-- ---- submessages, each as its canonical bytes
abbrev pub encodings : {X : Type 0} → (X → List ℕ) → List X → List (List ℕ)
encodings enc [] = []
encodings enc (x ∷ xs) = enc x ∷ encodings enc xs

repeated-encodings : {X : Type 0} (n : ℕ) (enc : X → List ℕ) (xs : List X) → repeated (bytes_field n) (encodings enc xs)
    ≡ repeated (λ x. bytes_field n (enc x)) xs
repeated-encodings n enc [] = refl
repeated-encodings n enc (x ∷ xs) = ap (λ (l : List ℕ). bytes_field n (enc x) ++ l) (repeated-encodings n enc xs)

-- R is what bodies mean, Q what their encodings do
subs-mean : {X : Type 0} {R Q : List ℕ → X → Type 0} (enc : X → List ℕ)
    → ((d : List ℕ) (x : X) → R d x → Q (enc x) x) → {ds : List (List ℕ)} {xs : List X} → Pairs R ds xs
    → Pairs Q (encodings enc xs) xs
subs-mean enc f no_pairs = no_pairs
subs-mean enc f (◌paired◌ {x = d} {y = x} p ps) = f d x p paired subs-mean enc f ps

subs-sized : {X : Type 0} {R : List ℕ → X → Type 0} (enc : X → List ℕ)
    → ((d : List ℕ) (x : X) → R d x → length (enc x) ≤ length d) → {ds : List (List ℕ)} {xs : List X} → Pairs R ds xs
    → Each Sized ds → Each Sized (encodings enc xs)
subs-sized enc f no_pairs none_left = none_left
subs-sized enc f (◌paired◌ {x = d} {y = x} p ps) (q and qs) = let l = f d x p in let k : Sized (enc x) = omega arith in
    k and subs-sized enc f ps qs

-- ---- each message
-- bytes that are equal to a body's mean what it means
pub means_as : {X : Type 0} (R : List ℕ → X → Type 0) {b c : List ℕ} {x y : X} → b ≡ c → x ≡ y → R b x → R c y
means_as R {c = c} {x = x} e f r = subst (R c) f (subst (λ (l : List ℕ). R l x) e r)

-- a field found in two groups of fields
pub found : (m : ℕ) (a b : List Entry) (xs ys : List (List ℕ)) → bytes_in m a ≡ xs → bytes_in m b ≡ ys
    → bytes_in m (a ++ b) ≡ xs ++ ys
found m a b xs ys p q = bytes-append m a b ∙ ap₂ (λ (x y : List (List ℕ)). x ++ y) p q

counted : (m : ℕ) (a b : List Entry) (xs ys : List ℕ) → numbers_in m a ≡ xs → numbers_in m b ≡ ys
    → numbers_in m (a ++ b) ≡ xs ++ ys
counted m a b xs ys p q = numbers-append m a b ∙ ap₂ (λ (x y : List ℕ). x ++ y) p q

abbrev flags : Option Bool → Option ℕ
flags None = None
flags (Some b) = Some (flag b)

flags-small : (o : Option Bool) → Each Small (opt (flags o))
flags-small None = none_left
flags-small (Some true) = let k : Small 1 = omega arith in k and none_left
flags-small (Some false) = let k : Small 0 = omega arith in k and none_left

flags-back : (o : Option Bool) → nonzero (flags o) ≡ o
flags-back None = refl
flags-back (Some true) = refl
flags-back (Some false) = refl

flags-written : (o : Option Bool) → repeated (varint_field 1) (opt (flags o)) ≡ optional (λ b. varint_field 1 (flag b)) o
flags-written None = refl
flags-written (Some b) = append-nil (varint_field 1 (flag b))

-- the encoding of a value means it, in either mode, where its texts are UTF-8, its bytes fit a length and its numbers
-- are below 2^64; so it does where a body means the value in one of the modes
pub sub_opts_means : (mode : Mode) (x : SubOpts) → Each Sized (opt x.topic_id) → Each Utf8 (opt x.topic_id)
    → IsSubOpts mode (encode_sub_opts x) x
unfolding encode_sub_opts
sub_opts_means mode x z u =
    let r = x.subscribe in
    let t = x.topic_id in
    let a = number_entries 1 (opt (flags r)) in
    let b = bytes_entries 2 (opt t) in
    let w = body-append (number-body mode 1 (omega arith) (omega arith) (opt (flags r)) (flags-small r))
    (bytes-body mode 2 (omega arith) (omega arith) (opt t) z) in
    let n : numbers_in 1 (a ++ b) ≡ opt (flags r) ++ [] =
    counted 1 a b (opt (flags r)) [] (numbers-here 1 (opt (flags r))) (no-numbers 2 1 (opt t)) in
    let d : bytes_in 2 (a ++ b) ≡ [] ++ opt t =
    found 2 a b [] (opt t) (no_bytes 1 2 (opt (flags r))) (bytes-here 2 (opt t)) in
    let v1 : nonzero (last (numbers_in 1 (a ++ b))) ≡ r =
    ap (λ (l : List ℕ). nonzero (last l)) (n ∙ append-nil (opt (flags r))) ∙ ap nonzero (last-opt (flags r))
    ∙ flags-back r in
    let v2 : last (bytes_in 2 (a ++ b)) ≡ t = ap last d ∙ last-opt t in
    means_as (IsSubOpts mode) (ap₂ (λ (y z : List ℕ). y ++ z) (flags-written r) (optional-opt (bytes_field 2) t))
    (ap₂ (λ (y : Option Bool) (z : Option (List ℕ)). record { subscribe = y; topic_id = z }) v1 v2)
    (is-sub_opts w (subst (Each Utf8) (sym d) u))

pub sub_opts_canonical : (mode to : Mode) (s : List ℕ) (x : SubOpts) → IsSubOpts mode s x
    → IsSubOpts to (encode_sub_opts x) x
sub_opts_canonical mode to _ x (is-sub_opts g u) = sub_opts_means to x (each_last (bytes-sized 2 g)) (each_last u)

pub iwant_canonical : (mode to : Mode) (s : List ℕ) (x : ControlIWant) → IsIWant mode s x → IsIWant to (encode_iWant x) x
unfolding encode_iWant
iwant_canonical mode to _ _ (is-iwant {s = s} {es = es} g) =
    let ds = bytes_in 1 es in
    means_as (IsIWant to) refl (ap (λ (y : List (List ℕ)). record { message_ids = y }) (bytes-here 1 ds))
    (is-iwant (bytes-body to 1 (omega arith) (omega arith) ds (bytes-sized 1 g)))

pub idontwant-means : (mode : Mode) (x : ControlIDontWant) → Each Sized x.message_ids
    → IsIDontWant mode (encode_iDont_want x) x
unfolding encode_iDont_want
idontwant-means mode x z =
    let ds = x.message_ids in
    means_as (IsIDontWant mode) refl (ap (λ (y : List (List ℕ)). record { message_ids = y }) (bytes-here 1 ds))
    (is-idontwant (bytes-body mode 1 (omega arith) (omega arith) ds z))

pub idontwant_canonical : (mode to : Mode) (s : List ℕ) (x : ControlIDontWant) → IsIDontWant mode s x
    → IsIDontWant to (encode_iDont_want x) x
idontwant_canonical mode to _ x (is-idontwant g) = idontwant-means to x (bytes-sized 1 g)

pub graft-means : (mode : Mode) (x : ControlGraft) → Each Sized (opt x.topic_id) → Each Utf8 (opt x.topic_id)
    → IsGraft mode (encode_graft x) x
unfolding encode_graft
graft-means mode x z u =
    let t = x.topic_id in
    means_as (IsGraft mode) (optional-opt (bytes_field 1) t)
    (ap (λ (y : Option (List ℕ)). record { topic_id = y }) (ap last (bytes-here 1 (opt t)) ∙ last-opt t))
    (is-graft (bytes-body mode 1 (omega arith) (omega arith) (opt t) z)
    (subst (Each Utf8) (sym (bytes-here 1 (opt t))) u))

pub graft_canonical : (mode to : Mode) (s : List ℕ) (x : ControlGraft) → IsGraft mode s x → IsGraft to (encode_graft x) x
graft_canonical mode to _ x (is-graft g u) = graft-means to x (each_last (bytes-sized 1 g)) (each_last u)

pub ihave_canonical : (mode to : Mode) (s : List ℕ) (x : ControlIHave) → IsIHave mode s x → IsIHave to (encode_iHave x) x
unfolding encode_iHave
ihave_canonical mode to _ _ (is-ihave {s = s} {es = es} g u) =
    let t = last (bytes_in 1 es) in
    let ds = bytes_in 2 es in
    let a = bytes_entries 1 (opt t) in
    let b = bytes_entries 2 ds in
    let w = body-append (bytes-body to 1 (omega arith) (omega arith) (opt t) (each_last (bytes-sized 1 g)))
    (bytes-body to 2 (omega arith) (omega arith) ds (bytes-sized 2 g)) in
    let d1 : bytes_in 1 (a ++ b) ≡ opt t = found 1 a b (opt t) [] (bytes-here 1 (opt t)) (bytes-there 2 1 refl ds)
    ∙ append-nil (opt t) in
    let d2 : bytes_in 2 (a ++ b) ≡ ds = found 2 a b [] ds (bytes-there 1 2 refl (opt t)) (bytes-here 2 ds) in
    means_as (IsIHave to) (ap (λ (y : List ℕ). y ++ repeated (bytes_field 2) ds) (optional-opt (bytes_field 1) t))
    (ap₂ (λ (y : Option (List ℕ)) (z : List (List ℕ)). record { topic_id = y; message_ids = z })
    (ap last d1 ∙ last-opt t) d2)
    (is-ihave w (subst (Each Utf8) (sym d1) (each_last u)))

pub peer_info_means : (mode : Mode) (x : PeerInfo) → Each Sized (opt x.peer_id)
    → Each Sized (opt x.signed_peer_record)
    → IsPeerInfo mode (encode_peer_info x) x
unfolding encode_peer_info
peer_info_means mode x z y =
    let t = x.peer_id in
    let q = x.signed_peer_record in
    let a = bytes_entries 1 (opt t) in
    let b = bytes_entries 2 (opt q) in
    let w = body-append (bytes-body mode 1 (omega arith) (omega arith) (opt t) z)
    (bytes-body mode 2 (omega arith) (omega arith) (opt q) y) in
    let d1 : bytes_in 1 (a ++ b) ≡ opt t = found 1 a b (opt t) [] (bytes-here 1 (opt t)) (bytes-there 2 1 refl (opt q))
    ∙ append-nil (opt t) in
    let d2 : bytes_in 2 (a ++ b) ≡ opt q =
    found 2 a b [] (opt q) (bytes-there 1 2 refl (opt t)) (bytes-here 2 (opt q)) in
    means_as (IsPeerInfo mode)
    (ap₂ (λ (y z : List ℕ). y ++ z) (optional-opt (bytes_field 1) t) (optional-opt (bytes_field 2) q))
    (ap₂ (λ (y z : Option (List ℕ)). record { peer_id = y; signed_peer_record = z }) (ap last d1 ∙ last-opt t)
    (ap last d2 ∙ last-opt q)) (is-peer_info w)

pub peer_info_canonical : (mode to : Mode) (s : List ℕ) (x : PeerInfo) → IsPeerInfo mode s x
    → IsPeerInfo to (encode_peer_info x) x
peer_info_canonical mode to _ x (is-peer_info g) =
    peer_info_means to x (each_last (bytes-sized 1 g)) (each_last (bytes-sized 2 g))

-- submessages whose encodings mean them and fit a length
pub record Entries {X : Type 0} (R : List ℕ → X → Type 0) (enc : X → List ℕ) (xs : List X) : Type 0 where
  pub mean : Pairs R (encodings enc xs) xs
  pub sized : Each Sized (encodings enc xs)

pub prune-means : (mode : Mode) (x : ControlPrune) → Each Sized (opt x.topic_id) → Each Utf8 (opt x.topic_id)
    → Entries (IsPeerInfo mode) encode_peer_info x.peers → Each Small (opt x.backoff)
    → IsPrune mode (encode_prune x) x
unfolding encode_prune mk_prune
prune-means mode x z u h m =
    let t = x.topic_id in
    let q = x.backoff in
    let ps = x.peers in
    let ds = encodings encode_peer_info ps in
    let a = bytes_entries 1 (opt t) in
    let b = bytes_entries 2 ds in
    let c = number_entries 3 (opt q) in
    let w = body-append (bytes-body mode 1 (omega arith) (omega arith) (opt t) z)
    (body-append (bytes-body mode 2 (omega arith) (omega arith) ds h.sized)
    (number-body mode 3 (omega arith) (omega arith) (opt q) m)) in
    let d1 : bytes_in 1 (a ++ (b ++ c)) ≡ opt t =
    found 1 a (b ++ c) (opt t) [] (bytes-here 1 (opt t))
    (found 1 b c [] [] (bytes-there 2 1 refl ds) (no_bytes 3 1 (opt q))) ∙ append-nil (opt t) in
    let d2 : bytes_in 2 (a ++ (b ++ c)) ≡ ds =
    found 2 a (b ++ c) [] (ds ++ []) (bytes-there 1 2 refl (opt t))
    (found 2 b c ds [] (bytes-here 2 ds) (no_bytes 3 2 (opt q))) ∙ append-nil ds in
    let d3 : numbers_in 3 (a ++ (b ++ c)) ≡ opt q =
    counted 3 a (b ++ c) [] (opt q) (no-numbers 1 3 (opt t))
    (counted 3 b c [] (opt q) (no-numbers 2 3 ds) (numbers-here 3 (opt q))) in
    let e : repeated (bytes_field 1) (opt t) ++ (repeated (bytes_field 2) ds ++ repeated (varint_field 3) (opt q))
    ≡ optional (bytes_field 1) t
    ++ (repeated (λ p. bytes_field 2 (encode_peer_info p)) ps ++ optional (varint_field 3) q) =
    ap₂ (λ (y z : List ℕ). y ++ z) (optional-opt (bytes_field 1) t)
    (ap₂ (λ (y z : List ℕ). y ++ z) (repeated-encodings 2 encode_peer_info ps) (optional-opt (varint_field 3) q)) in
    means_as (IsPrune mode) e (same-prune {ps = ps} (ap last d1 ∙ last-opt t) refl (ap last d3 ∙ last-opt q))
    (is-prune w (subst (Each Utf8) (sym d1) u)
    (subst (λ (l : List (List ℕ)). Pairs (IsPeerInfo mode) l ps) (sym d2) h.mean))

pub prune_canonical : (mode to : Mode) (s : List ℕ) (x : ControlPrune) → IsPrune mode s x → IsPrune to (encode_prune x) x
prune_canonical mode to _ x (is-prune g u h) =
    prune-means to x (each_last (bytes-sized 1 g)) (each_last u)
    (record {
      mean = subs-mean encode_peer_info (peer_info_canonical mode to) h;
      sized = subs-sized encode_peer_info (peer_info_shorter mode) h (bytes-sized 2 g);
    })
    (each_last (numbers-small 3 g))

-- ---- a control: its entries mean themselves, and so do those of two controls
pairs-first : {A B : Type 0} {R : A → B → Type 0} {x : A} {y : B} {xs : List A} {ys : List B}
    → Pairs R (x ∷ xs) (y ∷ ys) → R x y
pairs-first (r paired p) = r

pairs-rest : {A B : Type 0} {R : A → B → Type 0} {x : A} {y : B} {xs : List A} {ys : List B}
    → Pairs R (x ∷ xs) (y ∷ ys) → Pairs R xs ys
pairs-rest (r paired p) = p

pairs-join : {X : Type 0} {R : List ℕ → X → Type 0} (enc : X → List ℕ) {xs ys : List X} → Pairs R (encodings enc xs) xs
    → Pairs R (encodings enc ys) ys → Pairs R (encodings enc (xs ++ ys)) (xs ++ ys)
pairs-join enc {xs = []} p q = q
pairs-join enc {xs = x ∷ xs} p q = pairs-first p paired pairs-join enc (pairs-rest p) q

each-join : {X : Type 0} (enc : X → List ℕ) (xs ys : List X) → Each Sized (encodings enc xs)
    → Each Sized (encodings enc ys) → Each Sized (encodings enc (xs ++ ys))
each-join enc [] ys p q = q
each-join enc (x ∷ xs) ys (r and p) q = r and each-join enc xs ys p q

entries-join : {X : Type 0} {R : List ℕ → X → Type 0} {enc : X → List ℕ} {xs ys : List X} → Entries R enc xs
    → Entries R enc ys → Entries R enc (xs ++ ys)
entries-join {enc = enc} {xs = xs} {ys = ys} a b =
    record { mean = pairs-join enc a.mean b.mean; sized = each-join enc xs ys a.sized b.sized }

-- the entries that an edition adds: 1.1 has none
abbrev pub IDontWants : Mode → Edition → List ControlIDontWant → Type 0
IDontWants mode V11 ds = ds ≡ []
IDontWants mode V12 ds = Entries (IsIDontWant mode) encode_iDont_want ds

pub no-idontwants : (mode : Mode) (e : Edition) → IDontWants mode e []
no-idontwants mode V11 = refl
no-idontwants mode V12 = record { mean = no_pairs; sized = none_left }

idontwants-of : (mode to : Mode) (e : Edition) (s : List ℕ) (es : List Entry) (ds : List ControlIDontWant)
    → Body mode s es → Pairs (IsIDontWant mode) (idontwants_in e es) ds → IDontWants to e ds
idontwants-of mode to V11 s es _ g no_pairs = refl
idontwants-of mode to V12 s es ds g h =
    record {
      mean = subs-mean encode_iDont_want (idontwant_canonical mode to) h;
      sized = subs-sized encode_iDont_want (idontwant-shorter mode) h (bytes-sized 5 g);
    }

idontwants-join : (mode : Mode) (e : Edition) (xs ys : List ControlIDontWant) → IDontWants mode e xs
    → IDontWants mode e ys
    → IDontWants mode e (xs ++ ys)
idontwants-join mode V11 xs ys p q = ap₂ (λ (x y : List ControlIDontWant). x ++ y) p q
idontwants-join mode V12 xs ys p q = entries-join p q

idontwants-sized : (mode : Mode) (e : Edition) (ds : List ControlIDontWant) → IDontWants mode e ds
    → Each Sized (encodings encode_iDont_want ds)
idontwants-sized mode V11 ds h = rw h none_left
idontwants-sized mode V12 ds h = h.sized

idontwants-mean : (mode : Mode) (e : Edition) (es : List Entry) (ds : List ControlIDontWant)
    → bytes_in 5 es ≡ encodings encode_iDont_want ds → IDontWants mode e ds
    → Pairs (IsIDontWant mode) (idontwants_in e es) ds
idontwants-mean mode V11 es ds q h = rw h no_pairs
idontwants-mean mode V12 es ds q h = subst (λ (l : List (List ℕ)). Pairs (IsIDontWant mode) l ds) (sym q) h.mean

pub record Sound (d : Dialect) (c : ControlMessage) : Type 0 where
  pub ihaves : Entries (IsIHave d.mode) encode_iHave c.ihave
  pub iwants : Entries (IsIWant d.mode) encode_iWant c.iwant
  pub grafts : Entries (IsGraft d.mode) encode_graft c.graft
  pub prunes : Entries (IsPrune d.mode) encode_prune c.prune
  pub idontwants : IDontWants d.mode d.edition c.idontwant

sound-of : (d : Dialect) (to : Mode) (s : List ℕ) (x : ControlMessage) → IsControl d s x
    → Sound (spoken to d.edition) x
sound-of d to _ _ (is_control {s = s} {es = es} {ds = ds} g h1 h2 h3 h4 h5) =
    record {
      ihaves = record {
        mean = subs-mean encode_iHave (ihave_canonical d.mode to) h1;
        sized = subs-sized encode_iHave (ihave-shorter d.mode) h1 (bytes-sized 1 g);
      };
      iwants = record {
        mean = subs-mean encode_iWant (iwant_canonical d.mode to) h2;
        sized = subs-sized encode_iWant (iwant-shorter d.mode) h2 (bytes-sized 2 g);
      };
      grafts = record {
        mean = subs-mean encode_graft (graft_canonical d.mode to) h3;
        sized = subs-sized encode_graft (graft-shorter d.mode) h3 (bytes-sized 3 g);
      };
      prunes = record {
        mean = subs-mean encode_prune (prune_canonical d.mode to) h4;
        sized = subs-sized encode_prune (prune-shorter d.mode) h4 (bytes-sized 4 g);
      };
      idontwants = idontwants-of d.mode to d.edition s es ds g h5;
    }

sound-join : (d : Dialect) (b c : ControlMessage) → Sound d b → Sound d c → Sound d (join b c)
sound-join d b c p q =
    record {
      ihaves = entries-join p.ihaves q.ihaves;
      iwants = entries-join p.iwants q.iwants;
      grafts = entries-join p.grafts q.grafts;
      prunes = entries-join p.prunes q.prunes;
      idontwants = idontwants-join d.mode d.edition b.idontwant c.idontwant p.idontwants q.idontwants;
    }

-- field m of five groups of fields, each of one number
pub found_of : (m : ℕ) (v1 v2 v3 v4 v5 x1 x2 x3 x4 x5 : List (List ℕ)) → bytes_in m (bytes_entries 1 v1) ≡ x1
    → bytes_in m (bytes_entries 2 v2) ≡ x2 → bytes_in m (bytes_entries 3 v3) ≡ x3 → bytes_in m (bytes_entries 4 v4) ≡ x4
    → bytes_in m (bytes_entries 5 v5) ≡ x5
    → bytes_in m (bytes_entries 1 v1 ++ (bytes_entries 2 v2 ++ (bytes_entries 3 v3 ++ (bytes_entries 4 v4
    ++ bytes_entries 5 v5)))) ≡ x1 ++ (x2 ++ (x3 ++ (x4 ++ x5)))
found_of m v1 v2 v3 v4 v5 x1 x2 x3 x4 x5 p1 p2 p3 p4 p5 =
    let a = bytes_entries 1 v1 in let b = bytes_entries 2 v2 in let c = bytes_entries 3 v3 in
    let d = bytes_entries 4 v4 in let e = bytes_entries 5 v5 in
    found m a (b ++ (c ++ (d ++ e))) x1 (x2 ++ (x3 ++ (x4 ++ x5))) p1
    (found m b (c ++ (d ++ e)) x2 (x3 ++ (x4 ++ x5)) p2
    (found m c (d ++ e) x3 (x4 ++ x5) p3 (found m d e x4 x5 p4 p5)))

control-sound : (d : Dialect) (x : ControlMessage) → Sound d x → IsControl d (encode_control x) x
unfolding encode_control
control-sound d x o =
    let hs = x.ihave in let ws = x.iwant in let gs = x.graft in let ps = x.prune in let ds = x.idontwant in
    let e1 = encodings encode_iHave hs in let e2 = encodings encode_iWant ws in let e3 = encodings encode_graft gs in
    let e4 = encodings encode_prune ps in let e5 = encodings encode_iDont_want ds in
    let w = body-append (bytes-body d.mode 1 (omega arith) (omega arith) e1 o.ihaves.sized)
    (body-append (bytes-body d.mode 2 (omega arith) (omega arith) e2 o.iwants.sized)
    (body-append (bytes-body d.mode 3 (omega arith) (omega arith) e3 o.grafts.sized)
    (body-append (bytes-body d.mode 4 (omega arith) (omega arith) e4 o.prunes.sized)
    (bytes-body d.mode 5 (omega arith) (omega arith) e5
    (idontwants-sized d.mode d.edition ds o.idontwants))))) in
    let d1 = found_of 1 e1 e2 e3 e4 e5 e1 [] [] [] [] (bytes-here 1 e1) (bytes-there 2 1 refl e2)
    (bytes-there 3 1 refl e3) (bytes-there 4 1 refl e4) (bytes-there 5 1 refl e5) ∙ append-nil e1 in
    let d2 = found_of 2 e1 e2 e3 e4 e5 [] e2 [] [] [] (bytes-there 1 2 refl e1) (bytes-here 2 e2)
    (bytes-there 3 2 refl e3) (bytes-there 4 2 refl e4) (bytes-there 5 2 refl e5) ∙ append-nil e2 in
    let d3 = found_of 3 e1 e2 e3 e4 e5 [] [] e3 [] [] (bytes-there 1 3 refl e1) (bytes-there 2 3 refl e2)
    (bytes-here 3 e3) (bytes-there 4 3 refl e4) (bytes-there 5 3 refl e5) ∙ append-nil e3 in
    let d4 = found_of 4 e1 e2 e3 e4 e5 [] [] [] e4 [] (bytes-there 1 4 refl e1) (bytes-there 2 4 refl e2)
    (bytes-there 3 4 refl e3) (bytes-here 4 e4) (bytes-there 5 4 refl e5) ∙ append-nil e4 in
    let d5 = found_of 5 e1 e2 e3 e4 e5 [] [] [] [] e5 (bytes-there 1 5 refl e1) (bytes-there 2 5 refl e2)
    (bytes-there 3 5 refl e3) (bytes-there 4 5 refl e4) (bytes-here 5 e5) in
    let e = ap₂ (λ (y z : List ℕ). y ++ z) (repeated-encodings 1 encode_iHave hs)
    (ap₂ (λ (y z : List ℕ). y ++ z) (repeated-encodings 2 encode_iWant ws)
    (ap₂ (λ (y z : List ℕ). y ++ z) (repeated-encodings 3 encode_graft gs)
    (ap₂ (λ (y z : List ℕ). y ++ z) (repeated-encodings 4 encode_prune ps)
    (repeated-encodings 5 encode_iDont_want ds)))) in
    means_as (IsControl d) e refl
    (is_control w (subst (λ (l : List (List ℕ)). Pairs (IsIHave d.mode) l hs) (sym d1) o.ihaves.mean)
    (subst (λ (l : List (List ℕ)). Pairs (IsIWant d.mode) l ws) (sym d2) o.iwants.mean)
    (subst (λ (l : List (List ℕ)). Pairs (IsGraft d.mode) l gs) (sym d3) o.grafts.mean)
    (subst (λ (l : List (List ℕ)). Pairs (IsPrune d.mode) l ps) (sym d4) o.prunes.mean)
    (idontwants-mean d.mode d.edition _ ds d5 o.idontwants))

-- ---- several controls as one
sound-join_to : (d : Dialect) (c : ControlMessage) (o : Option ControlMessage) → Sound d c → Each (Sound d) (opt o)
    → Each (Sound d) (opt (join_to c o))
sound-join_to d c None p none_left = p and none_left
sound-join_to d c (Some b) p (q and none_left) = sound-join d c b p q and none_left

sound-joined : (d : Dialect) (to : Mode) {ps : List (List ℕ)} {cs : List ControlMessage} → Pairs (IsControl d) ps cs
    → Each (Sound (spoken to d.edition)) (opt (joined cs))
sound-joined d to no_pairs = none_left
sound-joined d to (◌paired◌ {x = s} {y = c} {ys = cs} p ps) =
    sound-join_to (spoken to d.edition) c (joined cs) (sound-of d to s c p) (sound-joined d to ps)

pairs-sound : (d : Dialect) (o : Option ControlMessage) → Each (Sound d) (opt o)
    → Pairs (IsControl d) (encodings encode_control (opt o)) (opt o)
pairs-sound d None h = no_pairs
pairs-sound d (Some c) (p and none_left) = control-sound d c p paired no_pairs

joined-opt : (o : Option ControlMessage) → joined (opt o) ≡ o
joined-opt None = refl
joined-opt (Some c) = refl

-- ---- the RPC
message_canonical : (mode : Mode) (d : List ℕ) (m : RawMessage) → IsMessage mode d m → IsMessage mode m.raw m
message_canonical mode _ _ (is-message g u) = is-message g u

control-sized : (o : Option ControlMessage) → length (optional (λ c. bytes_field 3 (encode_control c)) o) < 2 ^ 64
    → Each Sized (encodings encode_control (opt o))
control-sized None h = none_left
control-sized (Some c) h = let k : Sized (encode_control c) = omega (arith, bytes_field-length 3 (encode_control c)) in
    k and none_left

last-part : (a b c : List ℕ) → length c ≤ length (a ++ (b ++ c))
last-part a b c = omega (arith, length-append a (b ++ c), length-append b c)

-- an RPC as fields: its subscriptions and controls as one mode reads them, its messages as another does
pub record Around (outer inner : Mode) (e : Edition) (b : List ℕ) (x : Rpc) : Type 0 where
  pub entries : List Entry
  pub controls : List ControlMessage
  pub fields : Body outer b entries
  pub subscriptions : Pairs (IsSubOpts outer) (bytes_in 1 entries) x.subscriptions
  pub messages : Pairs (IsMessage inner) (bytes_in 2 entries) x.publish
  pub control : Pairs (IsControl (spoken outer e)) (bytes_in 3 entries) controls
  pub one : joined controls ≡ x.control

-- where the modes are one, the fields mean the RPC
around_means : (d : Dialect) (b : List ℕ) (x : Rpc) → Around d.mode d.mode d.edition b x → IsRpc d b x
around_means d b x r =
    subst (IsRpc d b)
    (ap (λ (o : Option ControlMessage). record { subscriptions = x.subscriptions; publish = x.publish; control = o })
    r.one) (is-rpc r.fields r.subscriptions r.messages r.control)

-- an RPC whose parts mean themselves
around_sound : (outer inner : Mode) (e : Edition) (x : Rpc)
    → Entries (IsSubOpts outer) encode_sub_opts x.subscriptions → Entries (IsMessage inner) (λ m. m.raw) x.publish
    → Each (Sound (spoken outer e)) (opt x.control) → length (encode_rpc x) < 2 ^ 64
    → Around outer inner e (encode_rpc x) x
unfolding encode_rpc
around_sound outer inner e x h1 h2 h3 k =
    let ss = x.subscriptions in let ms = x.publish in let o = x.control in
    let e1 = encodings encode_sub_opts ss in let e2 = encodings (λ m. m.raw) ms in
    let e3 = encodings encode_control (opt o) in
    let a = bytes_entries 1 e1 in let b = bytes_entries 2 e2 in let c = bytes_entries 3 e3 in
    let x1 = repeated (λ x. bytes_field 1 (encode_sub_opts x)) ss in let x2 = repeated (λ m. bytes_field 2 m.raw) ms in
    let x3 = optional (λ c. bytes_field 3 (encode_control c)) o in
    let z = last-part x1 x2 x3 in
    let s3 = control-sized o (omega arith) in
    let w = body-append (bytes-body outer 1 (omega arith) (omega arith) e1 h1.sized)
    (body-append (bytes-body outer 2 (omega arith) (omega arith) e2 h2.sized)
    (bytes-body outer 3 (omega arith) (omega arith) e3 s3)) in
    let d1 : bytes_in 1 (a ++ (b ++ c)) ≡ e1 =
    found 1 a (b ++ c) e1 [] (bytes-here 1 e1)
    (found 1 b c [] [] (bytes-there 2 1 refl e2) (bytes-there 3 1 refl e3)) ∙ append-nil e1 in
    let d2 : bytes_in 2 (a ++ (b ++ c)) ≡ e2 =
    found 2 a (b ++ c) [] (e2 ++ []) (bytes-there 1 2 refl e1)
    (found 2 b c e2 [] (bytes-here 2 e2) (bytes-there 3 2 refl e3)) ∙ append-nil e2 in
    let d3 : bytes_in 3 (a ++ (b ++ c)) ≡ e3 =
    found 3 a (b ++ c) [] e3 (bytes-there 1 3 refl e1)
    (found 3 b c [] e3 (bytes-there 2 3 refl e2) (bytes-here 3 e3)) in
    let q = ap₂ (λ (y z : List ℕ). y ++ z) (repeated-encodings 1 encode_sub_opts ss)
    (ap₂ (λ (y z : List ℕ). y ++ z) (repeated-encodings 2 (λ m. m.raw) ms)
    (repeated-encodings 3 encode_control (opt o) ∙ optional-opt (λ c. bytes_field 3 (encode_control c)) o)) in
    record {
      entries = a ++ (b ++ c);
      controls = opt o;
      fields = subst (λ (l : List ℕ). Body outer l (a ++ (b ++ c))) q w;
      subscriptions = subst (λ (l : List (List ℕ)). Pairs (IsSubOpts outer) l ss) (sym d1) h1.mean;
      messages = subst (λ (l : List (List ℕ)). Pairs (IsMessage inner) l ms) (sym d2) h2.mean;
      control = subst (λ (l : List (List ℕ)). Pairs (IsControl (spoken outer e)) l (opt o)) (sym d3)
          (pairs-sound (spoken outer e) o h3);
      one = joined-opt o;
    }

pub rpc-sound : (d : Dialect) (x : Rpc) → Entries (IsSubOpts d.mode) encode_sub_opts x.subscriptions
    → Entries (IsMessage d.mode) (λ m. m.raw) x.publish → Each (Sound d) (opt x.control)
    → length (encode_rpc x) < 2 ^ 64 → IsRpc d (encode_rpc x) x
rpc-sound d x h1 h2 h3 k =
    around_means d (encode_rpc x) x (around_sound d.mode d.mode d.edition x h1 h2 h3 k)

rpc_around : {d : Dialect} {s : List ℕ} {x : Rpc} (outer : Mode) → length s < 2 ^ 64 → length (encode_rpc x) ≤ length s
    → IsRpc d s x → Around outer d.mode d.edition (encode_rpc x) x
rpc_around {d} outer k short (is-rpc {ss = ss} {ms = ms} {cs = cs} g h1 h2 h3) =
    around_sound outer d.mode d.edition (record { subscriptions = ss; publish = ms; control = joined cs })
    (record {
      mean = subs-mean encode_sub_opts (sub_opts_canonical d.mode outer) h1;
      sized = subs-sized encode_sub_opts (sub_opts_shorter d.mode) h1 (bytes-sized 1 g);
    })
    (record {
      mean = subs-mean (λ m. m.raw) (message_canonical d.mode) h2;
      sized = subs-sized (λ m. m.raw) (raw_same d.mode) h2 (bytes-sized 2 g);
    })
    (sound-joined d outer h3) (omega arith)

-- the canonical bytes of an RPC mean it, and around its messages they do so in either mode
pub canonical_around : {d : Dialect} {s : List ℕ} {x : Rpc} (outer : Mode) → length s < 2 ^ 64 → IsRpc d s x
    → Around outer d.mode d.edition (encode_rpc x) x
canonical_around outer k h = rpc_around outer k (never_longer h) h

pub canonical_means : {d : Dialect} {s : List ℕ} {x : Rpc} → length s < 2 ^ 64 → IsRpc d s x → IsRpc d (encode_rpc x) x
canonical_means {d} {x = x} k h = around_means d (encode_rpc x) x (canonical_around d.mode k h)
