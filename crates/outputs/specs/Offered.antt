-- The ids that stand in the IHAVEs, in the IWANTs and, in 1.2, in the IDONTWANTs of a body are those that its RPC
-- names; and they are no more than its records.
use Rattle.std.specs.Prelude.{Option, Some, None, ℕ, ◌+◌, ◌≤◌, ◌≡◌, refl, cond, List, [], ◌∷◌, ◌++◌, length}
use Rattle.std.proofs.Common.{sym, ap, ap₂, ◌∙◌, append_assoc, append-nil, arith, length-append}
use Rattle.basis.specs.declared.Mode.{Mode}
use Rattle.basis.specs.declared.Edition.TheVariants.{V12}
use Rattle.basis.specs.declared.Dialect.{Dialect}
use Rattle.basis.specs.Dialect.{spoken}
use Rattle.protobuf.specs.declared.Field.{Field}
use Rattle.protobuf.specs.Grammar.{Entry, Body}
use Rattle.protobuf.specs.Walk.{whole, fields_of, entries_of, is_bytes, value_in}
use Rattle.protobuf.specs.Exactly.{body_walks}
use Rattle.rpc.specs.Rpc.{ControlIHave, ControlIWant, ControlIDontWant, ControlMessage, Rpc}
use Rattle.rpc.specs.Grammar.{bytes_in, Pairs, no_pairs, ◌paired◌, IsIHave, is-ihave, IsIWant, is-iwant}
use Rattle.rpc.specs.Grammar.{IsIDontWant, is-idontwant, IsControl, is_control, join_to, joined, IsRpc, is-rpc}
use Rattle.meaning.specs.Entries.{put_bytes_lem}
use Rattle.meaning.specs.Size.{sum_of, some_records, records_in}
use Rattle.node.specs.Parts.{values_along, in_each, at_path, once, without}
use Rattle.node.specs.Calls.{offered, wanted, unwanted_in, remaining}
use Rattle.outputs.specs.Named.{ihave_ids, iwant_ids, idontwant_ids, offers_in, wants_in, declined_in, offers_of}
use Rattle.outputs.specs.Named.{wants_of, unwanted_of}

-- ---- along the walk of a body stand the values of its fields
values_list : (n : ℕ) (s : List ℕ) (fs : List Field) → values_along n s (whole fs) ≡ bytes_in n (entries_of s fs)
values_list n s [] = refl
values_list n s (f ∷ fs) =
    let ds = bytes_in n (entries_of s fs) in
    ap (λ (l : List (List ℕ)). cond (is_bytes n f) (value_in s f ∷ l) l) (values_list n s fs) ∙ sym (put_bytes_lem s n f ds)

pub values-body : (mode : Mode) (n : ℕ) (s : List ℕ) (es : List Entry) → Body mode s es
    → values_along n s (fields_of mode s) ≡ bytes_in n es
values-body mode n s es g =
    let w = body_walks mode s es g in
    ap (values_along n s) w.walked ∙ values_list n s w.fields ∙ ap (bytes_in n) w.entries

-- ---- a path, one field further
path-body : (mode : Mode) (n : ℕ) (ns s : List ℕ) (es : List Entry) → Body mode s es
    → at_path mode (n ∷ ns) s ≡ in_each (at_path mode ns) (bytes_in n es)
unfolding at_path
path-body mode n ns s es g = ap (in_each (at_path mode ns)) (values-body mode n s es g)

each-itself : (mode : Mode) (ds : List (List ℕ)) → in_each (at_path mode []) ds ≡ ds
unfolding at_path
each-itself mode [] = refl
each-itself mode (d ∷ ds) = ap (λ (l : List (List ℕ)). d ∷ l) (each-itself mode ds)

-- ---- submessages, each with ids of its own: `all` are those of several, one after the other
module _ {X : Type 0} (all : List X → List (List ℕ)) (own : X → List (List ℕ)) (empty : [] ≡ all [])
    (more : (x : X) (xs : List X) → own x ++ all xs ≡ all (x ∷ xs)) where
  in_pairs : {R : List ℕ → X → Type 0} (g : List ℕ → List (List ℕ)) → ((d : List ℕ) (x : X) → R d x → g d ≡ own x)
      → {ds : List (List ℕ)} {xs : List X} → Pairs R ds xs → in_each g ds ≡ all xs
  in_pairs g same no_pairs = empty
  in_pairs g same (◌paired◌ {x = d} {y = x} {ys = xs} p ps) =
      ap₂ (λ (a b : List (List ℕ)). a ++ b) (same d x p) (in_pairs g same ps) ∙ more x xs

  all_append : (xs ys : List X) → all xs ++ all ys ≡ all (xs ++ ys)
  all_append [] ys = ap (λ (l : List (List ℕ)). l ++ all ys) (sym empty)
  all_append (x ∷ xs) ys =
      ap (λ (l : List (List ℕ)). l ++ all ys) (sym (more x xs)) ∙ append_assoc (own x) (all xs) (all ys)
      ∙ ap (λ (l : List (List ℕ)). own x ++ l) (all_append xs ys) ∙ more x (xs ++ ys)

  -- each submessage is a record, and so is each id
  ids-few : (xs : List X) → sum_of (λ x. 1 + length (own x)) xs ≡ length xs + length (all xs)
  ids-few [] = omega (arith, ap length empty)
  ids-few (x ∷ xs) = omega (arith, length-append (own x) (all xs), ap length (more x xs), ids-few xs)

-- ---- one IHAVE, one IWANT, one IDONTWANT, one control
ihave_ids_lem : (mode : Mode) (d : List ℕ) (h : ControlIHave) → IsIHave mode d h → at_path mode (2 ∷ []) d ≡ h.message_ids
ihave_ids_lem mode _ _ (is-ihave {s = s} {es = es} g u) = path-body mode 2 [] s es g ∙ each-itself mode (bytes_in 2 es)

iwant_ids_lem : (mode : Mode) (d : List ℕ) (w : ControlIWant) → IsIWant mode d w → at_path mode (1 ∷ []) d ≡ w.message_ids
iwant_ids_lem mode _ _ (is-iwant {s = s} {es = es} g) = path-body mode 1 [] s es g ∙ each-itself mode (bytes_in 1 es)

idontwant_ids_lem : (mode : Mode) (d : List ℕ) (w : ControlIDontWant) → IsIDontWant mode d w
    → at_path mode (1 ∷ []) d ≡ w.message_ids
idontwant_ids_lem mode _ _ (is-idontwant {s = s} {es = es} g) = path-body mode 1 [] s es g ∙ each-itself mode (bytes_in 1 es)

control_offers : (d : Dialect) (s : List ℕ) (c : ControlMessage) → IsControl d s c
    → at_path d.mode (1 ∷ 2 ∷ []) s ≡ ihave_ids c.ihave
control_offers d _ _ (is_control {s = s} {es = es} g h1 h2 h3 h4 h5) =
    path-body d.mode 1 (2 ∷ []) s es g ∙ in_pairs ihave_ids (λ h. h.message_ids) refl
    (λ h hs. refl) (at_path d.mode (2 ∷ [])) (ihave_ids_lem d.mode) h1

control-wants : (d : Dialect) (s : List ℕ) (c : ControlMessage) → IsControl d s c
    → at_path d.mode (2 ∷ 1 ∷ []) s ≡ iwant_ids c.iwant
control-wants d _ _ (is_control {s = s} {es = es} g h1 h2 h3 h4 h5) =
    path-body d.mode 2 (1 ∷ []) s es g ∙ in_pairs iwant_ids (λ w. w.message_ids) refl
    (λ w ws. refl) (at_path d.mode (1 ∷ [])) (iwant_ids_lem d.mode) h2

control-declines : (mode : Mode) (s : List ℕ) (c : ControlMessage) → IsControl (spoken mode V12) s c
    → at_path mode (5 ∷ 1 ∷ []) s ≡ idontwant_ids c.idontwant
control-declines mode _ _ (is_control {s = s} {es = es} g h1 h2 h3 h4 h5) =
    path-body mode 5 (1 ∷ []) s es g ∙ in_pairs idontwant_ids (λ w. w.message_ids) refl
    (λ w ws. refl) (at_path mode (1 ∷ [])) (idontwant_ids_lem mode) h5

-- ---- controls are joined, and so are the ids that they name
offers_join : (c : ControlMessage) (o : Option ControlMessage)
    → ihave_ids c.ihave ++ offers_in o ≡ offers_in (join_to c o)
offers_join c None = append-nil (ihave_ids c.ihave)
offers_join c (Some d) = all_append ihave_ids (λ h. h.message_ids) refl (λ h hs. refl) c.ihave d.ihave

wants-join : (c : ControlMessage) (o : Option ControlMessage) → iwant_ids c.iwant ++ wants_in o ≡ wants_in (join_to c o)
wants-join c None = append-nil (iwant_ids c.iwant)
wants-join c (Some d) = all_append iwant_ids (λ w. w.message_ids) refl (λ w ws. refl) c.iwant d.iwant

declines-join : (c : ControlMessage) (o : Option ControlMessage)
    → idontwant_ids c.idontwant ++ declined_in o ≡ declined_in (join_to c o)
declines-join c None = append-nil (idontwant_ids c.idontwant)
declines-join c (Some d) =
    all_append idontwant_ids (λ w. w.message_ids) refl (λ w ws. refl) c.idontwant d.idontwant

-- ---- the ids in the IHAVEs of a body, in its IWANTs, and in the IDONTWANTs of one that is read in 1.2
pub offered-means : {d : Dialect} {s : List ℕ} {x : Rpc} → IsRpc d s x
    → at_path d.mode (3 ∷ 1 ∷ 2 ∷ []) s ≡ offers_of x
offered-means {d} (is-rpc {s = s} {es = es} g h1 h2 h3) =
    path-body d.mode 3 (1 ∷ 2 ∷ []) s es g
    ∙ in_pairs (λ cs. offers_in (joined cs)) (λ c. ihave_ids c.ihave) refl (λ c cs. offers_join c (joined cs))
    (at_path d.mode (1 ∷ 2 ∷ [])) (control_offers d) h3

pub wanted-means : {d : Dialect} {s : List ℕ} {x : Rpc} → IsRpc d s x → at_path d.mode (3 ∷ 2 ∷ 1 ∷ []) s ≡ wants_of x
wanted-means {d} (is-rpc {s = s} {es = es} g h1 h2 h3) =
    path-body d.mode 3 (2 ∷ 1 ∷ []) s es g
    ∙ in_pairs (λ cs. wants_in (joined cs)) (λ c. iwant_ids c.iwant) refl (λ c cs. wants-join c (joined cs))
    (at_path d.mode (2 ∷ 1 ∷ [])) (control-wants d) h3

pub unwanted_means : (mode : Mode) {s : List ℕ} {x : Rpc} → IsRpc (spoken mode V12) s x
    → unwanted_in mode s ≡ unwanted_of x
unfolding unwanted_in
unwanted_means mode (is-rpc {s = s} {es = es} g h1 h2 h3) =
    path-body mode 3 (5 ∷ 1 ∷ []) s es g
    ∙ in_pairs (λ cs. declined_in (joined cs)) (λ c. idontwant_ids c.idontwant) refl
    (λ c cs. declines-join c (joined cs)) (at_path mode (5 ∷ 1 ∷ [])) (control-declines mode) h3

-- each at its first mention
pub offered-once : {d : Dialect} {s : List ℕ} {x : Rpc} → IsRpc d s x → offered d.mode s ≡ once (offers_of x)
unfolding offered
offered-once h = ap once (offered-means h)

pub wanted-once : {d : Dialect} {s : List ℕ} {x : Rpc} → IsRpc d s x → wanted d.mode s ≡ once (wants_of x)
unfolding wanted
wanted-once h = ap once (wanted-means h)

-- those that the one asks for and the other does not decline
pub remaining-means : {d : Dialect} {s t : List ℕ} {x y : Rpc} → IsRpc d s x → IsRpc (spoken d.mode V12) t y
    → remaining d.mode s t ≡ without (unwanted_of y) (once (wants_of x))
unfolding remaining
remaining-means {d} g h = ap₂ without (unwanted_means d.mode h) (wanted-once g)

-- ---- fewer ids than records: ids that are offered stand in an IHAVE, which is one record more
offers_in_lem : (o : Option ControlMessage) → 1 ≤ length (offers_in o) → 1 + length (offers_in o) ≤ some_records o
offers_in_lem None h = absurd (omega arith)
offers_in_lem (Some c) h =
    let l = ids-few ihave_ids (λ h. h.message_ids) refl (λ h hs. refl) c.ihave in
    let k = some-ihave c.ihave h in
    omega arith
  where
    some-ihave : (hs : List ControlIHave) → 1 ≤ length (ihave_ids hs) → 1 ≤ length hs
    some-ihave [] h = h
    some-ihave (h ∷ hs) k = omega arith

pub offers_fewer : (x : Rpc) → 1 ≤ length (offers_of x) → 1 + length (offers_of x) ≤ records_in x
unfolding records_in
offers_fewer x h = omega (arith, offers_in_lem x.control h)
