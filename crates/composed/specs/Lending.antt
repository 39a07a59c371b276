-- What decode leaves in any dialect of a body without IHAVE, IWANT and IDONTWANT can be lent as it is, and says the
-- same RPC with each message made anew; so every RPC that lists can say can be lent, and what was written, lent again,
-- is written again.
use Rattle.std.specs.Prelude.{Option, Some, None, Ok, Result, ℕ, ◌+◌, ◌-◌, ◌*◌, ◌/◌, ◌%◌, ◌≤◌, ◌<◌, ◌≡◌, refl, true}
use Rattle.std.specs.Prelude.{false, List, [], ◌∷◌, ◌++◌, map, length, take, drop, eqb}
use Rattle.std.proofs.Common.{sym, ap, ap₂, subst, ◌∙◌, append-nil, arith, drop_of_length-le, take_at, eq-eqb, eqb-true, le-leb, le-ltb}
use Rattle.std.proofs.lemmas.List.Edits.{sets, sets-eq}
use Rattle.basis.specs.declared.Edition.TheVariants.{V11}
use Rattle.basis.specs.declared.Mode.TheVariants as mode
use Rattle.basis.specs.declared.Dialect.{Dialect}
use Rattle.basis.specs.Dialect.{spoken}
use Rattle.basis.specs.Cases.{both}
use Rattle.basis.specs.Bytes.{Bytes}
use Rattle.basis.specs.Told.{done}
use Rattle.basis.specs.Writing.{written}
use Rattle.protobuf.specs.declared.Refusal.{Refusal}
use Rattle.schema.specs.declared.Kind.TheVariants as kind
use Rattle.message.specs.declared.Record.{Record}
use Rattle.message.specs.Rows.{rows_of, words_of_all}
use Rattle.message.specs.RowsLaws.{all-length}
use Rattle.message.specs.Decode.{has_control, on_count, decode_answer, leaves, decode_table}
use Rattle.message.specs.Told.{decoded_told}
use Rattle.rpc.specs.Rpc.{SubOpts, RawMessage, ControlIHave, ControlIWant, ControlGraft, ControlPrune}
use Rattle.rpc.specs.Rpc.{ControlIDontWant, ControlMessage, Rpc}
use Rattle.rpc.specs.Grammar.{Each, none_left, ◌and◌, joined, IsRpc, is-rpc}
use Rattle.rpc.specs.Encode.{encode_rpc}
use Rattle.meaning.specs.ReadBack.{Gathered, nothing, gather}
use Rattle.meaning.specs.Back.{state, flat, joined-some, rpc-gathered, one-rpc}
use Rattle.meaning.specs.Table.{AllRecords, all-records, rows_in, table-back}
use Rattle.meaning.specs.Size.{records_in, rpc-records}
use Rattle.meaning.specs.Decoded.{Within, accepted-exactly, records-within}
use Rattle.canonical.specs.Means.{opt}
use Rattle.admission.specs.Flags.{known_flags}
use Rattle.compose.specs.declared.Wrong.{Wrong}
use Rattle.compose.specs.Lent.{lent_rows, lent_from, lent_well}
use Rattle.compose.specs.Said.{encode_fields, encode_message, renewed, subscriptions_in, messages_in, grafts_in, prunes_in, control_of, said}
use Rattle.compose.specs.Weighed.{limits_fine, and_then, weighed, first_unfit}
use Rattle.compose.specs.Compose.{texts_fine, answering, leaving, put_answer, write_tested, write_answer, write_left}
use Rattle.composed.specs.Written.{Words, Plain, Quiet, Spoken, Sayable, control_anew, anew, said_of, body_of, Alike, Lends, CanSay}
use Rattle.composed.specs.Means.{plain-within}
use Rattle.composed.specs.WrittenRows.{taken_of, of-taken, passed-of, of-passed, Texts, Waits, said_sayable}
use Rattle.composed.specs.WrittenLaws.{lent-records, written-means}
use Rattle.composed.specs.LendingRows.{and_both, rows_inside}
use Rattle.composed.specs.LendingTexts.{waits_lent, texts_fine_lem, meant-texts}
use Rattle.composed.specs.LendingWords.{body-words}

-- ---- a table of records, read as it is lent
pub words-lent : (rs : List Record) → AllRecords rs → lent_rows (words_of_all rs) ≡ rs
words-lent rs own =
    let ws = words_of_all rs in
    let l = all-length rs in
    let n : length ws / 20 - 0 ≡ length rs = omega arith in
    let z : drop (0 + length ws) ws ≡ [] = drop_of_length-le ws {i = 0 + length ws} (omega arith) in
    let e : sets ws 0 ws ≡ ws = sets-eq ws ws 0 (omega arith) ∙ ap (λ (x : List ℕ). ws ++ x) z ∙ append-nil ws in
    ap (rows_in ws 0) n ∙ ap (λ (t : List ℕ). rows_in t 0 (length rs)) (sym e) ∙ table-back ws rs own (omega arith)

words-whole : (rs : List Record) → eqb (length (words_of_all rs) % 20) 0 ≡ true
words-whole rs = let l = all-length rs in eq-eqb (length (words_of_all rs) % 20) 0 (omega arith)

-- ---- what a body that is meant says, lent again
quiet-flat : (cs : List ControlMessage) → Each Quiet (opt (joined cs)) → Quiet (flat cs)
quiet-flat [] q = record { ihave = refl; iwant = refl; idontwant = refl }
quiet-flat (c ∷ cs) q = one (subst (λ (o : Option ControlMessage). Each Quiet (opt o)) (joined-some c cs) q)
  where
    one : {c : ControlMessage} → Each Quiet (c ∷ []) → Quiet c
    one (p and none_left) = p

control-flat : (cs : List ControlMessage) → control_of (flat cs).graft (flat cs).prune ≡ control_anew (joined cs)
control-flat [] = refl
control-flat (c ∷ cs) = sym (ap control_anew (joined-some c cs))

said-gathered : (b : List ℕ) (rs : List Record) (ss : List SubOpts) (ms : List RawMessage) (cs : List ControlMessage)
    → gather b rs nothing ≡ state [] [] [] ss ms (flat cs)
    → said b rs ≡ anew (record { subscriptions = ss; publish = ms; control = joined cs })
unfolding said subscriptions_in messages_in grafts_in prunes_in
said-gathered b rs ss ms cs e =
    ap (λ (g : Gathered). record {
      subscriptions = g.subscriptions;
      publish = map renewed g.publish;
      control = control_of g.control.graft g.control.prune;
    }) e
    ∙ ap (λ (o : Option ControlMessage). record { subscriptions = ss; publish = map renewed ms; control = o }) (control-flat cs)

meant-lends : {d : Dialect} {s : List ℕ} {x : Rpc} → IsRpc d s x → records_in x ≤ 512 → Each Quiet (opt x.control)
    → Lends (words_of_all (rows_of d.mode (kind.Rpc d.edition) 0 s)) s (anew x)
unfolding lent_well
meant-lends {d} (is-rpc {s = s} {es = es} {ss = ss} {ms = ms} {cs = cs} g h1 h2 h3) few q =
    let rs = rows_of d.mode (kind.Rpc d.edition) 0 s in
    let own = all-records d.mode (kind.Rpc d.edition) 0 s in
    let e = rpc-gathered d s es ss ms cs g h1 h2 h3 in
    let n = rpc-records {d = d} (is-rpc g h1 h2 h3) in
    let c = quiet-flat cs q in
    let w : Waits false false (gather s rs nothing) =
    subst (Waits false false) (sym e)
    (record {
      topics = λ i. refl;
      peers = λ i. refl;
      ids = refl;
      ihave = c.ihave;
      iwant = c.iwant;
      idontwant = c.idontwant;
    }) in
    let l = waits_lent s (length s) false false rs own
    (rows_inside d.mode (kind.Rpc d.edition) 0 (length s) s (omega arith)) w in
    let u = texts_fine_lem s rs (subst Texts (sym e) (meant-texts d h1 h2 h3)) in
    let k = words-lent rs own in
    let m = all-length rs in
    record {
      fine = of-taken (words_of_all rs) s
          (record {
            well = and_both (eqb (length (words_of_all rs) % 20) 0) (lent_from (length s) false false (lent_rows (words_of_all rs)))
                (words-whole rs) (subst (λ (r : List Record). lent_from (length s) false false r ≡ true) (sym k) l);
            texts = subst (λ (r : List Record). texts_fine s r ≡ Ok tt) (sym k) u;
            few = omega arith;
          });
      says = ap (said s) k ∙ said-gathered s rs ss ms cs e;
    }

-- the words that decode writes in a dialect for a body within capacity without IHAVE, IWANT and IDONTWANT, over the
-- body, are lent well, and say its RPC, each message made anew
pub lend_decoded : {d : Dialect} {s : List ℕ} {x : Rpc} → Within d s x → Each Quiet (opt x.control)
    → Lends (words_of_all (rows_of d.mode (kind.Rpc d.edition) 0 s)) s (anew x)
lend_decoded w q = meant-lends w.means w.few q

-- and those words are what stands at the front of a table with room for them
pub decoded-words : {d : Dialect} {s : List ℕ} {x : Rpc} (table : List ℕ) → Within d s x
    → records_in x ≤ length table / 20
    → take (records_in x * 20) (decode_table d s table) ≡ words_of_all (rows_of d.mode (kind.Rpc d.edition) 0 s)
unfolding decode_table decode_answer
decoded-words {d} {s} {x} table w r =
    let n = records_in x in
    let ws = words_of_all (rows_of d.mode (kind.Rpc d.edition) 0 s) in
    let l : length ws ≡ n * 20 = all-length (rows_of d.mode (kind.Rpc d.edition) 0 s)
    ∙ omega (arith, rpc-records w.means) in
    ap (λ (c : Result ℕ Refusal). take (n * 20) (leaves d s table (on_count (length table / 20) (has_control d.mode s) c)))
    (records-within w)
    ∙ simp (le-ltb (length table / 20) n r)
    (ap (take (n * 20)) (sets-eq ws table 0 (omega arith)) ∙ take_at ws (drop (0 + length ws) table) (n * 20) l)

-- so what decode leaves of a body without IHAVE, IWANT and IDONTWANT can be lent as it is
pub decoded-lends : (d : Dialect) (s table : List ℕ) (n c : ℕ) (x : Rpc) → Bytes s
    → decoded_told (decode_answer d s (length table)) ≡ done (n ∷ c ∷ []) → IsRpc d s x → Each Quiet (opt x.control)
    → Lends (take (n * 20) (decode_table d s table)) s (anew x) × Words (take (n * 20) (decode_table d s table))
decoded-lends d s table n c x b e i q =
    let a = (accepted-exactly d s (length table) n c b).0 e in
    let r = one-rpc a.within.means i in
    let w : Within d s x = subst (Within d s) r a.within in
    let k : n ≡ records_in x = a.count ∙ ap records_in r in
    let t : take (n * 20) (decode_table d s table) ≡ words_of_all (rows_of d.mode (kind.Rpc d.edition) 0 s) =
    ap (λ (j : ℕ). take (j * 20) (decode_table d s table)) k
    ∙ decoded-words table w (omega (arith, a.room, a.count)) in (
      subst (λ (u : List ℕ). Lends u s (anew x)) (sym t) (lend_decoded w q),
      subst Words (sym t) (body-words d s b (omega (arith, w.small))),
    )

-- ---- every RPC that lists can say
renewed-same : {m : RawMessage} → m.raw ≡ encode_message m → renewed m ≡ m
renewed-same {m} e =
    ap (λ (r : List ℕ). record {
      raw = r;
      from = m.from;
      «data» = m.«data»;
      seqno = m.seqno;
      topic_ids = m.topic_ids;
      signature = m.signature;
      key = m.key;
    }) (sym e)

publish-same : {ms : List RawMessage} → Each (λ m. m.raw ≡ encode_message m) ms → map renewed ms ≡ ms
publish-same none_left = refl
publish-same (e and es) = ap₂ (λ (m : RawMessage) (ms : List RawMessage). m ∷ ms) (renewed-same e) (publish-same es)

control-same : (gs : List ControlGraft) (ps : List ControlPrune) → 0 < length gs + length ps
    → control_of gs ps ≡ Some (record { ihave = []; iwant = []; graft = gs; prune = ps; idontwant = [] })
control-same [] [] h = absurd (omega arith)
control-same [] (p ∷ ps) h = refl
control-same (g ∷ gs) ps h = refl

spoken-same : (o : Option ControlMessage) → Each Spoken (opt o) → control_anew o ≡ o
spoken-same None q = refl
spoken-same (Some c) (q and none_left) =
    control-same c.graft c.prune q.there
    ∙ ap₂ (λ (h : List ControlIHave) (w : List ControlIWant).
    Some (record { ihave = h; iwant = w; graft = c.graft; prune = c.prune; idontwant = [] })) (sym q.quiet.ihave)
    (sym q.quiet.iwant)
    ∙ ap (λ (n : List ControlIDontWant).
    Some (record { ihave = c.ihave; iwant = c.iwant; graft = c.graft; prune = c.prune; idontwant = n }))
    (sym q.quiet.idontwant)

pub anew-same : (x : Rpc) → Sayable x → anew x ≡ x
anew-same x q =
    ap₂ (λ (ms : List RawMessage) (o : Option ControlMessage). record { subscriptions = x.subscriptions; publish = ms; control = o })
    (publish-same q.raws) (spoken-same x.control q.control)

quiet_of : {o : List ControlMessage} → Each Spoken o → Each Quiet o
quiet_of none_left = none_left
quiet_of (p and ps) = p.quiet and quiet_of ps

-- its encoding, with decode's words of it
pub lend_sayable : (d : Dialect) (x : Rpc) → Sayable x → Within d (encode_rpc x) x
    → Lends (words_of_all (rows_of d.mode (kind.Rpc d.edition) 0 (encode_rpc x))) (encode_rpc x) x
lend_sayable d x q w =
    subst (Lends (words_of_all (rows_of d.mode (kind.Rpc d.edition) 0 (encode_rpc x))) (encode_rpc x)) (anew-same x q)
    (lend_decoded w (quiet_of q.control))

pub every-rpc : (d : Dialect) (x : Rpc) → Sayable x → Within d (encode_rpc x) x → Bytes (encode_rpc x) → CanSay x
every-rpc d x q w b =
    record {
      table = words_of_all (rows_of d.mode (kind.Rpc d.edition) 0 (encode_rpc x));
      bytes = encode_rpc x;
      words = body-words d (encode_rpc x) b (omega (arith, w.small));
      octets = b;
      lends = lend_sayable d x q w;
    }

-- where texts are UTF-8, numbers are below 2^64, and the encoding is within capacity
pub every-plain-rpc : (x : Rpc) → Sayable x → Plain x → Bytes (encode_rpc x) → length (encode_rpc x) ≤ 65536 → records_in x ≤ 512
    → CanSay x
every-plain-rpc x q p b l n = every-rpc (spoken mode.Plain V11) x q (plain-within (spoken mode.Plain V11) x p q l n) b

-- ---- and it is written under known flags, where no message is refused: a test looks at a message's fields alone
weighed-renewed : (flags : ℕ) (m : RawMessage) → weighed flags (renewed m) ≡ weighed flags m
unfolding weighed limits_fine encode_message encode_fields
weighed-renewed flags m = refl

unfit-renewed : (flags : ℕ) (ms : List RawMessage) → first_unfit flags (map renewed ms) ≡ first_unfit flags ms
unfit-renewed flags [] = refl
unfit-renewed flags (m ∷ ms) = ap₂ and_then (weighed-renewed flags m) (unfit-renewed flags ms)

unfit-said : (flags : ℕ) (b : List ℕ) (rs : List Record) → first_unfit flags (said b rs).publish ≡ first_unfit flags (messages_in b rs)
unfolding said
unfit-said flags b rs = unfit-renewed flags (messages_in b rs)

pub lends-tested : (flags : ℕ) {t b : List ℕ} {x : Rpc} → Lends t b x → known_flags flags ≡ true → first_unfit flags x.publish ≡ Ok tt
    → length (encode_rpc x) ≤ 65536 → write_tested flags t b ≡ Ok tt
lends-tested flags {t} {b} {x} d k f l =
    of-passed flags t b
    (record {
      known = k;
      taken = taken_of t b d.fine;
      fit = sym (unfit-said flags b (lent_rows t)) ∙ ap (λ (y : Rpc). first_unfit flags y.publish) d.says ∙ f;
      short = subst (λ (y : Rpc). length (encode_rpc y) ≤ 65536) (sym d.says) l;
    })

-- given room, its encoding is what is written
pub lends-written : (flags : ℕ) {t b : List ℕ} {x : Rpc} → Lends t b x → known_flags flags ≡ true → first_unfit flags x.publish ≡ Ok tt
    → length (encode_rpc x) ≤ 65536 → (out : List ℕ) → length (encode_rpc x) ≤ length out
    → (write_answer flags t b out ≡ Ok (length (encode_rpc x))) × (write_left flags t b out ≡ encode_rpc x ++ drop (length (encode_rpc x)) out)
unfolding write_answer write_left put_answer written
lends-written flags {t} {b} {x} d k f l out r =
    let e = lends-tested flags d k f l in
    let n = le-leb (length (encode_rpc x)) (length out) r in (
      ap₂ (λ (y : Rpc) (z : Result (Unit {0}) Wrong). answering (put_answer (encode_rpc y) out) z) d.says e ∙ simp n,
      ap₂ (λ (y : Rpc) (z : Result (Unit {0}) Wrong). leaving out (written (encode_rpc y) out) z) d.says e ∙ simp n,
    )

-- ---- what was written, lent again as decode leaves it, says the same RPC, and the same is written
alike_of : (flags : ℕ) (t b u c : List ℕ) → write_tested flags t b ≡ Ok tt → write_tested flags u c ≡ Ok tt → said_of u c ≡ said_of t b
    → Alike flags t b u c
unfolding write_answer write_left
alike_of flags t b u c e f g =
    record {
      tested = f;
      says = g;
      answers = λ out. ap₂ (λ (x : Rpc) (r : Result (Unit {0}) Wrong). answering (put_answer (encode_rpc x) out) r) g (f ∙ sym e);
      leaves = λ out. ap₂ (λ (x : Rpc) (r : Result (Unit {0}) Wrong). leaving out (written (encode_rpc x) out) r) g (f ∙ sym e);
    }

whole_rows_lem : (t b : List ℕ) → lent_well t b ≡ true → length t % 20 ≡ 0
unfolding lent_well
whole_rows_lem t b h =
    eqb-true (length t % 20) 0 (both (eqb (length t % 20) 0) (lent_from (length b) false false (lent_rows t)) h).0

pub written-again : (d : Dialect) (flags : ℕ) (t b table : List ℕ) → Words t → write_tested flags t b ≡ Ok tt
    → length t ≤ length table
    → Alike flags t b (take (length t) (decode_table d (body_of t b) table)) (body_of t b)
written-again d flags t b table w h l =
    let p = passed-of flags t b h in
    let m = written-means d flags t b w h in
    let n = lent-records t b p.taken.well in
    let z = whole_rows_lem t b p.taken.well in
    let k : length t ≡ records_in (said_of t b) * 20 = omega arith in
    let e : take (length t) (decode_table d (body_of t b) table)
    ≡ words_of_all (rows_of d.mode (kind.Rpc d.edition) 0 (body_of t b)) =
    ap (λ (i : ℕ). take i (decode_table d (body_of t b) table)) k ∙ decoded-words table m (omega arith) in
    let c = lend_sayable d (said_of t b) (said_sayable b (lent_rows t)) m in
    subst (λ (u : List ℕ). Alike flags t b u (body_of t b)) (sym e)
    (alike_of flags t b (words_of_all (rows_of d.mode (kind.Rpc d.edition) 0 (body_of t b))) (body_of t b) h
    (lends-tested flags c p.known (unfit-said flags b (lent_rows t) ∙ p.fit) p.short) c.says)
