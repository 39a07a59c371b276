-- With the flag off that allows unsigned messages a message cache is what it was before there was that flag, in each mode:
-- each definition that reads it equals the one it was, which stands here. And what becomes of a lent state whose flag is
-- set from outside.
use Rattle.std.specs.Prelude.{Result, Ok, Err, ◌≡◌, ℕ, ◌-◌, ◌<◌, Bool, true, false, ◌&&◌, List, ◌≢◌, nat_le, slice_index, refl}
use Rattle.std.proofs.Math.Path.{ap, ap₂}
use Rattle.std.proofs.Math.Bool.{and-true}
use Rattle.basis.specs.declared.Mode.{Mode}
use Rattle.basis.specs.declared.Mode.TheVariants.{Plain, Groups}
use Rattle.basis.specs.declared.Edition.{Edition}
use Rattle.basis.specs.Dialect.{mode_of, spoken}
use Rattle.basis.specs.Cases.{clash, both}
use Rattle.rows.specs.Rows.{place_of, rows_in}
use Rattle.rows.specs.RowsLaws.{ring_ext}
use Rattle.rows.specs.Ids.{distinct}
use Rattle.rows.specs.Store.{id_at, ids_in, in_use, all_up_to}
use Rattle.protobuf.specs.Walk.{between}
use Rattle.protobuf.specs.declared.WireError.{WireError}
use Rattle.schema.specs.declared.Kind.TheVariants as kind
use Rattle.schema.specs.Count.{counted}
use Rattle.schema.specs.Accept.{accept_of}
use Rattle.ids.specs.Ids.{message_at}
use Rattle.admission.specs.Flags.{known_flags, allows_unsigned}
use Rattle.admission.specs.Admission.{Span, is_signed, kept_with}
use Rattle.admission.specs.AdmissionLaws.{gives-refused, gives-signed}
use Rattle.admission.specs.FlagLaws.{admission_was, kept_was, admission_off, kept_off, kept_on, kept_mode}
use Rattle.mcache.specs.declared.MessageCache.{MessageCache}
use Rattle.protobuf.specs.declared.Refusal.{Refusal}
use Rattle.mcache.specs.declared.PutError.TheVariants as put
use Rattle.mcache.specs.State.{Table, message_in, topics_at, falls_from, runs_to, gives_at, all_true, gives_in, ids_fit}
use Rattle.mcache.specs.State.{rows_fit, legal, well_formed, ring_of, table_of, message_size, message_id_size, message_limit}
use Rattle.mcache.specs.State.{max_history}
use Rattle.mcache.specs.Calls.{lent_of, Plan, no, plan_fit, plan_at, plan_body, plan_lent, planned}
use Rattle.mcache.specs.StateLaws.{fine-tests, tests-fine, true_in, in_true, row_gives}

-- ---- as it was, in a mode
unfoldable pub gives_at_was : Mode → List ℕ → List ℕ → List ℕ → Table → List ℕ → ℕ → Bool
gives_at_was mode lens ilens ids table st p =
    nat_le (slice_index lens p) message_size
    && kept_was mode (message_in lens st p) (id_at message_id_size ilens ids p) (topics_at table p)

unfoldable pub ids_fit_was : Mode → MessageCache → List ℕ → Bool
ids_fit_was mode c st =
    all_up_to message_id_size (in_use (ring_of c) c.id_len)
    && (all_true (rows_in (gives_at_was mode c.len c.id_len c.ids (table_of c) st) (ring_of c))
    && distinct (ids_in message_id_size (ring_of c) c.id_len c.ids))

unfoldable pub rows_fit_was : Mode → MessageCache → List ℕ → Bool
rows_fit_was mode c st =
    falls_from (c.history_len - 1) (in_use (ring_of c) c.window)
    && (runs_to c.next_generation (in_use (ring_of c) c.generation) && ids_fit_was mode c st)

unfoldable pub legal_was : ℕ → ℕ → Bool
legal_was history max = nat_le 1 history && (nat_le history max_history && nat_le max message_limit)

unfoldable pub well_formed_was : Mode → MessageCache → List ℕ → Bool
well_formed_was mode c st =
    legal_was c.history_len c.max_messages
    && (nat_le c.start c.max_messages && (nat_le c.count c.max_messages && rows_fit_was mode c st))

abbrev pub plan_at_was : Mode → MessageCache → List ℕ → Result (ℕ × ℕ) ℕ → Plan
plan_at_was mode c body (Err n) = no (Err (put.NoMessage n))
plan_at_was mode c body (Ok (a, e)) = plan_fit c (between body a e) (admission_was mode (between body a e) true)

abbrev pub plan_body_was : Mode → MessageCache → List ℕ → ℕ → Result (Unit {0}) Refusal → Plan
plan_body_was mode c body i (Err why) = no (Err (put.Refused why))
plan_body_was mode c body i (Ok tt) = plan_at_was mode c body (message_at mode body i)

unfoldable pub planned_was : Mode → MessageCache → List ℕ → Edition → List ℕ → ℕ → Plan
planned_was mode c st ed body i = plan_lent (lent_of c st) (plan_body_was mode c body i (accept_of (spoken mode ed) body))

-- ---- with the flag off, in the mode of the flags
pub legal_off : (history max flags : ℕ) → known_flags flags ≡ true → legal history max flags ≡ legal_was history max
unfolding legal legal_was
legal_off history max flags k = rw (k, and-true (nat_le max message_limit))

module _ (c : MessageCache) (st : List ℕ) (off : allows_unsigned c.flags ≡ false) where
  gives_was_lem : all_true (rows_in (gives_at c.flags c.len c.id_len c.ids (table_of c) st) (ring_of c))
      ≡ all_true (rows_in (gives_at_was (mode_of c.flags) c.len c.id_len c.ids (table_of c) st) (ring_of c))
  unfolding gives_at gives_at_was
  gives_was_lem =
      ap all_true (ring_ext _ (ring_of c) _
      (λ i h.
      let p = place_of (ring_of c) i in
      ap (λ (b : Bool). nat_le (slice_index c.len p) message_size && b)
      (kept_off c.flags (message_in c.len st p) (id_at message_id_size c.id_len c.ids p)
      (topics_at (table_of c) p) off)))

  pub rows_off : rows_fit c st ≡ rows_fit_was (mode_of c.flags) c st
  unfolding rows_fit rows_fit_was ids_fit ids_fit_was gives_in
  rows_off = rw gives_was_lem

  at_was : (body : List ℕ) (r : Result (ℕ × ℕ) ℕ) → plan_at c body r ≡ plan_at_was (mode_of c.flags) c body r
  at_was body (Err n) = refl
  at_was body (Ok (a, e)) =
      ap (plan_fit c (between body a e)) (admission_off c.flags (between body a e) true off)

  body_was : (body : List ℕ) (i : ℕ) (r : Result (Unit {0}) Refusal) → plan_body c body i r ≡ plan_body_was (mode_of c.flags) c body i r
  body_was body i (Err why) = refl
  body_was body i (Ok tt) = at_was body (message_at (mode_of c.flags) body i)

  pub planned_off : (ed : Edition) (body : List ℕ) (i : ℕ)
      → planned c st ed body i ≡ planned_was (mode_of c.flags) c st ed body i
  unfolding planned planned_was
  planned_off ed body i = rw (body_was body i (accept_of (spoken (mode_of c.flags) ed) body))

  pub well_formed_off : known_flags c.flags ≡ true → well_formed c st ≡ well_formed_was (mode_of c.flags) c st
  unfolding well_formed well_formed_was
  well_formed_off known =
      ap₂ (λ (a b : Bool). a && (nat_le c.start c.max_messages && (nat_le c.count c.max_messages && b)))
      (legal_off c.history_len c.max_messages c.flags known) rows_off

-- ---- flags that are set from outside
unfoldable pub with_flags : ℕ → MessageCache → MessageCache
with_flags flags c =
    record {
      history_len = c.history_len;
      max_messages = c.max_messages;
      next_generation = c.next_generation;
      start = c.start;
      count = c.count;
      generation = c.generation;
      window = c.window;
      len = c.len;
      id_len = c.id_len;
      ids = c.ids;
      topic_count = c.topic_count;
      topic_start = c.topic_start;
      topic_len = c.topic_len;
      flags = flags;
    }

-- flags under which all that is kept may be kept are not found out
module _ (c : MessageCache) (st : List ℕ) (flags : ℕ) (known : known_flags flags ≡ true) (fine : lent_of c st ≡ Ok tt) where
  reset : ((p i : List ℕ) (ts : List Span) → kept_with c.flags p i ts ≡ true → kept_with flags p i ts ≡ true)
      → lent_of (with_flags flags c) st ≡ Ok tt
  unfolding with_flags gives_in gives_at
  reset kept =
      let t = fine-tests c st fine in
      tests-fine (with_flags flags c) st
      (record {
        room = t.room;
        history_some = t.history_some;
        history_few = t.history_few;
        few = t.few;
        known = known;
        starts = t.starts;
        within = t.within;
        falls = t.falls;
        runs = t.runs;
        id-short = t.id-short;
        gives = in_true _ (ring_of c)
            (λ i h.
            let p = place_of (ring_of c) i in
            let b = both (nat_le (slice_index c.len p) message_size) _
            (true_in (gives_at c.flags c.len c.id_len c.ids (table_of c) st) (ring_of c) t.gives i h) in
            rw b.0
            (kept (message_in c.len st p) (id_at message_id_size c.id_len c.ids p) (topics_at (table_of c) p)
            b.1));
        once = t.once;
      })

  -- the one that allows unsigned messages, turned on
  pub turned_on : mode_of c.flags ≡ mode_of flags → allows_unsigned c.flags ≡ false
      → lent_of (with_flags flags c) st ≡ Ok tt
  turned_on mode off = reset (λ p i ts. kept_on c.flags flags p i ts mode off)

  -- the one that skips groups, turned on
  pub groups_on : mode_of c.flags ≡ Plain → mode_of flags ≡ Groups
      → allows_unsigned flags ≡ allows_unsigned c.flags → lent_of (with_flags flags c) st ≡ Ok tt
  groups_on plain groups same = reset (kept_mode c.flags flags plain groups same)

-- turned off with a message cached that has no signature, it is 42
pub turned_off : (c : MessageCache) (st : List ℕ) (i : ℕ) → allows_unsigned c.flags ≡ false → i < c.count
    → is_signed (mode_of c.flags) (message_in c.len st (place_of (ring_of c) i)) ≡ false → lent_of c st ≢ (Ok tt)
turned_off c st i off h n f =
    let p = place_of (ring_of c) i in
    let s = gives-signed c.flags (message_in c.len st p) (id_at message_id_size c.id_len c.ids p)
    (row_gives c st (fine-tests c st f) i h) off in
    clash (cc)

-- ---- the mode that is set from outside: a cached message that is not read in it is 42
pub unread : (c : MessageCache) (st : List ℕ) (i : ℕ) (why : WireError) → i < c.count
    → counted (mode_of c.flags) kind.RawMessage (message_in c.len st (place_of (ring_of c) i)) ≡ Err why
    → lent_of c st ≢ (Ok tt)
unread c st i why h n f =
    let p = place_of (ring_of c) i in
    let g = row_gives c st (fine-tests c st f) i h in
    let z = gives-refused c.flags (message_in c.len st p) (id_at message_id_size c.id_len c.ids p) why n in
    clash (cc)
