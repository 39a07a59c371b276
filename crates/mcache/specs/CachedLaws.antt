-- What the steps on the rows do to the cached messages: the oldest leave, a row more is a message more at the end, and
-- a window opened is a window more for each.
use Rattle.std.specs.Prelude.{◌≡◌, ℕ, zero, suc, ◌+◌, ◌-◌, ◌*◌, ◌%◌, ◌^◌, ◌<◌, ◌≤◌, true, List, [], ◌∷◌, ◌++◌, map, length, drop, ◌==◌, ◌≢◌, nat_le, nat_lt, slice_index, slice_index_or, slice_set, refl}
use Rattle.std.proofs.Common.{zero-le, ◌∙◌, arith, add-one, drop_of_length-le, get_or-set_same, get_or-set_other, leb-true, ltb-true, lt-ltb, eqb-true, eq-eqb, ne_eqb}
use Rattle.std.proofs.Math.Path.{sym, ap}
use Rattle.std.proofs.lemmas.List.Edits.{sets}
use Rattle.std.proofs.lemmas.Bool.{eqb-false}
use Rattle.basis.specs.Dialect.{mode_of}
use Rattle.basis.specs.Cases.{either, both}
use Rattle.rows.specs.declared.Ring.{Ring}
use Rattle.rows.specs.Rows.{tab, place_of, rows_in, newest, without, one_more}
use Rattle.rows.specs.RowsLaws.{length-tab, get_d_tab, place-lt, place-le, place-place, place_differs, length_ring}
use Rattle.rows.specs.RowsLaws.{ring_drop, ring_ext, map_ring}
use Rattle.rows.specs.Store.{id_at, ids_in, in_use}
use Rattle.rows.specs.StoreLaws.{row_fits}
use Rattle.mcache.specs.declared.MessageCache.{MessageCache}
use Rattle.mcache.specs.Messages.{Cached, ids_of, shift}
use Rattle.mcache.specs.State.{message_in, cached_at, cached_in, falls_from, dropped, appended, passed, older, aged}
use Rattle.mcache.specs.State.{stale, message_size, message_id_size, message_limit, ring_of}
use Rattle.mcache.specs.State.{table_of, topics_at, kept_places, noted}
use Rattle.mcache.specs.Calls.{entered, entered_store, shifted}
use Rattle.rows.specs.RowsLaws.{ring_more, newest-more}
use Rattle.rows.specs.StoreLaws.{id-kept, id-put}
use Rattle.mcache.specs.WellFormed.{Sized}
use Rattle.mcache.specs.StateLaws.{Tests, row-short, row-id-short, row-few}
use Rattle.mcache.specs.TableLaws.{noted_here, noted_other}

abbrev pub windows_of : List Cached → List ℕ
windows_of ms = map (λ (m : Cached). m.window) ms

-- ---- the messages' ids and windows are the rows'
module _ (c : MessageCache) (st : List ℕ) where
  pub length-cached : length (cached_in c st) ≡ c.count
  unfolding cached_in
  length-cached = length_ring (cached_at c st) (ring_of c)

  pub ids-cached : ids_of (cached_in c st) ≡ ids_in message_id_size (ring_of c) c.id_len c.ids
  unfolding cached_in ids_in cached_at
  ids-cached = map_ring (λ (m : Cached). m.id) (cached_at c st) (ring_of c)

  pub windows-cached : windows_of (cached_in c st) ≡ in_use (ring_of c) c.window
  unfolding cached_in in_use cached_at
  windows-cached = map_ring (λ (m : Cached). m.window) (cached_at c st) (ring_of c)

-- ---- without the k oldest
pub cached-dropped : (k : ℕ) (c : MessageCache) (st : List ℕ) → c.start ≤ c.max_messages
    → c.count ≤ c.max_messages → k ≤ c.count → cached_in (dropped k c) st ≡ drop k (cached_in c st)
unfolding cached_in dropped cached_at
cached-dropped k c st a b h = ring_drop (cached_at c st) (ring_of c) k a b h

-- ---- a window is opened
pub falls-each : (most : ℕ) (l : List ℕ) (i : ℕ) → falls_from most l ≡ true → i < length l → slice_index l i ≤ most
unfolding falls_from
falls-each most [] i h k = absurd (omega arith)
falls-each most (w ∷ l) zero h k = leb-true w most (both (nat_le w most) (falls_from w l) h).0
falls-each most (w ∷ l) (suc i) h k =
    let b = both (nat_le w most) (falls_from w l) h in
    let r = falls-each w l i b.1 (omega arith) in
    let s = leb-true w most b.0 in
    omega arith

pub falls_in : (most : ℕ) (window : List ℕ) (ring : Ring) → falls_from most (in_use ring window) ≡ true → (i : ℕ)
    → i < ring.count → slice_index window (place_of ring i) ≤ most
unfolding in_use rows_in
falls_in most window ring h i k =
    let f : ℕ → ℕ = λ (j : ℕ). slice_index_or window (place_of ring j) 0 in
    let l : i < length (tab f ring.count) = rw (length-tab f ring.count) k in
    let e : slice_index_or (tab f ring.count) i 0 ≤ most = falls-each most (tab f ring.count) i h l in
    rw (get_d_tab f ring.count i 0 k) at e

get_d_older : (l : List ℕ) (p : ℕ) → p < length l → slice_index l p < 255 → slice_index (map older l) p ≡ suc (slice_index l p)
unfolding older
get_d_older [] p h k = absurd (omega arith)
get_d_older (w ∷ l) zero h k = rw (lt-ltb w 255 k) (add-one w)
get_d_older (w ∷ l) (suc p) h k = get_d_older l p (omega arith) k

-- a message, a window later
abbrev pub later : Cached → Cached
later m = record { id = m.id; message = m.message; window = suc m.window }

pub cached-aged : (c : MessageCache) (st : List ℕ) → Tests c st → Sized c
    → cached_in (aged c) st ≡ map later (cached_in c st)
unfolding cached_in aged cached_at
cached-aged c st t z =
    ring_ext (λ (p : ℕ). later (cached_at c st p)) (ring_of c) (cached_at (aged c) st)
    (λ i h.
    let p = place_of (ring_of c) i in
    let l : p < c.max_messages = place-lt (ring_of c) i t.starts (omega (arith, t.within)) in
    let w : slice_index_or c.window p 0 ≤ c.history_len - 1 =
    falls_in (c.history_len - 1) c.window (ring_of c) t.falls i h in
    rw (get_d_older c.window p (omega (arith, z.windows, t.few)) (omega (arith, t.history_few))))
    ∙ sym (map_ring later (cached_at c st) (ring_of c))

pub stale-le : (history : ℕ) (l : List ℕ) → stale history l ≤ length l
unfolding stale
stale-le history [] = zero-le
stale-le history (w ∷ l) = let h = stale-le history l in
    either (nat_lt (w + 1) history) (λ t. simp t zero-le) (λ t. simp t (omega arith))

-- where the first stays, all do
shift-all : (history most : ℕ) (ms : List Cached) → suc most < history → falls_from most (windows_of ms) ≡ true
    → shift history ms ≡ map later ms
unfolding shift falls_from
shift-all history most [] h f = refl
shift-all history most (m ∷ ms) h f =
    let b = both (nat_le m.window most) (falls_from m.window (windows_of ms)) f in
    let l = leb-true m.window most b.0 in
    rw (lt-ltb (suc m.window) history (omega arith), shift-all history m.window ms (omega arith) b.1)

pub shift-drop : (history most : ℕ) (ms : List Cached) → falls_from most (windows_of ms) ≡ true
    → drop (stale history (windows_of ms)) (map later ms) ≡ shift history ms
unfolding shift falls_from stale
shift-drop history most [] f = refl
shift-drop history most (m ∷ ms) f =
    let b = both (nat_le m.window most) (falls_from m.window (windows_of ms)) f in
    either (nat_lt (suc m.window) history)
    (λ t. rw (add-one m.window, t, shift-all history m.window ms (ltb-true (suc m.window) history t) b.1))
    (λ t. rw (add-one m.window, t) (shift-drop history m.window ms b.1))

pub stale_in : (history : ℕ) (ring : Ring) (window : List ℕ) → stale history (in_use ring window) ≤ ring.count
unfolding in_use
stale_in history ring window =
    let l = length_ring (λ (q : ℕ). slice_index window q) ring in
    omega (arith, stale-le history (rows_in (λ (q : ℕ). slice_index window q) ring))

pub cached-shifted : (c : MessageCache) (st : List ℕ) → Tests c st → Sized c
    → cached_in (shifted c) st ≡ shift c.history_len (cached_in c st)
unfolding shifted aged
cached-shifted c st t z =
    let k = stale c.history_len (in_use (ring_of c) c.window) in
    cached-dropped k (aged c) st t.starts t.within (stale_in c.history_len (ring_of c) c.window)
    ∙ ap (drop k) (cached-aged c st t z)
    ∙ ap (λ (l : List ℕ). drop (stale c.history_len l) (map later (cached_in c st))) (sym (windows-cached c st))
    ∙ shift-drop c.history_len (c.history_len - 1) (cached_in c st) (rw (windows-cached c st) t.falls)

-- ---- a message more: the oldest leave where there is no room
abbrev pub leaving : MessageCache → ℕ
leaving c = (c.count + 1) - c.max_messages

-- the rows that stay
abbrev pub rest : MessageCache → Ring
rest c = without (leaving c) (ring_of c)

-- the place that is written: that after the last, when the oldest have left
unfoldable pub spot : MessageCache → ℕ
spot c = place_of (rest c) (c.count - leaving c)

-- the place of the i-th row that stays
unfoldable pub stays : MessageCache → ℕ → ℕ
stays c i = place_of (rest c) i

module _ (c : MessageCache) (a : c.start ≤ c.max_messages) (b : c.count ≤ c.max_messages)
    (some : c.max_messages ≡ 0 → ⊥) where
  pub leaving_in : leaving c ≤ c.count
  leaving_in = omega (arith, some)

  pub left-few : c.count - leaving c < c.max_messages
  left-few = omega (arith, some)

  pub rest-starts : place_of (ring_of c) (leaving c) ≤ c.max_messages
  rest-starts = place-le (ring_of c) (leaving c) a (omega (arith, leaving_in))

  pub spot_in_lem : spot c < c.max_messages
  unfolding spot
  spot_in_lem = place-lt (rest c) (c.count - leaving c) rest-starts left-few

  pub stays-is : (i : ℕ) → i < c.count - leaving c → stays c i ≡ place_of (ring_of c) (leaving c + i)
  unfolding stays
  stays-is i h = place-place (ring_of c) (leaving c) i a (omega arith)

  -- it is not the place of a row that stays
  pub spot-free : (i : ℕ) → i < c.count - leaving c → stays c i ≢ spot c
  unfolding spot stays
  spot-free i h = place_differs (rest c) i (c.count - leaving c) rest-starts h left-few

  -- what stands in the rows afterwards
  pub ring_entered : {A : Type 0} (f g : ℕ → A) (x : A)
      → ((i : ℕ) → i < c.count - leaving c → g (stays c i) ≡ f (stays c i)) → g (spot c) ≡ x
      → rows_in g (one_more (rest c)) ≡ newest c.max_messages (rows_in f (ring_of c) ++ (x ∷ []))
  unfolding spot stays
  ring_entered {A} f g x same new =
      ring_more f (rest c) g same
      ∙ ap (λ (y : A). rows_in f (rest c) ++ (y ∷ [])) new
      ∙ ap (λ (l : List A). l ++ (x ∷ [])) (ring_drop f (ring_of c) (leaving c) a b leaving_in)
      ∙ ap (λ (n : ℕ). drop ((n + 1) - c.max_messages) (rows_in f (ring_of c)) ++ (x ∷ []))
      (sym (length_ring f (ring_of c)))
      ∙ sym (newest-more c.max_messages (rows_in f (ring_of c)) x some)

module _ (c : MessageCache) (st m id : List ℕ) (t : Tests c st) (z : Sized c) (k : length id ≤ message_id_size)
    (n : length m ≤ message_size) (some : c.max_messages ≡ 0 → ⊥) where
  spot-small : spot c < message_limit
  spot-small = omega (arith, spot_in_lem c t.starts t.within some, t.few)

  -- the rows that stay are as they were
  pub kept-id : (i : ℕ) → i < c.count - leaving c
      → id_at message_id_size (slice_set c.id_len (spot c) (length id)) (sets c.ids (spot c * message_id_size) id)
      (stays c i) ≡ id_at message_id_size c.id_len c.ids (stays c i)
  kept-id i h =
      id-kept message_id_size c.id_len c.ids id (spot c) k (stays c i)
      (spot-free c t.starts t.within some i h)
      (rw (stays-is c t.starts t.within some i h) (row-id-short c st t (leaving c + i) (omega arith)))

  pub kept-message : (i : ℕ) → i < c.count - leaving c
      → message_in (slice_set c.len (spot c) (length m)) (sets st (spot c * message_size) m) (stays c i) ≡ message_in
      c.len st (stays c i)
  unfolding message_in id_at
  kept-message i h =
      id-kept message_size c.len st m (spot c) n (stays c i) (spot-free c t.starts t.within some i h)
      (rw (stays-is c t.starts t.within some i h) (row-short c st t (leaving c + i) (omega arith)))

  pub kept-number : (l : List ℕ) (x i : ℕ) → i < c.count - leaving c
      → slice_index (slice_set l (spot c) x) (stays c i) ≡ slice_index l (stays c i)
  kept-number l x i h = get_or-set_other l (spot c) (stays c i) x 0 (spot-free c t.starts t.within some i h)

  -- and the new one holds what was given
  pub new-id : id_at message_id_size (slice_set c.id_len (spot c) (length id)) (sets c.ids (spot c * message_id_size) id)
      (spot c) ≡ id
  new-id =
      id-put message_id_size c.id_len c.ids id (spot c) (omega (arith, spot-small, z.id-lengths))
      (row_fits message_id_size message_limit (spot c) (length id) (length c.ids) spot-small k
      (omega (arith, z.id-room)))

  pub new-message : message_in (slice_set c.len (spot c) (length m)) (sets st (spot c * message_size) m) (spot c) ≡ m
  unfolding message_in id_at
  new-message =
      id-put message_size c.len st m (spot c) (omega (arith, spot-small, z.lengths))
      (row_fits message_size c.max_messages (spot c) (length m) (length st) (spot_in_lem c t.starts t.within some)
      n (omega (arith, t.room)))

  pub kept-topics : (i : ℕ) → i < c.count - leaving c
      → topics_at (noted (mode_of c.flags) m (spot c) (table_of c)) (stays c i) ≡ topics_at (table_of c) (stays c i)
  kept-topics i h =
      noted_other (mode_of c.flags) m (spot c) (table_of c) (stays c i) (spot-free c t.starts t.within some i h)
      (rw (stays-is c t.starts t.within some i h) (row-few c st t (leaving c + i) (omega arith)))

  pub new-topics : topics_at (noted (mode_of c.flags) m (spot c) (table_of c)) (spot c)
      ≡ kept_places (mode_of c.flags) m
  new-topics = noted_here (mode_of c.flags) m (spot c) (table_of c) z.topics spot-small

  pub new-number : (l : List ℕ) (x : ℕ) → length l ≡ message_limit → slice_index (slice_set l (spot c) x) (spot c) ≡ x
  new-number l x e = get_or-set_same l (spot c) x 0 (omega (arith, spot-small))

-- the cache with a message more, where some is kept
unfoldable pub grown : List ℕ → List ℕ → MessageCache → MessageCache
grown m id c =
    let t = noted (mode_of c.flags) m (spot c) (table_of c) in
    record {
      history_len = c.history_len;
      max_messages = c.max_messages;
      next_generation = (c.next_generation + 1) % 2 ^ 64;
      start = (rest c).start;
      count = (rest c).count + 1;
      generation = slice_set c.generation (spot c) c.next_generation;
      window = slice_set c.window (spot c) 0;
      len = slice_set c.len (spot c) (length m);
      id_len = slice_set c.id_len (spot c) (length id);
      ids = sets c.ids (spot c * message_id_size) id;
      topic_count = t.counts;
      topic_start = t.starts;
      topic_len = t.sizes;
      flags = c.flags;
    }

pub entered-some : (m id : List ℕ) (c : MessageCache) → (c.max_messages ≢ 0) → entered m id c ≡ grown m id c
unfolding entered appended dropped grown spot
entered-some m id c some = rw (ne_eqb c.max_messages 0 some)

pub entered-none : (m id : List ℕ) (c : MessageCache) → c.max_messages ≡ 0 → entered m id c ≡ passed c
unfolding entered
entered-none m id c e = rw (eq-eqb c.max_messages 0 e)

pub stored_some : (c : MessageCache) (st m : List ℕ) → (c.max_messages ≢ 0)
    → entered_store c st m ≡ sets st (spot c * message_size) m
unfolding entered_store dropped spot
stored_some c st m some = rw (ne_eqb c.max_messages 0 some)

pub stored-none : (c : MessageCache) (st m : List ℕ) → c.max_messages ≡ 0 → entered_store c st m ≡ st
unfolding entered_store
stored-none c st m e = rw (eq-eqb c.max_messages 0 e)

-- with max_messages 0 none is kept
same-passed : (c : MessageCache) (st : List ℕ) → cached_in (passed c) st ≡ cached_in c st
unfolding cached_in passed cached_at
same-passed c st = refl

cached-passed : (c : MessageCache) (st : List ℕ) (x : Cached) → c.count ≤ c.max_messages → c.max_messages ≡ 0
    → cached_in (passed c) st ≡ newest c.max_messages (cached_in c st ++ (x ∷ []))
unfolding newest
cached-passed c st x b e =
    let l = cached_in c st ++ (x ∷ []) in
    let n = length-cached c st in
    same-passed c st ∙ drop_of_length-le (cached_in c st) {i = 0} (omega arith)
    ∙ sym (drop_of_length-le l {i = length l - c.max_messages} (omega arith))

-- a message of the newest window
abbrev pub new : List ℕ → List ℕ → Cached
new id m = record { id = id; message = m; window = 0 }

module _ (c : MessageCache) (st m id : List ℕ) (t : Tests c st) (z : Sized c) (k : length id ≤ message_id_size)
    (n : length m ≤ message_size) where
  pub cached-grown : (c.max_messages ≢ 0) → cached_in (grown m id c) (sets st (spot c * message_size) m)
      ≡ newest c.max_messages (cached_in c st ++ (new id m ∷ []))
  unfolding cached_in grown cached_at
  cached-grown some =
      ring_entered c t.starts t.within some (cached_at c st)
      (cached_at (grown m id c) (sets st (spot c * message_size) m)) (new id m)
      (λ i h. rw (
        kept-id c st m id t z k n some i h,
        kept-message c st m id t z k n some i h,
        kept-number c st m id t z k n some c.window 0 i h,
      ))
      (rw (
        new-id c st m id t z k n some,
        new-message c st m id t z k n some,
        new-number c st m id t z k n some c.window 0 z.windows,
      ))

  pub cached-entered : cached_in (entered m id c) (entered_store c st m) ≡ newest c.max_messages
      (cached_in c st ++ (new id m ∷ []))
  cached-entered =
      either (c.max_messages == 0)
      (λ u.
      let e = eqb-true c.max_messages 0 u in
      rw (entered-none m id c e, stored-none c st m e) (cached-passed c st (new id m) t.within e))
      (λ u.
      let some = eqb-false c.max_messages 0 u in
      rw (entered-some m id c some, stored_some c st m some) (cached-grown some))
