-- The rows that are told of are rows in use: so each has an id of at most 128 bytes, and there are at most 64.
use Prim.Native.Nat.{ℕ, zero, suc, ◌*◌, ◌≤◌, ◌<◌}
use mathlib.Core.Path.{◌≡◌, refl, sym, ap, ◌∙◌}
use mathlib.Core.List.{List, [], ◌∷◌, map}
use native.Mathlib.Omega.{arith}
use lib.ListN.{length, take, drop, get_or, replicate, length-take, length-map, length-append}
use lib.Seq.{take_at, get_or-take}
use Rattle.std.specs.Prelude.{Ok, Err}
use Rattle.basis.specs.Writing.{answer, written}
use Rattle.basis.specs.Lists.{answer-fits, answer-short, written-fits, written-short}
use Rattle.rows.specs.Rows.{place_of, rows_in}
use Rattle.rows.specs.RowsLaws.{place-lt, length_ring, length-tab, get_d_tab}
use Rattle.rows.specs.Store.{id_at}
use Rattle.rpc.specs.Rpc.{Rpc}
use Rattle.rpc.specs.Encode.{encode_rpc}
use Rattle.encode.specs.Puts.{Puts, Fits}
use Rattle.mcache.specs.declared.MessageCache.{MessageCache}
use Rattle.mcache.specs.State.{Usable, Listed, told, ring_of, table_of}
use Rattle.mcache.specs.Calls.{gossip_list, gossip_array}
use Rattle.mcache.specs.GatherLaws.{Each, each-rest, each-gather, length-gather}
use Rattle.node.specs.declared.Node.{Node}
use Rattle.node.specs.declared.AdvertiseError.TheVariants as advertise
use Rattle.node.specs.Gateway.{advertisement}
use Rattle.node.specs.Calls.{told_in, bytes_for, advertise_bytes, advertised}
use Rattle.node.specs.WireLaws.{advertisement-most}

-- ---- the rows that are told of
module _ (c : MessageCache) (cs topic : List ℕ) (windows : ℕ) (ok : Usable c cs) where
  abbrev listed : List ℕ
  listed = gossip_list c cs topic windows

  abbrev HasId : ℕ → Type 0
  HasId p = (p < 64) × (get_or c.id_len p 0 ≤ 128)

  in_use_lem : Each HasId (rows_in (λ (p : ℕ). p) (ring_of c))
  unfolding rows_in
  in_use_lem i h =
      let r = ok.rows in
      let f : ℕ → ℕ = λ (j : ℕ). place_of (ring_of c) j in
      let l : i < c.count = rw (length-tab f c.count) at h in
      let p = place-lt (ring_of c) i r.starts (omega (arith, r.within)) in
      rw (get_d_tab f c.count i 0 l) (omega (arith, r.few), r.id-short i l)

  listed-each : Each HasId listed
  unfolding gossip_list
  listed-each = each-gather HasId _ _ [] _ (λ i h. absurd (omega arith)) in_use_lem

  pub listed-few : length listed ≤ 64
  unfolding gossip_list
  listed-few =
      let r = ok.rows in
      let l = length_ring (λ (p : ℕ). p) (ring_of c) in
      let g = length-gather (told c.window c.len (table_of c) cs windows topic) (id_at 128 c.id_len c.ids) [] (rows_in (λ (p : ℕ). p) (ring_of c)) in
      omega (arith, r.within, r.few)

  -- as they are given: a count, and an array with those rows at its front
  module _ (n : ℕ) (rows : List ℕ) (en : n ≡ length listed) (er : rows ≡ gossip_array c cs topic windows) where
    pub told-rows : take n rows ≡ listed
    unfolding gossip_array
    told-rows = rw er (take_at listed (drop (length listed) (replicate 64 0)) n (sym en))

    pub told-room : n ≤ length rows
    unfolding gossip_array
    told-room = let l = ap length er ∙ length-append listed (drop (length listed) (replicate 64 0)) in omega (arith, l)

    pub told-listed : Listed n rows c.id_len c.ids
    told-listed =
        record {
          lengths = ok.rows.id-lengths;
          room = ok.rows.id-room;
          places = λ i h.
              let l : i < length listed = omega arith in
              let e : get_or listed i 0 ≡ get_or rows i 0 = sym (ap (λ (x : List ℕ). get_or x i 0) told-rows) ∙ get_or-take n rows i 0 h in
              rw (← e) (listed-each i l);
        }

    abbrev given : List (List ℕ)
    given = map (id_at 128 c.id_len c.ids) (take n rows)

    -- a row's id has at most 128 bytes
    id-most : (l : List ℕ) → Each HasId l → (i : ℕ) → i < length (map (id_at 128 c.id_len c.ids) l) → length (get_or (map (id_at 128 c.id_len c.ids) l) i []) ≤ 128
    unfolding id_at
    id-most [] h i k = absurd (omega arith)
    id-most (p ∷ l) h zero k =
        let w = h 0 (omega arith) in
        let m = length-take (get_or c.id_len p 0) (drop (p * 128) c.ids) in
        omega (arith, w.1)
    id-most (p ∷ l) h (suc i) k = id-most l (each-rest HasId p l h) i (omega arith)

    pub told-fits : length topic ≤ 1024 → Fits 0 (encode_rpc (advertisement topic given))
    told-fits t =
        let l = length-map listed (id_at 128 c.id_len c.ids) in
        let m : length (encode_rpc (advertisement topic given)) ≤ 16384 = rw told-rows (advertisement-most topic (map (id_at 128 c.id_len c.ids) listed) t (omega (arith, listed-few)) (id-most listed listed-each)) in
        omega arith

-- ---- what is written
nil-of : (l : List ℕ) → length l ≡ 0 → l ≡ []
nil-of [] h = refl
nil-of (x ∷ l) h = absurd (omega arith)

pub bytes-some : (ids : List (List ℕ)) (x : Rpc) → (length ids ≡ 0 → ⊥) → bytes_for ids x ≡ encode_rpc x
bytes-some [] x h = absurd (h refl)
bytes-some (i ∷ ids) x h = refl

module _ (g : Node) (cs topic : List ℕ) (windows : ℕ) (ok : Usable g.cache cs) (n : ℕ) (rows : List ℕ)
    (en : n ≡ length (gossip_list g.cache cs topic windows)) (er : rows ≡ gossip_array g.cache cs topic windows) (out : List ℕ) where
  abbrev bytes : List ℕ
  bytes = advertise_bytes g cs topic windows

  none_told : n ≡ 0 → bytes ≡ []
  unfolding advertise_bytes told_in
  none_told z = rw (nil-of (gossip_list g.cache cs topic windows) (sym en ∙ z))

  some-told : (n ≡ 0 → ⊥) → bytes ≡ encode_rpc (advertisement topic (map (id_at 128 g.cache.id_len g.cache.ids) (take n rows)))
  unfolding advertise_bytes told_in
  some-told z =
      let l = length-map (gossip_list g.cache cs topic windows) (id_at 128 g.cache.id_len g.cache.ids) in
      rw (told-rows g.cache cs topic windows ok n rows en er)
      (bytes-some (map (id_at 128 g.cache.id_len g.cache.ids) (gossip_list g.cache cs topic windows)) _ (λ e. z (omega arith)))

  -- no ids, no bytes
  pub tell_none : n ≡ 0 → (Ok 0 ≡ advertised (answer bytes out)) × (out ≡ written bytes out)
  tell_none z = (rw (none_told z, answer-fits [] out (omega arith)), rw (none_told z, written-fits [] out (omega arith)))

  -- measured: the room is short, or the bytes are written
  module _ (z : n ≡ 0 → ⊥) (none after : List ℕ) (needed : ℕ) (m : Puts none 0 (encode_rpc (advertisement topic (map (id_at 128 g.cache.id_len g.cache.ids) (take n rows)))) after needed) where
    needed-is : needed ≡ length bytes
    needed-is = let e = ap length (some-told z) in omega (arith, m.ends)

    pub tell_short : length out < needed → (Err (advertise.Room needed) ≡ advertised (answer bytes out)) × (out ≡ written bytes out)
    tell_short k =
        let e = needed-is in
        let l : length out < length bytes = omega arith in
        (rw (answer-short bytes out l) (ap (λ (k : ℕ). Err (advertise.Room k)) e), sym (written-short bytes out l))

    pub tell_put : needed ≤ length out → (o : List ℕ) (end : ℕ) → Puts out 0 (encode_rpc (advertisement topic (map (id_at 128 g.cache.id_len g.cache.ids) (take n rows)))) o end
        → (Ok needed ≡ advertised (answer bytes out)) × (o ≡ written bytes out)
    tell_put k o end p =
        let e = needed-is in
        let l : length bytes ≤ length out = omega arith in
        let b = ap length (some-told z) in
        (rw (answer-fits bytes out l) (ap Ok e), rw (written-fits bytes out l, some-told z) (p.holds (omega arith)))
