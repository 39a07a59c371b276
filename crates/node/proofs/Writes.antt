-- Writing an advertisement: a field as its head and what it holds, the ids one after the other, and the lengths as they are measured.
use Prim.Native.Nat.{ℕ, suc, ◌+◌, ◌-◌, ◌*◌, ◌≤◌, ◌<◌}
use mathlib.Core.Path.{◌≡◌, refl, sym, ap, ◌∙◌}
use mathlib.Core.List.{List, [], ◌++◌, map, append_assoc}
use native.Mathlib.Omega.{arith}
use native.Mathlib.Numerals.{add-one}
use lib.ListN.{length, take, drop, get_or, length-take, length-drop, length-append, drop_of_length-le}
use lib.Seq.{drop-cons, get_or-take, length-take-le}
use Rattle.rows.specs.Store.{id_at}
use Rattle.peer_id.specs.Uvarint.{uvarint}
use Rattle.protobuf.specs.Encode.{tag, bytes_field}
use Rattle.rpc.specs.Encode.{repeated}
use Rattle.mcache.specs.State.{Listed}
use Rattle.encode.specs.Puts.{Puts, Fits, Going, fits-same, going-all, going-part, going-fits}

-- a tag and a length
abbrev pub head : ℕ → ℕ → List ℕ
head n len = tag n 2 ++ uvarint len

pub field_is : (n len : ℕ) (d : List ℕ) → len ≡ length d → bytes_field n d ≡ head n len ++ d
unfolding bytes_field
field_is n len d e = rw e (sym (append_assoc (tag n 2) (uvarint (length d)) d))

-- ---- ids
abbrev pub ids_left : ℕ → List ℕ → List ℕ → List ℕ → ℕ → List ℕ
ids_left n rows ilens ids i = repeated (bytes_field 2) (map (id_at 128 ilens ids) (drop i (take n rows)))

pub ids-end : (n : ℕ) (rows ilens ids : List ℕ) (i : ℕ) → length (take n rows) ≤ i → ids_left n rows ilens ids i ≡ []
ids-end n rows ilens ids i h = rw (drop_of_length-le (take n rows) {i = i} h)

module _ (n : ℕ) (rows ilens ids : List ℕ) (i : ℕ) (ok : Listed n rows ilens ids) (r : n ≤ length rows) (h : i < length (take n rows)) where
  abbrev pub row : ℕ
  row = get_or (take n rows) i 0

  abbrev pub size : ℕ
  size = get_or ilens row 0

  -- the bytes of the id, as they are lent
  abbrev pub part : List ℕ
  part = take ((row * 128 + size) - row * 128) (drop (row * 128) ids)

  pub id_lies : (row < 64) × (row < length ilens) × (size ≤ 128) × (row * 128 + size ≤ length ids)
  id_lies =
      let l : i < n = rw (length-take-le n rows r) at h in
      let w = ok.places i l in
      rw (get_or-take n rows i 0 l) (w.0, omega (arith, ok.lengths), w.1, omega (arith, ok.room))

  part-id : part ≡ id_at 128 ilens ids row
  unfolding id_at
  part-id = ap (λ (k : ℕ). take k (drop (row * 128) ids)) {x = (row * 128 + size) - row * 128} {y = size} (omega arith)

  part-size : size ≡ length part
  part-size = let w = id_lies in rw (length-take ((row * 128 + size) - row * 128) (drop (row * 128) ids), length-drop (row * 128) ids) (omega arith)

  pub ids_next : ids_left n rows ilens ids i ≡ head 2 size ++ (part ++ ids_left n rows ilens ids (i + 1))
  ids_next =
      rw (drop-cons (take n rows) i 0 h, add-one i)
      (ap (λ (x : List ℕ). x ++ ids_left n rows ilens ids (suc i)) (ap (bytes_field 2) (sym part-id) ∙ field_is 2 size part part-size)
      ∙ append_assoc (head 2 size) part (ids_left n rows ilens ids (suc i)))

  module _ (out₀ : List ℕ) (at : ℕ) (all out : List ℕ) (end : ℕ) (g : Going out₀ at all out end (ids_left n rows ilens ids i)) where
    pub id-head-fits : Fits end (head 2 size)
    id-head-fits = going-fits out₀ at all out end (ids_left n rows ilens ids i) g (head 2 size) (part ++ ids_left n rows ilens ids (i + 1)) ids_next

    module _ (o₁ : List ℕ) (j : ℕ) (p₁ : Puts out end (head 2 size) o₁ j) where
      after-head : Going out₀ at all o₁ j (part ++ ids_left n rows ilens ids (i + 1))
      after-head = going-part out₀ at all out end (ids_left n rows ilens ids i) g (head 2 size) (part ++ ids_left n rows ilens ids (i + 1)) ids_next o₁ j p₁

      pub id-fits : Fits j part
      id-fits = going-fits out₀ at all o₁ j (part ++ ids_left n rows ilens ids (i + 1)) after-head part (ids_left n rows ilens ids (i + 1)) refl

      pub ids_more : (o₂ : List ℕ) (k : ℕ) → Puts o₁ j part o₂ k → Going out₀ at all o₂ k (ids_left n rows ilens ids (i + 1))
      ids_more o₂ k p₂ = going-part out₀ at all o₁ j (part ++ ids_left n rows ilens ids (i + 1)) after-head part (ids_left n rows ilens ids (i + 1)) refl o₂ k p₂

-- ---- the whole
module _ (topic ids : List ℕ) where
  abbrev pub body : List ℕ
  body = bytes_field 1 topic ++ ids

  abbrev pub ihave : List ℕ
  ihave = bytes_field 3 (bytes_field 1 body)

  topic-length : length (bytes_field 1 topic) ≡ length (head 1 (length topic)) + length topic
  topic-length = ap length (field_is 1 (length topic) topic refl) ∙ length-append (head 1 (length topic)) topic

  body-length : length body ≡ (length (head 1 (length topic)) + length topic) + length ids
  body-length = length-append (bytes_field 1 topic) ids ∙ ap (λ (k : ℕ). k + length ids) topic-length

  entry_length : length (bytes_field 1 body) ≡ length (head 1 (length body)) + length body
  entry_length = ap length (field_is 1 (length body) body refl) ∙ length-append (head 1 (length body)) body

  module _ (at : ℕ) (whole : List ℕ) (y : whole ≡ ihave) (h : Fits at whole) where
    -- every part is shorter than the whole
    fit-entry : length (bytes_field 1 body) ≤ 4611686018427387904
    fit-entry =
        let a = fits-same at whole ihave y h in
        let b = ap length (field_is 3 (length (bytes_field 1 body)) (bytes_field 1 body) refl) ∙ length-append (head 3 (length (bytes_field 1 body))) (bytes_field 1 body) in
        omega arith

    pub ids_fit_lem : Fits 0 ids
    ids_fit_lem = let a = fit-entry in omega (arith, entry_length, body-length)

    pub topic-fits : Fits 0 (head 1 (length topic))
    topic-fits = let a = fit-entry in omega (arith, entry_length, body-length)

    -- measured: the ids, the topic's head, the entry's head
    module _ (named t : ℕ) (en : named ≡ 0 + length ids) (et : t ≡ 0 + length (head 1 (length topic))) where
      pub len_is : (t + length topic) + named ≡ length body
      len_is = omega (arith, body-length)

      pub len-fits : (t + length topic) + named ≤ 4611686018427387904
      len-fits = let a = fit-entry in omega (arith, entry_length, len_is)

      pub entry-head-fits : Fits 0 (head 1 ((t + length topic) + named))
      entry-head-fits = let a = fit-entry in let b = ap (λ (k : ℕ). length (head 1 k)) len_is in omega (arith, entry_length)

      module _ (e : ℕ) (ee : e ≡ 0 + length (head 1 ((t + length topic) + named))) where
        abbrev pub len : ℕ
        len = (t + length topic) + named

        pub entry-is : e + len ≡ length (bytes_field 1 body)
        entry-is = let b = ap (λ (k : ℕ). length (head 1 k)) len_is in omega (arith, entry_length, len_is)

        pub entry-fits : e + len ≤ 4611686018427387904
        entry-fits = let a = fit-entry in omega (arith, entry-is)

        -- the heads, the topic and the ids, one after the other
        parts : whole ≡ head 3 (e + len) ++ (head 1 len ++ (head 1 (length topic) ++ (topic ++ ids)))
        parts =
            y
            ∙ field_is 3 (e + len) (bytes_field 1 body) entry-is
            ∙ ap (λ (x : List ℕ). head 3 (e + len) ++ x)
            (field_is 1 len body len_is
            ∙ ap (λ (x : List ℕ). head 1 len ++ x) (ap (λ (x : List ℕ). x ++ ids) (field_is 1 (length topic) topic refl) ∙ append_assoc (head 1 (length topic)) topic ids))

        module _ (out : List ℕ) where
          first : Going out at whole out at whole
          first = going-all out at whole h

          pub one-fits : Fits at (head 3 (e + len))
          one-fits = going-fits out at whole out at whole first (head 3 (e + len)) _ parts

          module _ (o₁ : List ℕ) (i : ℕ) (p₁ : Puts out at (head 3 (e + len)) o₁ i) where
            second : Going out at whole o₁ i (head 1 len ++ (head 1 (length topic) ++ (topic ++ ids)))
            second = going-part out at whole out at whole first (head 3 (e + len)) _ parts o₁ i p₁

            pub two_fits : Fits i (head 1 len)
            two_fits = going-fits out at whole o₁ i _ second (head 1 len) _ refl

            module _ (o₂ : List ℕ) (j : ℕ) (p₂ : Puts o₁ i (head 1 len) o₂ j) where
              third : Going out at whole o₂ j (head 1 (length topic) ++ (topic ++ ids))
              third = going-part out at whole o₁ i _ second (head 1 len) _ refl o₂ j p₂

              pub three-fits : Fits j (head 1 (length topic))
              three-fits = going-fits out at whole o₂ j _ third (head 1 (length topic)) _ refl

              module _ (o₃ : List ℕ) (k : ℕ) (p₃ : Puts o₂ j (head 1 (length topic)) o₃ k) where
                fourth : Going out at whole o₃ k (topic ++ ids)
                fourth = going-part out at whole o₂ j _ third (head 1 (length topic)) _ refl o₃ k p₃

                pub four-fits : Fits k topic
                four-fits = going-fits out at whole o₃ k _ fourth topic _ refl

                module _ (o₄ : List ℕ) (l : ℕ) (p₄ : Puts o₃ k topic o₄ l) where
                  fifth : Going out at whole o₄ l ids
                  fifth = going-part out at whole o₃ k _ fourth topic ids refl o₄ l p₄

                  pub five_fits : Fits l ids
                  five_fits = fifth.fits

                  pub five_puts : (o₅ : List ℕ) (end : ℕ) → Puts o₄ l ids o₅ end → Puts out at whole o₅ end
                  five_puts o₅ end p₅ = fifth.goes o₅ end p₅
