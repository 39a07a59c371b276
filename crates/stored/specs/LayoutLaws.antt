-- Laws of the layout: how many bytes there are, and that a node and its bytes are found again from each other.
use Rattle.std.specs.Prelude.{ℕ, zero, suc, ◌+◌, ◌*◌, ◌^◌, ◌<◌, ◌≤◌, ◌≡◌, refl, List, [], ◌∷◌, ◌++◌, length, get_or, take, drop}
use Rattle.std.proofs.Common.{sym, ap, ◌∙◌, append_assoc, arith, mul-zero, mul-suc, suc-mul, zero-mul, add_comm, length-append, length-take, length-drop, take-append-drop, take_at, drop_at, take_all, drop-drop, take-add}
use Rattle.basis.specs.Bytes.{Bytes}
use Rattle.basis.specs.Lists.{drop-bytes, take-bytes}
use Rattle.basis.specs.Little.{little, bytes_of, bytes_length_lem, little-of-bytes, bytes_of-little}
use Rattle.protobuf.specs.Walk.{between}
use Rattle.node.specs.declared.Node.{Node}
use Rattle.stored.specs.Layout.{spread, gathered, node_size, word_at, head_of, node_bytes, node_in, Fits}

-- ---- how many bytes
pub spread-length : (w : ℕ) (vs : List ℕ) → length (spread w vs) ≡ w * length vs
unfolding spread
spread-length w [] = sym (mul-zero w)
spread-length w (v ∷ vs) = rw (length-append, bytes_length_lem, spread-length w vs, mul-suc w (length vs)) (omega arith)

pub stored-size : (n : Node) → Fits n → length (node_bytes n) ≡ node_size
unfolding node_bytes head_of
stored-size n f = simp (length-append, spread-length, bytes_length_lem) (omega arith)

-- ---- several numbers and their bytes
pub gathered-spread : (w : ℕ) (vs rest : List ℕ) → ((i : ℕ) → get_or vs i 0 < 256 ^ w)
    → gathered w (length vs) (spread w vs ++ rest) ≡ vs
unfolding gathered spread
gathered-spread w [] rest h = refl
gathered-spread w (v ∷ vs) rest h =
    rw (
      append_assoc (bytes_of w v) (spread w vs) rest,
      take_at (bytes_of w v) (spread w vs ++ rest) w (bytes_length_lem w v),
      drop_at (bytes_of w v) (spread w vs ++ rest) w (bytes_length_lem w v),
      little-of-bytes w v (h 0),
      gathered-spread w
          vs rest (λ i. h (suc i)),
    )

pub spread-gathered : (w n : ℕ) (s : List ℕ) → n * w ≤ length s → Bytes s → spread w (gathered w n s) ≡ take (n * w) s
unfolding gathered spread
spread-gathered w zero s h b = rw (zero-mul w)
spread-gathered w (suc n) s h b =
    let m : suc n * w ≡ w + n * w = suc-mul n w ∙ add_comm (n * w) w in
    let l : length (take w s) ≡ w = rw (length-take w s) (omega arith) in
    let r : n * w ≤ length (drop w s) = rw (length-drop w s) (omega arith) in
    let x : bytes_of w (little (take w s)) ≡ take w s = rw l at (bytes_of-little (take w s) (take-bytes w s b)) in
    rw (m, take-add w (n * w) s, x, spread-gathered w n (drop w s) r (drop-bytes w s b))

-- one of several numbers
pub gathered-at : (w n i : ℕ) (s : List ℕ) → i < n → get_or (gathered w n s) i 0 ≡ little (take w (drop (i * w) s))
unfolding gathered
gathered-at w zero i s h = absurd (omega arith)
gathered-at w (suc n) zero s h = rw (zero-mul w)
gathered-at w (suc n) (suc i) s h =
    let m : w + i * w ≡ suc i * w = add_comm w (i * w) ∙ sym (suc-mul i w) in
    gathered-at w n i (drop w s) (omega arith) ∙ rw (drop-drop (i * w) w s, m)

-- ---- the bytes of a node are that node
-- where a part p of m elements ends, the rest begins
next : (k m : ℕ) (s p r : List ℕ) → drop k s ≡ p ++ r → length p ≡ m → drop (k + m) s ≡ r
next k m s p r e l = sym (drop-drop m k s) ∙ ap (drop m) e ∙ drop_at p r m l

numbers-found : (w k m : ℕ) (s vs r : List ℕ) → drop k s ≡ spread w vs ++ r → length vs ≡ m
    → ((i : ℕ) → get_or vs i 0 < 256 ^ w) → gathered w m (drop k s) ≡ vs
numbers-found w k m s vs r e l b = rw (e, ← l) (gathered-spread w vs r b)

bytes-found : (k m : ℕ) (s xs r : List ℕ) → drop k s ≡ xs ++ r → length xs ≡ m → take m (drop k s) ≡ xs
bytes-found k m s xs r e l = rw e (take_at xs r m l)

-- a number of 8 bytes, at the end
word-found : (k v : ℕ) (s : List ℕ) → drop k s ≡ bytes_of 8 v → v < 2 ^ 64 → word_at s k ≡ v
word-found k v s e h =
    let l : length (bytes_of 8 v) ≤ 8 = omega (arith, bytes_length_lem 8 v) in
    rw (e, take_all 8 (bytes_of 8 v) l) (little-of-bytes 8 v h)

-- a node by its fields
by-fields : (n : Node) (s : List ℕ) → gathered 8 10 s ≡ head_of n → gathered 8 256 (drop 80 s) ≡ n.seen.expiry
    → gathered 8 64 (drop 2128 s) ≡ n.cache.generation → gathered 2 64 (drop 2640 s) ≡ n.cache.len
    → between s 2768 3024 ≡ n.seen.len → between s 3024 3088 ≡ n.cache.window
    → between s 3088 3152 ≡ n.cache.id_len → between s 3152 11344 ≡ n.cache.ids
    → between s 11344 11408 ≡ n.cache.topic_count → gathered 2 256 (drop 11408 s) ≡ n.cache.topic_start
    → gathered 2 256 (drop 11920 s) ≡ n.cache.topic_len → word_at s 12432 ≡ n.cache.flags → node_in s ≡ n
unfolding node_in head_of
by-fields n s h e₁ e₂ e₃ e₄ e₅ e₆ e₇ e₈ e₉ e₁₀ e₁₁ =
    let head : (i : ℕ) → i < 10 → little (take 8 (drop (i * 8) s)) ≡ get_or (head_of n) i 0 =
    λ i l. sym (gathered-at 8 10 i s l) ∙ ap (λ (vs : List ℕ). get_or vs i 0) h in
    rw (
      head 0 (omega arith),
      head 1 (omega arith),
      head 2 (omega arith),
      head 3 (omega arith),
      head 4 (omega arith),
      head 5 (omega arith),
      head 6 (omega arith),
      head 7 (omega arith),
      head 8 (omega arith),
      head 9
          (omega arith),
      e₁,
      e₂,
      e₃,
      e₄,
      e₅,
      e₆,
      e₇,
      e₈,
      e₉,
      e₁₀,
      e₁₁,
    )

pub stored_loaded : (n : Node) → Fits n → node_in (node_bytes n) ≡ n
unfolding node_bytes head_of
stored_loaded n f =
    let s = node_bytes n in
    let r₁₀ = spread 2 n.cache.topic_len ++ bytes_of 8 n.cache.flags in
    let r₉ = spread 2 n.cache.topic_start ++ r₁₀ in
    let r₈ = n.cache.topic_count ++ r₉ in
    let r₇ = n.cache.ids ++ r₈ in
    let r₆ = n.cache.id_len ++ r₇ in
    let r₅ = n.cache.window ++ r₆ in
    let r₄ = n.seen.len ++ r₅ in
    let r₃ = spread 2 n.cache.len ++ r₄ in
    let r₂ = spread 8 n.cache.generation ++ r₃ in
    let r₁ = spread 8 n.seen.expiry ++ r₂ in
    let d₁ : drop 80 s ≡ r₁ = next 0 80 s (spread 8 (head_of n)) r₁ refl (spread-length 8 (head_of n)) in
    let d₂ : drop 2128 s ≡ r₂ = next 80 2048 s (spread 8 n.seen.expiry) r₂ d₁ (rw (spread-length, f.expiries)) in
    let d₃ : drop 2640 s ≡ r₃ =
    next 2128 512 s (spread 8 n.cache.generation) r₃ d₂ (rw (spread-length, f.generations)) in
    let d₄ : drop 2768 s ≡ r₄ = next 2640 128 s (spread 2 n.cache.len) r₄ d₃ (rw (spread-length, f.lengths)) in
    let d₅ : drop 3024 s ≡ r₅ = next 2768 256 s n.seen.len r₅ d₄ f.id-lengths in
    let d₆ : drop 3088 s ≡ r₆ = next 3024 64 s n.cache.window r₆ d₅ f.windows in
    let d₇ : drop 3152 s ≡ r₇ = next 3088 64 s n.cache.id_len r₇ d₆ f.cached-id-lengths in
    let d₈ : drop 11344 s ≡ r₈ = next 3152 8192 s n.cache.ids r₈ d₇ f.cached_ids_lem in
    let d₉ : drop 11408 s ≡ r₉ = next 11344 64 s n.cache.topic_count r₉ d₈ f.topic-counts in
    let d₁₀ : drop 11920 s ≡ r₁₀ =
    next 11408 512 s (spread 2 n.cache.topic_start) r₁₀ d₉ (rw (spread-length, f.topic-starts)) in
    let d₁₁ : drop 12432 s ≡ bytes_of 8 n.cache.flags =
    next 11920 512 s (spread 2 n.cache.topic_len) _ d₁₀ (rw (spread-length, f.topic-lengths)) in
    by-fields n s
    (numbers-found 8 0 10 s (head_of n) r₁ refl refl f.head)
    (numbers-found 8 80 256 s n.seen.expiry r₂ d₁ f.expiries f.expiry)
    (numbers-found 8 2128 64 s n.cache.generation r₃ d₂ f.generations f.generation)
    (numbers-found 2 2640 64 s n.cache.len r₄ d₃ f.lengths f.message-length)
    (bytes-found 2768 256 s n.seen.len r₅ d₄ f.id-lengths)
    (bytes-found 3024 64 s n.cache.window r₆ d₅ f.windows)
    (bytes-found 3088 64 s n.cache.id_len r₇ d₆ f.cached-id-lengths)
    (bytes-found 3152 8192 s n.cache.ids r₈ d₇ f.cached_ids_lem)
    (bytes-found 11344 64 s n.cache.topic_count r₉ d₈ f.topic-counts)
    (numbers-found 2 11408 256 s n.cache.topic_start r₁₀ d₉ f.topic-starts f.topic-start)
    (numbers-found 2 11920 256 s n.cache.topic_len (bytes_of 8 n.cache.flags) d₁₀ f.topic-lengths f.topic-length)
    (word-found 12432 n.cache.flags s d₁₁ f.flags)

-- ---- bytes of that length are those of the node in them
-- a part of m elements and what follows it
rejoined : {p r : List ℕ} (m k : ℕ) (s : List ℕ) → p ≡ take m (drop k s) → r ≡ drop (k + m) s → p ++ r ≡ drop k s
rejoined m k s e h = rw (e, h, ← drop-drop m k s) (take-append-drop m (drop k s))

-- the head's numbers are the first ten
gathered-cons : (w n k : ℕ) (s : List ℕ) → gathered w (suc n) (drop k s) ≡ little (take w (drop k s)) ∷ gathered w n
    (drop (k + w) s)
unfolding gathered
gathered-cons w n k s = rw (drop-drop w k s)

gathered_none : (w : ℕ) (s : List ℕ) → gathered w 0 s ≡ []
unfolding gathered
gathered_none w s = refl

head-gathered : (s : List ℕ) → head_of (node_in s) ≡ gathered 8 10 s
unfolding head_of node_in
head-gathered s =
    rw (
      gathered-cons 8 9 0 s,
      gathered-cons 8 8 8 s,
      gathered-cons 8 7 16 s,
      gathered-cons 8 6 24 s,
      gathered-cons 8 5 32 s,
      gathered-cons 8 4 40 s,
      gathered-cons 8 3 48 s,
      gathered-cons 8 2 56 s,
      gathered-cons 8
          1 64 s,
      gathered-cons 8 0 72 s,
      gathered_none 8 (drop 80 s),
    )

-- numbers that stand in s
numbers-again : (w n k : ℕ) (s : List ℕ) → k + n * w ≤ length s → Bytes s
    → spread w (gathered w n (drop k s)) ≡ take (n * w) (drop k s)
numbers-again w n k s h b =
    let l : n * w ≤ length (drop k s) = rw (length-drop k s) (omega arith) in
    spread-gathered w n (drop k s) l (drop-bytes k s b)

-- a number of 8 bytes that is all the rest
word-again : (k : ℕ) (s : List ℕ) → length s ≡ k + 8 → Bytes s → bytes_of 8 (word_at s k) ≡ drop k s
word-again k s h b =
    let l : length (drop k s) ≡ 8 = rw (length-drop k s) (omega arith) in
    let t : take 8 (drop k s) ≡ drop k s = take_all 8 (drop k s) (omega arith) in
    rw (t, ← l) (bytes_of-little (drop k s) (drop-bytes k s b))

pub loaded_stored : (s : List ℕ) → length s ≡ node_size → Bytes s → node_bytes (node_in s) ≡ s
unfolding node_bytes node_in
loaded_stored s l b =
    let h : spread 8 (head_of (node_in s)) ≡ take 80 s = rw (head-gathered s) (numbers-again 8 10 0 s (omega arith) b) in
    rejoined 80 0 s h
    (rejoined 2048 80 s (numbers-again 8 256 80 s (omega arith) b)
    (rejoined 512 2128 s (numbers-again 8 64 2128 s (omega arith) b)
    (rejoined 128 2640 s (numbers-again 2 64 2640 s (omega arith) b)
    (rejoined 256 2768 s refl
    (rejoined 64 3024 s refl
    (rejoined 64 3088 s refl
    (rejoined 8192 3152 s refl
    (rejoined 64 11344 s refl
    (rejoined 512 11408 s (numbers-again 2 256 11408 s (omega arith) b)
    (rejoined 512 11920 s (numbers-again 2 256 11920 s (omega arith) b) (word-again 12432 s l b)))))))))))
