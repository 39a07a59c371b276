-- The parts of a node read and written: what `seen_in`, `cache_in`, `load` and `store` hand back, over plain lists and numbers.
use Prim.Native.Nat.{ℕ, ◌+◌, ◌-◌, ◌*◌, ◌≤◌}
use mathlib.Core.Path.{◌≡◌, sym, ap, ◌∙◌}
use mathlib.Core.List.{List, ◌++◌, append-nil}
use native.Mathlib.Omega.{arith}
use native.Mathlib.Nat.{zero-add}
use lib.ListN.{length, drop, length-take, length-drop, drop_of_length-le}
use lib.Seq.{sets, sets-eq, length-sets}
use Rattle.basis.specs.Writing.{set_in}
use Rattle.basis.specs.Lists.{set-fits}
use Rattle.basis.specs.Little.{bytes_of, bytes_length_lem}
use Rattle.protobuf.specs.EncodeLaws.{put-append}
use Rattle.protobuf.specs.Walk.{between}
use Rattle.seen.specs.declared.SeenCache.{SeenCache}
use Rattle.mcache.specs.declared.MessageCache.{MessageCache}
use Rattle.node.specs.declared.Node.{Node}
use Rattle.stored.specs.Layout.{spread, gathered, node_size, word_at, head_of, node_bytes, node_in}
use Rattle.stored.specs.LayoutLaws.{spread-length}

-- a write of as many as there are leaves nothing of what was there
pub all-written : (xs l : List ℕ) → length xs ≡ length l → sets l 0 xs ≡ xs
all-written xs l h =
    let k : length l ≤ length xs = omega arith in
    rw (sets-eq xs l 0 (omega arith), zero-add (length xs), drop_of_length-le l k) (append-nil xs)

-- a part of s, copied into an array of its size
pub part_copied : (s after l : List ℕ) (a e : ℕ) → a ≤ e → e ≤ length s → length l ≡ e - a → after ≡ set_in (length (between s a e)) 0 (between s a e) l → after ≡ between s a e
part_copied s after l a e k h i z =
    let n : length (between s a e) ≡ length l = rw (length-take, length-drop) (omega arith) in
    z ∙ set-fits _ 0 (between s a e) l (omega arith) ∙ all-written (between s a e) l n

-- ---- reading
pub seen_read : (s expiry len l : List ℕ) (start count : ℕ) → length s ≡ node_size
    → start ≡ word_at s 24 → count ≡ word_at s 32 → expiry ≡ gathered 8 256 (drop 80 s) → length l ≡ 256
    → len ≡ set_in (length (between s 2768 3024)) 0 (between s 2768 3024) l
    → ◌≡◌ {A = SeenCache} (record { start = start; count = count; expiry = expiry; len = len }) (node_in s).seen
unfolding node_in
seen_read s expiry len l start count h a b c i d =
    let e : len ≡ between s 2768 3024 = part_copied s len l 2768 3024 (omega arith) (omega arith) i d in
    rw (a, b, c, e)

pub cache-read : (s generation len window lens ids l counts starts sizes : List ℕ) (history most next start count flags : ℕ) → length s ≡ node_size → history ≡ word_at s 40
    → most ≡ word_at s 48 → next ≡ word_at s 56 → start ≡ word_at s 64 → count ≡ word_at s 72 → generation ≡ gathered 8 64 (drop 2128 s)
    → len ≡ gathered 2 64 (drop 2640 s) → window ≡ between s 3024 3088 → lens ≡ between s 3088 3152 → length l ≡ 8192
    → ids ≡ set_in (length (between s 3152 11344)) 0 (between s 3152 11344) l → counts ≡ between s 11344 11408 → starts ≡ gathered 2 256 (drop 11408 s)
    → sizes ≡ gathered 2 256 (drop 11920 s) → flags ≡ word_at s 12432
    → ◌≡◌ {A = MessageCache}
    (record {
      history_len = history;
      max_messages = most;
      next_generation = next;
      start = start;
      count = count;
      generation = generation;
      window = window;
      len = len;
      id_len = lens;
      ids = ids;
      topic_count = counts;
      topic_start = starts;
      topic_len = sizes;
      flags = flags;
    }) (node_in s).cache
unfolding node_in
cache-read s generation len window lens ids l counts starts sizes history most next start count flags h a b c d e f g x y i z p q r v =
    let w : ids ≡ between s 3152 11344 = part_copied s ids l 3152 11344 (omega arith) (omega arith) i z in
    rw (a, b, c, d, e, f, g, x, y, w, p, q, r, v)

pub node-read : (s : List ℕ) (ttl most clock : ℕ) (seen : SeenCache) (cache : MessageCache) → ttl ≡ word_at s 0 → most ≡ word_at s 8 → clock ≡ word_at s 16 → seen ≡ (node_in s).seen → cache ≡ (node_in s).cache → ◌≡◌ {A = Node} (record { ttl = ttl; max_seen = most; clock = clock; seen = seen; cache = cache }) (node_in s)
unfolding node_in
node-read s ttl most clock seen cache a b c d e = rw (a, b, c, d, e)

-- ---- writing
-- l with xs from k up to e is after
pub record Part (l : List ℕ) (k : ℕ) (xs after : List ℕ) (e : ℕ) : Type 0 where
  pub ends : e ≡ k + length xs
  pub now : after ≡ sets l k xs

-- numbers of w bytes each
numbers : (w : ℕ) (l after vs : List ℕ) (k e : ℕ) → e ≡ k + w * length vs → after ≡ sets l k (spread w vs) → Part l k (spread w vs) after e
numbers w l after vs k e h z = record { ends = h ∙ ap (λ (n : ℕ). k + n) (sym (spread-length w vs)); now = z }

-- bytes, with room for them
bytes : (l after xs : List ℕ) (k e : ℕ) → e ≡ k + length xs → e ≤ length l → after ≡ set_in (length xs) k xs l → Part l k xs after e
bytes l after xs k e h r z = record { ends = h; now = z ∙ set-fits (length xs) k xs l (omega arith) }

-- a number of 8 bytes, with room for it
number : (l after : List ℕ) (v k e : ℕ) → e ≡ k + 8 → e ≤ length l → after ≡ set_in 8 k (bytes_of 8 v) l → Part l k (bytes_of 8 v) after e
number l after v k e h r z =
    record { ends = h ∙ ap (λ (n : ℕ). k + n) (sym (bytes_length_lem 8 v)); now = z ∙ set-fits 8 k (bytes_of 8 v) l (omega arith) }

kept : {l after xs : List ℕ} {k e n : ℕ} → Part l k xs after e → length l ≡ n → length after ≡ n
kept {l} {after} {xs} {k} p h = ap length p.now ∙ length-sets l k xs ∙ h

-- one after the other
infixr 20 ◌then◌
◌then◌ : {l mid after xs ys : List ℕ} {k i e : ℕ} → Part l k xs mid i → Part mid i ys after e → Part l k (xs ++ ys) after e
◌then◌ {l} {mid} {after} {xs} {ys} {k} {i} {e} p q =
    let w = put-append l mid after k i e xs ys (p.ends, p.now) (q.ends, q.now) in
    record { ends = w.0; now = w.1 }

pub node-written : (n : Node) (o₀ o₁ o₂ o₃ o₄ o₅ o₆ o₇ o₈ o₉ o₁₀ o₁₁ o₁₂ : List ℕ) → length o₀ ≡ node_size → length n.seen.expiry ≡ 256
    → length n.cache.generation ≡ 64 → length n.cache.len ≡ 64 → length n.seen.len ≡ 256 → length n.cache.window ≡ 64
    → length n.cache.id_len ≡ 64 → length n.cache.ids ≡ 8192 → length n.cache.topic_count ≡ 64
    → length n.cache.topic_start ≡ 256 → length n.cache.topic_len ≡ 256
    → o₁ ≡ sets o₀ 0 (spread 8 (head_of n)) → o₂ ≡ sets o₁ 80 (spread 8 n.seen.expiry)
    → o₃ ≡ sets o₂ 2128 (spread 8 n.cache.generation) → o₄ ≡ sets o₃ 2640 (spread 2 n.cache.len)
    → o₅ ≡ set_in (length n.seen.len) 2768 n.seen.len o₄ → o₆ ≡ set_in (length n.cache.window) 3024 n.cache.window o₅
    → o₇ ≡ set_in (length n.cache.id_len) 3088 n.cache.id_len o₆ → o₈ ≡ set_in (length n.cache.ids) 3152 n.cache.ids o₇
    → o₉ ≡ set_in (length n.cache.topic_count) 11344 n.cache.topic_count o₈ → o₁₀ ≡ sets o₉ 11408 (spread 2 n.cache.topic_start)
    → o₁₁ ≡ sets o₁₀ 11920 (spread 2 n.cache.topic_len) → o₁₂ ≡ set_in 8 12432 (bytes_of 8 n.cache.flags) o₁₁
    → o₁₂ ≡ node_bytes n
unfolding node_bytes head_of
node-written n o₀ o₁ o₂ o₃ o₄ o₅ o₆ o₇ o₈ o₉ o₁₀ o₁₁ o₁₂ h i₂ i₃ i₄ i₅ i₆ i₇ i₈ i₉ i₁₀ i₁₁ e₁ e₂ e₃ e₄ e₅ e₆ e₇ e₈ e₉ e₁₀ e₁₁ e₁₂ =
    let p₁ = numbers 8 o₀ o₁ (head_of n) 0 80 (omega arith) e₁ in
    let p₂ = numbers 8 o₁ o₂ n.seen.expiry 80 2128 (omega arith) e₂ in
    let p₃ = numbers 8 o₂ o₃ n.cache.generation 2128 2640 (omega arith) e₃ in
    let p₄ = numbers 2 o₃ o₄ n.cache.len 2640 2768 (omega arith) e₄ in
    let h₄ : length o₄ ≡ node_size = kept p₄ (kept p₃ (kept p₂ (kept p₁ h))) in
    let p₅ = bytes o₄ o₅ n.seen.len 2768 3024 (omega arith) (omega arith) e₅ in
    let h₅ : length o₅ ≡ node_size = kept p₅ h₄ in
    let p₆ = bytes o₅ o₆ n.cache.window 3024 3088 (omega arith) (omega arith) e₆ in
    let h₆ : length o₆ ≡ node_size = kept p₆ h₅ in
    let p₇ = bytes o₆ o₇ n.cache.id_len 3088 3152 (omega arith) (omega arith) e₇ in
    let h₇ : length o₇ ≡ node_size = kept p₇ h₆ in
    let p₈ = bytes o₇ o₈ n.cache.ids 3152 11344 (omega arith) (omega arith) e₈ in
    let h₈ : length o₈ ≡ node_size = kept p₈ h₇ in
    let p₉ = bytes o₈ o₉ n.cache.topic_count 11344 11408 (omega arith) (omega arith) e₉ in
    let p₁₀ = numbers 2 o₉ o₁₀ n.cache.topic_start 11408 11920 (omega arith) e₁₀ in
    let p₁₁ = numbers 2 o₁₀ o₁₁ n.cache.topic_len 11920 12432 (omega arith) e₁₁ in
    let h₁₁ : length o₁₁ ≡ node_size = kept p₁₁ (kept p₁₀ (kept p₉ (kept p₈ h₇))) in
    let p₁₂ = number o₁₁ o₁₂ n.cache.flags 12432 node_size (omega arith) (omega arith) e₁₂ in
    let q : Part o₀ 0 (node_bytes n) o₁₂ node_size =
    p₁ then p₂ then p₃ then p₄ then p₅ then p₆ then p₇ then p₈ then p₉ then p₁₀ then p₁₁ then p₁₂ in
    q.now ∙ all-written (node_bytes n) o₀ (omega (arith, q.ends))
