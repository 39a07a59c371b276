-- A node as bytes that a host keeps between two calls: its fields one after the other, each number with its lowest byte
-- first.
use Rattle.std.specs.Prelude.{ℕ, zero, suc, ◌^◌, ◌<◌, ◌≡◌, List, [], ◌∷◌, ◌++◌, length, get_or, take, drop}
use Rattle.basis.specs.Little.{little, bytes_of}
use Rattle.protobuf.specs.Walk.{between}
use Rattle.node.specs.declared.Node.{Node}

-- ---- numbers as bytes
-- several numbers, each of w bytes
unfoldable pub spread : ℕ → List ℕ → List ℕ
spread w [] = []
spread w (v ∷ vs) = bytes_of w v ++ spread w vs

-- the first n numbers, each of w bytes
unfoldable pub gathered : ℕ → ℕ → List ℕ → List ℕ
gathered w zero s = []
gathered w (suc n) s = little (take w s) ∷ gathered w n (drop w s)

-- ---- the layout: ten numbers of 8 bytes; the expiries and the arrival numbers, of 8 bytes each; the lengths of the
-- messages, of 2 bytes each; then bytes: the lengths of the ids seen, the windows, the lengths of the ids cached, these
-- ids, and how many topics each message has; then, of 2 bytes each and four for each message, where its topics start,
-- and how long they are; at the end the flags, in 8 bytes
unfoldable pub head_of : Node → List ℕ
head_of n =
    n.ttl ∷ n.max_seen ∷ n.clock ∷ n.seen.start ∷ n.seen.count ∷ n.cache.history_len
    ∷ n.cache.max_messages ∷ n.cache.next_generation
    ∷ n.cache.start ∷ n.cache.count ∷ []

unfoldable pub node_bytes : Node → List ℕ
node_bytes n =
    spread 8 (head_of n)
    ++ (spread 8 n.seen.expiry
    ++ (spread 8 n.cache.generation
    ++ (spread 2 n.cache.len
    ++ (n.seen.len
    ++ (n.cache.window
    ++ (n.cache.id_len
    ++ (n.cache.ids
    ++ (n.cache.topic_count
    ++ (spread 2 n.cache.topic_start
    ++ (spread 2 n.cache.topic_len
    ++ bytes_of 8 n.cache.flags))))))))))

-- how many bytes that is
abbrev pub node_size : ℕ
node_size = 12440

-- ---- the node that bytes are
abbrev pub word_at : List ℕ → ℕ → ℕ
word_at s at = little (take 8 (drop at s))

unfoldable pub node_in : List ℕ → Node
node_in s =
    record {
      ttl = word_at s 0;
      max_seen = word_at s 8;
      clock = word_at s 16;
      seen = record {
        start = word_at s 24;
        count = word_at s 32;
        expiry = gathered 8 256 (drop 80 s);
        len = between s 2768 3024;
      };
      cache =
          record {
            history_len = word_at s 40;
            max_messages = word_at s 48;
            next_generation = word_at s 56;
            start = word_at s 64;
            count = word_at s 72;
            generation = gathered 8 64 (drop 2128 s);
            window = between s 3024 3088;
            len = gathered 2 64 (drop 2640 s);
            id_len = between s 3088 3152;
            ids = between s 3152 11344;
            topic_count = between s 11344 11408;
            topic_start = gathered 2 256 (drop 11408 s);
            topic_len = gathered 2 256 (drop 11920 s);
            flags = word_at s 12432;
          };
    }

-- ---- true of every Node, by its type: its numbers and arrays fit
pub record Fits (n : Node) : Type 0 where
  pub head : (i : ℕ) → get_or (head_of n) i 0 < 2 ^ 64
  pub expiries : length n.seen.expiry ≡ 256
  pub expiry : (i : ℕ) → get_or n.seen.expiry i 0 < 2 ^ 64
  pub id-lengths : length n.seen.len ≡ 256
  pub generations : length n.cache.generation ≡ 64
  pub generation : (i : ℕ) → get_or n.cache.generation i 0 < 2 ^ 64
  pub windows : length n.cache.window ≡ 64
  pub lengths : length n.cache.len ≡ 64
  pub message-length : (i : ℕ) → get_or n.cache.len i 0 < 2 ^ 16
  pub cached-id-lengths : length n.cache.id_len ≡ 64
  pub cached_ids_lem : length n.cache.ids ≡ 8192
  pub topic-counts : length n.cache.topic_count ≡ 64
  pub topic-starts : length n.cache.topic_start ≡ 256
  pub topic-start : (i : ℕ) → get_or n.cache.topic_start i 0 < 2 ^ 16
  pub topic-lengths : length n.cache.topic_len ≡ 256
  pub topic-length : (i : ℕ) → get_or n.cache.topic_len i 0 < 2 ^ 16
  pub flags : n.cache.flags < 2 ^ 64
