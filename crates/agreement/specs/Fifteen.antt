-- Fifteen messages always fit a reply: a message of at most 4,096 bytes is a field of at most 4,099. Sixteen of 4,096
-- bytes do not.
use Rattle.std.specs.Prelude.{ℕ, zero, suc, ◌+◌, ◌-◌, ◌*◌, ◌/◌, ◌≤◌, ◌<◌, min, ◌≡◌, List, [], ◌∷◌, length, get_or, ltb}
use Rattle.std.proofs.Common.{arith, zero-lt-suc, ltb-true, ltb-false}
use Rattle.basis.specs.Cases.{either}
use Rattle.peer_id.specs.Uvarint.{uvarint}
use Rattle.peer_id.specs.Laws.{uvarint-small, uvarint_big}
use Rattle.protobuf.specs.Encode.{bytes_field}
use Rattle.protobuf.specs.EncodeLaws.{bytes_field-length, tag_one}
use Rattle.node.specs.Parts.{fitting}
use Rattle.node.specs.PartsLaws.{fitting-more, fitting-stop}

-- ---- how long the field of a message is
two_bytes : (n : ℕ) → 128 ≤ n → n < 16384 → length (uvarint n) ≡ 2
two_bytes n h k = rw (uvarint_big n h, uvarint-small (n / 128) (omega arith))

at_most_two : (n : ℕ) → n < 16384 → length (uvarint n) ≤ 2
at_most_two n k =
    either (ltb n 128) (λ t. rw (uvarint-small n (ltb-true n 128 t)) (omega arith))
    (λ t. omega (arith, two_bytes n (ltb-false n 128 t) k))

pub message-field : (m : List ℕ) → length m ≤ 4096 → length (bytes_field 2 m) ≤ 4099
message-field m h =
    omega (arith, bytes_field-length 2 m, tag_one 2 2 (omega arith) (omega arith), at_most_two (length m) (omega arith))

pub longest-field : (m : List ℕ) → length m ≡ 4096 → length (bytes_field 2 m) ≡ 4099
longest-field m h =
    omega (
      arith,
      bytes_field-length 2 m,
      tag_one 2 2 (omega arith) (omega arith),
      two_bytes (length m) (omega arith) (omega arith),
    )

-- ---- fifteen fit
-- k messages fit where there is room for k of the longest fields
pub some_fit : (k room : ℕ) (ms : List (List ℕ)) → ((i : ℕ) → i < length ms → length (get_or ms i []) ≤ 4096)
    → k * 4099 ≤ room → min k (length ms) ≤ fitting 2 room ms
some_fit zero room ms each h = omega arith
some_fit (suc k) room [] each h = omega arith
some_fit (suc k) room (m ∷ ms) each h =
    let f = message-field m (each 0 (zero-lt-suc (length ms))) in
    let r = some_fit k (room - length (bytes_field 2 m)) ms (λ i j. each (suc i) (omega arith)) (omega arith) in
    rw (fitting-more 2 room m ms (omega arith)) (omega arith)

pub fifteen_fit : (ms : List (List ℕ)) → ((i : ℕ) → i < length ms → length (get_or ms i []) ≤ 4096)
    → min 15 (length ms) ≤ fitting 2 65536 ms
fifteen_fit ms each = some_fit 15 65536 ms each (omega arith)

-- ---- and no more where they are the longest
pub longest-fit : (k room : ℕ) (ms : List (List ℕ)) → ((i : ℕ) → i < length ms → length (get_or ms i []) ≡ 4096)
    → k < length ms → k * 4099 ≤ room → room < k * 4099 + 4099
    → fitting 2 room ms ≡ k
longest-fit k room [] each n h z = absurd (omega arith)
longest-fit zero room (m ∷ ms) each n h z =
    fitting-stop 2 room m ms (omega (arith, longest-field m (each 0 (zero-lt-suc (length ms)))))
longest-fit (suc k) room (m ∷ ms) each n h z =
    let f = longest-field m (each 0 (zero-lt-suc (length ms))) in
    let r = longest-fit k (room - length (bytes_field 2 m)) ms (λ i j. each (suc i) (omega arith)) (omega arith)
    (omega arith) (omega arith) in
    rw (fitting-more 2 room m ms (omega arith)) (omega arith)

pub sixteen_not : (ms : List (List ℕ)) → ((i : ℕ) → i < length ms → length (get_or ms i []) ≡ 4096) → 16 ≤ length ms
    → fitting 2 65536 ms ≡ 15
sixteen_not ms each n = longest-fit 15 65536 ms each (omega arith) (omega arith) (omega arith)
