-- The RPCs that a node writes, as bytes: a control with one IHAVE or one IWANT, field by field; and how long they get.
use Rattle.std.specs.Prelude.{ℕ, suc, ◌+◌, ◌*◌, ◌^◌, ◌≤◌, ◌<◌, ◌≡◌, List, [], ◌∷◌, ◌++◌, length, get_or}
use Rattle.std.proofs.Common.{ap, ◌∙◌, append-nil, arith, zero-lt-suc, suc-mul, length-append}
use Rattle.peer_id.specs.Laws.{at_most_ten}
use Rattle.protobuf.specs.Encode.{bytes_field}
use Rattle.protobuf.specs.EncodeLaws.{tag_one, bytes_field-length}
use Rattle.rpc.specs.Encode.{encode_rpc, encode_control, encode_iHave, encode_iWant, repeated}
use Rattle.node.specs.Gateway.{advertisement, request}
use Rattle.mcache.specs.State.{message_id_size, message_limit}

pub advertisement-bytes : (topic : List ℕ) (ids : List (List ℕ))
    → encode_rpc (advertisement topic ids) ≡ bytes_field 3
    (bytes_field 1 (bytes_field 1 topic ++ repeated (bytes_field 2) ids))
unfolding encode_rpc encode_control encode_iHave advertisement
advertisement-bytes topic ids = ap (bytes_field 3) (append-nil _ ∙ append-nil _)

pub request-bytes : (ids : List (List ℕ))
    → encode_rpc (request ids) ≡ bytes_field 3 (bytes_field 2 (repeated (bytes_field 1) ids))
unfolding encode_rpc encode_control encode_iWant request
request-bytes ids = ap (bytes_field 3) (append-nil _ ∙ append-nil _)

-- ---- how long
-- a field has at most eleven bytes before what it holds
pub field-most : (n : ℕ) (d : List ℕ) → n ≤ 6 → length d < 2 ^ 64 → length (bytes_field n d) ≤ 11 + length d
field-most n d k h =
    omega (arith, bytes_field-length n d, tag_one n 2 (omega arith) (omega arith), at_most_ten (length d) h)

-- some fields that each hold at most so many
pub fields-most : (n most : ℕ) → n ≤ 6 → most < 2 ^ 63 → (l : List (List ℕ))
    → ((i : ℕ) → i < length l → length (get_or l i []) ≤ most)
    → length (repeated (bytes_field n) l) ≤ length l * (11 + most)
fields-most n most h k [] each = omega arith
fields-most n most h k (d ∷ l) each =
    let first : length d ≤ most = each 0 (zero-lt-suc (length l)) in
    let f = field-most n d h (omega arith) in
    let r = fields-most n most h k l (λ i j. each (suc i) (omega arith)) in
    let z : suc (length l) * (11 + most) ≡ length l * (11 + most) + (11 + most) = suc-mul (length l) (11 + most) in
    omega (arith, length-append (bytes_field n d) (repeated (bytes_field n) l))

-- with a topic and ids as a node has them
pub advertisement-most : (topic : List ℕ) (ids : List (List ℕ)) → length topic ≤ 1024 → length ids ≤ message_limit
    → ((i : ℕ) → i < length ids → length (get_or ids i []) ≤ message_id_size)
    → length (encode_rpc (advertisement topic ids)) ≤ 16384
advertisement-most topic ids t k h =
    let i = fields-most 2 message_id_size (omega arith) (omega arith) ids h in
    let a = field-most 1 topic (omega arith) (omega arith) in
    let b = length-append (bytes_field 1 topic) (repeated (bytes_field 2) ids) in
    let c = field-most 1 (bytes_field 1 topic ++ repeated (bytes_field 2) ids) (omega arith) (omega arith) in
    let d = field-most 3 (bytes_field 1 (bytes_field 1 topic ++ repeated (bytes_field 2) ids)) (omega arith)
    (omega arith) in
    omega (arith, ap length (advertisement-bytes topic ids))
