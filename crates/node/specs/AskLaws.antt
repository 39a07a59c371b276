-- How long parts are as fields, and that the fields of a request or a reply are far fewer bytes than the numbers of the
-- machine.
use Rattle.std.specs.Prelude.{ℕ, ◌+◌, ◌-◌, ◌*◌, ◌^◌, ◌≤◌, ◌<◌, List, length, drop, get_or}
use Rattle.std.proofs.Common.{ap, arith, mul-le-mul_right, length-take, length-drop}
use Rattle.protobuf.specs.Walk.{between}
use Rattle.protobuf.specs.Encode.{bytes_field}
use Rattle.rpc.specs.Encode.{encode_rpc, repeated}
use Rattle.encode.specs.Puts.{Fits}
use Rattle.node.specs.Parts.{parts_in}
use Rattle.node.specs.PartsLaws.{length-parts, part-is}
use Rattle.node.specs.Gateway.{request}
use Rattle.node.specs.WireLaws.{request-bytes, field-most, fields-most}

-- a part is no longer than the whole
pub between-most : (s : List ℕ) (a e : ℕ) → length (between s a e) ≤ length s
between-most s a e = omega (arith, length-take (e - a) (drop a s), length-drop a s)

pub parts-most : (n most : ℕ) (s t : List ℕ) (m : ℕ) → n ≤ 6 → most < 2 ^ 63 → length s ≤ most
    → length (repeated (bytes_field n) (parts_in s t m)) ≤ m * (11 + most)
parts-most n most s t m h k l =
    let z = length-parts s t m in
    let f = fields-most n most h k (parts_in s t m)
    (λ i j. let b = between-most s (get_or t (i * 2) 0) (get_or t (i * 2 + 1) 0) in let q = ap length
    (part-is s t m i (omega arith)) in omega arith) in
    rw z at f

-- at most 512 parts, of a body that is taken
pub request-fits : (s t : List ℕ) (m : ℕ) → length s ≤ 65536 → m ≤ 512 → Fits 0 (encode_rpc (request (parts_in s t m)))
request-fits s t m h k =
    let ids = repeated (bytes_field 1) (parts_in s t m) in
    let a = parts-most 1 65536 s t m (omega arith) (omega arith) h in
    let z : m * (11 + 65536) ≤ 512 * (11 + 65536) = mul-le-mul_right (11 + 65536) k in
    let b = field-most 2 ids (omega arith) (omega arith) in
    let c = field-most 3 (bytes_field 2 ids) (omega arith) (omega arith) in
    omega (arith, ap length (request-bytes (parts_in s t m)))

-- and of a store for messages
pub reply-fits : (s t : List ℕ) (m : ℕ) → length s ≤ 262144 → m ≤ 512 → Fits 0 (repeated (bytes_field 2) (parts_in s t m))
reply-fits s t m h k =
    let a = parts-most 2 262144 s t m (omega arith) (omega arith) h in
    let z : m * (11 + 262144) ≤ 512 * (11 + 262144) = mul-le-mul_right (11 + 262144) k in
    omega arith
