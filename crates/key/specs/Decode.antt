-- What `decode_protobuf` answers, in the Rust's reading order: KeyLaws joins it to the document.
use Rattle.std.specs.Prelude.{Result, Ok, Err, Some, None, ℕ, ◌+◌, List, cond, length, drop, get_or, eqb, ltb, leb}
use Rattle.peer_id.specs.Uvarint.{read_uvarint}
use Rattle.key.specs.declared.KeyType.{KeyType}
use Rattle.key.specs.declared.KeyType.TheVariants.{Rsa, Ed25519, Secp256k1, Ecdsa}
use Rattle.key.specs.declared.PublicKeyError.TheVariants.{EmptyInput, InvalidFieldTag, Varint, UnknownKeyType}
use Rattle.key.specs.declared.PublicKeyError.TheVariants.{LengthOverflow, InvalidLength}
use Rattle.key.specs.declared.PublicKey.{PublicKey}
use Rattle.key.specs.declared.PublicKeyError.{PublicKeyError}
use Rattle.peer_id.specs.declared.VarintError.{VarintError}

-- the type of a number up to 3
unfoldable pub type_of : ℕ → KeyType
type_of n = cond (eqb n 0) Rsa (cond (eqb n 1) Ed25519 (cond (eqb n 2) Secp256k1 Ecdsa))

-- and no type has a number above
abbrev pub known : ℕ → Result KeyType PublicKeyError
known n = cond (ltb 3 n) (Err (UnknownKeyType n)) (Ok (type_of n))

-- this tag must stand at a place; then r is the answer
abbrev pub on_tag : {A : Type 0} → List ℕ → ℕ → ℕ → Result A PublicKeyError → Result A PublicKeyError
on_tag s at tag r =
    cond (leb (length s) at) (Err (InvalidFieldTag tag None))
    (cond (eqb (get_or s at 0) tag) r (Err (InvalidFieldTag tag (Some (get_or s at 0)))))

-- a key of this type, whose data start there
abbrev pub found : KeyType → ℕ → Result PublicKey PublicKeyError
found t start = Ok (record { key_type = t; start = start })

-- data of so many bytes from `start` on must end where the input of len bytes ends; a sum of 2^64 or more overflows
unfoldable pub on_total : ℕ → KeyType → ℕ → ℕ → Result PublicKey PublicKeyError
on_total len t start size =
    cond (ltb 18446744073709551615 (start + size)) (Err LengthOverflow)
    (cond (eqb (start + size) len) (found t start) (Err (InvalidLength (start + size) len)))

-- the length of the data, whose varint starts at `next`
abbrev pub on_size : ℕ → KeyType → ℕ → Result (ℕ × ℕ) VarintError → Result PublicKey PublicKeyError
on_size len t next (Err why) = Err (Varint why)
on_size len t next (Ok (size, used)) = on_total len t (next + used) size

-- the second field, at a place
unfoldable pub on_data : List ℕ → KeyType → ℕ → Result PublicKey PublicKeyError
on_data s t at = on_tag s at 0x12 (on_size (length s) t (at + 1) (read_uvarint (drop (at + 1) s)))

-- the type's number, whose varint starts at 1
abbrev pub on_type : List ℕ → Result (ℕ × ℕ) VarintError → Result PublicKey PublicKeyError
on_type s (Err why) = Err (Varint why)
on_type s (Ok (n, used)) = cond (ltb 3 n) (Err (UnknownKeyType n)) (on_data s (type_of n) (1 + used))

unfoldable pub decode_protobuf : List ℕ → Result PublicKey PublicKeyError
decode_protobuf s = cond (eqb (length s) 0) (Err EmptyInput) (on_tag s 0 0x08 (on_type s (read_uvarint (drop 1 s))))
