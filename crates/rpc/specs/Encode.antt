-- Writing an RPC: the bytes that stand for it, from the Protocol Buffers encoding document and message.rs, IDONTWANTs
-- after the prunes. Fields stand
-- in the order of their numbers; what is absent is not written; a message stands as its raw bytes.
use Rattle.std.specs.Prelude.{Option, Some, None, ℕ, Bool, true, false, List, [], ◌∷◌, ◌++◌}
use Rattle.protobuf.specs.Encode.{varint_field, bytes_field}
use Rattle.rpc.specs.Rpc.{SubOpts, RawMessage, ControlIHave, ControlIWant, ControlGraft, PeerInfo, ControlPrune}
use Rattle.rpc.specs.Rpc.{ControlIDontWant, ControlMessage, Rpc}

-- an optional field, and a repeated one
abbrev pub optional : {A : Type 0} → (A → List ℕ) → Option A → List ℕ
optional f None = []
optional f (Some x) = f x

abbrev pub repeated : {A : Type 0} → (A → List ℕ) → List A → List ℕ
repeated f [] = []
repeated f (x ∷ xs) = f x ++ repeated f xs

abbrev pub flag : Bool → ℕ
flag true = 1
flag false = 0

unfoldable pub encode_sub_opts : SubOpts → List ℕ
encode_sub_opts x = optional (λ b. varint_field 1 (flag b)) x.subscribe ++ optional (bytes_field 2) x.topic_id

unfoldable pub encode_iHave : ControlIHave → List ℕ
encode_iHave x = optional (bytes_field 1) x.topic_id ++ repeated (bytes_field 2) x.message_ids

unfoldable pub encode_iWant : ControlIWant → List ℕ
encode_iWant x = repeated (bytes_field 1) x.message_ids

unfoldable pub encode_graft : ControlGraft → List ℕ
encode_graft x = optional (bytes_field 1) x.topic_id

unfoldable pub encode_peer_info : PeerInfo → List ℕ
encode_peer_info x = optional (bytes_field 1) x.peer_id ++ optional (bytes_field 2) x.signed_peer_record

unfoldable pub encode_prune : ControlPrune → List ℕ
encode_prune x = optional (bytes_field 1) x.topic_id ++ (repeated (λ p. bytes_field 2 (encode_peer_info p)) x.peers
    ++ optional (varint_field 3) x.backoff)

unfoldable pub encode_iDont_want : ControlIDontWant → List ℕ
encode_iDont_want x = repeated (bytes_field 1) x.message_ids

unfoldable pub encode_control : ControlMessage → List ℕ
encode_control x =
    repeated (λ h. bytes_field 1 (encode_iHave h)) x.ihave
    ++ (repeated (λ w. bytes_field 2 (encode_iWant w)) x.iwant
    ++ (repeated (λ g. bytes_field 3 (encode_graft g)) x.graft
    ++ (repeated (λ p. bytes_field 4 (encode_prune p)) x.prune
    ++ repeated (λ d. bytes_field 5 (encode_iDont_want d)) x.idontwant)))

unfoldable pub encode_rpc : Rpc → List ℕ
encode_rpc x =
    repeated (λ o. bytes_field 1 (encode_sub_opts o)) x.subscriptions
    ++ (repeated (λ m. bytes_field 2 m.raw) x.publish ++ optional (λ c. bytes_field 3 (encode_control c))
    x.control)

-- `libp2p-pubsub:`
abbrev pub sign_prefix : List ℕ
sign_prefix = 108 ∷ 105 ∷ 98 ∷ 112 ∷ 50 ∷ 112 ∷ 45 ∷ 112 ∷ 117 ∷ 98 ∷ 115 ∷ 117 ∷ 98 ∷ 58 ∷ []

-- the bytes that are signed: the prefix, then from, data, seqno and every topic
unfoldable pub sign_bytes : RawMessage → List ℕ
sign_bytes m =
    sign_prefix
    ++ (optional (bytes_field 1) m.from
    ++ (optional (bytes_field 2) m.«data»
    ++ (optional (bytes_field 3) m.seqno ++ repeated (bytes_field 4) m.topic_ids)))
