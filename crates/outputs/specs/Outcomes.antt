-- What advertise, ask and serve answer (`t`, the scope's number and the values beside it) and how they leave the lent
-- buffer (`left` of `out`), in the scope's words. What advertise and ask write means the same in every dialect; a
-- reply, whose messages stand as they are cached, in every edition under the node's mode, and under that of groups.
use Rattle.std.specs.Prelude.{None, ℕ, ◌+◌, ◌≤◌, ◌<◌, ◌≡◌, List, [], ◌∷◌, map, ◌↔◌, ◌⊎◌, length, take, drop}
use Rattle.basis.specs.declared.Mode.{Mode}
use Rattle.basis.specs.declared.Mode.TheVariants.{Groups}
use Rattle.basis.specs.declared.Edition.{Edition}
use Rattle.basis.specs.declared.Edition.TheVariants.{V12}
use Rattle.basis.specs.declared.Dialect.{Dialect}
use Rattle.basis.specs.Dialect.{spoken}
use Rattle.basis.specs.declared.Told.{Told}
use Rattle.basis.specs.Told.{told, done}
use Rattle.basis.specs.Refusals.{topic-too_long, short-room}
use Rattle.utf8.specs.Grammar.{Utf8}
use Rattle.protobuf.specs.Encode.{bytes_field}
use Rattle.rpc.specs.Rpc.{RawMessage, Rpc}
use Rattle.rpc.specs.Encode.{encode_rpc, repeated}
use Rattle.meaning.specs.Decoded.{Refusal}
use Rattle.canon.proofs.Taken.{Within}
use Rattle.node.specs.Gateway.{advertisement, reply_room}

-- ---- the buffer as it is left: k bytes at the front that are an RPC, and after them what was there
pub record Writes (x : Rpc) (k : ℕ) (out left : List ℕ) : Type 0 where
  -- the bytes that `Rpc::encode` writes
  pub bytes : take k left ≡ encode_rpc x
  pub count : k ≡ length (encode_rpc x)
  pub fits : k ≤ length out
  -- success writes only the bytes that it counts
  pub rest : drop k left ≡ drop k out

-- ---- advertise and ask: x is the RPC that names the ids
pub record NamesExactly (ids : List (List ℕ)) (x : Rpc) (out : List ℕ) (t : Told) (left : List ℕ) : Type 0 where
  -- no ids: no bytes
  pub no-ids : ids ≡ [] → (t ≡ done (0 ∷ [])) × (left ≡ out)
  -- the RPC, where the buffer has room for it
  pub writes : (ids ≡ [] → ⊥) → length (encode_rpc x) ≤ length out
      → (t ≡ done (length (encode_rpc x) ∷ [])) × Writes x (length (encode_rpc x)) out left
  -- they are a body within capacity that means x, in every dialect: they hold no groups
  pub means : (ids ≡ [] → ⊥) → length (encode_rpc x) ≤ length out → (d : Dialect)
      → Within d (take (length (encode_rpc x)) left) x
  -- else 12 with its length, and nothing is changed
  pub no_room : (ids ≡ [] → ⊥) → length out < length (encode_rpc x)
      → (t ≡ told short-room (length (encode_rpc x) ∷ [])) × (left ≡ out)

-- ---- advertise
pub record AdvertiseExactly (topic : List ℕ) (ids : List (List ℕ)) (out : List ℕ) (t : Told)
    (left : List ℕ) : Type 0 where
  -- 29, and nothing is changed
  pub too_long : 1024 < length topic → (t ≡ told topic-too_long (length topic ∷ [])) × (left ≡ out)
  -- one control, one IHAVE, the topic, the sorted ids
  pub names : length topic ≤ 1024 → NamesExactly ids (advertisement topic ids) out t left
  -- none where the topic isn't UTF-8
  pub not-text : (Utf8 topic → ⊥) → ids ≡ []

-- ---- what is read in a mode is read in the same mode, and in that of groups
pub data AsWide (mode : Mode) : Mode → Type 0 where
  itself : AsWide mode mode
  groups : AsWide mode Groups

-- ---- serve: `ms` are the cached messages that its IWANTs name, each once, in order of first mention, without those
-- whose ids a second body's IDONTWANTs name; `mode` is the node's
-- a reply of k bytes, w messages written and l left
pub record ReplyIs (mode : Mode) (ms : List (List ℕ)) (out left : List ℕ) (k w l : ℕ) : Type 0 where
  pub reply : Rpc
  pub writes : Writes reply k out left
  -- it is a body within capacity that means that, in every edition. Its messages may hold groups: then a reader in the
  -- first mode refuses it
  pub means : (d : Dialect) → AsWide mode d.mode → Within d (take k left) reply
  pub no-subscriptions : reply.subscriptions ≡ []
  pub no-control : reply.control ≡ None
  -- its messages are the first w of those, byte for byte
  pub messages : map (λ (m : RawMessage). m.raw) reply.publish ≡ take w ms
  -- how many were written, and how many cached ones were left
  pub written : w ≡ length reply.publish
  pub left_over : w + l ≡ length ms
  -- they are within the reply room; where some are left, the next would pass it
  pub within : k ≤ reply_room (length out)
  pub next : (l ≡ 0 → ⊥) → reply_room (length out) < length (repeated (bytes_field 2) (take (w + 1) ms))

-- some are cached, and the field of the first, of so many bytes, would pass the reply room
pub record NoRoom (ms : List (List ℕ)) (out : List ℕ) (needed : ℕ) : Type 0 where
  pub first : List ℕ
  pub others : List (List ℕ)
  pub cached : ms ≡ first ∷ others
  pub field : needed ≡ length (bytes_field 2 first)
  pub passes : reply_room (length out) < needed

pub record ServeExactly (mode : Mode) (ms : List (List ℕ)) (out : List ℕ) (t : Told) (left : List ℕ) : Type 0 where
  pub reply : (k w l : ℕ) → t ≡ done (k ∷ w ∷ l ∷ []) → ReplyIs mode ms out left k w l
  -- 12, and nothing is changed
  pub no_room : (needed : ℕ) → (t ≡ told short-room (needed ∷ [])) ↔ NoRoom ms out needed
  pub unchanged : (needed : ℕ) → t ≡ told short-room (needed ∷ []) → left ≡ out
  -- there is no third answer
  pub no_other : ((k : ℕ) × (w : ℕ) × (l : ℕ) × (t ≡ done (k ∷ w ∷ l ∷ [])))
      ⊎ ((needed : ℕ) × (t ≡ told short-room (needed ∷ [])))

-- 10, 1 to 7 and 14 to 16, or 11 of the body that asks, in the call's edition; or, where that is taken, of the second
-- body, in 1.2
pub data ServeRefuses (mode : Mode) (ed : Edition) (body second : List ℕ) (t : Told) : Type 0 where
  asking : Refusal (spoken mode ed) body t → ServeRefuses mode ed body second t
  declining : {x : Rpc} → Within (spoken mode ed) body x → Refusal (spoken mode V12) second t
      → ServeRefuses mode ed body second t
