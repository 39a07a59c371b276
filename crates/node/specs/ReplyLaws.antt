-- A reply to messages that are cached and named: its bytes are those of the messages written, and what is answered of
-- them. With these a proof leaves the rule of the gateway shut.
use Rattle.std.specs.Prelude.{Ok, Err, true, ℕ, ◌-◌, ◌≤◌, ◌≡◌, refl, List, [], ◌∷◌, length, take, eqb}
use Rattle.std.proofs.Common.{ap₂, eqb-true, eq-eqb, ne_eqb}
use Rattle.std.proofs.Math.ListN.{length-drop}
use Rattle.std.proofs.Math.Seq.{length-take-le}
use Rattle.basis.specs.Cases.{either}
use Rattle.protobuf.specs.Encode.{bytes_field}
use Rattle.rpc.specs.Encode.{repeated}
use Rattle.node.specs.Parts.{fitting}
use Rattle.node.specs.PartsLaws.{fitting-le, fitting-room}
use Rattle.node.specs.Gateway.{reply_room, sent_bytes, reply_for}
use Rattle.node.specs.Calls.{room_of, served_of, reply_bytes, reply_to}
use Rattle.node.specs.declared.ServeError.TheVariants as serve

-- ---- those written
pub reply_bytes_lem : (ms : List (List ℕ)) (out : List ℕ)
    → reply_bytes ms out ≡ repeated (bytes_field 2) (take (served_of ms out) ms)
unfolding reply_bytes served_of
reply_bytes_lem ms out = refl

pub served-le : (ms : List (List ℕ)) (out : List ℕ) → served_of ms out ≤ length ms
unfolding served_of
served-le ms out = fitting-le 2 (room_of out) ms

-- they are within the reply room
pub reply-within : (ms : List (List ℕ)) (out : List ℕ) → length (reply_bytes ms out) ≤ reply_room (length out)
unfolding reply_bytes room_of
reply-within ms out = fitting-room 2 (reply_room (length out)) ms

-- ---- what is answered: the first does not fit; or some are written, and the others are left
module _ (m : List ℕ) (ms : List (List ℕ)) (out : List ℕ) where
  pub reply-short : served_of (m ∷ ms) out ≡ 0 → reply_to (m ∷ ms) out ≡ Err (serve.Room (length (bytes_field 2 m)))
  unfolding served_of
  reply-short z = rw (eq-eqb (served_of (m ∷ ms) out) 0 z)

  pub reply-some : (served_of (m ∷ ms) out ≡ 0 → ⊥)
      → reply_to (m ∷ ms) out
      ≡ Ok (record {
        bytes = length (reply_bytes (m ∷ ms) out);
        messages = served_of (m ∷ ms) out;
        left = length (m ∷ ms) - served_of (m ∷ ms) out;
      })
  unfolding served_of reply_bytes
  reply-some n =
      let k = served_of (m ∷ ms) out in
      let e = length-take-le k (m ∷ ms) (served-le (m ∷ ms) out) in
      let d = length-drop k (m ∷ ms) in
      rw (ne_eqb k 0 n, e, d)

-- ---- the bytes are the gateway's
pub sent_bytes_lem : (ms : List (List ℕ)) (out : List ℕ) → sent_bytes (reply_for (room_of out) ms) ≡ reply_bytes ms out
unfolding reply_bytes served_of fitting
sent_bytes_lem [] out = refl
sent_bytes_lem (m ∷ ms) out =
    either (eqb (served_of (m ∷ ms) out) 0) (λ t. rw (t, eqb-true (served_of (m ∷ ms) out) 0 t)) (λ t. rw t)
