-- A round's reply, from node b that tells to node a that asks: it is taken, and the message at each index below the
-- number served is, byte for byte, that of the messages that a lacks; at the number served there is no message more.
use Rattle.std.specs.Prelude.{Some, Result, Ok, Err, ℕ, ◌≤◌, ◌<◌, ◌≡◌, refl, true, List, [], map, length, get_or}
use Rattle.std.proofs.Common.{sym, ap, subst, ◌∙◌, arith, get_or-take}
use Rattle.basis.specs.declared.Mode.{Mode}
use Rattle.basis.specs.declared.Edition.{Edition}
use Rattle.basis.specs.declared.Edition.TheVariants.{V11}
use Rattle.basis.specs.declared.Dialect.{Dialect}
use Rattle.basis.specs.Dialect.{mode_of, spoken}
use Rattle.basis.specs.Bytes.{Bytes}
use Rattle.rpc.specs.Rpc.{RawMessage, Rpc}
use Rattle.rpc.specs.Grammar.{IsRpc}
use Rattle.schema.specs.Accept.{accept_of}
use Rattle.ids.specs.Ids.{message_at}
use Rattle.canon.proofs.Taken.{taken}
use Rattle.canonical.specs.Calls.{none_in}
use Rattle.canon.specs.Messages.{Nth, here, there, raw-is, message-found, message-missing}
use Rattle.node.specs.declared.Node.{Node}
use Rattle.node.specs.Gateway.{told_of, lacking, having}
use Rattle.node.specs.State.{gateway_in}
use Rattle.node.specs.Calls.{lent_of, advertise_bytes, ask_bytes, served_of, reply_bytes}
use Rattle.outputs.specs.Outcomes.{itself}
use Rattle.outputs.specs.Replied.{Replies, serve-means}
use Rattle.history.specs.History.{admit, Placed, brought}
use Rattle.history.proofs.Laws.{carried-brought}
use Rattle.agreement.specs.HandOver.{reply-has}

-- ---- an element of a list of messages, and its bytes
nth_raw : {i : ℕ} {xs : List RawMessage} {x : RawMessage} → Nth i xs x → get_or (map (λ (m : RawMessage). m.raw) xs) i []
    ≡ x.raw
nth_raw here = refl
nth_raw (there n) = nth_raw n

-- ---- the message at an index of a body, byte for byte
placed_by : {d : Dialect} {s : List ℕ} {x : Rpc} (i : ℕ) (r : Result (ℕ × ℕ) ℕ) → IsRpc d s x → i < length x.publish
    → message_at d.mode s i ≡ r → Placed d.mode s i (get_or (map (λ (m : RawMessage). m.raw) x.publish) i [])
placed_by {d} i (Ok (a, e)) g h q =
    let f = message-found i a e g q in
    record { start = a; next = e; found = q; bytes = sym (raw-is d.mode f.2) ∙ sym (nth_raw f.1) }
placed_by i (Err k) g h q = let l = message-missing i k g q in absurd (omega (arith, l.1))

-- ---- a reply as it is read in a mode, in every edition
pub record Delivers (mode : Mode) (ms : List (List ℕ)) (out : List ℕ) : Type 0 where
  pub accepted : (ed : Edition) → accept_of (spoken mode ed) (reply_bytes ms out) ≡ Ok tt
  -- at an index below the number served stands exactly that message
  pub each : (i : ℕ) → i < served_of ms out → Placed mode (reply_bytes ms out) i (get_or ms i [])
  pub no_more : (i : ℕ) → served_of ms out ≤ i → message_at mode (reply_bytes ms out) i ≡ Err (served_of ms out)

pub delivers : (mode : Mode) (ms : List (List ℕ)) (out : List ℕ) → Replies mode ms out → Delivers mode ms out
delivers mode ms out r =
    let s = reply_bytes ms out in
    let n = r.count in
    record {
      accepted = λ ed. taken (r.within (spoken mode ed) itself);
      each = λ i h.
          subst (λ (m : List ℕ). Placed mode s i m)
          (ap (λ (l : List (List ℕ)). get_or l i []) r.messages ∙ get_or-take (served_of ms out) ms i [] h)
          (placed_by i (message_at mode s i) (r.within (spoken mode V11) itself).means (omega arith) refl);
      no_more = λ i h. none_in i (message_at mode s i) (r.within (spoken mode V11) itself).means (omega arith) refl
          ∙ ap Err n;
    }

-- an admit of such an index, with the host's word, brings that message
pub brought_delivered : (flags : ℕ) (ms : List (List ℕ)) (out : List ℕ) → Delivers (mode_of flags) ms out
    → (ed : Edition) (i at : ℕ)
    → i < served_of ms out → brought flags (admit ed (reply_bytes ms out) i true at) ≡ Some (get_or ms i [])
brought_delivered flags ms out d ed i at h =
    carried-brought flags ed (reply_bytes ms out) i at (get_or ms i []) (d.accepted ed) (d.each i h)

-- ---- the reply to the request of node a for what node b tells of
module _ (b : Node) (bs bc topic : List ℕ) (windows : ℕ) (fine : lent_of b bs bc ≡ Ok tt) (bytes : Bytes bc)
    (short : length topic ≤ 1024) (a : Node) («as» ac out : List ℕ) where
  pub reply-taken : Delivers (mode_of b.cache.flags)
      (having (gateway_in b bs bc) (lacking (gateway_in a «as» ac) (told_of topic windows (gateway_in b bs bc)))) out
  reply-taken =
      let body = ask_bytes a «as» (advertise_bytes b bc topic windows) in
      delivers (mode_of b.cache.flags) (having (gateway_in b bs bc)
      (lacking (gateway_in a «as» ac) (told_of topic windows (gateway_in b bs bc))))
      out
      (subst (λ (ms : List (List ℕ)). Replies (mode_of b.cache.flags) ms out)
      (reply-has b bs bc topic windows fine bytes short a «as» ac)
      (serve-means b bs bc body [] out fine bytes))
