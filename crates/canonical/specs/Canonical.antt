-- Re-encoding is canonical: for every body that is well formed and within capacity its output is accepted and means the
-- same RPC, is never longer, does not change when it is re-encoded, and is the same for every body that means that RPC;
-- and given room it always succeeds.
use Rattle.std.specs.Prelude.{Result, ℕ, ◌≤◌, ◌≡◌, List, [], ◌∷◌, ◌++◌, length, drop}
use Rattle.std.proofs.Common.{sym, subst, ◌∙◌, arith, le-leb}
use Rattle.std.proofs.Math.Path.{ap}
use Rattle.basis.specs.declared.Dialect.{Dialect}
use Rattle.basis.specs.declared.ShortRoom.{ShortRoom}
use Rattle.protobuf.specs.declared.Refusal.{Refusal}
use Rattle.basis.specs.Lists.{answer-fits}
use Rattle.basis.specs.Told.{done}
use Rattle.basis.specs.Writing.{written}
use Rattle.protobuf.specs.Told.{encoded_told}
use Rattle.protobuf.specs.Encode.{of_written}
use Rattle.rpc.specs.Rpc.{Rpc}
use Rattle.rpc.specs.Grammar.{IsRpc}
use Rattle.canon.specs.Canon.{canon_body}
use Rattle.encode.specs.Encode.{encode_checked, encode_answer, encoded_checked, encode_left}
use Rattle.canonical.specs.Means.{canonical_means}
use Rattle.canon.proofs.Written.{canon-written}
use Rattle.canon.proofs.Taken.{Within, taken, output_shorter}

module _ {d : Dialect} {s : List ℕ} {x : Rpc} (w : Within d s x) where
  -- the output means the same RPC, so every published message stands in it byte for byte, and it is within capacity
  pub output_means : Within d (canon_body d s) x
  output_means =
      let l = output_shorter w in
      record {
        means = subst (λ (b : List ℕ). IsRpc d b x) (sym (canon-written w.means))
            (canonical_means (omega (arith, w.small)) w.means);
        small = omega (arith, w.small);
        few = w.few;
      }

  -- re-encoding again changes nothing
  pub output_stays : canon_body d (canon_body d s) ≡ canon_body d s
  output_stays = canon-written output_means.means ∙ sym (canon-written w.means)

  -- given room, re-encoding succeeds: as much room as the body takes is always enough
  pub output_succeeds : (out : List ℕ) → length (canon_body d s) ≤ length out
      → (encoded_told (encode_answer d s out) ≡ done (length (canon_body d s) ∷ []))
      × (encode_left d s out ≡ canon_body d s ++ drop (length (canon_body d s)) out)
  unfolding encode_answer encode_left written
  output_succeeds out r = (
    ap (λ (c : Result (Unit {0}) Refusal). encoded_told (encode_checked d s out c)) (taken w)
        ∙ ap (λ (z : Result ℕ ShortRoom). encoded_told (of_written z)) (answer-fits (canon_body d s) out r),
    ap (encoded_checked d s out) (taken w) ∙ simp (le-leb (length (canon_body d s)) (length out) r),
  )

-- two bodies that mean the same RPC, be it in two dialects, re-encode to the same bytes
pub output_same : {d e : Dialect} {s t : List ℕ} {x : Rpc} → IsRpc d s x → IsRpc e t x → canon_body d s ≡ canon_body e t
output_same p q = canon-written p ∙ sym (canon-written q)
