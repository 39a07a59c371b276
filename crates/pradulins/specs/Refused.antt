-- A refused call of the C interface, one whose number is not 0, leaves what it was lent to write as it was: the node's
-- bytes, the stores, the buffer or the table. The values get what the scope's table returns beside the number, and the
-- refusal's place. An explain, a walk, and what tells a node's settings and state, are lent nothing else to write.
use Rattle.std.specs.Prelude.{Ok, Err, ℕ, ◌≡◌, refl, Bool, true, false, cond, List, length}
use Rattle.std.proofs.Common.{ap, ◌∙◌}
use Rattle.basis.specs.Told.{fine_told}
use Rattle.basis.specs.Bytes.{Bytes}
use Rattle.basis.specs.Dialect.{edition_of, dialect_of}
use Rattle.message.specs.Refused.{refused_decode as decode-refused}
use Rattle.ids.specs.Refused.{refused-id as id-refused}
use Rattle.encode.specs.Refused.{refused_encode as encode-refused, refused_sign as sign_refused}
use Rattle.compose.specs.Refused.{refused_write_rpc as write_refused, refused_sign_fields as fields-refused}
use Rattle.node.specs.State.{legal_settings, fresh_node}
use Rattle.node.specs.Calls.{start_answer}
use Rattle.node.specs.Laws.{admit-refused, beat-refused, advertise-refused, ask-refused, serve-refused}
use Rattle.stored.specs.Layout.{node_size, node_in, node_bytes}
use Rattle.stored.specs.LayoutLaws.{loaded_stored}
use Rattle.pradulins.specs.Unique.{Starts, Admits, Beats, Advertises, Asks, Serves, Encodes, Signs, Identifies}
use Rattle.pradulins.specs.Unique.{Decodes, Writes, SignsFields}
use Rattle.basis.specs.declared.Fault.TheVariants as fault

-- ---- the node
pub not-started : (legal : Bool) (new old : List ℕ)
    → ((fine_told (cond legal (Ok tt) (Err fault.BadSetting))).number ≡ 0 → ⊥) → cond legal new old ≡ old
not-started true new old h = absurd (h refl)
not-started false new old h = refl

pub refused-start : {s : List ℕ} {ttl max_seen history max flags r : ℕ} {made : List ℕ}
    → Starts s ttl max_seen history max flags r made → (r ≡ 0 → ⊥) → made ≡ s
unfolding start_answer
refused-start {s} {ttl} {max_seen} {history} {max} {flags} a h =
    a.node
    ∙ not-started (legal_settings max_seen history max flags) (node_bytes (fresh_node ttl max_seen history max flags)) s
    (λ z. h (a.number ∙ z))

module _ {s : List ℕ} (size : length s ≡ node_size) (bytes : Bytes s) {ss cs : List ℕ} where
  pub refused-admit : {edition : ℕ} {body : List ℕ} {i : ℕ} {word : Bool} {at : ℕ} {vs : List ℕ} {r : ℕ}
      {ws made ids messages : List ℕ}
      → Admits s ss cs edition body i word at vs r ws made ids messages → (r ≡ 0 → ⊥)
      → (made ≡ s) × (ids ≡ ss) × (messages ≡ cs)
  refused-admit {edition} {body} {i} {word} {at} a h =
      let k = admit-refused (node_in s) ss cs (edition_of edition) body i word at (λ z. h (a.number ∙ z)) in
      (a.node ∙ ap node_bytes k.0 ∙ loaded_stored s size bytes, a.seen ∙ k.1, a.cache ∙ k.2)

  pub refused-beat : {at : ℕ} {vs : List ℕ} {r : ℕ} {ws made : List ℕ} → Beats s ss cs at vs r ws made → (r ≡ 0 → ⊥)
      → made ≡ s
  refused-beat {at} a h =
      a.node ∙ ap node_bytes (beat-refused (node_in s) ss cs at (λ z. h (a.number ∙ z))) ∙ loaded_stored s size bytes

module _ {s ss cs out vs : List ℕ} {r : ℕ} {ws left : List ℕ} where
  pub refused-advertise : {topic : List ℕ} {windows : ℕ} → Advertises s ss cs topic windows out vs r ws left
      → (r ≡ 0 → ⊥) → left ≡ out
  refused-advertise {topic} {windows} a h =
      a.buffer ∙ advertise-refused (node_in s) ss cs out topic windows (λ z. h (a.number ∙ z))

  pub refused-ask : {edition : ℕ} {body : List ℕ} → Asks s ss cs edition body out vs r ws left → (r ≡ 0 → ⊥) → left ≡ out
  refused-ask {edition} {body} a h =
      a.buffer ∙ ask-refused (node_in s) ss cs out (edition_of edition) body (λ z. h (a.number ∙ z))

  pub refused-serve : {edition : ℕ} {body second : List ℕ} → Serves s ss cs edition body second out vs r ws left
      → (r ≡ 0 → ⊥) → left ≡ out
  refused-serve {edition} {body} {second} a h =
      a.buffer ∙ serve-refused (node_in s) ss cs out (edition_of edition) body second (λ z. h (a.number ∙ z))

-- ---- bodies
module _ {dialect : ℕ} {body vs : List ℕ} {r : ℕ} {ws : List ℕ} where
  pub refused_encode : {out left : List ℕ} → Encodes dialect body out vs r ws left → (r ≡ 0 → ⊥) → left ≡ out
  refused_encode {out} a h = a.buffer ∙ encode-refused (dialect_of dialect) body out (λ z. h (a.number ∙ z))

  pub refused_sign : {i : ℕ} {out left : List ℕ} → Signs dialect body i out vs r ws left → (r ≡ 0 → ⊥) → left ≡ out
  refused_sign {i} {out} a h = a.buffer ∙ sign_refused (dialect_of dialect) body i out (λ z. h (a.number ∙ z))

  pub refused-id : {i : ℕ} {out left : List ℕ} → Identifies dialect body i out vs r ws left → (r ≡ 0 → ⊥) → left ≡ out
  refused-id {i} {out} a h = a.buffer ∙ id-refused (dialect_of dialect) body i out (λ z. h (a.number ∙ z))

  pub refused_decode : {t rows : List ℕ} → Decodes dialect body t vs r ws rows → (r ≡ 0 → ⊥) → rows ≡ t
  refused_decode {t} a h = a.table ∙ decode-refused (dialect_of dialect) body t (λ z. h (a.number ∙ z))

-- ---- speaking first
module _ {t b vs : List ℕ} {r : ℕ} {ws out left : List ℕ} where
  pub refused_write : {flags : ℕ} → Writes t b flags out vs r ws left → (r ≡ 0 → ⊥) → left ≡ out
  refused_write {flags} a h = a.buffer ∙ write_refused flags t b out (λ z. h (a.number ∙ z))

  pub refused_sign_fields : {i : ℕ} → SignsFields t b i out vs r ws left → (r ≡ 0 → ⊥) → left ≡ out
  refused_sign_fields {i} a h = a.buffer ∙ fields-refused t b i out (λ z. h (a.number ∙ z))
