-- The contract of each function of the C interface that is lent something, as a record of what it says of the number
-- that is returned, the values that are handed out, and every other lent byte; and that it leaves no choice: two results
-- that meet it are the same. Number and values are those of the answer, as Told of its crate has them, and a refusal
-- of a body's bytes also hands out its place; the other values stay. An edition and a dialect are numbers here: of an
-- edition bit 0 counts, of a dialect bit 1, too, the mode.
use Rattle.std.specs.Prelude.{ℕ, ◌≡◌, Bool, cond, List, [], length}
use Rattle.std.proofs.Common.{sym, ◌∙◌}
use Rattle.std.proofs.lemmas.List.Edits.{sets}
use Rattle.basis.specs.Told.{fine_told}
use Rattle.basis.specs.declared.Told.{Told}
use Rattle.basis.specs.Dialect.{edition_of, dialect_of}
use Rattle.protobuf.specs.Told.{encoded_told, walk_told}
use Rattle.protobuf.specs.Field.{walk_step}
use Rattle.message.specs.Told.{decoded_told}
use Rattle.message.specs.Decode.{decode_answer, decode_table}
use Rattle.ids.specs.Told.{message_told}
use Rattle.ids.specs.Ids.{id_answer, id_left}
use Rattle.encode.specs.Encode.{encode_answer, encode_left}
use Rattle.encode.specs.Sign.{sign_answer, sign_left}
use Rattle.compose.specs.Told.{composed_told}
use Rattle.compose.specs.Compose.{write_answer, write_left, sign_answer as fieldsAnswer, sign_left as fieldsLeft}
use Rattle.node.specs.State.{legal_settings, fresh_node}
use Rattle.node.specs.Told.{admit_told, beat_told, advertise_told, explain_told, ask_told, serve_told}
use Rattle.node.specs.Calls.{start_answer, planned, admit_answer, admit_node, admit_seen, admit_cache, beat_answer, beat_node}
use Rattle.node.specs.Calls.{advertise_answer, advertise_left, explain_answer, ask_answer, ask_left, serve_answer, serve_left}
use Rattle.stored.specs.Layout.{node_in, node_bytes}
use Rattle.pradulins.specs.Handed.{handed}
use Rattle.pradulins.specs.Holds.{settings_told, flags_told, state_told}

-- ---- the node: its bytes s, the stores ss and cs, and the values vs, as they are lent; then what is returned and left
pub record Starts (s : List ℕ) (ttl max_seen history max flags : ℕ) (r : ℕ) (made : List ℕ) : Type 0 where
  pub number : r ≡ (fine_told (start_answer max_seen history max flags)).number
  pub node : made
      ≡ cond (legal_settings max_seen history max flags) (node_bytes (fresh_node ttl max_seen history max flags)) s

pub one-start : {s : List ℕ} {ttl max_seen history max flags r r₂ : ℕ} {made made₂ : List ℕ}
    → Starts s ttl max_seen history max flags r made → Starts s ttl max_seen history max flags r₂ made₂ → (r ≡ r₂)
    × (made ≡ made₂)
one-start a b = (a.number ∙ sym b.number, a.node ∙ sym b.node)

-- what an admit tells
abbrev pub admit_tells : List ℕ → List ℕ → List ℕ → ℕ → List ℕ → ℕ → Bool → ℕ → Told
admit_tells s ss cs edition body i word at =
    admit_told (admit_answer (node_in s) ss at (planned (node_in s) ss cs (edition_of edition) body i word at))

pub record Admits (s ss cs : List ℕ) (edition : ℕ) (body : List ℕ) (i : ℕ) (word : Bool) (at : ℕ) (vs : List ℕ) (r : ℕ)
    (ws made ids messages : List ℕ) : Type 0 where
  pub number : r ≡ (admit_tells s ss cs edition body i word at).number
  pub values : ws ≡ handed (admit_tells s ss cs edition body i word at) vs
  pub node : made ≡ node_bytes (admit_node (node_in s) ss at (planned (node_in s) ss cs (edition_of edition) body i word at))
  pub seen : ids ≡ admit_seen (node_in s) ss at (planned (node_in s) ss cs (edition_of edition) body i word at)
  pub cache : messages ≡ admit_cache (node_in s) ss cs at (planned (node_in s) ss cs (edition_of edition) body i word at)

pub one-admit : {s ss cs : List ℕ} {edition : ℕ} {body : List ℕ} {i : ℕ} {word : Bool} {at : ℕ} {vs : List ℕ} {r r₂ : ℕ}
    {ws ws₂ made made₂ ids ids₂ messages messages₂ : List ℕ}
    → Admits s ss cs edition body i word at vs r ws made ids messages
    → Admits s ss cs edition body i word at vs r₂ ws₂ made₂ ids₂ messages₂
    → (r ≡ r₂) × (ws ≡ ws₂) × (made ≡ made₂) × (ids ≡ ids₂) × (messages ≡ messages₂)
one-admit a b = (
  a.number ∙ sym b.number,
  a.values ∙ sym b.values,
  a.node ∙ sym b.node,
  a.seen ∙ sym b.seen,
  a.cache ∙ sym b.cache,
)

pub record Beats (s ss cs : List ℕ) (at : ℕ) (vs : List ℕ) (r : ℕ) (ws made : List ℕ) : Type 0 where
  pub number : r ≡ (beat_told (beat_answer (node_in s) ss cs at)).number
  pub values : ws ≡ handed (beat_told (beat_answer (node_in s) ss cs at)) vs
  pub node : made ≡ node_bytes (beat_node (node_in s) ss cs at)

pub one-beat : {s ss cs : List ℕ} {at : ℕ} {vs : List ℕ} {r r₂ : ℕ} {ws ws₂ made made₂ : List ℕ}
    → Beats s ss cs at vs r ws made → Beats s ss cs at vs r₂ ws₂ made₂ → (r ≡ r₂) × (ws ≡ ws₂) × (made ≡ made₂)
one-beat a b = (a.number ∙ sym b.number, a.values ∙ sym b.values, a.node ∙ sym b.node)

-- what an advertise, an explain, an ask and a serve tell; they are given no node and no store to write
abbrev pub advertise_tells : List ℕ → List ℕ → List ℕ → List ℕ → ℕ → List ℕ → Told
advertise_tells s ss cs topic windows out = advertise_told (advertise_answer (node_in s) ss cs topic windows out)

pub record Advertises (s ss cs topic : List ℕ) (windows : ℕ) (out vs : List ℕ) (r : ℕ)
    (ws left : List ℕ) : Type 0 where
  pub number : r ≡ (advertise_tells s ss cs topic windows out).number
  pub values : ws ≡ handed (advertise_tells s ss cs topic windows out) vs
  pub buffer : left ≡ advertise_left (node_in s) ss cs topic windows out

pub one-advertise : {s ss cs topic : List ℕ} {windows : ℕ} {out vs : List ℕ} {r r₂ : ℕ} {ws ws₂ left left₂ : List ℕ}
    → Advertises s ss cs topic windows out vs r ws left → Advertises s ss cs topic windows out vs r₂ ws₂ left₂
    → (r ≡ r₂) × (ws ≡ ws₂) × (left ≡ left₂)
one-advertise a b = (a.number ∙ sym b.number, a.values ∙ sym b.values, a.buffer ∙ sym b.buffer)

-- an explain is given no buffer either
abbrev pub explain_tells : List ℕ → List ℕ → List ℕ → List ℕ → List ℕ → ℕ → Told
explain_tells s ss cs id topic windows = explain_told (explain_answer (node_in s) ss cs id topic windows)

pub record Explains (s ss cs id topic : List ℕ) (windows : ℕ) (vs : List ℕ) (r : ℕ) (ws : List ℕ) : Type 0 where
  pub number : r ≡ (explain_tells s ss cs id topic windows).number
  pub values : ws ≡ handed (explain_tells s ss cs id topic windows) vs

pub one-explain : {s ss cs id topic : List ℕ} {windows : ℕ} {vs : List ℕ} {r r₂ : ℕ} {ws ws₂ : List ℕ}
    → Explains s ss cs id topic windows vs r ws → Explains s ss cs id topic windows vs r₂ ws₂ → (r ≡ r₂) × (ws ≡ ws₂)
one-explain a b = (a.number ∙ sym b.number, a.values ∙ sym b.values)

pub record Asks (s ss cs : List ℕ) (edition : ℕ) (body out vs : List ℕ) (r : ℕ) (ws left : List ℕ) : Type 0 where
  pub number : r ≡ (ask_told (ask_answer (node_in s) ss cs (edition_of edition) body out)).number
  pub values : ws ≡ handed (ask_told (ask_answer (node_in s) ss cs (edition_of edition) body out)) vs
  pub buffer : left ≡ ask_left (node_in s) ss cs (edition_of edition) body out

pub one-ask : {s ss cs : List ℕ} {edition : ℕ} {body out vs : List ℕ} {r r₂ : ℕ} {ws ws₂ left left₂ : List ℕ}
    → Asks s ss cs edition body out vs r ws left → Asks s ss cs edition body out vs r₂ ws₂ left₂
    → (r ≡ r₂) × (ws ≡ ws₂) × (left ≡ left₂)
one-ask a b = (a.number ∙ sym b.number, a.values ∙ sym b.values, a.buffer ∙ sym b.buffer)

-- the second body is the one whose IDONTWANTs count
pub record Serves (s ss cs : List ℕ) (edition : ℕ) (body second out vs : List ℕ) (r : ℕ) (ws left : List ℕ) : Type 0 where
  pub number : r ≡ (serve_told (serve_answer (node_in s) ss cs (edition_of edition) body second out)).number
  pub values : ws ≡ handed (serve_told (serve_answer (node_in s) ss cs (edition_of edition) body second out)) vs
  pub buffer : left ≡ serve_left (node_in s) ss cs (edition_of edition) body second out

pub one-serve : {s ss cs : List ℕ} {edition : ℕ} {body second out vs : List ℕ} {r r₂ : ℕ} {ws ws₂ left left₂ : List ℕ}
    → Serves s ss cs edition body second out vs r ws left → Serves s ss cs edition body second out vs r₂ ws₂ left₂
    → (r ≡ r₂) × (ws ≡ ws₂) × (left ≡ left₂)
one-serve a b = (a.number ∙ sym b.number, a.values ∙ sym b.values, a.buffer ∙ sym b.buffer)

-- ---- what a node holds; nothing is given to write but the values
pub record Settles (s vs : List ℕ) (r : ℕ) (ws : List ℕ) : Type 0 where
  pub number : r ≡ (settings_told (node_in s)).number
  pub values : ws ≡ sets (handed (settings_told (node_in s)) vs) 4 (flags_told (node_in s))

pub one-settings : {s vs : List ℕ} {r r₂ : ℕ} {ws ws₂ : List ℕ} → Settles s vs r ws → Settles s vs r₂ ws₂
    → (r ≡ r₂) × (ws ≡ ws₂)
one-settings a b = (a.number ∙ sym b.number, a.values ∙ sym b.values)

pub record States (s ss cs vs : List ℕ) (r : ℕ) (ws : List ℕ) : Type 0 where
  pub number : r ≡ (state_told (node_in s) ss cs).number
  pub values : ws ≡ handed (state_told (node_in s) ss cs) vs

pub one_state : {s ss cs vs : List ℕ} {r r₂ : ℕ} {ws ws₂ : List ℕ} → States s ss cs vs r ws → States s ss cs vs r₂ ws₂
    → (r ≡ r₂) × (ws ≡ ws₂)
one_state a b = (a.number ∙ sym b.number, a.values ∙ sym b.values)

-- ---- bodies
pub record Encodes (dialect : ℕ) (body out vs : List ℕ) (r : ℕ) (ws left : List ℕ) : Type 0 where
  pub number : r ≡ (encoded_told (encode_answer (dialect_of dialect) body out)).number
  pub values : ws ≡ handed (encoded_told (encode_answer (dialect_of dialect) body out)) vs
  pub buffer : left ≡ encode_left (dialect_of dialect) body out

pub one_encode : {dialect : ℕ} {body out vs : List ℕ} {r r₂ : ℕ} {ws ws₂ left left₂ : List ℕ} → Encodes dialect body out vs r ws left
    → Encodes dialect body out vs r₂ ws₂ left₂ → (r ≡ r₂) × (ws ≡ ws₂) × (left ≡ left₂)
one_encode a b = (a.number ∙ sym b.number, a.values ∙ sym b.values, a.buffer ∙ sym b.buffer)

pub record Signs (dialect : ℕ) (body : List ℕ) (i : ℕ) (out vs : List ℕ) (r : ℕ) (ws left : List ℕ) : Type 0 where
  pub number : r ≡ (message_told (sign_answer (dialect_of dialect) body i out)).number
  pub values : ws ≡ handed (message_told (sign_answer (dialect_of dialect) body i out)) vs
  pub buffer : left ≡ sign_left (dialect_of dialect) body i out

pub one_sign : {dialect : ℕ} {body : List ℕ} {i : ℕ} {out vs : List ℕ} {r r₂ : ℕ} {ws ws₂ left left₂ : List ℕ}
    → Signs dialect body i out vs r ws left → Signs dialect body i out vs r₂ ws₂ left₂ → (r ≡ r₂) × (ws ≡ ws₂) × (left ≡ left₂)
one_sign a b = (a.number ∙ sym b.number, a.values ∙ sym b.values, a.buffer ∙ sym b.buffer)

pub record Identifies (dialect : ℕ) (body : List ℕ) (i : ℕ) (out vs : List ℕ) (r : ℕ) (ws left : List ℕ) : Type 0 where
  pub number : r ≡ (message_told (id_answer [] (dialect_of dialect) body i out)).number
  pub values : ws ≡ handed (message_told (id_answer [] (dialect_of dialect) body i out)) vs
  pub buffer : left ≡ id_left [] (dialect_of dialect) body i out

pub one-id : {dialect : ℕ} {body : List ℕ} {i : ℕ} {out vs : List ℕ} {r r₂ : ℕ} {ws ws₂ left left₂ : List ℕ}
    → Identifies dialect body i out vs r ws left → Identifies dialect body i out vs r₂ ws₂ left₂
    → (r ≡ r₂) × (ws ≡ ws₂) × (left ≡ left₂)
one-id a b = (a.number ∙ sym b.number, a.values ∙ sym b.values, a.buffer ∙ sym b.buffer)

pub record Decodes (dialect : ℕ) (body t vs : List ℕ) (r : ℕ) (ws rows : List ℕ) : Type 0 where
  pub number : r ≡ (decoded_told (decode_answer (dialect_of dialect) body (length t))).number
  pub values : ws ≡ handed (decoded_told (decode_answer (dialect_of dialect) body (length t))) vs
  pub table : rows ≡ decode_table (dialect_of dialect) body t

pub one_decode : {dialect : ℕ} {body t vs : List ℕ} {r r₂ : ℕ} {ws ws₂ rows rows₂ : List ℕ} → Decodes dialect body t vs r ws rows
    → Decodes dialect body t vs r₂ ws₂ rows₂ → (r ≡ r₂) × (ws ≡ ws₂) × (rows ≡ rows₂)
one_decode a b = (a.number ∙ sym b.number, a.values ∙ sym b.values, a.table ∙ sym b.table)

pub record Walks (dialect : ℕ) (body : List ℕ) (at : ℕ) (vs : List ℕ) (r : ℕ) (ws : List ℕ) : Type 0 where
  pub number : r ≡ (walk_told (walk_step (dialect_of dialect).mode body at)).number
  pub values : ws ≡ handed (walk_told (walk_step (dialect_of dialect).mode body at)) vs

pub one-walk : {dialect : ℕ} {body : List ℕ} {at : ℕ} {vs : List ℕ} {r r₂ : ℕ} {ws ws₂ : List ℕ}
    → Walks dialect body at vs r ws → Walks dialect body at vs r₂ ws₂ → (r ≡ r₂) × (ws ≡ ws₂)
one-walk a b = (a.number ∙ sym b.number, a.values ∙ sym b.values)

-- ---- speaking first: the rows t over the bytes b
pub record Writes (t b : List ℕ) (flags : ℕ) (out vs : List ℕ) (r : ℕ) (ws left : List ℕ) : Type 0 where
  pub number : r ≡ (composed_told (write_answer flags t b out)).number
  pub values : ws ≡ handed (composed_told (write_answer flags t b out)) vs
  pub buffer : left ≡ write_left flags t b out

pub one_write : {t b : List ℕ} {flags : ℕ} {out vs : List ℕ} {r r₂ : ℕ} {ws ws₂ left left₂ : List ℕ}
    → Writes t b flags out vs r ws left → Writes t b flags out vs r₂ ws₂ left₂
    → (r ≡ r₂) × (ws ≡ ws₂) × (left ≡ left₂)
one_write a b = (a.number ∙ sym b.number, a.values ∙ sym b.values, a.buffer ∙ sym b.buffer)

pub record SignsFields (t b : List ℕ) (i : ℕ) (out vs : List ℕ) (r : ℕ) (ws left : List ℕ) : Type 0 where
  pub number : r ≡ (composed_told (fieldsAnswer t b i out)).number
  pub values : ws ≡ handed (composed_told (fieldsAnswer t b i out)) vs
  pub buffer : left ≡ fieldsLeft t b i out

pub one_sign_fields : {t b : List ℕ} {i : ℕ} {out vs : List ℕ} {r r₂ : ℕ} {ws ws₂ left left₂ : List ℕ}
    → SignsFields t b i out vs r ws left → SignsFields t b i out vs r₂ ws₂ left₂
    → (r ≡ r₂) × (ws ≡ ws₂) × (left ≡ left₂)
one_sign_fields a b = (a.number ∙ sym b.number, a.values ∙ sym b.values, a.buffer ∙ sym b.buffer)
