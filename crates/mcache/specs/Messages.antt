-- The message cache as the scope, mcache.rs and the gossipsub document have it: messages with their ids, topics and
-- windows, the oldest first. A window is counted from the newest, which is 0.
use Rattle.std.specs.Prelude.{ℕ, suc, Bool, cond, ◌&&◌, List, [], ◌∷◌, ◌++◌, map, nat_lt}
use Rattle.basis.specs.declared.Mode.{Mode}
use Rattle.rows.specs.Rows.{newest}
use Rattle.rows.specs.Ids.{same_bytes, precedes_bytes, among}
use Rattle.admission.specs.Admission.{topics_of}
use Rattle.mcache.specs.declared.Offer.{Offer}
use Rattle.mcache.specs.declared.Offer.TheVariants as offer

pub record Cached : Type 0 where
  pub id : List ℕ
  pub message : List ℕ
  pub window : ℕ

-- its topics are the message's own
abbrev pub topics : Mode → Cached → List (List ℕ)
topics mode m = topics_of mode m.message

abbrev pub ids_of : List Cached → List (List ℕ)
ids_of ms = map (λ (m : Cached). m.id) ms

unfoldable pub held : List ℕ → List Cached → Bool
held id ms = among id (ids_of ms)

-- `put` of a held id does nothing; otherwise the message goes last, into the newest window, and past max_messages the
-- oldest goes
unfoldable pub put : ℕ → List ℕ → List ℕ → List Cached → List Cached
put max id message ms =
    cond (held id ms) ms (newest max (ms ++ (record { id = id; message = message; window = 0 } ∷ [])))

-- `shift` opens a window; what is in windows beyond history_len goes
unfoldable pub shift : ℕ → List Cached → List Cached
shift history [] = []
shift history (m ∷ ms) =
    cond (nat_lt (suc m.window) history)
    (record { id = m.id; message = m.message; window = suc m.window } ∷ shift history ms) (shift history ms)

-- `get`: the message with an id, empty for none
unfoldable pub get : List ℕ → List Cached → List ℕ
get id [] = []
get id (m ∷ ms) = cond (same_bytes m.id id) m.message (get id ms)

-- `gossip_ids`: those of the newest windows asked for that carry the topic
unfoldable pub carrying : Mode → List ℕ → ℕ → List Cached → List Cached
carrying mode topic windows [] = []
carrying mode topic windows (m ∷ ms) =
    cond (nat_lt m.window windows && among topic (topics mode m)) (m ∷ carrying mode topic windows ms)
    (carrying mode topic windows ms)

-- their ids in byte order, each once
unfoldable pub enter_id : List ℕ → List (List ℕ) → List (List ℕ)
enter_id i [] = i ∷ []
enter_id i (j ∷ js) = cond (same_bytes j i) (j ∷ js) (cond (precedes_bytes j i) (j ∷ enter_id i js) (i ∷ j ∷ js))

unfoldable pub in_order : List (List ℕ) → List (List ℕ)
in_order [] = []
in_order (i ∷ is) = enter_id i (in_order is)

unfoldable pub gossip_ids : Mode → List ℕ → ℕ → List Cached → List (List ℕ)
gossip_ids mode topic windows ms = in_order (ids_of (carrying mode topic windows ms))

-- ---- why an id is not among them
-- what is said of a message, by whether it carries the topic and its window's age: the topic is named before the window
abbrev pub offer_for : Bool → ℕ → ℕ → Offer
offer_for carried age windows =
    cond carried (cond (nat_lt age windows) offer.Listed (offer.OlderWindow age)) offer.WithoutTopic

-- of the message with the id
unfoldable pub offer_of : Mode → List ℕ → List ℕ → ℕ → List Cached → Offer
offer_of mode id topic windows [] = offer.NotCached
offer_of mode id topic windows (m ∷ ms) =
    cond (same_bytes m.id id) (offer_for (among topic (topics mode m)) m.window windows)
    (offer_of mode id topic windows ms)
