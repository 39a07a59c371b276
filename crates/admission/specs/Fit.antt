-- Which messages are fit, from the documents and the scope's table: the sender is a peer id; there is a signature of 64
-- bytes, the key is the sender's, as far as the bytes tell, and the host gave its word; or there is neither signature nor
-- key, and the flags allow that; the limits are kept. FitLaws: a message is taken exactly then.
use Rattle.std.specs.Prelude.{Option, Some, None, Ok, ℕ, ◌-◌, ◌≤◌, ◌≡◌, Bool, true, List, length}
use Rattle.basis.specs.declared.Mode.{Mode}
use Rattle.basis.specs.Dialect.{mode_of}
use Rattle.peer_id.specs.Multihash.{Hash, identity, sha_256, IsPeerId}
use Rattle.key.specs.declared.KeyType.{KeyType}
use Rattle.key.specs.Key.{IsKey}
use Rattle.protobuf.specs.Walk.{between}
use Rattle.schema.specs.declared.Kind.TheVariants as kind
use Rattle.schema.specs.declared.Place.{Place}
use Rattle.schema.specs.declared.Place.TheVariants as place
use Rattle.schema.specs.Slots.{slots_of}
use Rattle.ids.specs.Ids.{id_parts}
use Rattle.admission.specs.Flags.{allows_unsigned}
use Rattle.admission.specs.Admission.{topics_of, first_long}

-- the key of a message whose sender is s
pub data KeyOf (s : List ℕ) : Option (List ℕ) → Type 0 where
  -- there is none, and the sender is an identity over one
  inside : {d k : List ℕ} {t : KeyType} → IsPeerId s identity d → IsKey d t k → KeyOf s None
  -- the sender is an identity over it
  same : {d k : List ℕ} {t : KeyType} → IsPeerId s identity d → IsKey d t k → KeyOf s (Some d)
  -- the sender is a SHA-256 multihash; that the key has this hash is in the host's word
  hashed : {c d k : List ℕ} {t : KeyType} → IsPeerId s sha_256 d → IsKey c t k → KeyOf s (Some c)

-- what stands in a place of a message
abbrev pub given_at : List ℕ → Place → Option (List ℕ)
given_at p place.Absent = None
given_at p (place.Present a e) = Some (between p a e)

-- a signature of 64 bytes
pub record Signed (s : Place) : Type 0 where
  pub start : ℕ
  pub next : ℕ
  pub there : s ≡ place.Present start next
  pub size : next - start ≡ 64

-- 1 to 4 topics of at most 1,024 bytes, and at most 4,096 bytes in all
pub record Limits (mode : Mode) (p : List ℕ) : Type 0 where
  pub some : 1 ≤ length (topics_of mode p)
  pub few : length (topics_of mode p) ≤ 4
  pub short : first_long (topics_of mode p) ≡ 0
  pub small : length p ≤ 4096

-- what stands behind a message whose sender is s
pub data Backed (flags : ℕ) (p : List ℕ) (word : Bool) (s : List ℕ) : Type 0 where
  signed : Signed (slots_of (mode_of flags) kind.RawMessage p).fourth
      → KeyOf s (given_at p (slots_of (mode_of flags) kind.RawMessage p).fifth) → word ≡ true
      → Backed flags p word s
  -- neither signature nor key; the host's word does not matter
  unsigned : allows_unsigned flags ≡ true → (slots_of (mode_of flags) kind.RawMessage p).fourth ≡ place.Absent
      → (slots_of (mode_of flags) kind.RawMessage p).fifth ≡ place.Absent → Backed flags p word s

-- from stands from a to e, seqno from b to f
pub record IsFit (flags : ℕ) (p : List ℕ) (word : Bool) (a e b f : ℕ) : Type 0 where
  pub parts : id_parts (mode_of flags) p ≡ Ok ((a, e), (b, f))
  pub hash : Hash
  pub digest : List ℕ
  pub peer : IsPeerId (between p a e) hash digest
  pub backed : Backed flags p word (between p a e)
  pub limits : Limits (mode_of flags) p
