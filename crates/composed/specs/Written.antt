-- What the theorems about written RPCs suppose of what is lent and of an RPC.
use Rattle.std.specs.Prelude.{Option, Some, None, Ok, ℕ, ◌+◌, ◌^◌, ◌≤◌, ◌<◌, ◌≡◌, List, [], ◌∷◌, ◌++◌, map, length, drop, get_or, eqb}
use Rattle.basis.specs.declared.Dialect.{Dialect}
use Rattle.basis.specs.Bytes.{Bytes}
use Rattle.basis.specs.Told.{done}
use Rattle.utf8.specs.Grammar.{Utf8}
use Rattle.message.specs.Decode.{decode_answer, decode_table}
use Rattle.message.specs.Told.{decoded_told}
use Rattle.rpc.specs.Rpc.{ControlPrune, ControlMessage, Rpc}
use Rattle.rpc.specs.Grammar.{Each}
use Rattle.rpc.specs.Encode.{encode_rpc}
use Rattle.meaning.specs.ReadBack.{read_back}
use Rattle.meaning.specs.Table.{rows_in}
use Rattle.meaning.specs.Decoded.{present}
use Rattle.canonical.specs.Means.{opt, Small}
use Rattle.compose.specs.Lent.{lent_rows}
use Rattle.compose.specs.Said.{encode_message, renewed, control_of, said}
use Rattle.compose.specs.Compose.{lists_of, write_tested, write_answer, write_left}

-- each word of a lent table is below 2^64
abbrev pub Words : List ℕ → Type 0
Words t = (i : ℕ) → get_or t i 0 < 2 ^ 64

-- ---- texts are UTF-8, and numbers are below 2^64
pub record PlainPrune (p : ControlPrune) : Type 0 where
  pub topic : Each Utf8 (opt p.topic_id)
  pub backoff : Each Small (opt p.backoff)

pub record PlainControl (c : ControlMessage) : Type 0 where
  pub grafts : Each (λ g. Each Utf8 (opt g.topic_id)) c.graft
  pub prunes : Each PlainPrune c.prune

pub record Plain (x : Rpc) : Type 0 where
  pub subscriptions : Each (λ o. Each Utf8 (opt o.topic_id)) x.subscriptions
  pub publish : Each (λ m. Each Utf8 m.topic_ids) x.publish
  pub control : Each PlainControl (opt x.control)

-- ---- what lists can say: no IHAVE, no IWANT and no IDONTWANT, no empty control, and each message stands as its fields
-- are encoded
pub record Quiet (c : ControlMessage) : Type 0 where
  pub ihave : c.ihave ≡ []
  pub iwant : c.iwant ≡ []
  pub idontwant : c.idontwant ≡ []

pub record Spoken (c : ControlMessage) : Type 0 where
  pub quiet : Quiet c
  pub there : 0 < length c.graft + length c.prune

pub record Sayable (x : Rpc) : Type 0 where
  pub raws : Each (λ m. m.raw ≡ encode_message m) x.publish
  pub control : Each Spoken (opt x.control)

-- what they say of an RPC that was read: each message made anew, and no empty control
abbrev pub control_anew : Option ControlMessage → Option ControlMessage
control_anew None = None
control_anew (Some c) = control_of c.graft c.prune

abbrev pub anew : Rpc → Rpc
anew x =
    record {
      subscriptions = x.subscriptions;
      publish = map renewed x.publish;
      control = control_anew x.control;
    }

-- ---- what is lent, and what is written of it
-- the RPC that lists say, and its bytes
abbrev pub said_of : List ℕ → List ℕ → Rpc
said_of t b = said b (lent_rows t)

abbrev pub body_of : List ℕ → List ℕ → List ℕ
body_of t b = encode_rpc (said_of t b)

-- n bytes were written under some flags: every test was passed, they are those of the RPC, they fit, and nothing else of the buffer changed
pub record Wrote (flags : ℕ) (t b out : List ℕ) (n : ℕ) : Type 0 where
  pub tested : write_tested flags t b ≡ Ok tt
  pub count : n ≡ length (body_of t b)
  pub fits : n ≤ length out
  pub left : write_left flags t b out ≡ body_of t b ++ drop n out

-- decode takes a body in a dialect, lent that table: it tells n records and whether there is a control, and they read
-- back as the RPC
pub record Reads (d : Dialect) (s : List ℕ) (x : Rpc) (n : ℕ) (table : List ℕ) : Type 0 where
  pub told : decoded_told (decode_answer d s (length table)) ≡ done (n ∷ present x.control ∷ [])
  pub says : read_back s (rows_in (decode_table d s table) 0 n) (eqb (present x.control) 1) ≡ x

-- lists u over c say the same RPC as t over b, and are written alike under some flags
pub record Alike (flags : ℕ) (t b u c : List ℕ) : Type 0 where
  pub tested : write_tested flags u c ≡ Ok tt
  pub says : said_of u c ≡ said_of t b
  pub answers : (out : List ℕ) → write_answer flags u c out ≡ write_answer flags t b out
  pub leaves : (out : List ℕ) → write_left flags u c out ≡ write_left flags t b out

-- lists that are lent well, of at most 512 rows with UTF-8 in topics, and say an RPC
pub record Lends (t b : List ℕ) (x : Rpc) : Type 0 where
  pub fine : lists_of t b ≡ Ok tt
  pub says : said_of t b ≡ x

-- lists that can be lent and say an RPC
pub record CanSay (x : Rpc) : Type 0 where
  pub table : List ℕ
  pub bytes : List ℕ
  pub words : Words table
  pub octets : Bytes bytes
  pub lends : Lends table bytes x
