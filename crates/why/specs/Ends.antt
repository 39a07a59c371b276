-- How long content may be, and which records end a run with `bad`. That a record is cut is told by its header and its
-- content.
use Rattle.std.specs.Prelude.{ℕ, ◌+◌, ◌*◌, List, Bool, true, cond, length, ltb, eqb}
use Rattle.seen.specs.State.{id_size, max_ids}
use Rattle.mcache.specs.State.{message_size, message_limit}
use Rattle.stored.specs.Layout.{node_size}
use Rattle.play.specs.Ends.{no_question, is_bad}

-- a gateway's as long as the bytes of the largest, and else as in a trace
abbrev pub most_content : ℕ → ℕ
most_content kind = cond (eqb kind 13) (node_size + max_ids * id_size + message_limit * message_size) 32768

-- bytes that hold no node; a question that is cut, or comes before there is a gateway; and what ends a trace
unfoldable pub ends_run : Bool → ℕ → List ℕ → Bool
ends_run started kind s =
    cond (eqb kind 13) (ltb (length s) node_size)
    (cond (eqb kind 12) (cond started (no_question s) true) (is_bad started kind s))
