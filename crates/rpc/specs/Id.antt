-- The id of a message, from the scope: from and then seqno, of 1 to 64 bytes each; or the first of refusals 21, 22 and
-- 23 that it meets.
use Rattle.std.specs.Prelude.{Option, Some, None, ℕ, Bool, cond, ◌||◌, List, ◌++◌, length, ltb, eqb}
use Rattle.rpc.specs.Rpc.{RawMessage}

pub data Id : Type 0 where
  no-from : Id
  bad-from : ℕ → Id
  bad-seqno : Id
  id : List ℕ → Id

-- no bytes, or more than 64
abbrev pub unfit : List ℕ → Bool
unfit d = eqb (length d) 0 || ltb 64 (length d)

abbrev pub with_seqno : List ℕ → Option (List ℕ) → Id
with_seqno from None = bad-seqno
with_seqno from (Some seqno) = cond (unfit seqno) bad-seqno (id (from ++ seqno))

abbrev pub with_from : Option (List ℕ) → Option (List ℕ) → Id
with_from None seqno = no-from
with_from (Some from) seqno = cond (unfit from) (bad-from (length from)) (with_seqno from seqno)

unfoldable pub message_id : RawMessage → Id
message_id m = with_from m.from m.seqno
