-- The ids that an RPC names: in its IHAVEs, in its IWANTs and in its IDONTWANTs, in their order.
use Rattle.std.specs.Prelude.{Option, Some, None, ℕ, List, [], ◌∷◌, ◌++◌}
use Rattle.rpc.specs.Rpc.{ControlIHave, ControlIWant, ControlIDontWant, ControlMessage, Rpc}

abbrev pub ihave_ids : List ControlIHave → List (List ℕ)
ihave_ids [] = []
ihave_ids (h ∷ hs) = h.message_ids ++ ihave_ids hs

abbrev pub iwant_ids : List ControlIWant → List (List ℕ)
iwant_ids [] = []
iwant_ids (w ∷ ws) = w.message_ids ++ iwant_ids ws

abbrev pub idontwant_ids : List ControlIDontWant → List (List ℕ)
idontwant_ids [] = []
idontwant_ids (w ∷ ws) = w.message_ids ++ idontwant_ids ws

abbrev pub offers_in : Option ControlMessage → List (List ℕ)
offers_in None = []
offers_in (Some c) = ihave_ids c.ihave

abbrev pub wants_in : Option ControlMessage → List (List ℕ)
wants_in None = []
wants_in (Some c) = iwant_ids c.iwant

abbrev pub declined_in : Option ControlMessage → List (List ℕ)
declined_in None = []
declined_in (Some c) = idontwant_ids c.idontwant

abbrev pub offers_of : Rpc → List (List ℕ)
offers_of x = offers_in x.control

abbrev pub wants_of : Rpc → List (List ℕ)
wants_of x = wants_in x.control

abbrev pub unwanted_of : Rpc → List (List ℕ)
unwanted_of x = declined_in x.control
