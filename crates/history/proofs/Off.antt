-- Where the flags allow no unsigned message, a call brings what it brought before there were flags, in their mode.
use Rattle.std.specs.Prelude.{Option, None, Result, Ok, Err, ℕ, ◌≡◌, Bool, cond, List}
use Rattle.std.proofs.Math.Path.{refl}
use Rattle.std.proofs.Math.Bool.{true, false}
use Rattle.basis.specs.Dialect.{mode_of, spoken}
use Rattle.protobuf.specs.declared.Refusal.{Refusal}
use Rattle.schema.specs.Accept.{accept_of}
use Rattle.ids.specs.Ids.{message_at}
use Rattle.admission.specs.Flags.{allows_unsigned}
use Rattle.admission.specs.Admission.{vouched}
use Rattle.history.specs.History.{Call, admit, heartbeat, advertise, ask, serve, explain, standing, where_accepted}
use Rattle.history.specs.History.{brought}
use Rattle.history.specs.Off.{standing_was, brought_was}

-- ---- with the flag off it is that
module _ (flags : ℕ) (off : allows_unsigned flags ≡ false) where
  standing_off : (word : Bool) (body : List ℕ) (r : Result (ℕ × ℕ) ℕ)
      → standing flags word body r ≡ cond word (standing_was body r) None
  unfolding vouched
  standing_off true body (Ok (a, e)) = refl
  standing_off false body (Ok (a, e)) = rw off
  standing_off true body (Err n) = refl
  standing_off false body (Err n) = refl

  accepted_off : (word : Bool) (r : Result (Unit {0}) Refusal) (now was : Option (List ℕ)) → now ≡ cond word was None
      → where_accepted r now ≡ cond word (where_accepted r was) None
  accepted_off word (Ok tt) now was e = e
  accepted_off true (Err why) now was e = refl
  accepted_off false (Err why) now was e = refl

  pub brought_off : (c : Call) → brought flags c ≡ brought_was (mode_of flags) c
  unfolding brought brought_was
  brought_off (admit ed body i word at) =
      accepted_off word (accept_of (spoken (mode_of flags) ed) body)
      (standing flags word body (message_at (mode_of flags) body i))
      (standing_was body (message_at (mode_of flags) body i)) (standing_off word body (message_at (mode_of flags) body i))
  brought_off (heartbeat at) = refl
  brought_off (advertise topic windows out) = refl
  brought_off (ask ed body out) = refl
  brought_off (serve ed body second out) = refl
  brought_off (explain id topic windows) = refl
