-- Under the premises a message that is delivered is got: it is answered new the first time that it comes in, duplicate
-- every other time, and never refused.
use Rattle.std.specs.Prelude.{Ok, ℕ, ◌+◌, ◌≤◌, ◌≡◌, Bool, true, false}
use mathlib.Core.List.{List}
use Rattle.basis.specs.declared.Edition.{Edition}
use Rattle.node.specs.declared.Novelty.TheVariants as novelty
use Rattle.history.specs.History.{State, Call, admit, after_all, refusal_at, times_got, answer_in}

-- ---- one call: how often the message is got, new and duplicate, and whether it was got before it and is after it
pub data One (got new duplicate : ℕ) (was now : Bool) : Type 0 where
  not-this : got ≡ 0 → new ≡ 0 → duplicate ≡ 0 → now ≡ was → One got new duplicate was now
  first_time : got ≡ 1 → new ≡ 1 → duplicate ≡ 0 → was ≡ false → now ≡ true → One got new duplicate was now
  once_more : got ≡ 1 → new ≡ 0 → duplicate ≡ 1 → was ≡ true → now ≡ true → One got new duplicate was now

-- ---- some calls
pub record Several (got new duplicate : ℕ) (was : Bool) : Type 0 where
  pub answered : got ≡ new + duplicate
  pub never : was ≡ true → new ≡ 0
  pub once : was ≡ false → 1 ≤ got → new ≡ 1

-- ---- an admit of a history that brings a message: how it is answered, after the calls before it
pub record Delivered (flags : ℕ) (m : List ℕ) (before : List Call) (ed : Edition) (body : List ℕ) (i : ℕ) (word : Bool)
    (at : ℕ) (s : State) : Type 0 where
  -- new where no call before it brought the message
  pub first_time : times_got flags m before ≡ 0 → answer_in (after_all before s) ed body i word at ≡ Ok novelty.New
  -- duplicate where one did
  pub other_times : 1 ≤ times_got flags m before → answer_in (after_all before s) ed body i word at ≡ Ok novelty.Duplicate
  -- and never refused
  pub not-refused : refusal_at (after_all before s) (admit ed body i word at) ≡ 0
