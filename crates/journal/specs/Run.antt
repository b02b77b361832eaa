-- The run of `until` with its answer as one number: 0 where it ran, the refusal's own number
-- where the call was refused, and 200 beside the number of the refusal that stopped it; and the
-- steps used.
use Rattle.std.specs.Prelude.{ℕ, ◌+◌, ◌≡◌, List}
use Rattle.rules.specs.Numbers.{refusal_number}
use Rattle.wait.specs.declared.model.Run.{Run}
use Rattle.until.specs.Until.{RunAfter, run_on}

abbrev pub run_number : Run → ℕ
run_number (Run.Ran used) = 0
run_number (Run.Stopped why used) = 200 + refusal_number why
run_number (Run.Refused why) = refusal_number why

-- the number that was lent, where the call is refused
abbrev pub run_used : Run → ℕ → ℕ
run_used (Run.Ran used) before = used
run_used (Run.Stopped why used) before = used
run_used (Run.Refused why) before = before

-- a run of at most so many steps on the words xs and ls: they have become xs' and ls', the number u
-- has become u', and r was answered
pub record RunAnswered (steps : ℕ) (xs ls xs' ls' : List ℕ) (u u' r : ℕ) : Type 0 where
  pub answer : Run
  pub after : RunAfter (run_on xs ls steps) xs ls xs' ls' answer
  pub number : r ≡ run_number answer
  pub used : u' ≡ run_used answer u
