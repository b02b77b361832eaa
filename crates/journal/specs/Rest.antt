-- The step `rest` with its answer as one number.
use Rattle.std.specs.Prelude.{ℕ, ◌≡◌, List}
use Rattle.rules.specs.Numbers.{answer_number}
use Rattle.site.specs.Entries.{After}
use Rattle.rested.specs.Rested.{rest_on}

-- `rest` on the words xs and ls: they have become xs' and ls', and r was answered
pub record RestAnswered (xs ls xs' ls' : List ℕ) (r : ℕ) : Type 0 where
  pub number : r ≡ answer_number (rest_on xs ls).answer
  pub after : After (rest_on xs ls) xs ls xs' ls' (rest_on xs ls).answer
