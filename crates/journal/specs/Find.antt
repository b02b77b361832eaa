-- The question `find` with its answer as one number, 0 or the refusal's, and a load's number: 0
-- where no load has the frame, for numbers begin at 1.
use Rattle.std.specs.Prelude.{ℕ, ◌≡◌}
use Rattle.rules.specs.declared.model.Refusal.{Refusal}
use Rattle.std.specs.Prelude.{Option, unwrap_or, Result, Ok, Err}
use Rattle.journal.specs.Answered.{number_of}

-- the number that was lent, where the call is refused
abbrev pub found_number : Result (Option ℕ) Refusal → ℕ → ℕ
found_number (Ok load) before = unwrap_or load 0
found_number (Err why) before = before

-- the entry says w; the number k has become k', and r was answered
pub record FindAnswered (w : Result (Option ℕ) Refusal) (k k' r : ℕ) : Type 0 where
  pub answer : Result (Option ℕ) Refusal
  pub is : answer ≡ w
  pub number : r ≡ number_of answer
  pub load : k' ≡ found_number answer k
