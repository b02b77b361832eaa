-- The question `unheard` of `site` and `own` with its answer as one number, 0 or the refusal's, and
-- a set of boxes.
use Rattle.std.specs.Prelude.{ℕ, ◌≡◌, Result}
use Rattle.rules.specs.declared.model.Refusal.{Refusal}
use Rattle.journal.specs.Answered.{number_of, or_before}

-- the entry says u; the set w has become w', and r was answered; where the call is refused the set
-- is the one that was lent
pub record UnheardAnswered (u : Result ℕ Refusal) (w w' r : ℕ) : Type 0 where
  pub answer : Result ℕ Refusal
  pub is : answer ≡ u
  pub number : r ≡ number_of answer
  pub set : w' ≡ or_before answer w
