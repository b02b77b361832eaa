-- The calls of `desk` with their answers as one number, 0 or the refusal's; and the right frame of
-- a pair.
use Rattle.std.specs.Prelude.{ℕ, ◌≡◌, List}
use Rattle.desk.specs.Sides.{Outcome, SideIs}
use Rattle.desk.specs.Desk.{number_of}
use Rattle.desk.specs.Offer.{PairIs}
use Rattle.std.specs.Prelude.{⊤, Result}
use Rattle.desk.specs.declared.answers.Why.{Why}
use Rattle.journal.specs.Answered.{or_before}

-- the desk's words have become ws', and r was answered
pub record DeskAnswered (o : Outcome) (ws' : List ℕ) (r : ℕ) : Type 0 where
  pub answer : Result ⊤ Why
  pub side : SideIs o ws' answer
  pub number : r ≡ number_of answer

-- the left frame f is paired: the number g has become g', and r was answered
pub record PairAnswered (f : ℕ) (ws xs ls ws' xs' ls' : List ℕ) (g g' r : ℕ) : Type 0 where
  pub answer : Result ℕ Why
  pub pair : PairIs f ws xs ls ws' xs' ls' answer
  pub number : r ≡ number_of answer
  pub right : g' ≡ or_before answer g
