-- `agreed_at` of `agreed` with its answer as one number, 0 or the refusal's, and three more: the
-- first number, the word at which its record stands, how many there are.
use Rattle.std.specs.Prelude.{ℕ, ◌≡◌, Result}
use Rattle.rules.specs.declared.model.Refusal.{Refusal}
use Rattle.agreed.specs.declared.Listed.{Listed}
use Rattle.journal.specs.Answered.{number_of, or_before}

abbrev pub listed : ℕ → ℕ → ℕ → Listed
listed first place count = record { first = first; place = place; count = count }

-- the entry says a; the numbers have become primed ones, and r was answered
pub record AgreedAnswered (a : Result Listed Refusal) (f p m f' p' m' r : ℕ) : Type 0 where
  pub answer : Result Listed Refusal
  pub is : answer ≡ a
  pub number : r ≡ number_of answer
  pub first : f' ≡ (or_before answer (listed f p m)).first
  pub place : p' ≡ (or_before answer (listed f p m)).place
  pub many : m' ≡ (or_before answer (listed f p m)).count
