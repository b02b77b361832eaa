-- Q-4, in statements alone: in a run only Propose is refused for want of room (7). A record that
-- Ready starts again had room in the book that it comes from, and a Begin comes from a leader that
-- had room for it; each brings the first with which it had.
use Rattle.std.specs.Prelude.{ℕ, ◌≡◌, List}
use Rattle.rules.specs.Step.{step, run}
use Rattle.rules.specs.declared.model.Answer.{Answer}
use Rattle.rules.specs.declared.model.Call.{Call}
use Rattle.rules.specs.declared.model.Refusal.{Refusal}
use Rattle.safety.specs.Demand3.{start}

pub record Rooms : Type 0 where
  -- for every n, J and L, and any calls from the fresh site
  pub ready : (n J L : ℕ) (calls : List Call) (c : ℕ)
      → (step (run (start n J L) calls) (Call.Ready c)).answer ≡ Answer.Refused Refusal.Book → ⊥
  -- of every kind of mail, and so of a Begin
  pub deliver : (n J L : ℕ) (calls : List Call) (a b : ℕ)
      → (step (run (start n J L) calls) (Call.Deliver a b)).answer ≡ Answer.Refused Refusal.Book
      → ⊥
