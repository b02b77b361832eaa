-- `rules::model::BoxState::settle` meets its contract.
use Rattle.rules.specs.Turns.{settled}
use Rattle.rules.proofs.model.BoxState.settle.Goals as goal

pub returns-in-Go : goal.returns-in-Go
unfolding settled
returns-in-Go c =
    simp
    c.in-Go.is

pub returns-in-Discard : goal.returns-in-Discard
unfolding settled
returns-in-Discard c =
    simp (
      c.stay.ensures,
      c.in-Discard.is,
    )

pub returns-in-Refuse : goal.returns-in-Refuse
unfolding settled
returns-in-Refuse c =
    simp (
      c.stay-in-Refuse.ensures,
      c.in-Refuse.is,
    )
