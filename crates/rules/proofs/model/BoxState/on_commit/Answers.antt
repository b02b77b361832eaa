-- `rules::model::BoxState::on_commit` meets its contract.
use Rattle.rules.specs.Mails.{on_commit}
use Rattle.rules.proofs.model.BoxState.on_commit.Goals as goal

pub returns : goal.returns
unfolding on_commit
returns c =
    simp (
      c.settle.ensures,
      c.takes-t.ensures,
      c.take_book.ensures,
      c.clear.ensures,
      c.take-kept.ensures,
      c.first_cause-v.ensures,
    )
