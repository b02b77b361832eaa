-- `rules::model::BoxState::on_last` meets its contract.
use Rattle.rules.specs.Last.{on_last}
use Rattle.rules.proofs.model.BoxState.on_last.Goals as goal

pub returns : goal.returns
unfolding on_last
returns c =
    simp (
      c.settle.ensures,
      c.takes-t.ensures,
      c.mail_from-commit.ensures,
      c.laggards-to.ensures,
      c.note.ensures,
      c.take-took.ensures,
      c.answer-b.ensures,
      c.be_told-told.ensures,
      c.judge_last-v.ensures,
      c.take_book-book.ensures,
    )
