-- `rules::model::Kept::take_book` meets its contract.
use Rattle.rules.proofs.PartLaws.{whole-book}
use Rattle.rules.proofs.Tests.{tests}
use Rattle.rules.specs.Parts.{took_book}
use Rattle.rules.proofs.model.Kept.take_book.Goals as goal

pub returns-then-last-f : goal.returns-then-last-f
returns-then-last-f c =
    whole-book _ _ _ _ c.span-whole.ensures c.if-last-f.true

pub returns-then-last-l : goal.returns-then-last-l
unfolding took_book
returns-then-last-l c = search tests

pub returns : goal.returns
unfolding took_book
returns c = search tests
