-- `checker::mail::check_letters` meets its contract: so many steps from thing to thing.
use borrow.Author.Rules.{rules}
use Rattle.image.proofs.LetterLaws.{letter-code}
use Rattle.cells.proofs.WalkLaws.{steps-found}
use Rattle.checker.proofs.mail.check_letters.Goals as goal

pub returns : goal.returns
returns c =
    steps-found c.args.n (λ p r within is. search rules) c.requires.at_in_bounds
    (letter-code c.args.j c.requires.j_le_most_loads)
    (λ y good. good) c.walk.result c.walk.ensures
