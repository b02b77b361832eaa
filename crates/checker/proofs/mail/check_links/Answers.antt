-- `checker::mail::check_links` meets its contract: so many steps from thing to thing.
use borrow.Author.Rules.{rules}
use Rattle.image.proofs.LetterLaws.{link-code}
use Rattle.cells.proofs.WalkLaws.{steps-found}
use Rattle.checker.proofs.mail.check_links.Goals as goal

pub returns : goal.returns
returns c =
    steps-found c.args.m (λ p r within is. search rules) c.requires.at_in_bounds
    (link-code c.args.j c.args.l c.requires.j_le_most_loads.0
    c.requires.j_le_most_loads.1)
    (λ ys good. good) c.walk.result c.walk.ensures
