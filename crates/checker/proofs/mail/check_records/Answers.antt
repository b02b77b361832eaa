-- `checker::mail::check_records` meets its contract: so many steps from thing to thing.
use borrow.Author.Rules.{rules}
use Rattle.cells.proofs.CodeLaws.{le-code}
use Rattle.image.proofs.RecordLaws.{proper-below}
use Rattle.cells.proofs.WalkLaws.{steps-found}
use Rattle.checker.proofs.mail.check_records.Goals as goal

pub returns : goal.returns
returns c =
    steps-found c.args.n (λ p r within is. search rules) c.requires (le-code 8)
    (λ x. proper-below) c.walk.result c.walk.ensures
