-- `rules::model::Mail::bounded` meets its contract.
use Rattle.rules.specs.Bounds.{bounded_mail}
use Rattle.rules.proofs.model.Mail.bounded.Goals as goal

pub returns : goal.returns
unfolding bounded_mail
returns c = c.are_bounded.ensures
