-- `rules::model::Kept::unagreed` meets its contract.
use Rattle.rules.specs.Mails.{unagreed_of}
use Rattle.rules.proofs.model.Kept.unagreed.Goals as goal

pub returns-in-Some : goal.returns-in-Some
unfolding unagreed_of
returns-in-Some c =
    simp (
      c.under.ensures,
      c.in-Some.is,
    )

pub returns-in-None : goal.returns-in-None
unfolding unagreed_of
returns-in-None c =
    simp
    c.in-None.is
