use Rattle.site.specs.Verdicts.{verdict_of}
use Rattle.rules.specs.Pick.{pick}
use Rattle.rules.specs.Turns.{unless}
use Rattle.site.proofs.verdicts.elect_verdict.Goals as goal

pub returns : goal.returns
unfolding verdict_of unless pick
returns c =
    simp (
      c.unless.ensures,
      c.unless-b.ensures,
      c.unless-c.ensures,
      c.is_even-due.ensures,
      c.count.ensures,
      c.requires.0,
    )
