-- By the call: each need in turn.
use Rattle.site.specs.Verdicts.{verdict_of}
use Rattle.site.proofs.verdicts.presence_verdict.Goals as goal

pub returns-in-Stop : goal.returns-in-Stop
unfolding verdict_of
returns-in-Stop c =
    rw c.in-Stop.is
    (simp (c.unless.ensures, c.unless-last.ensures, c.requires))

pub returns-in-Return : goal.returns-in-Return
unfolding verdict_of
returns-in-Return c =
    rw c.in-Return.is
    (simp (c.unless-in-Return.ensures, c.unless-last.ensures, c.requires))

pub returns-in-Timeout : goal.returns-in-Timeout
unfolding verdict_of
returns-in-Timeout c =
    rw c.in-Timeout.is
    (simp (
      c.unless-in-Timeout.ensures,
      c.unless-even.ensures,
      c.is_even.ensures,
      c.unless-last.ensures,
      c.requires,
    ))
