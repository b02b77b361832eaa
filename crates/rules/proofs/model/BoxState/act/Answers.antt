-- `rules::model::BoxState::act` meets its contract.
use Rattle.rules.specs.Steps.{acted}
use Rattle.rules.proofs.model.BoxState.act.Goals as goal

pub returns-in-Recover : goal.returns-in-Recover
unfolding acted
returns-in-Recover c =
    simp (
      c.recover.ensures,
      c.in-Recover.is,
    )

pub returns-in-Collect : goal.returns-in-Collect
unfolding acted
returns-in-Collect c =
    simp (
      c.collect.ensures,
      c.in-Collect.is,
    )

pub returns-in-Ready : goal.returns-in-Ready
unfolding acted
returns-in-Ready c =
    simp (
      c.ready.ensures,
      c.in-Ready.is,
    )

pub returns-in-Offer : goal.returns-in-Offer
unfolding acted
returns-in-Offer c =
    simp (
      c.offer.ensures,
      c.in-Offer.is,
    )

pub returns-in-Propose : goal.returns-in-Propose
unfolding acted
returns-in-Propose c =
    simp (
      c.propose.ensures,
      c.in-Propose.is,
    )

pub returns-in-Agree : goal.returns-in-Agree
unfolding acted
returns-in-Agree c =
    simp (
      c.agree.ensures,
      c.in-Agree.is,
    )

pub returns-in-Finish : goal.returns-in-Finish
unfolding acted
returns-in-Finish c =
    simp (
      c.finish.ensures,
      c.in-Finish.is,
    )

pub returns-in-Heard : goal.returns-in-Heard
unfolding acted
returns-in-Heard c =
    simp (
      c.lease_heard.ensures,
      c.in-Heard.is,
    )

pub returns-in-Trim : goal.returns-in-Trim
unfolding acted
returns-in-Trim c =
    simp (
      c.trim.ensures,
      c.in-Trim.is,
    )
