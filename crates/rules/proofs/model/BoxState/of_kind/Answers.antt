-- `rules::model::BoxState::of_kind` meets its contract.
use Rattle.rules.specs.Mails.{of_kind}
use Rattle.rules.proofs.model.BoxState.of_kind.Goals as goal

pub returns-in-Collect : goal.returns-in-Collect
unfolding of_kind
returns-in-Collect c =
    simp (
      c.on_collect.ensures,
      c.in-Collect.is,
    )

pub returns-in-Last : goal.returns-in-Last
unfolding of_kind
returns-in-Last c =
    simp (
      c.on_last.ensures,
      c.in-Last.is,
    )

pub returns-in-Begin : goal.returns-in-Begin
unfolding of_kind
returns-in-Begin c =
    simp (
      c.on_begin.ensures,
      c.in-Begin.is,
    )

pub returns-in-Accept : goal.returns-in-Accept
unfolding of_kind
returns-in-Accept c =
    simp (
      c.on_accept.ensures,
      c.in-Accept.is,
    )

pub returns-in-Commit : goal.returns-in-Commit
unfolding of_kind
returns-in-Commit c =
    simp (
      c.on_commit.ensures,
      c.in-Commit.is,
    )

pub returns-in-Lease : goal.returns-in-Lease
unfolding of_kind
returns-in-Lease c =
    simp (
      c.on_lease.ensures,
      c.in-Lease.is,
    )

pub returns-in-LeaseAck : goal.returns-in-LeaseAck
unfolding of_kind
returns-in-LeaseAck c =
    simp (
      c.on_lease_ack.ensures,
      c.in-LeaseAck.is,
    )
