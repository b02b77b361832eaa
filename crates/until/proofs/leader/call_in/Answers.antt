use Rattle.until.proofs.leader.call_in.Goals as goal

pub returns-in-Election : goal.returns-in-Election
returns-in-Election c = rw c.in-Election.is

pub returns-in-SendCollect : goal.returns-in-SendCollect
returns-in-SendCollect c = rw c.in-SendCollect.is

pub returns-in-Collect : goal.returns-in-Collect
returns-in-Collect c = rw c.in-Collect.is

pub returns-in-Lease : goal.returns-in-Lease
returns-in-Lease c = rw c.in-Lease.is

pub returns-in-Begin : goal.returns-in-Begin
returns-in-Begin c = rw c.in-Begin.is

pub returns-in-Commit : goal.returns-in-Commit
returns-in-Commit c = rw c.in-Commit.is

pub returns-in-LeaseDone : goal.returns-in-LeaseDone
returns-in-LeaseDone c = rw c.in-LeaseDone.is
