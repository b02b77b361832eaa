-- `letter::form::is_pn` meets its contract.
use Rattle.letter.proofs.form.is_pn.Goals as goal

pub returns-in-Collect : goal.returns-in-Collect
returns-in-Collect c =
    simp
    c.in-Collect.is

pub returns-in-Last : goal.returns-in-Last
returns-in-Last c =
    simp
    c.in-Last.is

pub returns-in-Begin : goal.returns-in-Begin
returns-in-Begin c =
    simp
    c.in-Begin.is

pub returns-in-Accept : goal.returns-in-Accept
returns-in-Accept c =
    simp
    c.in-Accept.is

pub returns-in-Commit : goal.returns-in-Commit
returns-in-Commit c =
    simp
    c.in-Commit.is

pub returns-in-Lease : goal.returns-in-Lease
returns-in-Lease c =
    simp
    c.in-Lease.is

pub returns-in-LeaseAck : goal.returns-in-LeaseAck
returns-in-LeaseAck c =
    simp
    c.in-LeaseAck.is
