use borrow.Author.Rules.{rules}
use Rattle.letter.proofs.form.is_first.Goals as goal

pub is_first-carried-requires : goal.is_first-carried-requires
is_first-carried-requires c = search rules

pub enum_told-1 : goal.enum_told-1
enum_told-1 c = search rules

pub enum_told-in-Last : goal.enum_told-in-Last
enum_told-in-Last c = search rules

pub enum_told-in-Begin : goal.enum_told-in-Begin
enum_told-in-Begin c = search rules

pub enum_told-in-Accept : goal.enum_told-in-Accept
enum_told-in-Accept c = search rules

pub enum_told-in-Commit : goal.enum_told-in-Commit
enum_told-in-Commit c = search rules

pub enum_told-in-Lease : goal.enum_told-in-Lease
enum_told-in-Lease c = search rules

pub enum_told-in-LeaseAck : goal.enum_told-in-LeaseAck
enum_told-in-LeaseAck c = search rules

pub returns-in-Collect : goal.returns-in-Collect
returns-in-Collect c =
    simp (
      c.in-Collect.is,
      c.is_first-carried.ensures,
    )

pub returns-in-Last : goal.returns-in-Last
returns-in-Last c =
    simp (
      c.in-Last.is,
      c.is_first-carried.ensures,
    )

pub returns-in-Begin : goal.returns-in-Begin
returns-in-Begin c =
    simp (
      c.in-Begin.is,
      c.is_first-carried.ensures,
    )

pub returns-in-Accept : goal.returns-in-Accept
returns-in-Accept c =
    simp (
      c.in-Accept.is,
      c.is_first-carried.ensures,
    )

pub returns-in-Commit : goal.returns-in-Commit
returns-in-Commit c =
    simp (
      c.in-Commit.is,
      c.is_first-carried.ensures,
    )

pub returns-in-Lease : goal.returns-in-Lease
returns-in-Lease c =
    simp (
      c.in-Lease.is,
      c.is_first-carried.ensures,
    )

pub returns-in-LeaseAck : goal.returns-in-LeaseAck
returns-in-LeaseAck c =
    simp (
      c.in-LeaseAck.is,
      c.is_first-carried.ensures,
    )
