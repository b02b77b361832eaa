-- `desk::withdraw` meets its contract: on the part that is the side.
use Rattle.std.proofs.Common.{arith}
use Rattle.desk.specs.Sides.{withdraw_from}
use Rattle.desk.specs.Desk.{withdrawn, on_side}
use Rattle.desk.specs.declared.answers.Side.{Side}
use Rattle.desk.proofs.DeskLaws.{named-short, named-zero, named-on}
use Rattle.desk.proofs.entries.withdraw.Goals as goal

pub returns-then-desk-lt64 : goal.returns-then-desk-lt64
unfolding withdrawn
returns-then-desk-lt64 c =
    named-short c.args.frame (on_side c.args.side (withdraw_from c.args.frame)) c.args.desk.now
    c.if-desk-lt64.true

pub returns-then-frame-eq0 : goal.returns-then-frame-eq0
unfolding withdrawn
returns-then-frame-eq0 c =
    named-zero c.args.frame (on_side c.args.side (withdraw_from c.args.frame)) c.args.desk.now
    (omega arith) c.if-frame-eq0.true

pub returns-in-Left : goal.returns-in-Left
unfolding withdrawn
returns-in-Left c =
    rw c.in-Left.is
    (named-on c.args.frame Side.Left (withdraw_from c.args.frame) c.args.desk.now (omega arith)
    c.if-frame-eq0.false c.withdraw_from.ensures)

pub returns-in-Right : goal.returns-in-Right
unfolding withdrawn
returns-in-Right c =
    rw c.in-Right.is
    (named-on c.args.frame Side.Right (withdraw_from c.args.frame) c.args.desk.now (omega arith)
    c.if-frame-eq0.false c.withdraw_from-in-Right.ensures)
