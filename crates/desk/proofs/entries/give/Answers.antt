-- `desk::give` meets its contract: on the part that is the side.
use Rattle.std.proofs.Common.{arith}
use Rattle.desk.specs.Sides.{give_in}
use Rattle.desk.specs.Desk.{given, on_side}
use Rattle.desk.specs.declared.answers.Side.{Side}
use Rattle.desk.proofs.DeskLaws.{named-short, named-zero, named-on}
use Rattle.desk.proofs.entries.give.Goals as goal

pub returns-then-desk-lt64 : goal.returns-then-desk-lt64
unfolding given
returns-then-desk-lt64 c =
    named-short c.args.frame (on_side c.args.side (give_in c.args.frame c.args.tick))
    c.args.desk.now
    c.if-desk-lt64.true

pub returns-then-frame-eq0 : goal.returns-then-frame-eq0
unfolding given
returns-then-frame-eq0 c =
    named-zero c.args.frame (on_side c.args.side (give_in c.args.frame c.args.tick)) c.args.desk.now
    (omega arith) c.if-frame-eq0.true

pub returns-in-Left : goal.returns-in-Left
unfolding given
returns-in-Left c =
    rw c.in-Left.is
    (named-on c.args.frame Side.Left (give_in c.args.frame c.args.tick)
    c.args.desk.now (omega arith)
    c.if-frame-eq0.false c.give_in.ensures)

pub returns-in-Right : goal.returns-in-Right
unfolding given
returns-in-Right c =
    rw c.in-Right.is
    (named-on c.args.frame Side.Right (give_in c.args.frame c.args.tick)
    c.args.desk.now (omega arith)
    c.if-frame-eq0.false c.give_in-in-Right.ensures)
