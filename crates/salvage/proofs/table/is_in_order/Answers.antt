use native.Mathlib.Omega.{arith}
use Rattle.salvage.proofs.TableLaws.{follow-none, follow-more, follow-stop}
use Rattle.salvage.proofs.TableLaws.{follow-all}
use Rattle.salvage.proofs.table.is_in_order.Goals as goal

pub loop-i-init : goal.loop-i-init
loop-i-init c =
    follow-none c.args.image.now c.args.count c.args.at

pub table_number-begin-requires : goal.table_number-begin-requires
table_number-begin-requires c = (omega arith, omega arith)

pub table_number-long-requires : goal.table_number-long-requires
table_number-long-requires c = (omega arith, omega arith)

pub returns-then-begin-p : goal.returns-then-begin-p
returns-then-begin-p c =
    follow-stop c.args.image.now c.args.count c.args.at
    c.loop-i.invariant c.loop-i-test.true
    c.table_number-begin.ensures.0 c.table_number-long.ensures.0
    c.if-begin-p.true

pub overflow_add-p : goal.overflow_add-p
overflow_add-p c =
    omega arith

pub loop-i-preserved : goal.loop-i-preserved
loop-i-preserved c =
    follow-more c.args.image.now c.args.count c.args.at
    c.loop-i.invariant c.loop-i-test.true
    c.table_number-begin.ensures.0 c.table_number-long.ensures.0
    c.if-begin-p.false c.table_number-long.ensures.1

pub returns : goal.returns
returns c =
    follow-all c.args.image.now c.args.count c.args.at
    c.loop-i.invariant c.loop-i-test.false
