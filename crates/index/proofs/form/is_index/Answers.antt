-- `index::form::is_index` meets its contract.
use native.Mathlib.Omega.{arith}
use Rattle.index.proofs.SweepLaws.{form-none, form-short, form-wrong, form-ends}
use Rattle.index.proofs.form.is_index.Goals as goal

pub returns-then-first-eq0 : goal.returns-then-first-eq0
returns-then-first-eq0 c =
    form-none c.args.first c.args.records.now c.args.ix.now (omega arith)

pub returns-then-ix-records : goal.returns-then-ix-records
returns-then-ix-records c =
    form-short c.args.first c.args.records.now c.args.ix.now (omega arith)

pub returns-then-not-are_linked : goal.returns-then-not-are_linked
returns-then-not-are_linked c = form-wrong c.are_linked.ensures c.if-not-are_linked.true

pub returns : goal.returns
returns c =
    let linked = c.are_linked.ensures in
    form-ends (omega arith) (omega arith) linked c.if-not-are_linked.false
    c.are_ended.ensures
