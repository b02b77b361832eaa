-- 13 or 12 is found, or the row holds a fresh box.
use mathlib.Core.Path.{◌∙◌}
use native.Mathlib.Nat.{sub-zero}
use lib.Seq.{length-take-le}
use Rattle.words.proofs.TestLaws.{fails, passes}
use Rattle.laws.proofs.FormLaws.{sizes-says}
use Rattle.own.proofs.ToldLaws.{bad-sizes, too_short, made-fresh}
use mathlib.Core.Path.{ap}
use mathlib.Core.Bool.{not}
use Rattle.own.proofs.told.fresh.Goals as goal

pub returns-then-not-are_sizes : goal.returns-then-not-are_sizes
returns-then-not-are_sizes c =
    bad-sizes _ _ _ _ (fails c.are_sizes.ensures (ap not c.if-not-are_sizes.true))

pub returns-then-row-end : goal.returns-then-row-end
returns-then-row-end c =
    too_short c.args.n c.args.j c.args.l c.args.row.now
    (passes c.are_sizes.ensures (ap not c.if-not-are_sizes.false))
    (rw (← c.row_width-end.ensures) c.if-row-end.true)

pub fresh-requires : goal.fresh-requires
fresh-requires c =
    let width = c.row_width-end.ensures in
    let loads =
    (sizes-says (passes c.are_sizes.ensures (ap not c.if-not-are_sizes.false))).few-loads in (
      rw (sub-zero, width)
          (length-take-le _ c.args.row.now (rw (← width) c.if-row-end.false)),
      loads,
    )

pub returns : goal.returns
returns c =
    let width = c.row_width-end.ensures in
    made-fresh c.args.n c.args.j c.args.l c.args.row.now
    (passes c.are_sizes.ensures (ap not c.if-not-are_sizes.false))
    (rw (← width) c.if-row-end.false) _ (sub-zero _ ∙ width) _ c.fresh.ensures
