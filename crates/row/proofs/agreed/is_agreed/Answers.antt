use native.Mathlib.Omega.{arith}
use Rattle.row.proofs.AgreedLaws.{agreed-below, agreed-above, agreed-within, agreed-here}
use Rattle.row.proofs.agreed.is_agreed.Goals as goal

pub returns-then-number-first : goal.returns-then-number-first
returns-then-number-first c =
    agreed-below c.args.s c.args.row.now c.args.k c.args.left c.args.right (omega (
      arith,
      c.if-number-first.true,
    ))

pub returns-then-row-number : goal.returns-then-row-number
returns-then-row-number c =
    agreed-above c.args.s c.args.row.now c.args.k c.args.left c.args.right
    (omega (arith, c.if-number-first.false)) (omega (arith, c.if-row-number.true))

pub bounds-row-at : goal.bounds-row-at
bounds-row-at c =
    agreed-within c.args.s c.args.row.now c.args.k c.args.left c.args.right _ c.size-at.ensures
    (omega (arith, c.if-number-first.false))
    (omega (arith, c.if-row-number.false)) c.requires

pub returns : goal.returns
returns c =
    agreed-here c.args.s c.args.row.now c.args.k c.args.left c.args.right _ c.size-at.ensures
    (omega (arith, c.if-number-first.false))
    (omega (arith, c.if-row-number.false)) c.requires
