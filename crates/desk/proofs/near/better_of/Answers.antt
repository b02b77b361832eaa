use Rattle.std.proofs.Common.{sym}
use Rattle.rules.specs.Pick.{pick_true, pick-false}
use Rattle.desk.specs.Near.{better}
use Rattle.desk.proofs.near.better_of.Goals as goal

pub returns-then-is_near-found : goal.returns-then-is_near-found
unfolding better
returns-then-is_near-found c =
    sym
    (pick_true _ _ _
    (rw (← c.is_near.ensures, ← c.is_before.ensures) c.if-is_near-found.true))

pub returns : goal.returns
unfolding better
returns c =
    sym
    (pick-false _ _ _
    (rw (← c.is_near.ensures, ← c.is_before.ensures) c.if-is_near-found.false))
