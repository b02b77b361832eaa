-- `lists::record_from` meets its contract.
use mathlib.Core.Path.{sym}
use Rattle.rules.specs.Pick.{pick_true, pick-false}
use Rattle.lists.specs.Lists.{record_from}
use Rattle.lists.proofs.record_from.Goals as goal

pub returns-then-left-right : goal.returns-then-left-right
unfolding record_from
returns-then-left-right c = sym (pick_true _ _ _ c.if-left-right.true)

pub returns : goal.returns
unfolding record_from
returns c = sym (pick-false _ _ _ c.if-left-right.false)
