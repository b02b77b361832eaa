-- `index::tail_after` meets its contract.
use mathlib.Core.Path.{sym}
use borrow.Author.Tests.{eq-eqb, ne_eqb}
use Rattle.rules.specs.Pick.{pick_true, pick-false}
use Rattle.index.specs.Lent.{tail_after}
use Rattle.index.proofs.tail_after.Goals as goal

pub returns-then-next-eq0 : goal.returns-then-next-eq0
unfolding tail_after
returns-then-next-eq0 c = sym (pick_true _ _ _ (eq-eqb _ 0 c.if-next-eq0.true))

pub returns : goal.returns
unfolding tail_after
returns c = sym (pick-false _ _ _ (ne_eqb _ 0 c.if-next-eq0.false))
