-- `index::link_at` meets its contract.
use mathlib.Core.Path.{sym}
use native.Mathlib.Omega.{arith}
use borrow.Author.Tests.{eq-eqb, ne_eqb}
use Rattle.rules.specs.Pick.{pick_true, pick-false}
use Rattle.index.specs.Lent.{link_at}
use Rattle.index.proofs.link_at.Goals as goal

pub returns-then-tail-eq0 : goal.returns-then-tail-eq0
unfolding link_at
returns-then-tail-eq0 c = sym (pick_true _ _ _ (eq-eqb _ 0 c.if-tail-eq0.true))

pub overflow_sub-result : goal.overflow_sub-result
overflow_sub-result c = omega (arith, c.requires.k_bound (omega arith))

pub returns : goal.returns
unfolding link_at
returns c = rw c.size.ensures (sym (pick-false _ _ _ (ne_eqb _ 0 c.if-tail-eq0.false)))
