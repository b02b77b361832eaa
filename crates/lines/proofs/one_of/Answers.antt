-- `lines::one_of` meets its contract.
use mathlib.Core.Path.{sym}
use Rattle.rules.specs.Pick.{pick_true, pick-false}
use Rattle.lines.specs.Read.{one_of}
use Rattle.lines.proofs.one_of.Goals as goal

pub returns-then-n : goal.returns-then-n
unfolding one_of
returns-then-n c = sym (pick_true _ _ _ c.if-n.true)

pub returns : goal.returns
unfolding one_of
returns c = sym (pick-false _ _ _ c.if-n.false)
