use mathlib.Core.Path.{sym, ◌∙◌}
use Rattle.wording.proofs.FaultLaws.{within-here, within_on, within_end}
use Rattle.wording.specs.Fault.{within}
use Rattle.wording.proofs.fault.has.Goals as goal

pub returns-then-starts : goal.returns-then-starts
unfolding within
returns-then-starts c =
    sym (within-here _ _ _ c.loop-i-test.true c.starts.ensures c.if-starts.true)
    ∙ c.loop-i.invariant

pub loop-i-preserved : goal.loop-i-preserved
loop-i-preserved c =
    sym (within_on _ _ _ c.loop-i-test.true c.starts.ensures c.if-starts.false)
    ∙ c.loop-i.invariant

pub returns : goal.returns
unfolding within
returns c = sym (within_end _ _ _ c.loop-i-test.false) ∙ c.loop-i.invariant
