use Rattle.hexed.proofs.CodeLaws.{digits-none, digits_more}
use Rattle.hexed.proofs.put_digits.Goals as goal

pub loop-b-init : goal.loop-b-init
loop-b-init c = digits-none c.args.src.now

pub loop-b-preserved : goal.loop-b-preserved
loop-b-preserved c = digits_more _ _ c.loop-b-test.true c.loop-b.invariant c.put_pair-p.ensures
