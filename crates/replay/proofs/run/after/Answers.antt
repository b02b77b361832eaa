use Rattle.replay.proofs.LoopLaws.{goes-not, goes_by}
use Rattle.replay.proofs.run.after.Goals as goal

pub returns-then-not-s : goal.returns-then-not-s
returns-then-not-s c = goes-not _ c.if-not-s.true c.over.ensures

pub returns : goal.returns
returns c = goes_by _ _ _ c.if-not-s.false c.is_ended.ensures
