use Rattle.answer.proofs.AnswerLaws.{few-places, half-enough}
use Rattle.answer.proofs.lends.Goals as goal

pub returns-then-k-lt52 : goal.returns-then-k-lt52
returns-then-k-lt52 c = few-places _ _ c.if-k-lt52.true

pub returns : goal.returns
returns c = half-enough _ _ c.if-k-lt52.false
