use mathlib.Core.Path.{refl}
use Rattle.feed.proofs.AnswerLaws.{keeps-is}
use Rattle.feed.proofs.settle.keep.Goals as goal

pub returns : goal.returns
returns c = keeps-is c.args.f _ _ refl refl c.go_on.ensures
