use mathlib.Core.Path.{sym}
use Rattle.feed.proofs.AnswerLaws.{lent_as, line-turn}
use Rattle.feed.proofs.answer.answer_line.Goals as goal

pub answer-requires : goal.answer-requires
answer-requires c =
    (c.requires.2, lent_as (sym c.keep-g.ensures.stage) c.requires.3)

pub returns : goal.returns
returns c =
    line-turn c.args.f _ _ _ _ _ _ _ c.keep-g.ensures c.answer.ensures
