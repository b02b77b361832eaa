use native.Mathlib.Omega.{arith}
use Rattle.feed.proofs.AnswerLaws.{form_rowed, in_time, lent_as, answer-first, answer-going}
use Rattle.feed.proofs.AnswerLaws.{answer-ended}
use Rattle.feed.proofs.answer.answer.Goals as goal

pub finish-requires : goal.finish-requires
finish-requires c = (
  c.requires.0,
  λ h. form_rowed _ _ (c.answer_first-a.ensures.form h),
  λ h. omega arith,
)

pub answer_later-a-requires : goal.answer_later-a-requires
answer_later-a-requires c =
    (lent_as c.in-Going.is
    c.requires.1).form

pub finish-requires-in-Going : goal.finish-requires-in-Going
finish-requires-in-Going c = (
  c.requires.0,
  λ h. form_rowed _ _ (c.answer_later-a.ensures.form h),
  λ h. in_time _ _ _ _ c.answer_later-a.ensures h,
)

pub returns-in-First : goal.returns-in-First
returns-in-First c =
    answer-first c.args.f _ _ _ _ _ _ _ c.in-First.is
    c.read-l.ensures c.answer_first-a.ensures
    c.finish.ensures c.requires.1

pub returns-in-Going : goal.returns-in-Going
returns-in-Going c =
    answer-going c.args.f _ _ _ _ _ _ _ c.in-Going.is
    c.read-l.ensures c.answer_later-a.ensures
    c.finish-in-Going.ensures c.requires.1

pub returns-in-Ended : goal.returns-in-Ended
returns-in-Ended c =
    answer-ended c.args.f _ _ _ _ _ _ c.emptied.ensures
    c.in-Ended.is c.requires.1
