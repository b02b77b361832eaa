use mathlib.Core.Path.{sym, ◌∙◌}
use Rattle.answer.proofs.CallLaws.{fresh-formed, fresh-made, fresh-short, fresh-refused}
use Rattle.answer.proofs.call.fresh_image.Goals as goal

pub put-requires : goal.put-requires
put-requires c =
    fresh-formed _ _ _ _ _ _ _ _ c.fresh-a.ensures
    (sym c.answer_number-k.ensures ∙ c.if-k-eq0.true)

pub returns-then-k-eq0 : goal.returns-then-k-eq0
returns-then-k-eq0 c =
    fresh-made _ _ _ _ _ _ _ _ c.fresh-a.ensures
    (sym c.answer_number-k.ensures ∙ c.if-k-eq0.true) c.put.ensures

pub returns-then-k-eq12 : goal.returns-then-k-eq12
returns-then-k-eq12 c =
    fresh-short _ _ _ _ _ _ _ _ c.fresh-a.ensures
    (sym c.answer_number-k.ensures ∙ c.if-k-eq12.true)

pub returns : goal.returns
returns c =
    fresh-refused _ _ _ _ _ _ _ _ c.fresh-a.ensures
    (λ e. c.if-k-eq0.false (c.answer_number-k.ensures ∙ e))
    (λ e. c.if-k-eq12.false (c.answer_number-k.ensures ∙ e))
