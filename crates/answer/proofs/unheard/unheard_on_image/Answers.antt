-- `answer::unheard::unheard_on_image` meets its contract.
use mathlib.Core.Path.{sym, ◌∙◌}
use Rattle.answer.proofs.CallLaws.{read_done}
use Rattle.answer.proofs.UnheardLaws.{seen-some, seen-short, seen_none}
use Rattle.answer.proofs.unheard.unheard_on_image.Goals as goal

pub unheard_formed-requires : goal.unheard_formed-requires
unheard_formed-requires c =
    (read_done c.read-a.ensures
    (sym c.answer_number-k.ensures ∙ c.if-k-eq0.true)).form

pub returns-then-k-eq0 : goal.returns-then-k-eq0
returns-then-k-eq0 c =
    seen-some c.read-a.ensures
    (sym c.answer_number-k.ensures ∙ c.if-k-eq0.true)
    c.unheard_formed.ensures

pub returns-then-k-eq12 : goal.returns-then-k-eq12
returns-then-k-eq12 c =
    seen-short c.read-a.ensures
    (sym c.answer_number-k.ensures ∙ c.if-k-eq12.true)

pub returns : goal.returns
returns c =
    seen_none c.read-a.ensures
    (λ e. c.if-k-eq0.false (c.answer_number-k.ensures ∙ e))
    (λ e. c.if-k-eq12.false (c.answer_number-k.ensures ∙ e))
