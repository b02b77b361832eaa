use Rattle.words.proofs.TestLaws.{yes, no}
use Rattle.site.proofs.Once.{step-formed}
use Rattle.site.proofs.Unformed.{unformed-after}
use Rattle.site.proofs.entries.step.Goals as goal

pub returns-then-is_by_form : goal.returns-then-is_by_form
returns-then-is_by_form c =
    step-formed _ _ _ _ _ _ (yes c.is_by_form.ensures c.if-is_by_form.true)
    c.step_formed.ensures.after

pub step_formed-requires : goal.step_formed-requires
step_formed-requires c = yes c.is_by_form.ensures c.if-is_by_form.true

pub returns : goal.returns
returns c = unformed-after _ _ (no c.is_by_form.ensures c.if-is_by_form.false) _
