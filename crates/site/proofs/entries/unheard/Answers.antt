use mathlib.Core.Path.{sym, ◌∙◌}
use Rattle.words.proofs.TestLaws.{yes, no}
use Rattle.site.proofs.Once.{asked-formed}
use Rattle.site.proofs.Unformed.{unformed-asked}
use Rattle.site.proofs.entries.unheard.Goals as goal

pub returns-then-is_by_form : goal.returns-then-is_by_form
returns-then-is_by_form c =
    c.unheard_formed.ensures
    ∙ sym
    (asked-formed _ _ _ (yes c.is_by_form.ensures c.if-is_by_form.true))

pub unheard_formed-requires : goal.unheard_formed-requires
unheard_formed-requires c = yes c.is_by_form.ensures c.if-is_by_form.true

pub returns : goal.returns
returns c = sym (unformed-asked _ _ (no c.is_by_form.ensures c.if-is_by_form.false) _)
