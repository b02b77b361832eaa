use mathlib.Core.Path.{sym, ◌∙◌}
use Rattle.words.proofs.TestLaws.{yes, no}
use Rattle.site.proofs.Once.{held-formed}
use Rattle.site.proofs.Unformed.{unformed-held}
use Rattle.site.proofs.entries.holds.Goals as goal

pub returns-then-is_by_form : goal.returns-then-is_by_form
returns-then-is_by_form c =
    c.holds_formed.ensures
    ∙ sym
    (held-formed _ _ _ _ _ _ (yes c.is_by_form.ensures c.if-is_by_form.true))

pub holds_formed-requires : goal.holds_formed-requires
holds_formed-requires c = yes c.is_by_form.ensures c.if-is_by_form.true

pub returns : goal.returns
returns c = sym (unformed-held _ _ (no c.is_by_form.ensures c.if-is_by_form.false) _ _ _ _)
