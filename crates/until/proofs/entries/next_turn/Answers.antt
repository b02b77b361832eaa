use mathlib.Core.Path.{◌∙◌}
use Rattle.words.proofs.TestLaws.{yes, no}
use Rattle.until.proofs.RunLaws.{next-formed, unformed-next}
use Rattle.until.proofs.entries.next_turn.Goals as goal

pub returns-then-is_by_form : goal.returns-then-is_by_form
returns-then-is_by_form c =
    c.next_formed.ensures
    ∙ next-formed _ _ (yes c.is_by_form.ensures c.if-is_by_form.true)

pub next_formed-requires : goal.next_formed-requires
next_formed-requires c = yes c.is_by_form.ensures c.if-is_by_form.true

pub returns : goal.returns
returns c = unformed-next _ _ (no c.is_by_form.ensures c.if-is_by_form.false)
