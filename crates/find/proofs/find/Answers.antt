-- `find::find` meets its contract.
use mathlib.Core.Path.{◌∙◌}
use Rattle.words.proofs.TestLaws.{yes, no}
use Rattle.find.proofs.FindLaws.{formed-on, unformed-on}
use Rattle.find.proofs.find.Goals as goal

pub returns-then-is_by_form : goal.returns-then-is_by_form
returns-then-is_by_form c =
    c.find_formed.ensures
    ∙ formed-on _ _ _ _ (yes c.is_by_form.ensures c.if-is_by_form.true)

pub find_formed-requires : goal.find_formed-requires
find_formed-requires c = yes c.is_by_form.ensures c.if-is_by_form.true

pub returns : goal.returns
returns c = unformed-on _ _ _ _ (no c.is_by_form.ensures c.if-is_by_form.false)
