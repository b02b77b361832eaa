-- `agreed::agreed_at` meets its contract.
use mathlib.Core.Path.{◌∙◌}
use Rattle.words.proofs.TestLaws.{yes, no}
use Rattle.agreed.proofs.PlaceLaws.{formed-on, unformed-on}
use Rattle.agreed.proofs.agreed_at.Goals as goal

pub returns-then-is_by_form : goal.returns-then-is_by_form
returns-then-is_by_form c =
    c.agreed_formed.ensures
    ∙ formed-on _ _ _ (yes c.is_by_form.ensures c.if-is_by_form.true)

pub agreed_formed-requires : goal.agreed_formed-requires
agreed_formed-requires c = yes c.is_by_form.ensures c.if-is_by_form.true

pub returns : goal.returns
returns c = unformed-on _ _ _ (no c.is_by_form.ensures c.if-is_by_form.false)
