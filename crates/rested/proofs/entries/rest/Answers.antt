use Rattle.words.proofs.TestLaws.{yes, no}
use Rattle.rested.proofs.EntryLaws.{rest-formed, unformed-after}
use Rattle.rested.proofs.entries.rest.Goals as goal

pub returns-then-is_by_form : goal.returns-then-is_by_form
returns-then-is_by_form c =
    rest-formed (yes c.is_by_form.ensures c.if-is_by_form.true)
    c.rest_formed.ensures.after

pub rest_formed-requires : goal.rest_formed-requires
rest_formed-requires c = yes c.is_by_form.ensures c.if-is_by_form.true

pub returns : goal.returns
returns c = unformed-after (no c.is_by_form.ensures c.if-is_by_form.false)
