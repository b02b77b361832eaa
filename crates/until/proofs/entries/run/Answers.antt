use Rattle.words.proofs.TestLaws.{yes, no}
use Rattle.until.proofs.RunLaws.{run-formed, unformed-run}
use Rattle.until.proofs.entries.run.Goals as goal

pub returns-then-is_by_form : goal.returns-then-is_by_form
returns-then-is_by_form c =
    run-formed _ _ (yes c.is_by_form.ensures c.if-is_by_form.true)
    c.run_formed.ensures

pub run_formed-requires : goal.run_formed-requires
run_formed-requires c = yes c.is_by_form.ensures c.if-is_by_form.true

pub returns : goal.returns
returns c = unformed-run _ _ (no c.is_by_form.ensures c.if-is_by_form.false) _
