-- `lists::read_list` meets its contract.
use Rattle.words.proofs.TestLaws.{yes, no}
use Rattle.lists.proofs.LineLaws.{none_read, others-read}
use Rattle.lists.proofs.read_list.Goals as goal

pub returns-then-is_none : goal.returns-then-is_none
returns-then-is_none c =
    none_read c.args.s.now c.args.words.now (yes c.is_none.ensures c.if-is_none.true)

pub returns : goal.returns
returns c =
    others-read c.args.s.now c.args.words.now _ (no c.is_none.ensures c.if-is_none.false)
    c.read_records.ensures
