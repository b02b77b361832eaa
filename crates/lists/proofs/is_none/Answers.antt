-- `lists::is_none` meets its contract.
use Rattle.lists.proofs.LineLaws.{dashed}
use Rattle.lists.proofs.is_none.Goals as goal

pub returns : goal.returns
returns c = dashed c.args.s.now c.eq.ensures c.as_slice.ensures
