-- `lists::weigh` meets its contract.
use Rattle.lists.proofs.LineLaws.{weighed}
use Rattle.lists.proofs.weigh.Goals as goal

pub returns : goal.returns
returns c =
    weighed c.args.line.now c.args.a.now c.args.b.now
    c.up_to.ensures c.behind.ensures c.read_list-x.ensures
    c.read_list-y.ensures c.compare.ensures
