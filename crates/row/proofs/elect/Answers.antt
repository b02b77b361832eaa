use native.Mathlib.Omega.{arith}
use Rattle.row.proofs.TurnLaws.{row-formed}
use Rattle.row.proofs.HeadLaws.{elect_law}
use Rattle.row.proofs.elect.Goals as goal

pub number-held-requires : goal.number-held-requires
number-held-requires c =
    let f = row-formed c.args.s c.args.row.now c.requires in
    omega (arith, f.says.count, c.requires.size.loads)

pub load-head-requires : goal.load-head-requires
load-head-requires c =
    (row-formed c.args.s c.args.row.now c.requires).readable

pub returns : goal.returns
returns c =
    elect_law c.args.s c.args.c c.args.row.now c.requires c.load-head.result
    c.elected-next.result
    c.number-held.result c.store.new.row c.load-head.ensures
    c.elected-next.ensures c.number-held.ensures c.store.ensures
