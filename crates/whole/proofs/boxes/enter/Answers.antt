use Prim.Native.Nat.{◌-◌}
use native.Mathlib.Omega.{arith}
use lib.ListN.{length-set}
use Rattle.whole.proofs.BoxesLaws.{enter_law}
use Rattle.whole.proofs.boxes.enter.Goals as goal

pub bounds-table-k-2 : goal.bounds-table-k-2
bounds-table-k-2 c =
    omega (arith, length-set c.args.table.now c.args.k c.word.result)

pub returns : goal.returns
returns c =
    enter_law c.args.table.now c.args.k c.word.result c.word-2.result c.args.p
    (c.args.q - c.args.p)
    c.requires.0 c.word.ensures c.word-2.ensures
