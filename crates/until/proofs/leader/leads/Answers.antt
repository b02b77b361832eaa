use mathlib.Core.Path.{ap}
use native.Mathlib.Omega.{arith}
use Rattle.rules.specs.Box.{Box}
use Rattle.memory.proofs.RowLaws.{row_sized, box-at}
use Rattle.until.proofs.leader.leads.Goals as goal

pub bounds-row-0 : goal.bounds-row-0
bounds-row-0 c =
    let z = row_sized c.args.s c.args.b c.args.site.now c.requires.b_value
    c.requires.rows_lent.sizes c.requires.rows_lent.words in
    rw c.row_of-row.ensures (omega (arith, z.words))

pub returns : goal.returns
returns c =
    ap (λ (x : Box). x.head.leads)
    (box-at c.args.s c.args.b c.args.site.now c.requires.b_value c.row_of-row.ensures)
