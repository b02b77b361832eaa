use mathlib.Core.Path.{◌∙◌, ap}
use native.Mathlib.Omega.{arith}
use Rattle.rules.specs.Box.{Box}
use Rattle.memory.proofs.RowLaws.{row_sized, box-at}
use Rattle.until.proofs.leader.phase.Goals as goal

pub bounds-row-2 : goal.bounds-row-2
bounds-row-2 c =
    let z = row_sized c.args.s c.args.s.me c.args.site.now c.requires.me_value
    c.requires.rows_lent.sizes
    c.requires.rows_lent.words in
    rw c.row_of-row.ensures (omega (arith, z.words))

pub returns : goal.returns
returns c =
    c.phase_of.ensures
    ∙ ap (λ (x : Box). x.head.phase)
    (box-at c.args.s c.args.s.me c.args.site.now c.requires.me_value c.row_of-row.ensures)
