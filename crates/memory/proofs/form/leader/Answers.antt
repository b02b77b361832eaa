use native.Mathlib.Omega.{arith}
use Rattle.memory.proofs.RowLaws.{row_sized, leads-yes, leads-no}
use Rattle.memory.proofs.form.leader.Goals as goal

pub bounds-row-0 : goal.bounds-row-0
bounds-row-0 c =
    let z = row_sized c.args.s c.args.b c.args.site.now c.requires.b_value c.requires.l_value
    c.requires.j_in_bounds in
    rw c.row_of-row.ensures (omega (arith, z.words))

pub returns-then-row-eq1 : goal.returns-then-row-eq1
returns-then-row-eq1 c = leads-yes c.row_of-row.ensures c.if-row-eq1.true

pub returns : goal.returns
returns c = leads-no c.row_of-row.ensures c.if-row-eq1.false
