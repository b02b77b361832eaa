use Prim.Native.Nat.{◌≤◌}
use lib.ListN.{length}
use Rattle.row.specs.Row.{row_form, row_width}
use Rattle.own.specs.Entry.{row_reads}
use Rattle.own.proofs.FormLaws.{row_sized, long-tested, short-tested}
use Rattle.own.proofs.is_row.Goals.{Else-row-row_width}
use Rattle.own.proofs.is_row.Goals as goal

pub returns-then-row-row_width : goal.returns-then-row-row_width
unfolding row_reads
returns-then-row-row_width c =
    short-tested (row_width c.args.s.j) c.args.row.now _ _
    (rw (← c.row_width.ensures) c.if-row-row_width.true)

-- There are enough of them.
long : (c : Else-row-row_width) → row_width c.args.s.j ≤ length c.args.row.now
long c = rw (← c.row_width.ensures) c.if-row-row_width.false

pub is_by_form-requires : goal.is_by_form-requires
is_by_form-requires c =
    rw c.used_row.ensures
    (row_sized c.args.s c.args.row.now c.requires
    (long (goal.at.is_by_form-requires c).Else-row-row_width))

pub returns : goal.returns
unfolding row_form row_reads
returns c =
    long-tested (row_width c.args.s.j) c.args.row.now _ _
    (long (goal.at.returns c).Else-row-row_width)
    (rw c.used_row.ensures at c.is_by_form.ensures)
