use native.Mathlib.Nat.{sub-zero}
use Rattle.own.proofs.used_row.Goals as goal

pub returns : goal.returns
returns c = rw (sub-zero, c.row_width-end.ensures)
