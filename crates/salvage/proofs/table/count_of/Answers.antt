use native.Mathlib.Omega.{arith}
use Rattle.salvage.proofs.TableLaws.{sound-is}
use Rattle.salvage.proofs.table.count_of.Goals as goal

pub table_number-requires : goal.table_number-requires
table_number-requires c =
    let s = sound-is c.args.image.now c.requires in
    let l = s.least in
    let t = s.table in
    (omega arith, omega arith)
