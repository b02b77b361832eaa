use native.Mathlib.Omega.{arith}
use lib.ListN.{length-set}
use Rattle.site.proofs.start.put_setting.Goals as goal

pub bounds-site-1 : goal.bounds-site-1
bounds-site-1 c = simp length-set (omega arith)

pub bounds-site-2 : goal.bounds-site-2
bounds-site-2 c = simp length-set (omega arith)

pub bounds-site-3 : goal.bounds-site-3
bounds-site-3 c = simp length-set (omega arith)
