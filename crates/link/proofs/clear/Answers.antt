use native.Mathlib.Omega.{arith}
use lib.ListN.{length-set}
use Rattle.link.proofs.HoldLaws.{clear-done}
use Rattle.link.proofs.clear.Goals as goal

pub bounds-link-1 : goal.bounds-link-1
bounds-link-1 c = simp length-set (omega arith)

pub returns : goal.returns
returns c = clear-done c.args.j c.args.l c.args.link.now c.requires
