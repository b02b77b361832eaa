-- `index::slot_of` meets its contract.
use native.Mathlib.Omega.{arith}
use Rattle.index.specs.Index.{slot_of}
use Rattle.index.proofs.slot_of.Goals as goal

pub returns : goal.returns
unfolding slot_of
returns c = (c.size.ensures, omega arith)
