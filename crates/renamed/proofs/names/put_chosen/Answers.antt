-- `renamed::names::put_chosen` meets its contract.
use mathlib.Core.Path.{ap}
use native.Mathlib.Omega.{arith}
use lib.ListN.{length}
use Rattle.renamed.proofs.NameLaws.{put_as}
use Rattle.renamed.proofs.names.put_chosen.Goals as goal

pub put_bytes-requires : goal.put_bytes-requires
put_bytes-requires c = omega (arith, ap length c.choose.ensures)

pub returns : goal.returns
returns c =
    put_as c.choose.ensures c.put_bytes.ensures
