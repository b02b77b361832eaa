-- `le::get_eight` meets its contract: the eight bytes, as the library reads them.
use mathlib.Core.Path.{◌∙◌}
use Rattle.le.proofs.LeLaws.{from_eight}
use Rattle.le.proofs.get_eight.Goals as goal

pub returns : goal.returns
returns c =
    (rw c.copy_from_slice.ensures.after at c.from_le_bytes.ensures)
    ∙ from_eight c.args.src.now c.requires
