-- `le::get_each` meets its contract: the bytes and zeros, as the library reads them.
use mathlib.Core.Path.{◌∙◌}
use Rattle.le.proofs.LeLaws.{from_each}
use Rattle.le.proofs.get_each.Goals as goal

pub returns : goal.returns
returns c =
    (rw c.copy_from_slice.ensures.after at c.from_le_bytes.ensures)
    ∙ from_each c.args.src.now c.requires
