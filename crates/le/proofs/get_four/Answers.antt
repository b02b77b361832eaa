-- `le::get_four` meets its contract: the four bytes, as the library reads them.
use mathlib.Core.Path.{◌∙◌}
use Rattle.le.proofs.LeLaws.{from_four}
use Rattle.le.proofs.get_four.Goals as goal

pub returns : goal.returns
returns c =
    c.from.ensures ∙ (rw c.copy_from_slice.ensures.after at c.from_le_bytes.ensures)
    ∙ from_four c.args.src.now c.requires
