-- `le::put_four` meets its contract: the first four of the number's bytes.
use mathlib.Core.Path.{◌∙◌}
use Rattle.le.proofs.LeLaws.{low_le}
use Rattle.le.proofs.put_four.Goals as goal

pub returns : goal.returns
returns c =
    simp c.to_le_bytes.ensures at c.copy_from_slice.ensures.after ∙ low_le 4 c.args.x
