-- `le::put_eight` meets its contract: the number's eight bytes.
use mathlib.Core.Path.{◌∙◌}
use Rattle.le.proofs.LeLaws.{low_le}
use Rattle.le.proofs.put_eight.Goals as goal

pub returns : goal.returns
returns c =
    c.copy_from_slice.ensures.after ∙ c.to_le_bytes.ensures ∙ low_le 8 c.args.x
