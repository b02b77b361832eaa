use Rattle.print.proofs.WriteLaws.{copied}
use Rattle.print.proofs.put_bytes.Goals as goal

pub returns : goal.returns
returns c = copied _ _ _ c.copy_from_slice.ensures.after c.requires
