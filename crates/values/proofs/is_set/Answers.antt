-- `values::is_set` meets its contract: no digit is left.
use Rattle.values.proofs.SetLaws.{set-shifted}
use Rattle.values.proofs.is_set.Goals as goal

pub returns : goal.returns
returns c =
    rw c.unwrap_or.ensures
    (set-shifted c.args.n c.args.w c.checked_shr.result c.ranges.w.fits c.checked_shr.ensures)
