-- `site::start::full_set` meets its contract: below the digit behind them all digits are 1.
use Rattle.site.proofs.FreshAfter.{full-shift}
use Rattle.site.proofs.start.full_set.Goals as goal

pub returns : goal.returns
returns c = full-shift c.args.n c.requires
