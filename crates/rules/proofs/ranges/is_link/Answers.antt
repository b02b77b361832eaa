-- `rules::ranges::is_link` meets its contract.
use Rattle.rules.proofs.ranges.is_link.Goals as goal

pub returns : goal.returns
returns c = simp (c.is_box-receiver.ensures, c.is_box-sender.ensures)
