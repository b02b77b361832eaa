-- `desk::pairs::offered` meets its contract: the answer to an offer is Done or a refusal.
use Rattle.std.proofs.Common.{sym, ap}
use Rattle.laws.proofs.Logic.{both-no}
use Rattle.desk.specs.Offer.{is_settled}
use Rattle.desk.proofs.pairs.offered.Goals as goal

pub returns-in-Taken : goal.returns-in-Taken
returns-in-Taken c = absurd (both-no c.requires (ap is_settled c.in-Taken.is))

pub returns-in-Discarded : goal.returns-in-Discarded
returns-in-Discarded c = absurd (both-no c.requires (ap is_settled c.in-Discarded.is))

pub returns-in-Refused : goal.returns-in-Refused
returns-in-Refused c = sym c.in-Refused.is
