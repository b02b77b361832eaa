-- `desk::pairs::offer_pair` meets its contract: the pair leaves where the offer is accepted.
use Rattle.std.proofs.lemmas.Result.{err_from_is_err_and}
use Rattle.desk.proofs.DeskLaws.{chosen-long}
use Rattle.desk.proofs.OfferLaws.{pair-accepted, pair-kept}
use Rattle.desk.proofs.pairs.offer_pair.Goals as goal

pub leave-requires : goal.leave-requires
leave-requires c =
    chosen-long _ _ c.requires

pub returns-in_err-offer : goal.returns-in_err-offer
returns-in_err-offer c =
    let p = err_from_is_err_and c.from_residual.result c.from_residual.ensures.1 in
    rw (p.1, p.2) (pair-kept c.requires c.offer.ensures c.in_err-offer.was)

pub returns : goal.returns
returns c =
    pair-accepted c.requires c.offer.ensures c.in_ok-offer.was c.leave.ensures
