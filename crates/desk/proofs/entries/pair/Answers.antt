-- `desk::pair` meets its contract: a right frame is chosen, and then offered with the left one.
use Rattle.std.proofs.lemmas.Result.{err_from_is_err_and}
use Rattle.desk.proofs.OfferLaws.{pair-none}
use Rattle.desk.proofs.entries.pair.Goals as goal

pub returns-in_err-right : goal.returns-in_err-right
returns-in_err-right c =
    let p = err_from_is_err_and c.from_residual.result c.from_residual.ensures.1 in
    rw (p.1, p.2) (pair-none c.chosen.ensures c.in_err-right.was)
