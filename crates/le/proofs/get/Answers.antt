-- `le::get` meets its contract: each of the number and its bytes is had from the other.
use Rattle.le.proofs.LeLaws.{number}
use Rattle.le.proofs.get.Goals as goal

pub returns : goal.returns
returns c =
    let src = c.args.src.now in
    number src (λ i. (c.shared_slice_known-1.given i).fits) c.get_any.result
    c.get_any.ensures
