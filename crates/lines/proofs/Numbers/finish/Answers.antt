-- `lines::Numbers::finish` meets its contract.
use Rattle.lines.specs.Read.{finished}
use Rattle.lines.proofs.Numbers.finish.Goals as goal

pub returns : goal.returns
unfolding finished
returns c =
    simp
    c.one_more.ensures
