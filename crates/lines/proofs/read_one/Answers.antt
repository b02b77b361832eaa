-- `lines::read_one` meets its contract.
use Rattle.lines.proofs.ReadLaws.{one-not, one-is}
use Rattle.lines.proofs.read_one.Goals as goal

pub returns-then-s-starts : goal.returns-then-s-starts
returns-then-s-starts c = one-not _ _ c.starts.ensures c.if-s-starts.true

pub returns : goal.returns
returns c =
    one-is _ _ c.starts.ensures c.if-s-starts.false
    c.numbers_at.ensures c.one_of.ensures
