-- `renamed::line::read_found` meets its contract.
use Rattle.renamed.proofs.LineLaws.{too_long}
use Rattle.renamed.proofs.line.read_found.Goals as goal

pub returns-then-s-gt64 : goal.returns-then-s-gt64
returns-then-s-gt64 c =
    too_long c.args.from c.args.s.now c.if-s-gt64.true
