use Rattle.std.proofs.Common.{sym}
use Rattle.hexed.proofs.HexLaws.{low_digit, high_digit}
use Rattle.hexed.proofs.digit.Goals as goal

pub returns-then-d-lt10 : goal.returns-then-d-lt10
returns-then-d-lt10 c = sym (low_digit _ c.if-d-lt10.true)

pub returns-else-d-lt10 : goal.returns-else-d-lt10
returns-else-d-lt10 c = sym (high_digit _ c.if-d-lt10.false)
