use Rattle.std.proofs.Common.{sym}
use Rattle.hexed.proofs.HexLaws.{small-below, small_capital, small-above}
use Rattle.hexed.proofs.small.Goals as goal

pub returns-then-b-lt65 : goal.returns-then-b-lt65
returns-then-b-lt65 c = sym (small-below _ c.if-b-lt65.true)

pub returns-then-b-lt71 : goal.returns-then-b-lt71
returns-then-b-lt71 c = sym (small_capital _ c.if-b-lt65.false c.if-b-lt71.true)

pub returns : goal.returns
returns c = sym (small-above _ c.if-b-lt71.false)
