use Rattle.std.proofs.Common.{sym, arith}
use Rattle.hexed.proofs.HexLaws.{value-below, value_low, value-between, value-high, value-above}
use Rattle.hexed.proofs.small_value.Goals as goal

pub returns-then-b-lt48 : goal.returns-then-b-lt48
returns-then-b-lt48 c = (sym (value-below _ c.if-b-lt48.true), omega arith)

pub returns-then-b-lt58 : goal.returns-then-b-lt58
returns-then-b-lt58 c = (sym (value_low _ c.if-b-lt48.false c.if-b-lt58.true), omega arith)

pub returns-then-b-lt97 : goal.returns-then-b-lt97
returns-then-b-lt97 c = (sym (value-between _ c.if-b-lt58.false c.if-b-lt97.true), omega arith)

pub returns-then-b-lt103 : goal.returns-then-b-lt103
returns-then-b-lt103 c = (sym (value-high _ c.if-b-lt97.false c.if-b-lt103.true), omega arith)

pub returns : goal.returns
returns c = (sym (value-above _ c.if-b-lt103.false), omega arith)
