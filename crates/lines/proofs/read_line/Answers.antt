-- `lines::read_line` meets its contract.
use mathlib.Core.Path.{sym}
use borrow.Author.Tests.{le-ltb}
use Rattle.rules.specs.Pick.{pick-false}
use Rattle.rules.proofs.Tests.{tests}
use Rattle.lines.specs.Read.{read_line}
use Rattle.lines.proofs.read_line.Goals as goal

pub returns-then-s-gt64 : goal.returns-then-s-gt64
unfolding read_line
returns-then-s-gt64 c = search tests

pub returns : goal.returns
unfolding read_line
returns c =
    simp (
      c.line_of.ensures,
      c.numbers_at-n.ensures,
      c.width.ensures,
      c.word_at-w.ensures,
    ) (sym (pick-false _ _ _ (le-ltb _ _ c.if-s-gt64.false)))
