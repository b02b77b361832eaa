use mathlib.Core.Path.{◌≡◌, ◌∙◌, ap}
use native.Mathlib.Omega.{arith}
use lib.ListN.{length}
use Rattle.lines.specs.Read.{read_line}
use Rattle.rules.proofs.Tests.{tests}
use Rattle.feed.proofs.HeldLaws.{cut-length, cut-take}
use Rattle.feed.proofs.held.Held.read.Goals.{Start}
use Rattle.feed.proofs.held.Held.read.Goals as goal

line-length : (c : Start) → length c.args.self.line ≡ 65
line-length c = search tests

pub slice_bounds-read_line-end : goal.slice_bounds-read_line-end
slice_bounds-read_line-end c =
    cut-length _ _ 65 _ (line-length (goal.at.slice_bounds-read_line-end c).Start) c.min-m.ensures

pub returns : goal.returns
returns c =
    c.read_line.ensures
    ∙ ap read_line (cut-take _ _ 65 _ (omega (arith, line-length (goal.at.returns c).Start))
    c.min-m.ensures)
