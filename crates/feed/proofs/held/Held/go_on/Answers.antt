use mathlib.Core.Path.{◌≡◌}
use lib.ListN.{length}
use Rattle.rules.proofs.Tests.{tests}
use Rattle.feed.proofs.HeldLaws.{held-copied}
use Rattle.feed.proofs.held.Held.go_on.Goals.{Start}
use Rattle.feed.proofs.held.Held.go_on.Goals as goal

line-length : (c : Start) → length c.args.self.line ≡ 65
line-length c = search tests

pub returns : goal.returns
returns c =
    held-copied _ _ _ _ _ _ _ _ (line-length (goal.at.returns c).Start) c.min-n.ensures
    c.min-m.ensures c.requires.0 c.requires.1 c.copy_from_slice.ensures.after
