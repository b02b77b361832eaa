use Rattle.feed.proofs.HeldLaws.{line-end}
use Rattle.feed.proofs.held.line_end.Goals as goal

pub returns : goal.returns
returns c =
    line-end _ _ _ c.requires.0 c.requires.1 c.find.ensures.place c.find.ensures.before_end
