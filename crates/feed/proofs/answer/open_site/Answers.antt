use Rattle.feed.proofs.EngineLaws.{open_large, open_made}
use Rattle.feed.proofs.answer.open_site.Goals as goal

pub returns : goal.returns
returns c =
    open_made _ _ _ _ _ _ _ _ c.fresh.ensures c.if-j-l.false c.requires.0
    c.requires.1

pub returns-then-j-l : goal.returns-then-j-l
returns-then-j-l c = open_large _ _ _ _ _ c.if-j-l.true
