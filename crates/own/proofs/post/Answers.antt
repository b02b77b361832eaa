-- A letter, or none where the set is empty.
use Rattle.own.proofs.PostLaws.{nobody, posted}
use Rattle.own.proofs.post.Goals as goal

pub returns-then-set-ne0 : goal.returns-then-set-ne0
returns-then-set-ne0 c =
    posted _ _ _ _ _ c.if-set-ne0.true c.enclose.ensures

pub returns-else-set-ne0 : goal.returns-else-set-ne0
returns-else-set-ne0 c = nobody _ _ _ _ c.if-set-ne0.false
