use Rattle.own.proofs.PostLaws.{nothing-sent}
use Rattle.own.proofs.send.Goals as goal

pub post-requires : goal.post-requires
post-requires c =
    rw c.in-To.is at c.requires

pub returns-in-To : goal.returns-in-To
returns-in-To c =
    rw c.in-To.is c.post.ensures

pub returns-in-Nothing : goal.returns-in-Nothing
returns-in-Nothing c = rw c.in-Nothing.is (nothing-sent _ _)
