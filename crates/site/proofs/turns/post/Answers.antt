use Rattle.site.proofs.CarryLaws.{sends, posted-to, posted-none}
use Rattle.site.proofs.turns.post.Goals as goal

pub send-requires : goal.send-requires
send-requires c = record {
  rows_lent = c.requires.rows_lent;
  sends = sends c.args.s c.args.links.now c.args.out _ _ _ c.in-To.is c.requires.posts;
}

pub returns-in-Nothing : goal.returns-in-Nothing
returns-in-Nothing c =
    posted-none c.args.s c.args.links.now c.args.out _ c.in-Nothing.is
    c.requires.posts

pub returns-in-To : goal.returns-in-To
returns-in-To c =
    posted-to c.args.s c.args.links.now c.args.out _ _ _ _
    c.in-To.is
    c.send.ensures
