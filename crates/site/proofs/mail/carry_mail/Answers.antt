use mathlib.Core.Path.{refl}
use native.Mathlib.Omega.{arith}
use Rattle.site.proofs.MailKnown.{mail-some, mail-playable, mail-rows, mail-posts}
use Rattle.site.proofs.MailKnown.{mail-carried}
use Rattle.site.proofs.mail.carry_mail.Goals as goal

pub play-requires : goal.play-requires
play-requires c =
    let k = c.requires in record {
      p_le_q = (omega arith, omega (arith, c.requires.head.inside));
      playable = mail-playable k _ refl;
    }

pub pop-requires : goal.pop-requires
pop-requires c =
    let k = c.requires in record {
      links_lent = c.requires.carries.links;
      me_value = c.requires.link;
      nonzero = mail-some k;
    }

pub post-requires : goal.post-requires
post-requires c =
    let k = c.requires in
    let rows = c.play.ensures in record {
      rows_lent = (mail-rows k _ refl rows).lent;
      posts = mail-posts k _ refl rows
          c.pop.ensures;
    }

pub returns : goal.returns
returns c =
    mail-carried c.requires _ refl c.play.ensures c.pop.ensures
    c.post.ensures

pub overflow_add-q : goal.overflow_add-q
overflow_add-q c = omega (arith, c.requires.head.inside)

pub overflow_add-q-2 : goal.overflow_add-q-2
overflow_add-q-2 c = omega (arith, c.requires.head.inside)
