use native.Mathlib.Omega.{arith}
use Rattle.writer.proofs.MailLaws.{LinkOf, link-is, link-long}
use Rattle.writer.proofs.mail.link_length.Goals.{After-link_of}
use Rattle.writer.proofs.mail.link_length.Goals as goal

row : (c : After-link_of) →
    LinkOf c.args.s c.args.links.now c.args.k c.link_of.result.now
row c =
    link-is c.args.s c.args.links.now c.args.k c.requires.links_lent.0 c.requires.links_lent.1
    c.link_of.ensures

pub letters_length-requires : goal.letters_length-requires
letters_length-requires c =
    let most = c.requires.short.most in record {
      readable_link = (row (goal.at.letters_length-requires c).After-link_of).readable;
      short = record {
        most = omega (
          arith,
          link-long (row (goal.at.letters_length-requires c).After-link_of),
        );
      };
    }

pub overflow_add-result : goal.overflow_add-result
overflow_add-result c =
    omega (
      arith,
      c.letters_length.ensures,
      link-long (row (goal.at.overflow_add-result c).After-link_of),
    )

pub returns : goal.returns
returns c = omega (
  arith,
  c.letters_length.ensures,
  link-long (row (goal.at.returns c).After-link_of),
)
