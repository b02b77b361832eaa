-- The link from a to me, cut out, has its head twice.
use native.Mathlib.Omega.{arith}
use Rattle.rules.specs.Site.{twice}
use Rattle.memory.proofs.LinkLaws.{cut-readable, cut-length, by-done}
use Rattle.memory.proofs.links.double.Goals as goal

pub double-requires : goal.double-requires
double-requires c =
    let from = c.link_start-start.ensures.0 in
    let to = c.link_end-end.ensures in
    let long = cut-length c.args.a c.args.s.me c.requires.links_lent c.requires.me_value from to in
    record {
      readable_link = cut-readable c.args.a c.args.s.me c.requires.links_lent
          c.requires.me_value from to;
      nonzero = (
        omega (arith, long, c.requires.nonzero),
        omega (arith, long, c.requires.me_len_bound),
      );
    }

pub returns : goal.returns
returns c =
    by-done c.args.a c.args.s.me c.requires.links_lent c.requires.me_value
    c.link_start-start.ensures.0 c.link_end-end.ensures twice c.double.ensures
