use native.Mathlib.Omega.{arith}
use Rattle.link.proofs.HoldLaws.{first_below, head_done}
use Rattle.link.proofs.head_at.Goals as goal

pub place_at-requires : goal.place_at-requires
place_at-requires c =
    let ok = c.requires.readable_link in record {
      link_sizes = c.requires.readable_link.words.sizes;
      first_lt_l = omega (arith, first_below ok);
    }

pub returns : goal.returns
returns c =
    head_done c.args.j c.args.l c.args.link.now c.requires.readable_link c.requires.nonzero
    c.place_at.result c.size-first.result c.size-first.ensures c.place_at.ensures.0
    c.place_at.ensures.1
