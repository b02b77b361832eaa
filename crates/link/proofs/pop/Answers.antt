use mathlib.Core.Path.{◌∙◌}
use native.Mathlib.Omega.{arith}
use lib.ListN.{length-set}
use Rattle.link.proofs.LinkLaws.{length-link}
use Rattle.link.proofs.HoldLaws.{first_below, pop_done}
use Rattle.link.proofs.pop.Goals as goal

pub after-requires : goal.after-requires
after-requires c =
    omega (arith, first_below c.requires.readable_link)

pub overflow_sub-count : goal.overflow_sub-count
overflow_sub-count c =
    omega (arith, length-link c.args.j c.args.l c.args.link.now)

pub returns : goal.returns
returns c =
    pop_done c.args.j c.args.l c.args.link.now c.requires.readable_link c.requires.nonzero
    c.size-first.result c.size-count.result c.word.result c.word-2.result
    c.size-first.ensures c.size-count.ensures
    (c.word.ensures ∙ c.after.ensures.0) c.word-2.ensures

pub bounds-link-1-2 : goal.bounds-link-1-2
bounds-link-1-2 c = simp length-set (omega arith)
