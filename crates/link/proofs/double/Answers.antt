use native.Mathlib.Omega.{arith}
use lib.ListN.{length-set}
use Rattle.words.specs.Ring.{slot}
use Rattle.words.proofs.RowLaws.{row_before}
use Rattle.link.specs.Link.{place_width}
use Rattle.link.specs.Holds.{HeadAt}
use Rattle.link.proofs.HoldLaws.{first_below, count_most, head_done}
use Rattle.link.proofs.DoubleLaws.{head-count, double_done}
use Rattle.link.proofs.double.Goals.{After-place_at-from}
use Rattle.link.proofs.double.Goals as goal

pub before-before-requires : goal.before-before-requires
before-before-requires c =
    omega (arith, first_below c.requires.readable_link)

pub place_at-from-requires : goal.place_at-from-requires
place_at-from-requires c =
    let ok = c.requires.readable_link in record {
      link_sizes = c.requires.readable_link.words.sizes;
      first_lt_l = omega (arith, first_below ok);
    }

-- Where the code has found the head, there it stands.
head : (c : After-place_at-from)
    → HeadAt c.args.j c.args.l c.args.link.now c.place_at-from.result
head c =
    head_done c.args.j c.args.l c.args.link.now c.requires.readable_link c.requires.nonzero.0
    c.place_at-from.result c.size-first.result c.size-first.ensures c.place_at-from.ensures.0
    c.place_at-from.ensures.1

pub overflow_add-held : goal.overflow_add-held
overflow_add-held c =
    omega (
      arith,
      head-count (head (goal.at.overflow_add-held c).After-place_at-from),
      c.requires.readable_link.words.sizes.few-loads,
    )

pub copy_within-requires : goal.copy_within-requires
copy_within-requires c =
    let few = head-count (head (goal.at.copy_within-requires c).After-place_at-from) in
    let one = slot c.args.l c.size-first.result 0 in
    let two = slot c.args.l c.before-before.result 0 in
    let apart = row_before (place_width c.args.j) one two in record {
      n_in_bounds = (omega arith, omega arith);
      n_bound = λ h. omega (arith, apart (omega arith));
    }

pub overflow_add-count : goal.overflow_add-count
overflow_add-count c =
    omega (arith, count_most c.requires.readable_link)

pub returns : goal.returns
returns c =
    rw (c.word-2.ensures, c.word.ensures, c.copy_within.ensures)
    (double_done c.requires.readable_link (head (goal.at.returns c).After-place_at-from)
    c.requires.nonzero.1
    c.size-first.ensures c.size-count.ensures c.before-before.ensures.0
    c.place_at-to.ensures.0 c.size-held.ensures)

pub bounds-link-1-2 : goal.bounds-link-1-2
bounds-link-1-2 c = simp length-set (omega arith)
