use borrow.Author.Rules.{rules}
use Rattle.letter.proofs.load.Goals as goal

pub bounds-place-0 : goal.bounds-place-0
bounds-place-0 c = search rules

pub kind_of-kind-requires : goal.kind_of-kind-requires
kind_of-kind-requires c = search rules

pub bounds-place-1 : goal.bounds-place-1
bounds-place-1 c = search rules

pub number-pn-requires : goal.number-pn-requires
number-pn-requires c = search rules

pub bounds-place-2 : goal.bounds-place-2
bounds-place-2 c = search rules

pub number-last-requires : goal.number-last-requires
number-last-requires c = search rules

pub bounds-place-3 : goal.bounds-place-3
bounds-place-3 c = search rules

pub number-first-requires : goal.number-first-requires
number-first-requires c = search rules

pub bounds-place-4 : goal.bounds-place-4
bounds-place-4 c = search rules

pub number-unagreed-requires : goal.number-unagreed-requires
number-unagreed-requires c = search rules

pub returns : goal.returns
returns c =
    simp (
      c.number-unagreed.ensures,
      c.number-first.ensures,
      c.number-last.ensures,
      c.number-pn.ensures,
      c.kind_of-kind.ensures,
    )
