-- 13, 1 and 2 are found in turn, or nothing is.
use mathlib.Core.Path.{◌≡◌}
use mathlib.Core.Bool.{true}
use Rattle.words.proofs.TestLaws.{fails, passes}
use Rattle.rules.specs.Sizes.{sizes_form}
use Rattle.rules.specs.Needs.{ruled}
use Rattle.own.specs.Lent.{judged}
use mathlib.Core.Path.{ap}
use mathlib.Core.Bool.{not}
use Rattle.own.proofs.judge.Goals.{Else-not-are_sizes}
use Rattle.own.proofs.judge.Goals as goal

sized : (c : Else-not-are_sizes) → sizes_form c.args.s.n c.args.s.j c.args.s.l ≡ true
sized c = passes c.are_sizes.ensures (ap not c.if-not-are_sizes.false)

pub returns-then-not-are_sizes : goal.returns-then-not-are_sizes
unfolding judged ruled
returns-then-not-are_sizes c = rw (fails c.are_sizes.ensures (ap not c.if-not-are_sizes.true))

pub returns-then-not-is_formed : goal.returns-then-not-is_formed
unfolding judged ruled
returns-then-not-is_formed c =
    rw (
      sized (goal.at.returns-then-not-is_formed c).Else-not-are_sizes,
      fails c.is_formed.ensures (ap not c.if-not-is_formed.true),
    )

pub returns-then-numbers : goal.returns-then-numbers
unfolding judged ruled
returns-then-numbers c =
    let form = passes c.is_formed.ensures (ap not c.if-not-is_formed.false) in
    rw (sized (goal.at.returns-then-numbers c).Else-not-are_sizes, form, c.if-numbers.true)

pub returns : goal.returns
unfolding judged ruled
returns c =
    let form = passes c.is_formed.ensures (ap not c.if-not-is_formed.false) in
    rw (sized (goal.at.returns c).Else-not-are_sizes, form, c.if-numbers.false)

pub is_formed-requires : goal.is_formed-requires
is_formed-requires c = sized (goal.at.is_formed-requires c).Else-not-are_sizes
