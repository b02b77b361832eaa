-- 3 and 4 are found in turn, or nothing is.
use native.Mathlib.Omega.{arith}
use lib.Count.{ones}
use borrow.Author.Tests.{le-leb, lt-leb}
use Rattle.words.proofs.TestLaws.{fails, passes}
use Rattle.rules.specs.Sizes.{majority_of}
use Rattle.rules.specs.Needs.{ruled}
use mathlib.Core.Path.{ap}
use mathlib.Core.Bool.{not}
use Rattle.own.proofs.told.judge_election.Goals as goal

pub returns-then-not-is_even : goal.returns-then-not-is_even
unfolding ruled
returns-then-not-is_even c = rw (fails c.is_even.ensures (ap not c.if-not-is_even.true))

pub returns-then-not-has : goal.returns-then-not-has
unfolding ruled
returns-then-not-has c =
    rw (
      passes c.is_even.ensures (ap not c.if-not-is_even.false),
      fails c.has.ensures (ap not c.if-not-has.true),
    )

pub returns-then-majority-count : goal.returns-then-majority-count
unfolding ruled
returns-then-majority-count c =
    rw (
      passes c.is_even.ensures (ap not c.if-not-is_even.false),
      passes c.has.ensures (ap not c.if-not-has.false),
      le-leb (majority_of c.args.s.n) (ones c.args.s.present)
          (omega (arith, c.if-majority-count.true, c.count.ensures)),
    )

pub returns : goal.returns
unfolding ruled
returns c =
    rw (
      passes c.is_even.ensures (ap not c.if-not-is_even.false),
      passes c.has.ensures (ap not c.if-not-has.false),
      lt-leb (majority_of c.args.s.n) (ones c.args.s.present)
          (omega (arith, c.if-majority-count.false, c.count.ensures)),
    )
