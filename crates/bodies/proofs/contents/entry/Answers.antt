-- `bodies::contents::entry` meets its contract.
use native.Mathlib.Omega.{arith}
use Prim.Native.Nat.{ℕ, ◌+◌, ◌≤◌}
use mathlib.Core.Path.{◌≡◌, sym, ◌∙◌}
use mathlib.Core.Bool.{◌&&◌}
use mathlib.Core.List.{List}
use lib.Dec.{leb}
use lib.ListN.{length}
use borrow.Author.Tests.{leb-true}
use Rattle.laws.proofs.Logic.{and_yes}
use Rattle.std.specs.Prelude.{Ok}
use Rattle.bodies.specs.Contents.{part_from}
use Rattle.bodies.specs.Contents.{count_of, begin_of, long_of, most_bodies}
use Rattle.bodies.proofs.ContentsLaws.{named-is, named-not}
use Rattle.bodies.proofs.contents.entry.Goals.{After-table_number-long, Start}
use Rattle.bodies.proofs.contents.entry.Goals as goal

-- a body's number
abbrev k : (c : Start) → ℕ
k c = c.args.k

abbrev im : (c : Start) → List ℕ
im c = c.args.image.now

least : (c : Start) → 1 ≤ (k c)
least c = leb-true 1 (k c) (and_yes (leb 1 (k c)) (leb (k c) most_bodies) c.requires.0).0

most : (c : Start) → (k c) ≤ most_bodies
most c = leb-true (k c) most_bodies (and_yes (leb 1 (k c)) (leb (k c) most_bodies) c.requires.0).1

abbrev k-table_number_long : (c : After-table_number-long) → ℕ
k-table_number_long c = c.args.k

abbrev im-table_number_long : (c : After-table_number-long) → List ℕ
im-table_number_long c = c.args.image.now

-- what was read
test : (c : After-table_number-long) → (leb (k-table_number_long c) c.table_number-count.result
    && leb (c.table_number-begin.result + c.table_number-long.result)
    (length (im-table_number_long c)))
    ≡ (leb (k-table_number_long c) (count_of (im-table_number_long c))
    && leb (begin_of (im-table_number_long c) (k-table_number_long c) + long_of
    (im-table_number_long c) (k-table_number_long c)) (length (im-table_number_long c)))
test c =
    λ i. leb (k-table_number_long c) (c.table_number-count.ensures.0 i)
    && leb (c.table_number-begin.ensures.0 i + c.table_number-long.ensures.0 i)
    (length (im-table_number_long c))

pub returns-then-k-count : goal.returns-then-k-count
returns-then-k-count c =
    (λ i. Ok (part_from (c.table_number-begin.ensures.0 i) (c.table_number-long.ensures.0 i)))
    ∙ sym (named-is (im (goal.at.returns-then-k-count c).Start)
    (k (goal.at.returns-then-k-count c).Start) c.requires.0 c.requires.1
    (sym (test (goal.at.returns-then-k-count c).After-table_number-long) ∙ c.if-k-count.true))

pub returns : goal.returns
returns c =
    sym (named-not (im (goal.at.returns c).Start) (k (goal.at.returns c).Start)
    (sym (test (goal.at.returns c).After-table_number-long) ∙ c.if-k-count.false))

pub table_number-count-requires : goal.table_number-count-requires
table_number-count-requires c =
    (omega (arith, least (goal.at.table_number-count-requires c).Start), omega arith)

pub overflow_mul-k : goal.overflow_mul-k
overflow_mul-k c = omega (arith, most (goal.at.overflow_mul-k c).Start)

pub overflow_sub-k : goal.overflow_sub-k
overflow_sub-k c = omega (arith, least (goal.at.overflow_sub-k c).Start)

pub table_number-begin-requires : goal.table_number-begin-requires
table_number-begin-requires c = (
  omega (arith, least (goal.at.table_number-begin-requires c).Start),
  omega (arith, most (goal.at.table_number-begin-requires c).Start),
)

pub overflow_mul-k-2 : goal.overflow_mul-k-2
overflow_mul-k-2 c = omega (arith, most (goal.at.overflow_mul-k-2 c).Start)

pub table_number-long-requires : goal.table_number-long-requires
table_number-long-requires c =
    (omega arith, omega (arith, most (goal.at.table_number-long-requires c).Start))
