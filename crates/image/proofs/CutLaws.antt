-- The groups of a box's words and of a mail's: where they lie, and how many bytes they are.
use mathlib.Core.Path.{◌≡◌}
use Prim.Native.Nat.{ℕ, ◌≤◌}
use native.Mathlib.Omega.{arith}
use Rattle.rules.specs.Sizes.{most_boxes}
use Rattle.rules.specs.declared.model.Kind.{Kind}
use Rattle.letter.specs.Place as place
use Rattle.row.specs.Row.{head_words}
use Rattle.cells.specs.Groups.{groups_length, Cut}
use Rattle.image.specs.Image.{box_groups, first_words, letter_groups}
use Rattle.image.specs.Longest.{box_head_long, letter_head_long}

pub box-cut : (n : ℕ) → n ≤ most_boxes → Cut 0 head_words (box_groups n)
unfolding Cut
box-cut n h = (
  omega arith,
  omega arith,
  (omega arith, omega arith, (omega arith, omega arith, (omega arith, omega arith, omega arith))),
)

pub box-groups-long : (n : ℕ) → groups_length (box_groups n) ≡ box_head_long n
unfolding groups_length
box-groups-long n = omega arith

pub first-few : (k : Kind) → first_words k ≤ 1
first-few Kind.Collect = omega arith
first-few Kind.Last = omega arith
first-few Kind.Begin = omega arith
first-few Kind.Accept = omega arith
first-few Kind.Commit = omega arith
first-few Kind.Lease = omega arith
first-few Kind.LeaseAck = omega arith

pub letter-cut : (k : Kind) → Cut 0 place.head_words (letter_groups k)
unfolding Cut
letter-cut k = (
  omega arith,
  omega arith,
  (omega arith, omega arith, (omega (arith, first-few k), omega arith, omega arith)),
)

pub letter-groups-long : (k : Kind) → groups_length (letter_groups k) ≡ letter_head_long k
unfolding groups_length
letter-groups-long k = omega arith
