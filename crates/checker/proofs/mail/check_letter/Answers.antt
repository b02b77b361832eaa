-- `checker::mail::check_letter` meets its contract: its kind, its words, and then the records' own
-- answer.
use mathlib.Core.Path.{◌≡◌, sym, ap, ◌∙◌}
use Prim.Native.Nat.{◌+◌, ◌≤◌}
use native.Mathlib.Omega.{arith}
use lib.ListN.{length}
use Rattle.values.specs.Faults.{is_whole}
use Rattle.letter.specs.Place.{kind_of}
use Rattle.cells.proofs.StandLaws.{too_short}
use Rattle.image.specs.Image.{letter_groups}
use Rattle.image.specs.Longest.{letter_head_long}
use Rattle.image.proofs.CutLaws.{letter-groups-long}
use Rattle.image.proofs.Lengths.{length-letter}
use Rattle.image.proofs.HeadedLaws.{groups-asked}
use Rattle.image.proofs.LetterLaws.{letter_headed}
use Rattle.image.proofs.LetterJudged.{letter-short, letter-none, letter-then}
use Rattle.checker.proofs.mail.check_letter.Goals.{After-get_at, After-letter_groups-groups}
use Rattle.checker.proofs.mail.check_letter.Goals.{After-letter_head_bytes-least}
use Rattle.checker.proofs.mail.check_letter.Goals as goal

pub returns-then-src-at-lt4 : goal.returns-then-src-at-lt4
returns-then-src-at-lt4 c = λ y r g w. too_short 4 c.requires.at_in_bounds c.if-src-at-lt4.true
    (omega (arith, length-letter y)) w

-- There is room for the kind's number ..
room : (c : After-get_at) →
    c.args.at + 4 ≤ length c.args.src.now
room c = omega (arith, c.requires.at_in_bounds, c.if-src-at-lt4.false)

-- .. and so many bytes has a head of this kind.
least : (c : After-letter_head_bytes-least)
    → c.letter_head_bytes-least.result ≡ letter_head_long (kind_of c.get_at.result)
least c = c.letter_head_bytes-least.ensures ∙ ap letter_head_long c.kind_of-kind.ensures

groups : (c : After-letter_groups-groups)
    → c.letter_groups-groups.result
    ≡ letter_groups (kind_of c.get_at.result)
groups c =
    c.letter_groups-groups.ensures.0
    ∙ ap letter_groups c.kind_of-kind.ensures

pub returns-then-src-at : goal.returns-then-src-at
returns-then-src-at c =
    letter-short c.args.j c.requires.j_le_most_loads
    (room (goal.at.returns-then-src-at c).After-get_at) c.get_at.ensures
    c.requires.at_in_bounds (omega (
      arith,
      c.if-src-at.true,
      least (goal.at.returns-then-src-at c).After-letter_head_bytes-least,
    ))

pub get_groups-p-requires : goal.get_groups-p-requires
get_groups-p-requires c =
    let x = c.get_at.result in let made =
    groups-asked (letter_headed c.args.j c.requires.j_le_most_loads x) c.args.src.now
    c.args.at c.letter_groups-groups.result
    (groups (goal.at.get_groups-p-requires c).After-letter_groups-groups)
    (omega (
      arith,
      letter-groups-long (kind_of x),
      c.requires.at_in_bounds,
      c.if-src-at.false,
      least (goal.at.get_groups-p-requires c).After-letter_head_bytes-least,
    )) in record {
      cut = made.0;
      groups_in_bounds = made.1;
    }

pub returns-in-None : goal.returns-in-None
returns-in-None c =
    letter-then c.args.j c.requires.j_le_most_loads (room (goal.at.returns-in-None c).After-get_at)
    c.get_at.ensures
    c.letter_groups-groups.result (groups (goal.at.returns-in-None c).After-letter_groups-groups)
    c.get_groups-p.ensures
    (ap is_whole (sym c.head_fault-f.ensures ∙ c.in-None.is))
    c.size-count.ensures c.check_records.result c.check_records.ensures

pub returns-in-Some : goal.returns-in-Some
returns-in-Some c =
    letter-none c.args.j c.requires.j_le_most_loads (room (goal.at.returns-in-Some c).After-get_at)
    c.get_at.ensures
    c.letter_groups-groups.result (groups (goal.at.returns-in-Some c).After-letter_groups-groups)
    c.get_groups-p.ensures
    (ap is_whole (sym c.head_fault-f.ensures ∙ c.in-Some.is))

pub get_at-requires : goal.get_at-requires
get_at-requires c = (omega (arith, c.requires.at_in_bounds, c.if-src-at-lt4.false), omega arith)
