-- `whole::boxes::check_box` meets its contract: its words, and then the records' own answer.
use mathlib.Core.Path.{sym, ap, ◌∙◌}
use native.Mathlib.Omega.{arith}
use Rattle.values.specs.Faults.{is_whole}
use Rattle.cells.proofs.StandLaws.{too_short}
use Rattle.image.specs.Longest.{box_head_long}
use Rattle.image.proofs.CutLaws.{box-groups-long}
use Rattle.image.proofs.Lengths.{length-box}
use Rattle.image.proofs.HeadedLaws.{groups-asked, headed_none, headed_then}
use Rattle.image.proofs.BoxLaws.{box_headed}
use Rattle.image.proofs.BoxJudged.{box-judged}
use Rattle.whole.proofs.boxes.check_box.Goals as goal

pub returns-then-src-at : goal.returns-then-src-at
returns-then-src-at c = λ x r g w.
    too_short (box_head_long c.args.n) c.requires.at_in_bounds
    (omega (arith, c.if-src-at.true, c.box_head_bytes-least.ensures))
    (omega (arith, length-box c.args.n x c.requires.n_le_most_boxes.0)) w

pub get_groups-p-requires : goal.get_groups-p-requires
get_groups-p-requires c = let made =
    groups-asked (box_headed c.args.n c.args.j c.requires.n_le_most_boxes.0
    c.requires.n_le_most_boxes.1) c.args.src.now
    c.args.at c.box_groups-groups.result c.box_groups-groups.ensures.0
    (omega (
      arith,
      box-groups-long c.args.n,
      c.requires.at_in_bounds,
      c.if-src-at.false,
      c.box_head_bytes-least.ensures,
    )) in record {
      cut = made.0;
      groups_in_bounds = made.1;
    }

pub returns-in-None : goal.returns-in-None
returns-in-None c =
    headed_then (box_headed c.args.n c.args.j c.requires.n_le_most_boxes.0
    c.requires.n_le_most_boxes.1)
    (box-judged c.args.n c.args.j c.args.b c.requires.n_le_most_boxes.0
    c.requires.n_le_most_boxes.1) c.box_groups-groups.result c.box_groups-groups.ensures.0
    c.get_groups-p.ensures
    (ap is_whole (sym c.head_fault-f.ensures ∙ c.in-None.is))
    c.size-count.ensures c.check_records.result c.check_records.ensures

pub returns-in-Some : goal.returns-in-Some
returns-in-Some c =
    headed_none (box_headed c.args.n c.args.j c.requires.n_le_most_boxes.0
    c.requires.n_le_most_boxes.1)
    (box-judged c.args.n c.args.j c.args.b c.requires.n_le_most_boxes.0
    c.requires.n_le_most_boxes.1) c.box_groups-groups.result c.box_groups-groups.ensures.0
    c.get_groups-p.ensures
    (ap is_whole (sym c.head_fault-f.ensures ∙ c.in-Some.is))
