-- `store::boxes::read_box` meets its contract: its words, and then the records behind them.
use native.Mathlib.Omega.{arith}
use lib.ListN.{length}
use Rattle.laws.proofs.FormLaws.{box-says}
use Rattle.image.proofs.CutLaws.{box-groups-long}
use Rattle.image.proofs.Lengths.{length-box}
use Rattle.image.proofs.HeadedLaws.{headed_asks, headed_stored}
use Rattle.image.proofs.BoxLaws.{box_headed}
use Rattle.store.specs.Store.{HasBox}
use Rattle.store.proofs.BoxLaws.{box_read}
use Rattle.store.proofs.boxes.read_box.Goals as goal

pub get_headed-requires : goal.get_headed-requires
get_headed-requires c =
    let wide = c.requires.row_len in let made =
    headed_asks (box_headed c.args.n c.args.j c.requires.n_le_most_boxes.0
    c.requires.n_le_most_boxes.1) c.args.src.now c.args.at
    c.box_groups-groups.result (length c.args.row.now) c.box_groups-groups.ensures.0
    (omega arith, omega (arith, wide), omega (arith, wide, c.requires.n_le_most_boxes.1))
    (λ x g. omega (
      arith,
      length-box c.args.n x c.requires.n_le_most_boxes.0,
      box-groups-long c.args.n,
    ))
    (λ x g. omega (arith, (box-says g.1).held.room, wide)) c.requires.has in record {
      cut = made.0;
      count_lt_head = made.1.0;
      groups_in_bounds = made.1.1.0;
      records_there = made.1.1.1;
    }

pub returns : goal.returns
returns c =
    headed_stored (box_headed c.args.n c.args.j c.requires.n_le_most_boxes.0
    c.requires.n_le_most_boxes.1) HasBox
    (λ x g tail. box_read x tail) c.box_groups-groups.result c.box_groups-groups.ensures.0
    c.get_headed.ensures
