-- Its words in their groups, then the records.
use Rattle.writer.proofs.BoxLaws.{RowOf, box-here, row_is, box-put}
use Rattle.writer.proofs.PutLaws.{put_needs, put-wrote}
use Rattle.writer.proofs.boxes.write_box.Goals.{After-row_of-row}
use Rattle.writer.proofs.boxes.write_box.Goals as goal

row : (c : After-row_of-row) →
    RowOf c.args.s c.args.site.now c.args.i c.row_of-row.result.now
row c =
    row_is c.args.s c.args.site.now c.args.i c.requires.rows_lent.0 c.requires.rows_lent.1
    c.row_of-row.ensures

pub row_of-row-requires : goal.row_of-row-requires
row_of-row-requires c = record {
  l_value = c.requires.rows_lent.0.sizes;
  j_in_bounds = c.requires.rows_lent.0.words;
  b_value = box-here c.requires.rows_lent.1;
}

pub put_headed-requires : goal.put_headed-requires
put_headed-requires c = let made =
    put_needs (box-put (row (goal.at.put_headed-requires c).After-row_of-row))
    c.box_groups-groups.ensures.0
    c.requires.room in record {
      cut = made.0;
      count_in_bounds = made.1.0;
      room = made.1.1;
    }

pub returns : goal.returns
returns c =
    put-wrote (box-put (row (goal.at.returns c).After-row_of-row)) c.box_groups-groups.ensures.0
    c.put_headed.ensures
