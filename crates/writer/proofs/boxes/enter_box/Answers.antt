use Rattle.writer.proofs.EntryLaws.{space_one, entered-one}
use Rattle.writer.proofs.boxes.enter_box.Goals as goal

pub write_box-end-requires : goal.write_box-end-requires
write_box-end-requires c = record {
  rows_lent = c.requires.rows_lent;
  room = space_one c.requires.space;
}

pub returns : goal.returns
returns c =
    entered-one c.requires.space c.write_box-end.ensures c.enter.ensures
