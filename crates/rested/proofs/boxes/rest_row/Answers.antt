-- The row is read, and its box plays the turn that puts it at rest.
use native.Mathlib.Omega.{arith}
use Rattle.rested.proofs.RowLaws.{row_reads, rest-plays, rest-played}
use Rattle.rested.proofs.boxes.rest_row.Goals as goal

pub load-head-requires : goal.load-head-requires
load-head-requires c = row_reads c.requires c.row_of.ensures

pub play-requires : goal.play-requires
play-requires c = record {
  p_le_q = (omega arith, omega arith);
  playable = rest-plays c.requires c.row_of.ensures c.load-head.ensures
      c.rested_head-next.ensures _;
}

pub returns : goal.returns
returns c =
    rest-played c.requires c.row_of.ensures c.load-head.ensures
    c.rested_head-next.ensures _ c.play.ensures
