use native.Mathlib.Omega.{arith}
use Rattle.writer.proofs.BoxLaws.{RowOf, box-here, row_is, row_count, box-long}
use Rattle.writer.proofs.boxes.box_length.Goals.{After-row_of-row}
use Rattle.writer.proofs.boxes.box_length.Goals as goal

row : (c : After-row_of-row) →
    RowOf c.args.s c.args.site.now c.args.i c.row_of-row.result.now
row c =
    row_is c.args.s c.args.site.now c.args.i c.requires.0 c.requires.1
    c.row_of-row.ensures

pub row_of-row-requires : goal.row_of-row-requires
row_of-row-requires c = record {
  l_value = c.requires.0.sizes;
  j_in_bounds = c.requires.0.words;
  b_value = box-here c.requires.1;
}

pub box_head_bytes-requires : goal.box_head_bytes-requires
box_head_bytes-requires c = (row (goal.at.box_head_bytes-requires c).After-row_of-row).size.boxes

pub bounds-row-21 : goal.bounds-row-21
bounds-row-21 c =
    let r = row (goal.at.bounds-row-21 c).After-row_of-row in
    omega (arith, r.size.words)

pub overflow_mul-result : goal.overflow_mul-result
overflow_mul-result c =
    let r = row (goal.at.overflow_mul-result c).After-row_of-row in
    omega (arith, c.size.ensures, row_count r, r.size.loads)

pub overflow_add-result : goal.overflow_add-result
overflow_add-result c =
    let r = row (goal.at.overflow_add-result c).After-row_of-row in
    omega (arith, c.size.ensures, row_count r, r.size.loads, r.size.boxes)

pub returns : goal.returns
returns c =
    let r = row (goal.at.returns c).After-row_of-row in
    omega (arith, c.size.ensures, box-long r)
