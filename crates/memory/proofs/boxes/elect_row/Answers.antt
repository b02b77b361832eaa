use mathlib.Core.Path.{ap}
use Prim.Native.Nat.{ℕ, ◌+◌}
use Rattle.laws.proofs.FormLaws.{sizes-says}
use Rattle.memory.proofs.SizeLaws.{box-few}
use Rattle.memory.proofs.RowLaws.{row_sized, row_cut, row_done, elect-there}
use Rattle.memory.proofs.boxes.elect_row.Goals as goal

pub elect-requires : goal.elect-requires
elect-requires c =
    let t = c.args.s in
    let cut = row_cut t c.args.b c.args.site.now c.requires.b_value
    c.row_start-start.ensures.0
    (ap (λ (w : ℕ). c.row_start-start.result + w) c.row_width.ensures) in
    rw cut
    (record {
      size = row_sized t c.args.b c.args.site.now c.requires.b_value c.requires.l_value
          c.requires.j_in_bounds;
      form = c.requires.b_value_2;
      me = box-few c.args.s.n c.args.b (sizes-says c.requires.l_value) c.requires.b_value;
    })

pub returns : goal.returns
returns c =
    let t = c.args.s in
    let from = c.row_start-start.ensures.0 in
    let to = ap (λ (w : ℕ). c.row_start-start.result + w) c.row_width.ensures in
    let cut = row_cut t c.args.b c.args.site.now c.requires.b_value from to in
    row_done t c.args.b c.args.site.now c.requires.b_value from to c.requires.l_value
    c.requires.j_in_bounds _
    c.elect.new.row
    (elect-there t c.args.b c.args.c cut c.elect.ensures)
