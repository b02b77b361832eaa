use mathlib.Core.Path.{ap, ◌∙◌}
use mathlib.Core.List.{List}
use Prim.Native.Nat.{ℕ, ◌+◌}
use lib.ListN.{length}
use Rattle.rules.specs.Site.{fresh_box}
use Rattle.laws.proofs.FormLaws.{sizes-says}
use Rattle.memory.proofs.RowLaws.{row_sized, row_cut, row_done}
use Rattle.memory.proofs.boxes.fresh_row.Goals as goal

pub fresh-requires : goal.fresh-requires
fresh-requires c =
    let t = c.args.s in
    let from = c.row_start-start.ensures.0 in
    let to = ap (λ (w : ℕ). c.row_start-start.result + w) c.row_width.ensures in
    let size = row_sized t c.args.b c.args.site.now c.requires.b_value c.requires.l_value
    c.requires.j_in_bounds in (
      ap (λ (l : List ℕ). length l)
          (row_cut t c.args.b c.args.site.now c.requires.b_value from to)
          ∙ size.words,
      size.loads,
    )

pub returns : goal.returns
returns c =
    let t = c.args.s in
    let from = c.row_start-start.ensures.0 in
    let to = ap (λ (w : ℕ). c.row_start-start.result + w) c.row_width.ensures in
    row_done t c.args.b c.args.site.now c.requires.b_value from to c.requires.l_value
    c.requires.j_in_bounds
    fresh_box
    c.fresh.new.row
    (c.fresh.ensures c.args.s.n (sizes-says c.requires.l_value).few-boxes)
