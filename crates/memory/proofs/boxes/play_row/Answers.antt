use mathlib.Core.Path.{ap}
use Prim.Native.Nat.{ℕ, ◌+◌}
use Rattle.memory.proofs.RowLaws.{row-plays, row-played}
use Rattle.memory.proofs.boxes.play_row.Goals as goal

pub play-requires : goal.play-requires
play-requires c =
    row-plays c.args.s c.args.site.now c.args.place.now c.args.t c.requires
    c.row_start-start.ensures.0
    (ap (λ (w : ℕ). c.row_start-start.result + w) c.row_width.ensures)

pub returns : goal.returns
returns c =
    row-played c.args.s c.args.site.now c.args.place.now c.args.t c.requires
    c.row_start-start.ensures.0
    (ap (λ (w : ℕ). c.row_start-start.result + w) c.row_width.ensures)
    c.play.new.row c.play.ensures
