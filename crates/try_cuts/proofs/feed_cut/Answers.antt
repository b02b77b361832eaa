use Prim.Native.Nat.{ℕ, ◌≤◌}
use mathlib.Core.Path.{sym}
use mathlib.Core.List.{List}
use native.Mathlib.Omega.{arith}
use lib.ListN.{length, take, length-take}
use lib.Seq.{length-take-le}
use Rattle.feed.proofs.WholeLaws.{piece_fits, end_fits}
use Rattle.try_cuts.proofs.feed_cut.Goals as goal

part-fits : (m n : ℕ) (l : List ℕ) → m ≤ length (take n l) → m ≤ length l
part-fits m n l h = omega (arith, length-take n l)

pub slice_bounds-rest-count : goal.slice_bounds-rest-count
slice_bounds-rest-count c =
    part-fits c.in-Ok.t.took c.min.result c.loop-rest.rest.now
    (piece_fits c.in-Ok.is c.feed_piece.ensures).1

pub slice_bounds-rest-start : goal.slice_bounds-rest-start
slice_bounds-rest-start c =
    part-fits c.in-Ok.t.took c.min.result c.loop-rest.rest.now
    (piece_fits c.in-Ok.is c.feed_piece.ensures).1

pub slice_bounds-write_all-end-2 : goal.slice_bounds-write_all-end-2
slice_bounds-write_all-end-2 c = end_fits c.in-Ok-feed_end.is c.feed_end.ensures

pub slice_bounds-write_all-end-3 : goal.slice_bounds-write_all-end-3
slice_bounds-write_all-end-3 c =
    sym (length-take-le _ _ (end_fits c.in-Ok-feed_end.is c.feed_end.ensures))
