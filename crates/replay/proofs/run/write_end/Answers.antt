use mathlib.Core.Path.{sym}
use lib.Seq.{length-take-le}
use Rattle.feed.proofs.WholeLaws.{end_fits}
use Rattle.replay.proofs.run.write_end.Goals as goal

pub slice_bounds-write-end-2 : goal.slice_bounds-write-end-2
slice_bounds-write-end-2 g c =
    sym (length-take-le _ _ (end_fits c.in-Ok.is c.feed_end.ensures))

pub slice_bounds-write-end : goal.slice_bounds-write-end
slice_bounds-write-end g c = end_fits c.in-Ok.is c.feed_end.ensures
