use mathlib.Core.Path.{sym}
use lib.Seq.{length-take-le}
use Rattle.replay.proofs.ImageLaws.{image-fits}
use Rattle.replay.proofs.site_image.send_image.Goals as goal

pub slice_bounds-send-end : goal.slice_bounds-send-end
slice_bounds-send-end g c =
    image-fits c.write.ensures c.in-Ok.is

pub slice_bounds-send-end-in-Ok : goal.slice_bounds-send-end-in-Ok
slice_bounds-send-end-in-Ok g c =
    sym (length-take-le _ _ (image-fits c.write.ensures c.in-Ok.is))
