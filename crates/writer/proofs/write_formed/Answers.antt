-- The length is known before the first byte is written.
use native.Mathlib.Omega.{arith}
use Rattle.writer.specs.Writer.{too_short}
use Rattle.writer.proofs.WholeLaws.{wrote-image}
use Rattle.writer.proofs.write_formed.Goals as goal

pub returns-then-out-e : goal.returns-then-out-e
returns-then-out-e c =
    too_short c.requires (omega (arith, c.if-out-e.true, c.measure-e.ensures.total))

pub returns : goal.returns
returns c =
    wrote-image c.args.site.now c.args.links.now c.args.out.now _
    c.write_image-end.result c.requires c.write_image-end.ensures
