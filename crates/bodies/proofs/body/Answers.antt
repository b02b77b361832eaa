-- `bodies::body` meets its contract.
use mathlib.Core.Path.{sym, subst}
use Rattle.whole.specs.Whole.{ImageIs}
use Rattle.bodies.specs.Handed.{BodyIs}
use Rattle.bodies.specs.Handed.BodyIs.{not-by-form, by_form}
use Rattle.bodies.proofs.body.Goals as goal

pub returns-in-Some : goal.returns-in-Some
returns-in-Some c =
    let f = subst (ImageIs c.args.image.now) c.in-Some.is c.check_image-r.ensures in
    subst (BodyIs c.args.image.now c.args.k) (sym c.named.ensures)
    (by_form f.site f.by_form f.image)

pub returns-in-None : goal.returns-in-None
returns-in-None c =
    let im = c.args.image.now in
    not-by-form
    (subst (ImageIs im) c.in-None.is c.check_image-r.ensures)
