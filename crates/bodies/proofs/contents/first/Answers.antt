-- `bodies::contents::first` meets its contract.
use mathlib.Core.Path.{subst}
use Rattle.whole.specs.Whole.{ImageIs}
use Rattle.bodies.specs.Handed.Opened.{not-by-form, by_form}
use Rattle.bodies.proofs.contents.first.Goals as goal

pub returns-in-Some : goal.returns-in-Some
returns-in-Some c =
    let im = c.args.image.now in
    let f = subst (ImageIs im) c.in-Some.is c.check_image-r.ensures in
    by_form f.site f.by_form f.image

pub returns-in-None : goal.returns-in-None
returns-in-None c =
    let im = c.args.image.now in
    not-by-form
    (subst (ImageIs im) c.in-None.is c.check_image-r.ensures)
