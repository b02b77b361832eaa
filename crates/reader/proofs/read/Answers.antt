-- `reader::read` meets its contract: the image is checked, then its bodies are read.
use mathlib.Core.Path.{◌≡◌, subst}
use Rattle.std.specs.Prelude.{Some, None}
use Rattle.whole.specs.Whole.{ImageIs}
use Rattle.reader.specs.Reader.{not-by-form}
use Rattle.reader.proofs.read.Goals as goal

pub read_bodies-requires : goal.read_bodies-requires
read_bodies-requires c =
    let e : c.check_image-r.result ≡ Some c.in-Some.at = c.in-Some.is in
    subst (ImageIs c.args.image.now) e c.check_image-r.ensures

pub returns-in-Some : goal.returns-in-Some
returns-in-Some c =
    c.read_bodies.ensures

pub returns-in-None : goal.returns-in-None
returns-in-None c =
    let e : c.check_image-r.result ≡ None = c.in-None.is in
    not-by-form (subst (ImageIs c.args.image.now) e c.check_image-r.ensures)
