-- The part that is looked at is the place.
use mathlib.Core.Path.{refl, ap, ◌∙◌}
use Rattle.words.proofs.PartLaws.{cut_at}
use Rattle.letter.specs.Place.{place_form}
use Rattle.link.proofs.is_place_by_form.Goals as goal

pub returns : goal.returns
returns c =
    c.is_by_form.ensures
    ∙ ap (place_form c.args.j) (cut_at c.args.link.now c.place_at-start.ensures.0 refl)
