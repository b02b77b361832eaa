use mathlib.Core.Path.{ap}
use native.Mathlib.Omega.{arith}
use Rattle.image.specs.Image.{first_words}
use Rattle.image.proofs.CutLaws.{first-few}
use Rattle.writer.proofs.MailLaws.{PlaceOf, place_is, place-count, letter-long}
use Rattle.writer.proofs.mail.letter_length.Goals.{After-place_of-place}
use Rattle.writer.proofs.mail.letter_length.Goals as goal

place : (c : After-place_of-place) →
    let a = c.args in
    PlaceOf c.args.j c.args.l c.args.link.now c.args.i c.place_of-place.result.now
place c =
    place_is c.args.j c.args.l c.args.link.now c.args.i c.requires.0 c.requires.1
    c.place_of-place.ensures

pub bounds-place-0 : goal.bounds-place-0
bounds-place-0 c = omega (arith, (place (goal.at.bounds-place-0 c).After-place_of-place).size.words)

pub bounds-place-5 : goal.bounds-place-5
bounds-place-5 c = omega (arith, (place (goal.at.bounds-place-5 c).After-place_of-place).size.words)

pub overflow_mul-result : goal.overflow_mul-result
overflow_mul-result c =
    let p = place (goal.at.overflow_mul-result c).After-place_of-place in
    omega (arith, c.size.ensures, place-count p, p.size.most)

pub overflow_add-result : goal.overflow_add-result
overflow_add-result c =
    let p = place (goal.at.overflow_add-result c).After-place_of-place in
    omega (
      arith,
      c.size.ensures,
      place-count p,
      p.size.most,
      c.letter_head_bytes.ensures,
      first-few c.kind_of-kind.result,
    )

pub returns : goal.returns
returns c =
    omega (
      arith,
      c.size.ensures,
      letter-long (place (goal.at.returns c).After-place_of-place),
      c.letter_head_bytes.ensures,
      ap first_words c.kind_of-kind.ensures,
    )
