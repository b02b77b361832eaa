-- Its words in their groups, then the records.
use mathlib.Core.Path.{◌≡◌, ap, ◌∙◌}
use native.Mathlib.Omega.{arith}
use Rattle.image.specs.Image.{letter_groups}
use Rattle.writer.proofs.MailLaws.{PlaceOf, kind_in, place_is, letter-put}
use Rattle.writer.proofs.PutLaws.{put_needs, put-wrote}
use Rattle.writer.proofs.mail.write_letter.Goals.{After-letter_groups-groups, After-place_of-place}
use Rattle.writer.proofs.mail.write_letter.Goals as goal

place : (c : After-place_of-place) →
    let a = c.args in
    PlaceOf c.args.j c.args.l c.args.link.now c.args.i c.place_of-place.result.now
place c =
    place_is c.args.j c.args.l c.args.link.now c.args.i c.requires.readable_link.0
    c.requires.readable_link.1
    c.place_of-place.ensures

pub bounds-place-0 : goal.bounds-place-0
bounds-place-0 c = omega (arith, (place (goal.at.bounds-place-0 c).After-place_of-place).size.words)

place-letter_groups_groups : (c : After-letter_groups-groups) →
    let a = c.args in
    PlaceOf c.args.j c.args.l c.args.link.now c.args.i c.place_of-place.result.now
place-letter_groups_groups c =
    place_is c.args.j c.args.l c.args.link.now c.args.i c.requires.readable_link.0
    c.requires.readable_link.1
    c.place_of-place.ensures

-- The groups of its kind.
groups : (c : After-letter_groups-groups)
    → c.letter_groups-groups.result
    ≡ letter_groups (kind_in (place-letter_groups_groups c))
groups c = c.letter_groups-groups.ensures.0 ∙ ap letter_groups c.kind_of-kind.ensures

pub put_headed-requires : goal.put_headed-requires
put_headed-requires c = let made =
    put_needs (letter-put (place (goal.at.put_headed-requires c).After-place_of-place))
    (groups (goal.at.put_headed-requires c).After-letter_groups-groups) c.requires.room in record {
      cut = made.0;
      count_in_bounds = made.1.0;
      room = made.1.1;
    }

pub returns : goal.returns
returns c =
    put-wrote (letter-put (place (goal.at.returns c).After-place_of-place))
    (groups (goal.at.returns c).After-letter_groups-groups)
    c.put_headed.ensures
