-- `store::mail::store_letter` meets its contract: its kind, its words, and then the records behind
-- them.
use mathlib.Core.Path.{◌≡◌, ap, ◌∙◌}
use native.Mathlib.Omega.{arith}
use lib.ListN.{length}
use Rattle.laws.proofs.FormLaws.{letter-says}
use Rattle.letter.specs.Place.{kind_of}
use Rattle.image.specs.Image.{first_words, letter_groups}
use Rattle.image.proofs.CutLaws.{letter-groups-long}
use Rattle.image.proofs.Lengths.{length-letter}
use Rattle.image.proofs.HeadedLaws.{headed_asks, headed_stored, known-has, known-stored}
use Rattle.image.proofs.LetterLaws.{letter-few, kind-known, kind-of, letter_headed}
use Rattle.store.specs.Store.{HoldsLetter}
use Rattle.store.proofs.MailLaws.{letter-room, letter-held}
use Rattle.store.proofs.mail.store_letter.Goals.{After-letter_groups-groups}
use Rattle.store.proofs.mail.store_letter.Goals as goal

pub get_at-requires : goal.get_at-requires
get_at-requires c =
    (letter-room c.args.j c.requires.has, omega arith)

groups : (c : After-letter_groups-groups)
    → c.letter_groups-groups.result
    ≡ letter_groups (kind_of c.get_at.result)
groups c = c.letter_groups-groups.ensures.0 ∙ ap letter_groups c.kind_of-kind.ensures

pub get_headed-requires : goal.get_headed-requires
get_headed-requires c =
    let x = c.get_at.result in
    let room = letter-room c.args.j c.requires.has in
    let known = kind-known c.args.j c.requires.place_sized.most room c.get_at.ensures in let made =
    headed_asks (letter_headed c.args.j c.requires.place_sized.most x) c.args.src.now c.args.at
    c.letter_groups-groups.result (length c.args.place.now)
    (groups (goal.at.get_headed-requires c).After-letter_groups-groups) (
      omega arith,
      omega (arith, c.requires.place_sized.words),
      omega (arith, c.requires.place_sized.words, c.requires.place_sized.most),
    )
    (λ y g.
    omega (
      arith,
      length-letter y,
      letter-groups-long (kind_of x),
      ap first_words (kind-of c.args.j c.requires.place_sized.most x y g.1),
    ))
    (λ y g. omega (arith, letter-few (letter-says g.0), c.requires.place_sized.words))
    (known-has known c.requires.has) in record {
      cut = made.0;
      count_lt_head = made.1.0;
      groups_in_bounds = made.1.1.0;
      records_there = made.1.1.1;
    }

pub returns : goal.returns
returns c =
    let j = c.args.j in
    let most = c.requires.place_sized.most in
    known-stored
    (kind-known j most (letter-room j c.requires.has) c.get_at.ensures)
    (HoldsLetter j _)
    (headed_stored (letter_headed j most c.get_at.result) (HoldsLetter j)
    (λ y g tail. letter-held j y tail (letter-few (letter-says g.0)))
    c.letter_groups-groups.result (groups (goal.at.returns c).After-letter_groups-groups)
    c.get_headed.ensures)
