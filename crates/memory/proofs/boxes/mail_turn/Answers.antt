use mathlib.Core.Path.{refl, ◌∙◌}
use Rattle.words.proofs.PartLaws.{length_part}
use Rattle.rules.specs.Box.{mail, turn_of}
use Rattle.letter.specs.Place.{letter_at}
use Rattle.link.specs.Link.{place_width}
use Rattle.memory.proofs.PutLaws.{part_cut}
use Rattle.memory.proofs.RowLaws.{row-by-form, box-at}
use Rattle.memory.proofs.boxes.mail_turn.Goals as goal

pub mail_turn-requires : goal.mail_turn-requires
mail_turn-requires c =
    let t = c.args.s in
    let w = place_width c.args.s.j in record {
      row_by_form = rw c.row_of.ensures (row-by-form t c.args.site.now c.requires.box_lent);
      place_by_form = rw (part_cut w {p = c.args.p} c.args.links.now refl refl)
          (record {
            words = length_part c.args.p w c.args.links.now c.requires.j_in_bounds;
            form = c.requires.j_value;
          });
    }

pub returns : goal.returns
returns c =
    let t = c.args.s in
    let cut = part_cut (place_width c.args.s.j) {p = c.args.p} c.args.links.now refl refl in
    let box = box-at t c.args.s.me c.args.site.now c.requires.box_lent.me
    c.row_of.ensures in
    c.mail_turn.ensures
    ∙ (λ i. turn_of t (box i) (mail c.args.sender (letter_at (cut i))))
