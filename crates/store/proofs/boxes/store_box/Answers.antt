-- `store::boxes::store_box` meets its contract: the box's words, and then its index.
use mathlib.Core.Path.{◌∙◌}
use Rattle.store.proofs.BoxLaws.{box-booked, box-held}
use Rattle.store.proofs.boxes.store_box.Goals as goal

pub build-requires : goal.build-requires
build-requires c =
    let got = c.read_box-end.ensures c.requires.has.place c.requires.has.found in
    box-booked c.args.n c.args.j c.requires.n_le_most_boxes.1 c.requires.has.found.thing
    c.requires.has.found.good _
    (c.read_box-end.auto.row ∙ c.requires.row_len) got.0

pub returns : goal.returns
returns c = λ q f.
    let got = c.read_box-end.ensures q f in (
      box-held c.args.n c.args.j c.requires.n_le_most_boxes.0 f.thing f.good _ got.0 _
          c.build.ensures,
      got.1,
    )
