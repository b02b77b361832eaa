-- `row::mail_turn` meets its contract.
use mathlib.Core.Path.{◌∙◌, ap}
use Prim.Native.Nat.{ℕ}
use Rattle.rules.specs.Box.{held_at}
use Rattle.letter.proofs.FormLaws.{numbered}
use Rattle.row.proofs.TurnLaws.{row-formed, first-within, place-formed, mail_law}
use Rattle.row.proofs.mail_turn.Goals as goal

pub load-head-requires : goal.load-head-requires
load-head-requires c =
    (row-formed c.args.s c.args.row.now c.requires.row_by_form).readable

pub span-agreed-requires : goal.span-agreed-requires
span-agreed-requires c =
    rw c.load-head.ensures (
      (row-formed c.args.s c.args.row.now c.requires.row_by_form).says.last,
      first-within c.args.s c.args.row.now c.requires.row_by_form,
    )

pub records-requires : goal.records-requires
records-requires c =
    (row-formed c.args.s c.args.row.now c.requires.row_by_form).readable.room

pub load-m-requires : goal.load-m-requires
load-m-requires c =
    (place-formed c.args.s c.args.row.now c.requires.row_by_form c.args.place.now
    c.requires.place_by_form).readable

pub first_record-one-requires : goal.first_record-one-requires
first_record-one-requires c =
    (place-formed c.args.s c.args.row.now c.requires.row_by_form c.args.place.now
    c.requires.place_by_form).readable

pub after_last-next-requires : goal.after_last-next-requires
after_last-next-requires c =
    let f = place-formed c.args.s c.args.row.now c.requires.row_by_form c.args.place.now
    c.requires.place_by_form in record {
      place_readable = f.readable;
      numbered = numbered c.args.s.j c.args.place.now f.says;
    }

pub returns : goal.returns
returns c =
    mail_law c.args.s c.args.row.now c.requires.row_by_form c.args.place.now
    c.requires.place_by_form c.args.sender
    _ _ _ _ _ _ _
    c.load-head.ensures c.records.ensures
    (c.held_at-mine.ensures
    ∙ ap (λ (l : ℕ). held_at c.records.result.now l) c.span-agreed.ensures)
    c.load-m.ensures c.first_record-one.ensures c.after_last-next.ensures
    c.any_mail.ensures
