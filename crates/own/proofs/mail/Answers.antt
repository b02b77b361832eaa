-- 13, 1 or 2 is found, or the turn is concluded.
use mathlib.Core.Path.{◌≡◌, refl, sym, ◌∙◌}
use Rattle.rules.specs.Box.{mail, turn_of}
use Rattle.own.specs.Entry.{place_of, own_box, own_letter}
use Rattle.own.proofs.FormLaws.{mail-asks}
use Rattle.own.proofs.OrderLaws.{found, clear}
use Rattle.own.proofs.EntryLaws.{refused, row-long, row-by-form, place-long, place-by-form}
use Rattle.own.proofs.EntryLaws.{MailClear, mail-fits, turn-concludes, turn-owned}
use Rattle.own.proofs.mail.Goals.{After-judge-came, After-mail_turn-t, In-Ok}
use Rattle.own.proofs.mail.Goals as goal

came : (c : After-judge-came) → c.judge-came.result
    ≡ found (mail-asks c.args.s c.args.row.now c.args.letter.now c.args.sender)
came c = rw c.is_link.ensures at c.judge-came.ensures

pub returns-in-Err : goal.returns-in-Err
returns-in-Err c = let made =
    refused (mail-asks _ _ _ _) (sym (came (goal.at.returns-in-Err c).After-judge-came)
    ∙ c.in-Err.is)
    c.refused.ensures in record {
      owned = made.0;
      still_reads = made.1;
    }

came-Ok : (c : In-Ok) → c.judge-came.result
    ≡ found (mail-asks c.args.s c.args.row.now c.args.letter.now c.args.sender)
came-Ok c = rw c.is_link.ensures at c.judge-came.ensures

passed : (c : In-Ok) → MailClear c.args.s c.args.row.now c.args.letter.now c.args.sender
passed c = clear (mail-asks _ _ _ _) (sym (came-Ok c) ∙ c.in-Ok.is)

pub mail_turn-t-requires : goal.mail_turn-t-requires
mail_turn-t-requires c =
    let ok = passed (goal.at.mail_turn-t-requires c).In-Ok in
    rw (c.used_row.ensures, c.used_place-read.ensures)
    record { row_by_form = row-by-form ok; place_by_form = place-by-form ok }

-- Its turn.
turn : (c : After-mail_turn-t) →
    c.mail_turn-t.result
    ≡ turn_of c.args.s (own_box c.args.s c.args.row.now)
    (mail c.args.sender (own_letter c.args.s c.args.letter.now))
turn c =
    rw (c.used_row.ensures, c.used_place-read.ensures)
    at c.mail_turn-t.ensures

pub conclude-requires : goal.conclude-requires
conclude-requires c =
    rw c.used_place-read.ensures
    (turn-concludes (passed (goal.at.conclude-requires c).In-Ok) _ refl
    (turn (goal.at.conclude-requires c).After-mail_turn-t)
    (mail-fits (passed (goal.at.conclude-requires c).In-Ok)))

pub returns-in-Ok : goal.returns-in-Ok
returns-in-Ok c = record {
  owned = turn-owned (passed (goal.at.returns-in-Ok c).In-Ok)
      (place_of c.args.s.j c.args.letter.now) refl
      (turn (goal.at.returns-in-Ok c).After-mail_turn-t)
      (rw c.used_place-read.ensures at c.conclude.ensures.owned);
  still_reads = c.conclude.ensures.still_reads;
}

pub used_place-read-requires : goal.used_place-read-requires
used_place-read-requires c = place-long (passed (goal.at.used_place-read-requires c).In-Ok)

pub used_row-requires : goal.used_row-requires
used_row-requires c = row-long (passed (goal.at.used_row-requires c).In-Ok)
