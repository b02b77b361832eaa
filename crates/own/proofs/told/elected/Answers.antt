-- 13, 1 or 2 is found, or the row is told.
use mathlib.Core.Path.{◌≡◌, sym, ◌∙◌}
use mathlib.Core.Bool.{false}
use Rattle.own.specs.Lent.{judged}
use Rattle.own.proofs.EntryLaws.{no_mail}
use Rattle.own.proofs.ToldLaws.{untold, both_boxes, elected-found, elect-lent, elect-box}
use Rattle.own.proofs.told.elected.Goals.{After-judge-came}
use Rattle.own.proofs.told.elected.Goals as goal

came : (c : After-judge-came) → c.judge-came.result ≡ judged c.args.s c.args.row.now no_mail false
    (both_boxes c.args.s c.args.row.now no_mail c.args.c)
came c =
    rw (c.is_box-2.ensures, c.is_box.ensures) at c.judge-came.ensures

pub returns-in-Err : goal.returns-in-Err
returns-in-Err c =
    untold _ _ _ _ _
    (sym (elected-found _ _ no_mail _ (sym (came (goal.at.returns-in-Err c).After-judge-came)
    ∙ c.in-Err.is)))

pub elect-requires : goal.elect-requires
elect-requires c =
    let h = sym (came (goal.at.elect-requires c).After-judge-came) ∙ c.in-Ok.is in record {
      row_lent = elect-lent _ _ no_mail c.args.c h;
      c_le_most_boxes = elect-box _ _ no_mail c.args.c h;
    }

pub returns-in-Ok : goal.returns-in-Ok
returns-in-Ok c =
    rw (← elected-found _ _ no_mail _ (sym (came (goal.at.returns-in-Ok c).After-judge-came)
    ∙ c.in-Ok.is))
    c.elect.ensures
