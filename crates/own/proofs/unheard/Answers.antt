-- 13, 1 or 2 is found, or the box answers.
use mathlib.Core.Path.{◌≡◌, sym, ◌∙◌}
use Rattle.laws.proofs.Types.{Act}
use Rattle.row.proofs.TurnLaws.{row-formed}
use Rattle.own.proofs.FormLaws.{act-asks}
use Rattle.own.proofs.OrderLaws.{found, clear, unheard-found}
use Rattle.own.proofs.EntryLaws.{row-long, row-by-form, no_mail, ActClear}
use Rattle.own.proofs.unheard.Goals.{After-judge-came, In-Ok}
use Rattle.own.proofs.unheard.Goals as goal

came : (c : After-judge-came) → c.judge-came.result
    ≡ found (act-asks c.args.s c.args.row.now no_mail Act.Heard)
came c = rw c.is_box.ensures at c.judge-came.ensures

pub returns-in-Err : goal.returns-in-Err
returns-in-Err c =
    unheard-found _ _ _ (sym (came (goal.at.returns-in-Err c).After-judge-came)
    ∙ c.in-Err.is)

came-Ok : (c : In-Ok) → c.judge-came.result
    ≡ found (act-asks c.args.s c.args.row.now no_mail Act.Heard)
came-Ok c = rw c.is_box.ensures at c.judge-came.ensures

passed : (c : In-Ok) → ActClear c.args.s c.args.row.now Act.Heard
passed c = clear (act-asks _ _ _ _) (sym (came-Ok c) ∙ c.in-Ok.is)

pub load-head-requires : goal.load-head-requires
load-head-requires c =
    rw c.used_row.ensures
    (row-formed _ _ (row-by-form (passed (goal.at.load-head-requires c).In-Ok))).readable

pub returns-in-Ok : goal.returns-in-Ok
returns-in-Ok c =
    c.unheard.ensures
    ∙ rw (c.load-head.ensures, c.used_row.ensures)
    (unheard-found _ _ _ (sym (came (goal.at.returns-in-Ok c).After-judge-came)
    ∙ c.in-Ok.is))

pub used_row-requires : goal.used_row-requires
used_row-requires c = row-long (passed (goal.at.used_row-requires c).In-Ok)
