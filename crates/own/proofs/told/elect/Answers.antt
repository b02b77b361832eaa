-- 3 or 4 is found, or the row holds the box of the elected.
use mathlib.Core.Path.{sym, ◌∙◌}
use native.Mathlib.Nat.{sub-zero}
use Rattle.own.proofs.ToldLaws.{not-elected, was-elected}
use Rattle.own.proofs.told.elect.Goals as goal

pub returns-in-Err : goal.returns-in-Err
returns-in-Err c =
    not-elected c.args.s _ c.args.c (sym c.judge_election-came.ensures ∙ c.in-Err.is)

pub elect-requires : goal.elect-requires
elect-requires c =
    rw (sub-zero, c.row_width-end.ensures)
    c.requires.row_lent.by_form

pub returns-in-Ok : goal.returns-in-Ok
returns-in-Ok c =
    was-elected c.args.s _ c.args.c (sym c.judge_election-came.ensures ∙ c.in-Ok.is)
    c.requires.row_lent _ (sub-zero _ ∙ c.row_width-end.ensures) _ c.elect.ensures
