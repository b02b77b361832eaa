-- 13, 1 or 2 is found, or the box answers.
use mathlib.Core.Path.{◌≡◌, sym, ◌∙◌}
use mathlib.Core.Bool.{false}
use Rattle.rules.specs.Site.{is_box}
use Rattle.std.specs.Prelude.{Ok}
use Rattle.own.specs.Lent.{judged, RowLent}
use Rattle.own.proofs.EntryLaws.{no_mail}
use Rattle.own.proofs.OrderLaws.{asked}
use Rattle.own.proofs.ToldLaws.{told-lent, holds-found}
use Rattle.own.proofs.told.holds.Goals.{After-judge-came, In-Ok}
use Rattle.own.proofs.told.holds.Goals as goal

came : (c : After-judge-came) → c.judge-came.result ≡ judged c.args.s c.args.row.now no_mail false
    (is_box c.args.s.n c.args.s.me)
came c = rw c.is_box.ensures at c.judge-came.ensures

pub returns-in-Err : goal.returns-in-Err
returns-in-Err c =
    holds-found _ _ no_mail _ _ _
    (sym (came (goal.at.returns-in-Err c).After-judge-came) ∙ c.in-Err.is)

came-Ok : (c : In-Ok) → c.judge-came.result ≡ judged c.args.s c.args.row.now no_mail false
    (is_box c.args.s.n c.args.s.me)
came-Ok c = rw c.is_box.ensures at c.judge-came.ensures

passed : (c : In-Ok) → judged c.args.s c.args.row.now no_mail false
    (is_box c.args.s.n c.args.s.me) ≡ Ok (tt {0})
passed c = sym (came-Ok c) ∙ c.in-Ok.is

lent : (c : In-Ok) → RowLent c.args.s c.args.row.now
lent c = told-lent _ _ no_mail _ (passed c) (asked _ _ no_mail _ (passed c)).2

pub returns-in-Ok : goal.returns-in-Ok
returns-in-Ok c =
    c.if_true.ensures
    ∙ rw (c.is_agreed.ensures, c.used_row-read.ensures)
    (holds-found _ _ no_mail _ _ _ (passed (goal.at.returns-in-Ok c).In-Ok))

pub used_row-read-requires : goal.used_row-read-requires
used_row-read-requires c = (lent (goal.at.used_row-read-requires c).In-Ok).words

pub is_agreed-requires : goal.is_agreed-requires
is_agreed-requires c =
    rw c.used_row-read.ensures (lent (goal.at.is_agreed-requires c).In-Ok).by_form
