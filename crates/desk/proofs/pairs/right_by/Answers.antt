use Rattle.std.proofs.Common.{sym, ap, ◌∙◌, eq-eqb, ne_eqb}
use Rattle.rules.specs.Pick.{pick_true, pick-false}
use Rattle.desk.specs.Desk.{right_by}
use Rattle.std.specs.Prelude.{Ok}
use Rattle.desk.proofs.pairs.right_by.Goals as goal

pub returns-then-w-eq0 : goal.returns-then-w-eq0
unfolding right_by
returns-then-w-eq0 c = sym (pick_true _ _ _ (eq-eqb _ _ c.if-w-eq0.true))

pub returns : goal.returns
unfolding right_by
returns c =
    ap Ok c.frame_of.ensures
    ∙ sym (pick-false _ _ _ (ne_eqb _ _ c.if-w-eq0.false))
