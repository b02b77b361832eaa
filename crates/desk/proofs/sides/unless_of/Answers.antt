use Rattle.std.proofs.Common.{sym, ◌∙◌, eq-eqb, ne_eqb}
use Rattle.rules.specs.Pick.{pick_true, pick-false}
use Rattle.desk.proofs.sides.unless_of.Goals as goal

pub returns-then-frame_of-frame : goal.returns-then-frame_of-frame
returns-then-frame_of-frame c =
    sym (pick_true _ _ _ (eq-eqb _ _ (sym c.frame_of.ensures ∙ c.if-frame_of-frame.true)))

pub returns : goal.returns
returns c =
    sym (pick-false _ _ _ (ne_eqb _ _ (λ e. c.if-frame_of-frame.false (c.frame_of.ensures ∙ e))))
