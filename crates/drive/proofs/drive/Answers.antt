-- `drive::drive` meets its contract.
use mathlib.Core.Path.{sym, ◌∙◌}
use Rattle.drive.proofs.DriveLaws.{not-driven, driven}
use Rattle.drive.proofs.drive.Goals as goal

pub returns-then-is_refusal : goal.returns-then-is_refusal
returns-then-is_refusal c =
    not-driven c.fresh-r.ensures (sym c.is_refusal.ensures ∙ c.if-is_refusal.true)

pub returns : goal.returns
returns c =
    driven c.fresh-r.ensures
    (sym c.is_refusal.ensures ∙ c.if-is_refusal.false) c.go_on.ensures
