-- `rules::model::BoxState::any_act` meets its contract.
use mathlib.Core.Path.{sym, ◌∙◌}
use Rattle.rules.proofs.BoundLaws.{bounded-box, guard_go, guard_stop}
use Rattle.rules.specs.Bounds.{any_act}
use Rattle.rules.proofs.model.BoxState.any_act.Goals as goal

pub act-requires : goal.act-requires
act-requires c =
    let h = bounded-box _ _ (sym c.bounded-fits.ensures ∙ c.if-fits.true) in
    record { kept = h.0; setting = h.1 }

pub returns-then-fits : goal.returns-then-fits
unfolding any_act
returns-then-fits c =
    c.act.ensures ∙ guard_go _ _ _ _ c.bounded-fits.ensures c.if-fits.true

pub returns : goal.returns
unfolding any_act
returns c =
    c.stay.ensures ∙ guard_stop _ _ _ _ c.bounded-fits.ensures c.if-fits.false
