-- `rules::model::BoxState::any_mail` meets its contract.
use mathlib.Core.Path.{sym, ◌∙◌}
use Rattle.rules.proofs.BoundLaws.{bounded-box, bounded-mail, both_of, first-of, second-of}
use Rattle.rules.proofs.BoundLaws.{guard_go, guard_stop}
use Rattle.rules.specs.Bounds.{any_mail}
use Rattle.rules.proofs.model.BoxState.any_mail.Goals as goal

pub on_mail-requires : goal.on_mail-requires
on_mail-requires c =
    let f = c.bounded-box_fits.result in
    let g = c.bounded-mail_fits.result in
    let h = bounded-box _ _ (sym c.bounded-box_fits.ensures ∙ first-of f g c.if-fits.true) in
    let m = bounded-mail _ (sym c.bounded-mail_fits.ensures ∙ second-of f g c.if-fits.true) in
    record { kept = h.0; setting = h.1; mail = m }

pub returns-then-fits : goal.returns-then-fits
unfolding any_mail
returns-then-fits c =
    c.on_mail.ensures
    ∙ guard_go _ _ _ _
    (both_of c.bounded-box_fits.ensures c.bounded-mail_fits.ensures)
    c.if-fits.true

pub returns : goal.returns
unfolding any_mail
returns c =
    c.stay.ensures
    ∙ guard_stop _ _ _ _
    (both_of c.bounded-box_fits.ensures c.bounded-mail_fits.ensures)
    c.if-fits.false
