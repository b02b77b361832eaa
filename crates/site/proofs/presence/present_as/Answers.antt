use mathlib.Core.Path.{refl}
use Rattle.site.proofs.GeneralLaws.{presented-go}
use Rattle.site.proofs.presence.present_as.Goals as goal

pub returns-in-Go : goal.returns-in-Go
returns-in-Go c =
    presented-go _ _ _ _ _ _
    c.in-Go.is
    c.raise-epoch.ensures
    c.put_general.ensures

pub returns-in-Discard : goal.returns-in-Discard
returns-in-Discard c = rw c.in-Discard.is (refl, refl)

pub returns-in-Refuse : goal.returns-in-Refuse
returns-in-Refuse c = rw c.in-Refuse.is (refl, refl)
