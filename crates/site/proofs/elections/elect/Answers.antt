-- The box number is tested, and then the verdict is carried out.
use Rattle.memory.specs.Memory.{site_of}
use Rattle.site.proofs.AfterLaws.{refused-after}
use Rattle.site.proofs.CallLaws.{elect-no-box}
use Rattle.site.proofs.KnownLaws.{general-lent, boxes-most, not-box, AtBox, at-box, knows}
use Rattle.site.proofs.KnownLaws.{box-few, here}
use Rattle.site.proofs.ElectLaws.{elect-known}
use mathlib.Core.Path.{ap}
use mathlib.Core.Bool.{not}
use Rattle.site.proofs.elections.elect.Goals.{Else-not-is_box}
use Rattle.site.proofs.elections.elect.Goals as goal

-- What is known where c is a box.
known : (c : Else-not-is_box) → AtBox c.args.site.now c.args.links.now c.args.c
    c.setting_of-s.result
known c =
    at-box c.requires
    c.setting_of-s.ensures c.is_box.ensures (ap not c.if-not-is_box.false)

pub returns-then-not-is_box : goal.returns-then-not-is_box
unfolding site_of
returns-then-not-is_box c =
    refused-after _ _ _ _
    (elect-no-box _ _ c.requires _
    (not-box c.args.site.now c.setting_of-s.ensures
    c.is_box.ensures (ap not c.if-not-is_box.true)))

pub elect_verdict-v-requires : goal.elect_verdict-v-requires
elect_verdict-v-requires c =
    let k = known (goal.at.elect_verdict-v-requires c).Else-not-is_box in
    (here k c.has-here.ensures, boxes-most (knows k))

pub returns : goal.returns
returns c =
    elect-known (known (goal.at.returns c).Else-not-is_box) c.elect_verdict-v.ensures
    c.elect_by.ensures

pub setting_of-s-requires : goal.setting_of-s-requires
setting_of-s-requires c = general-lent _ _ c.requires

pub has-here-requires : goal.has-here-requires
has-here-requires c = box-few (known (goal.at.has-here-requires c).Else-not-is_box)

pub elect_by-requires : goal.elect_by-requires
elect_by-requires c = knows (known (goal.at.elect_by-requires c).Else-not-is_box)
