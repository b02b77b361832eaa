-- The box number is tested, and then the verdict is carried out.
use Rattle.memory.specs.Memory.{site_of}
use Rattle.site.proofs.AfterLaws.{refused-after}
use Rattle.site.proofs.CallLaws.{presence_no_box}
use Rattle.site.proofs.KnownLaws.{general-lent, five-words, epoch-most, not-box, AtBox}
use Rattle.site.proofs.KnownLaws.{at-box, knows, box-few, here, presence_known}
use mathlib.Core.Path.{ap}
use mathlib.Core.Bool.{not}
use Rattle.site.proofs.presence.change.Goals.{Else-not-is_box}
use Rattle.site.proofs.presence.change.Goals as goal

-- What is known where c is a box.
known : (c : Else-not-is_box) → AtBox c.args.site.now c.args.links.now c.args.c
    c.setting_of-s.result
known c =
    at-box c.requires
    c.setting_of-s.ensures c.is_box.ensures (ap not c.if-not-is_box.false)

pub returns-then-not-is_box : goal.returns-then-not-is_box
unfolding site_of
returns-then-not-is_box c =
    refused-after _ _ _ _
    (presence_no_box _ _ c.requires _ c.args.what
    (not-box c.args.site.now c.setting_of-s.ensures
    c.is_box.ensures (ap not c.if-not-is_box.true)))

pub present_as-requires : goal.present_as-requires
present_as-requires c =
    let k = known (goal.at.present_as-requires c).Else-not-is_box in
    (five-words _ _ k.form, epoch-most (knows k))

pub returns : goal.returns
returns c =
    presence_known (known (goal.at.returns c).Else-not-is_box) c.args.what
    c.presence_verdict-v.ensures c.present_then-w.ensures c.present_as.ensures

pub setting_of-s-requires : goal.setting_of-s-requires
setting_of-s-requires c = general-lent _ _ c.requires

pub has-here-requires : goal.has-here-requires
has-here-requires c = box-few (known (goal.at.has-here-requires c).Else-not-is_box)

pub presence_verdict-v-requires : goal.presence_verdict-v-requires
presence_verdict-v-requires c = here (known (goal.at.presence_verdict-v-requires c).Else-not-is_box)
    c.has-here.ensures
