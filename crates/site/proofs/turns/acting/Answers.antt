-- The box number is tested; then the turn stays, finds a link full, or is carried out.
use Rattle.words.proofs.TestLaws.{fails, passes}
use Rattle.rules.specs.Box.{own}
use Rattle.memory.specs.Memory.{site_of}
use Rattle.site.proofs.AfterLaws.{refused-after}
use Rattle.site.proofs.CallLaws.{acting-no-box}
use Rattle.site.proofs.KnownLaws.{general-lent, links-lent, not-box, AtBox, at-box, knows}
use Rattle.site.proofs.TurnKnown.{box-lent, me-is, apart, acting-stays, acting-full}
use Rattle.site.proofs.TurnKnown.{acting-carries, acting-played}
use mathlib.Core.Path.{ap}
use mathlib.Core.Bool.{not}
use Rattle.site.proofs.turns.acting.Goals.{Else-not-is_box}
use Rattle.site.proofs.turns.acting.Goals as goal

-- What is known where c is a box.
known : (c : Else-not-is_box) → AtBox c.args.site.now c.args.links.now c.args.c
    c.setting_of-s.result
known c =
    at-box c.requires.links_value
    c.setting_of-s.ensures c.is_box.ensures (ap not c.if-not-is_box.false)

pub returns-then-not-is_box : goal.returns-then-not-is_box
unfolding site_of
returns-then-not-is_box c =
    refused-after _ _ _ _
    (acting-no-box _ _ c.requires.links_value c.args.c c.args.a
    (not-box c.args.site.now c.setting_of-s.ensures
    c.is_box.ensures (ap not c.if-not-is_box.true)))

pub returns-then-not-is_accepted : goal.returns-then-not-is_accepted
returns-then-not-is_accepted c =
    acting-stays (known (goal.at.returns-then-not-is_accepted c).Else-not-is_box) c.args.a
    c.act_turn-t.ensures (fails c.is_accepted.ensures (ap not c.if-not-is_accepted.true))

pub has_room-requires : goal.has_room-requires
has_room-requires c =
    let k = known (goal.at.has_room-requires c).Else-not-is_box in record {
      links_lent = links-lent (knows k);
      me_value = me-is k;
      not_to = apart k (own c.args.a)
          c.act_turn-t.ensures tt;
    }

pub returns-then-not-has_room : goal.returns-then-not-has_room
returns-then-not-has_room c =
    acting-full (known (goal.at.returns-then-not-has_room c).Else-not-is_box) c.args.a
    c.act_turn-t.ensures (passes c.is_accepted.ensures (ap not c.if-not-is_accepted.false))
    (fails c.has_room.ensures (ap not c.if-not-has_room.true))

pub carry_out-requires : goal.carry_out-requires
carry_out-requires c =
    acting-carries (known (goal.at.carry_out-requires c).Else-not-is_box) c.args.a
    c.act_turn-t.ensures c.requires.act_fits
    (passes c.has_room.ensures (ap not c.if-not-has_room.false))

pub returns : goal.returns
returns c =
    acting-played (known (goal.at.returns c).Else-not-is_box) c.args.a
    c.act_turn-t.ensures (passes c.is_accepted.ensures (ap not c.if-not-is_accepted.false))
    (passes c.has_room.ensures (ap not c.if-not-has_room.false)) c.carry_out.ensures

pub setting_of-s-requires : goal.setting_of-s-requires
setting_of-s-requires c = general-lent _ _ c.requires.links_value

pub act_turn-t-requires : goal.act_turn-t-requires
act_turn-t-requires c = box-lent (known (goal.at.act_turn-t-requires c).Else-not-is_box)
