use Rattle.site.proofs.CarryLaws.{not-to, room-to, room-none}
use Rattle.site.proofs.turns.has_room.Goals as goal

pub has_room-requires : goal.has_room-requires
has_room-requires c = record {
  links_lent = c.requires.links_lent;
  me_value = c.requires.me_value;
  me_value_2 = not-to c.args.s c.args.links.now c.args.out _ _ c.in-To.is
      c.requires.not_to;
}

pub returns-in-Nothing : goal.returns-in-Nothing
returns-in-Nothing c =
    room-none c.args.s c.args.links.now c.args.out c.in-Nothing.is

pub returns-in-To : goal.returns-in-To
returns-in-To c =
    room-to c.args.s c.args.links.now c.args.out _ _ _ c.in-To.is
    c.has_room.ensures
