use mathlib.Core.Path.{sym, ap, subst}
use native.Mathlib.Omega.{arith}
use Rattle.row.specs.Row.{head_words}
use Rattle.cells.specs.Groups.{Cut, groups_length}
use Rattle.image.proofs.CutLaws.{box-cut, box-groups-long}
use Rattle.found.proofs.HeadLaws.{same-groups, box-whole, box-aside}
use Rattle.found.proofs.boxes.box_found.Goals as goal

pub read_groups-requires : goal.read_groups-requires
read_groups-requires c =
    let e = c.box_groups-groups.ensures.0 in record {
      cut = subst (Cut 0 head_words) (sym e) (box-cut c.args.n c.requires);
      near = (omega arith, omega (arith, ap groups_length e, box-groups-long c.args.n));
    }

pub returns-in-None : goal.returns-in-None
returns-in-None c =
    box-whole c.args.n c.args.j c.args.b c.args.body.now
    (same-groups _ _ _ c.read_groups.ensures c.box_groups-groups.ensures.0) c.head_fault-f.ensures
    c.in-None.is c.box_head_bytes-at.ensures
    c.held_found.ensures

pub returns-in-Some : goal.returns-in-Some
returns-in-Some c =
    box-aside c.args.n c.args.j c.args.b c.args.body.now
    (same-groups _ _ _ c.read_groups.ensures c.box_groups-groups.ensures.0)
    c.head_fault-f.ensures c.in-Some.is
