-- `cells::groups::put_groups` meets its contract: at each turn the first groups are written.
use mathlib.Core.Path.{refl, ◌∙◌}
use native.Mathlib.Omega.{arith}
use lib.ListN.{length}
use Rattle.cells.specs.Groups.{group_bytes, groups_bytes}
use Rattle.cells.proofs.WriteLaws.{room-next, wrote_none, wrote-next, wrote-all, wrote-length}
use Rattle.cells.proofs.GroupLaws.{no_group, cut-at-group}
use Rattle.cells.proofs.groups.put_groups.Goals as goal

pub loop-g-init : goal.loop-g-init
loop-g-init c = (
  wrote_none (group_bytes c.args.w.now) c.args.groups.now c.args.out.now c.args.at (omega arith),
  refl,
)

pub put_group-p-requires : goal.put_group-p-requires
unfolding groups_bytes
put_group-p-requires c =
    let gs = c.args.groups.now in
    let w = c.args.w.now in
    let i = c.loop-g.g-index in record {
      end_in_bounds = (cut-at-group (length w) gs 0 i c.requires.cut c.loop-g-test.true).1;
      room = room-next (group_bytes w) gs no_group i c.loop-g-test.true c.requires.room
          c.loop-g.invariant.0;
    }

pub loop-g-preserved : goal.loop-g-preserved
loop-g-preserved c = (
  wrote-next (group_bytes c.args.w.now) c.args.groups.now no_group c.loop-g.g-index
      c.loop-g-test.true c.loop-g.invariant.0 c.put_group-p.ensures,
  wrote-length c.put_group-p.ensures ∙ c.loop-g.invariant.1,
)

pub returns : goal.returns
unfolding groups_bytes
returns c =
    wrote-all (group_bytes c.args.w.now) c.args.groups.now c.loop-g.g-index
    (omega (arith, c.loop-g-test.false)) c.loop-g.invariant.0
