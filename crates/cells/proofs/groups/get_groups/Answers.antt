-- `cells::groups::get_groups` meets its contract: at each turn the first groups are read.
use mathlib.Core.Path.{refl}
use Prim.Native.Nat.{◌+◌}
use native.Mathlib.Omega.{arith}
use lib.ListN.{length, get_or}
use Rattle.cells.specs.Groups.{groups_length}
use Rattle.cells.proofs.StandLaws.{read-end}
use Rattle.cells.proofs.GroupLaws.{no_group, cut-at-group, length-next-group, length-first-groups}
use Rattle.cells.proofs.GroupLaws.{groups_none, group-read}
use Rattle.cells.proofs.groups.get_groups.Goals as goal

pub loop-g-init : goal.loop-g-init
unfolding groups_length
loop-g-init c = (
  groups_none c.args.groups.now c.args.src.now c.args.at c.args.w.now c.args.w.now refl
      (omega arith),
  omega arith,
)

pub get_group-p-requires : goal.get_group-p-requires
get_group-p-requires c =
    let gs = c.args.groups.now in
    let i = c.loop-g.g-index in
    let here = c.loop-g-test.true in
    let b = cut-at-group (length c.args.w.now) gs 0 i c.requires.cut here in record {
      end_in_bounds = (omega (arith, b.1), b.2);
      count_in_bounds = omega (
        arith,
        c.requires.groups_in_bounds,
        c.loop-g.invariant.1,
        length-next-group gs i here,
        length-first-groups gs (i + 1),
      );
    }

pub loop-g-preserved : goal.loop-g-preserved
loop-g-preserved c =
    let gs = c.args.groups.now in
    let i = c.loop-g.g-index in
    let here = c.loop-g-test.true in
    let got = c.get_group-p.ensures in (
      group-read gs i here c.args.src.now c.args.at c.args.w.now c.requires.cut
          c.loop-g.invariant.0 got,
      omega (
        arith,
        read-end (get_or gs i no_group).count got.read got.count,
        length-next-group gs i here,
        c.loop-g.invariant.1,
      ),
    )
