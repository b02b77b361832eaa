use mathlib.Core.Path.{refl, ◌∙◌}
use Prim.Native.Nat.{◌+◌}
use native.Mathlib.Omega.{arith}
use lib.ListN.{length, get_or}
use Rattle.cells.specs.Groups.{groups_length}
use Rattle.cells.proofs.GroupLaws.{no_group, cut-at-group, length-next-group, length-first-groups}
use Rattle.found.proofs.HeadLaws.{next-group, no-group-left, group-small}
use Rattle.found.proofs.stands.read_groups.Goals as goal

pub loop-g-init : goal.loop-g-init
unfolding groups_length
loop-g-init c = (refl, omega arith, refl)

pub read_group-requires : goal.read_group-requires
read_group-requires c =
    let gs = c.args.groups.now in
    let i = c.loop-g.g-index in
    let b = cut-at-group (length c.args.w.now) gs 0 i c.requires.cut c.loop-g-test.true in
    let wide = c.loop-g.invariant.2 in (
      omega (arith, b.1),
      omega (arith, b.1, c.requires.near.0),
      b.2,
      omega (arith, c.loop-g.invariant.1, c.requires.near.1, length-first-groups gs i),
    )

pub overflow_mul-p : goal.overflow_mul-p
overflow_mul-p c =
    let gs = c.args.groups.now in
    let b = cut-at-group (length c.args.w.now) gs 0 c.loop-g.g-index c.requires.cut
    c.loop-g-test.true in
    omega (
      arith,
      group-small (get_or gs c.loop-g.g-index no_group)
          (omega (arith, b.1, c.requires.near.0)) b.2,
    )

pub overflow_add-p : goal.overflow_add-p
overflow_add-p c =
    let gs = c.args.groups.now in
    let i = c.loop-g.g-index in
    omega (
      arith,
      c.loop-g.invariant.1,
      c.requires.near.1,
      length-next-group gs i c.loop-g-test.true,
      length-first-groups gs (i + 1),
    )

pub loop-g-preserved : goal.loop-g-preserved
loop-g-preserved c =
    let gs = c.args.groups.now in
    let i = c.loop-g.g-index in (
      next-group gs i c.args.src.now _ _ c.loop-g-test.true c.read_group.ensures
          ∙ c.loop-g.invariant.0,
      omega (arith, c.loop-g.invariant.1, length-next-group gs i c.loop-g-test.true),
      c.read_group.auto.w ∙ c.loop-g.invariant.2,
    )

pub shape_of-w : goal.shape_of-w
shape_of-w c = c.loop-g.invariant.2

pub returns : goal.returns
returns c =
    no-group-left c.args.groups.now c.loop-g.g-index _ _ _ c.loop-g-test.false
    ∙ c.loop-g.invariant.0
