-- `index::walk::find` meets its contract: the numbers that the walk has passed are not it.
use borrow.Author.Tests.{eq-eqb, ne_eqb}
use mathlib.Core.Path.{sym}
use native.Mathlib.Omega.{arith}
use Rattle.index.specs.Index.{has_left}
use Rattle.index.proofs.WalkLaws.{walk-room, walk_start, walk-within}
use Rattle.index.proofs.WalkLaws.{found, goes_on, goes-less}
use Rattle.index.proofs.walk.find.Goals as goal

pub offset_bounds-ix-slot : goal.offset_bounds-ix-slot
offset_bounds-ix-slot c = omega (arith, walk-room c.requires)

pub bounds-ix-slot : goal.bounds-ix-slot
bounds-ix-slot c = omega (arith, walk-room c.requires)

pub loop-at-init : goal.loop-at-init
loop-at-init c =
    walk_start c.requires c.size-slot.result c.size-slot.ensures

pub overflow_sub-at : goal.overflow_sub-at
overflow_sub-at c =
    let w = walk-within c.requires c.loop-at.invariant (omega arith) in
    omega arith

pub offset_bounds-records-i : goal.offset_bounds-records-i
offset_bounds-records-i c =
    let w = walk-within c.requires c.loop-at.invariant (omega arith) in
    omega arith

pub bounds-records-i : goal.bounds-records-i
bounds-records-i c =
    let w = walk-within c.requires c.loop-at.invariant (omega arith) in
    omega arith

pub overflow_cast-result : goal.overflow_cast-result
overflow_cast-result c =
    let w = walk-within c.requires c.loop-at.invariant (omega arith) in
    omega arith

pub returns-then-records-i : goal.returns-then-records-i
unfolding has_left
returns-then-records-i c =
    found c.requires c.loop-at.invariant (omega arith) c.size-i.result c.size-i.ensures
    (eq-eqb _ _ c.if-records-i.true)

pub overflow_add-at : goal.overflow_add-at
overflow_add-at c =
    let w = walk-within c.requires c.loop-at.invariant (omega arith) in
    omega arith

pub offset_bounds-ix-i : goal.offset_bounds-ix-i
offset_bounds-ix-i c =
    let room = walk-room c.requires in
    let w = walk-within c.requires c.loop-at.invariant (omega arith) in
    omega arith

pub bounds-ix-i : goal.bounds-ix-i
bounds-ix-i c =
    let room = walk-room c.requires in
    let w = walk-within c.requires c.loop-at.invariant (omega arith) in
    omega arith

pub loop-at-smaller : goal.loop-at-smaller
loop-at-smaller c =
    goes-less c.requires c.loop-at.invariant (omega arith) c.size-i.result c.size-i.ensures

pub loop-at-preserved : goal.loop-at-preserved
unfolding has_left
loop-at-preserved c =
    goes_on c.requires c.loop-at.invariant (omega arith) c.size-i.result c.size-i.ensures
    (ne_eqb _ _ c.if-records-i.false)

pub returns : goal.returns
returns c = sym (c.loop-at.invariant.none (omega arith))
