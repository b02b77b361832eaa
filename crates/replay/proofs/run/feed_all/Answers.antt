use mathlib.Core.Path.{sym}
use native.Mathlib.Omega.{arith}
use lib.Seq.{length-take-le}
use Rattle.replay.proofs.LoopLaws.{kept-none, goes_on, kept_more, kept-all, kept-cut}
use Rattle.replay.proofs.run.feed_all.Goals as goal

pub loop-i-init : goal.loop-i-init
loop-i-init g c =
    (c.requires.0, kept-none c.args.f _ _ _ _ c.requires.1)

pub feed_formed-t-requires : goal.feed_formed-t-requires
feed_formed-t-requires g c = c.loop-i.invariant.1.lent

pub slice_bounds-write-end : goal.slice_bounds-write-end
slice_bounds-write-end g c =
    c.feed_formed-t.ensures.fits

pub slice_bounds-write-end-in-loop-i : goal.slice_bounds-write-end-in-loop-i
slice_bounds-write-end-in-loop-i g c =
    sym (length-take-le _ _ c.feed_formed-t.ensures.fits)

pub shape_of-site-then-not-write : goal.shape_of-site-then-not-write
shape_of-site-then-not-write g c =
    omega (arith, c.feed_formed-t.ensures.site, c.loop-i.invariant.1.site)

pub shape_of-links-then-not-write : goal.shape_of-links-then-not-write
shape_of-links-then-not-write g c =
    omega (arith, c.feed_formed-t.ensures.links, c.loop-i.invariant.1.links)

pub shape_of-out-then-not-write : goal.shape_of-out-then-not-write
shape_of-out-then-not-write g c =
    (kept_more _ _ _ _ _ _ _ _ c.loop-i.i c.loop-i.g
    c.feed_formed-t.result c.loop-i-test.true c.loop-i.invariant.0
    c.loop-i.invariant.1 c.feed_formed-t.ensures).out

pub returns-then-not-write : goal.returns-then-not-write
returns-then-not-write g c =
    kept-cut _ _ _ _ _ _ _ (kept_more _ _ _ _ _ _ _ _ c.loop-i.i c.loop-i.g
    c.feed_formed-t.result c.loop-i-test.true c.loop-i.invariant.0
    c.loop-i.invariant.1 c.feed_formed-t.ensures)

pub slice_bounds-tell_refused-count : goal.slice_bounds-tell_refused-count
slice_bounds-tell_refused-count g c =
    c.loop-i.invariant.1.within

pub slice_bounds-tell_refused-end-in-loop-i : goal.slice_bounds-tell_refused-end-in-loop-i
slice_bounds-tell_refused-end-in-loop-i g c =
    c.feed_formed-t.ensures.fits

pub slice_bounds-tell_refused-end-in-loop-i-2 : goal.slice_bounds-tell_refused-end-in-loop-i-2
slice_bounds-tell_refused-end-in-loop-i-2 g c =
    sym (length-take-le _ _ c.feed_formed-t.ensures.fits)

pub overflow_add-i : goal.overflow_add-i
overflow_add-i g c =
    let on = goes_on c.args.piece.now c.loop-i.site c.loop-i.links _ _
    c.loop-i.out _ c.loop-i.i c.loop-i.g
    c.feed_formed-t.result c.loop-i-test.true c.loop-i.invariant.0
    c.feed_formed-t.ensures in
    omega (arith, on.1, c.well_formed.1.0.0)

pub loop-i-smaller : goal.loop-i-smaller
loop-i-smaller g c =
    let on = goes_on c.args.piece.now c.loop-i.site c.loop-i.links _ _
    c.loop-i.out _ c.loop-i.i c.loop-i.g
    c.feed_formed-t.result c.loop-i-test.true c.loop-i.invariant.0
    c.feed_formed-t.ensures in
    omega (arith, on.0, on.1)

pub loop-i-preserved : goal.loop-i-preserved
loop-i-preserved g c =
    let more = kept_more _ _ _ _ _ _ _ _ c.loop-i.i c.loop-i.g
    c.feed_formed-t.result c.loop-i-test.true c.loop-i.invariant.0
    c.loop-i.invariant.1 c.feed_formed-t.ensures in
    (omega (arith, more.out, c.loop-i.invariant.0, c.loop-i.invariant.1.out), more)

pub returns : goal.returns
returns g c = kept-all _ _ _ _ _ _ _ _ c.loop-i-test.false c.loop-i.invariant.1

pub slice_bounds-feed_formed-count : goal.slice_bounds-feed_formed-count
slice_bounds-feed_formed-count g c = c.loop-i.invariant.1.within

pub shape_of-site : goal.shape_of-site
shape_of-site g c = c.loop-i.invariant.1.site

pub shape_of-links : goal.shape_of-links
shape_of-links g c = c.loop-i.invariant.1.links

pub shape_of-out : goal.shape_of-out
shape_of-out g c = c.loop-i.invariant.1.out
