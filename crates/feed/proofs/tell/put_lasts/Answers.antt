use native.Mathlib.Omega.{arith}
use Rattle.rules.proofs.Tests.{tests}
use Rattle.feed.proofs.TellLaws.{lasts-none, lasts-more, lasts-done}
use Rattle.feed.proofs.tell.put_lasts.Goals as goal

pub loop-i-init : goal.loop-i-init
loop-i-init c =
    lasts-none _ c.args.site.now c.args.w _

pub loop-i-preserved : goal.loop-i-preserved
loop-i-preserved c =
    lasts-more c.args.site.now c.args.w c.loop-i.i
    c.row_at-r.result c.row_at-r.ensures.0 c.loop-i.invariant c.put_next-p.ensures

pub returns : goal.returns
returns c =
    lasts-done c.args.site.now c.args.w _ _ c.loop-i-test.false
    (omega arith) c.loop-i.invariant

pub row_at-r-requires : goal.row_at-r-requires
row_at-r-requires c = (omega arith, omega arith)

pub overflow_add-r : goal.overflow_add-r
overflow_add-r c = search tests

pub offset_bounds-site-r : goal.offset_bounds-site-r
offset_bounds-site-r c = search tests

pub bounds-site-r : goal.bounds-site-r
bounds-site-r c = search tests

pub put_next-p-requires : goal.put_next-p-requires
put_next-p-requires c = omega arith

pub shape_of-out : goal.shape_of-out
shape_of-out c = c.loop-i.invariant.room
