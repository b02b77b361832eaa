-- i of the agreed records have left the index.
use mathlib.Core.Path.{◌≡◌}
use native.Mathlib.Omega.{arith}
use Rattle.row.proofs.IndexLaws.{agreed-length, left-none, left-more}
use Rattle.row.proofs.indexed.leave_first.Goals as goal

pub leave_one-requires : goal.leave_one-requires
leave_one-requires c =
    let ok = c.requires.row_booked in (
      omega (arith, c.loop-i.invariant.so_far.words, c.requires.row_booked.words),
      c.requires.row_booked.loads,
      omega (
        arith,
        c.requires.d_in_bounds,
        agreed-length c.args.j c.args.row.now ok,
        c.requires.row_booked.numbers.held,
        c.requires.row_booked.count,
      ),
    )

pub loop-i-preserved : goal.loop-i-preserved
loop-i-preserved c =
    left-more c.args.j c.args.row.now c.requires.row_booked c.loop-i.i c.loop-i.row _
    c.loop-i.invariant
    (omega (arith, c.requires.d_in_bounds)) c.leave_one.ensures

pub returns : goal.returns
returns c =
    let all : c.loop-i.i ≡ c.args.d = omega arith in
    rw (← all) c.loop-i.invariant.so_far

pub loop-i-init : goal.loop-i-init
loop-i-init c =
    left-none c.args.j c.args.row.now c.requires.row_booked c.requires.indexed
