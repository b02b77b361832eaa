use Prim.Native.Nat.{◌<◌, ◌≤◌, ◌-◌}
use mathlib.Core.Path.{◌≡◌, refl}
use native.Mathlib.Omega.{arith}
use lib.ListN.{length}
use borrow.Author.Rules.{rules}
use Rattle.feed.specs.Says.{answer_most}
use Rattle.feed.proofs.FeedLaws.{short-held, goes_on, kept-none, kept_more, kept-all}
use Rattle.feed.proofs.piece.feed_formed.Goals.{In-loop-e, Start}
use Rattle.feed.proofs.piece.feed_formed.Goals as goal

line-length : (c : Start) → length c.args.f.held.line ≡ 65
line-length c = search rules

pub loop-e-init : goal.loop-e-init
loop-e-init c = (
  refl,
  short-held c.args.f.held.line c.args.f.held.len (line-length (goal.at.loop-e-init c).Start),
  kept-none c.args.f _ _ _ _ _ _ c.line_end-e.ensures c.requires,
)

pub overflow_sub-out : goal.overflow_sub-out
overflow_sub-out c = omega (arith, c.loop-e.invariant.2.wrote.few, c.loop-e.invariant.2.wrote.room)

-- a line ends in the piece, and there is room for its answer
on : (c : In-loop-e) → (c.loop-e.e < length c.args.piece.now)
    × (answer_most ≤ length c.loop-e.out - c.loop-e.at)
on c = goes_on _ _ _ c.loop-e-test.true

pub answer_line-t-requires : goal.answer_line-t-requires
answer_line-t-requires c = (
  c.loop-e.invariant.2.end.from,
  omega (arith, c.loop-e.invariant.0, c.loop-e.invariant.2.end.to),
  omega (arith, (on (goal.at.answer_line-t-requires c).In-loop-e).1),
  c.loop-e.invariant.2.lent,
)

pub line_end-e-requires-in-loop-e : goal.line_end-e-requires-in-loop-e
line_end-e-requires-in-loop-e c = (
  omega (arith, (on (goal.at.line_end-e-requires-in-loop-e c).In-loop-e).0),
  omega (arith, c.loop-e.invariant.0),
)

pub loop-e-smaller : goal.loop-e-smaller
loop-e-smaller c =
    omega (
      arith,
      (on (goal.at.loop-e-smaller c).In-loop-e).0,
      c.line_end-e-in-loop-e.ensures.from,
      c.line_end-e-in-loop-e.ensures.to,
    )

pub loop-e-preserved : goal.loop-e-preserved
loop-e-preserved c = (
  c.loop-e.invariant.0,
  c.loop-e.invariant.1,
  kept_more _ _ _ _ _ _ _ _ _ _ _ _ _ c.answer_line-t.result c.loop-e.invariant.1
      c.loop-e.invariant.0
      (on (goal.at.loop-e-preserved c).In-loop-e).0 (omega (
        arith,
        (on (goal.at.loop-e-preserved c).In-loop-e).1,
        c.loop-e.invariant.2.wrote.room,
      )) c.loop-e.invariant.2
      c.answer_line-t.ensures c.line_end-e-in-loop-e.ensures,
)

pub keep-h-requires : goal.keep-h-requires
keep-h-requires c = (
  c.loop-e.invariant.2.end.from,
  omega (arith, c.loop-e.invariant.0, c.loop-e.invariant.2.end.to),
)

pub returns : goal.returns
returns c =
    kept-all _ _ _ _ _ _ _ _ _ _ _ c.loop-e.invariant.1 c.loop-e.invariant.0
    c.loop-e-test.false c.loop-e.invariant.2 c.keep-h.ensures

pub shape_of-site : goal.shape_of-site
shape_of-site c = c.loop-e.invariant.2.site

pub shape_of-links : goal.shape_of-links
shape_of-links c = c.loop-e.invariant.2.links

pub shape_of-out : goal.shape_of-out
shape_of-out c = c.loop-e.invariant.2.wrote.room
