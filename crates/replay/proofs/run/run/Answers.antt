use mathlib.Core.Path.{refl, ◌∙◌}
use native.Mathlib.Omega.{arith}
use Rattle.replay.proofs.LoopLaws.{lent-first}
use Rattle.replay.proofs.run.run.Goals as goal

pub loop-init : goal.loop-init
loop-init g c = (
  c.requires.2,
  lent-first c.start-f.result _ _ c.start-f.ensures c.requires.0 c.requires.1,
  refl,
  refl,
  refl,
  refl,
)

pub read_some-g-requires : goal.read_some-g-requires
read_some-g-requires g c =
    (c.loop.invariant.0, c.loop.invariant.1)

pub shape_of-site-then-not-g : goal.shape_of-site-then-not-g
shape_of-site-then-not-g g c =
    c.site-1.given ∙ c.loop.invariant.2

pub shape_of-links-then-not-g : goal.shape_of-links-then-not-g
shape_of-links-then-not-g g c =
    c.links-1.given ∙ c.loop.invariant.3

pub shape_of-input-then-not-g : goal.shape_of-input-then-not-g
shape_of-input-then-not-g g c =
    c.input-1.given ∙ c.loop.invariant.4

pub shape_of-out-then-not-g : goal.shape_of-out-then-not-g
shape_of-out-then-not-g g c =
    c.out-1.given ∙ c.loop.invariant.5

pub loop-preserved : goal.loop-preserved
loop-preserved g c = (
  omega (arith, c.out-1.given, c.loop.invariant.0),
  c.read_some-g.ensures.lent,
  c.site-1.given ∙ c.loop.invariant.2,
  c.links-1.given ∙ c.loop.invariant.3,
  c.input-1.given ∙ c.loop.invariant.4,
  c.out-1.given ∙ c.loop.invariant.5,
)

pub shape_of-site : goal.shape_of-site
shape_of-site g c = c.loop.invariant.2

pub shape_of-links : goal.shape_of-links
shape_of-links g c = c.loop.invariant.3

pub shape_of-input : goal.shape_of-input
shape_of-input g c = c.loop.invariant.4

pub shape_of-out : goal.shape_of-out
shape_of-out g c = c.loop.invariant.5
