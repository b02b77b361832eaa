use mathlib.Core.Path.{refl}
use native.Mathlib.Omega.{arith}
use Rattle.salvage.specs.Tally.{flagged}
use Rattle.salvage.proofs.TableLaws.{sound-is}
use Rattle.salvage.proofs.LoadLaws.{skip-none, skip-more, skip_all, skip-here}
use Rattle.salvage.proofs.loads.next_number.Goals as goal

pub loop-i-init : goal.loop-i-init
loop-i-init c = (
  skip-none (flagged c.args.kept.now) c.args.image.now c.args.n
      c.args.k (omega arith),
  omega arith,
)

pub bounds-kept-i : goal.bounds-kept-i
bounds-kept-i c = omega arith

pub body-requires : goal.body-requires
body-requires c =
    let s = sound-is c.args.image.now c.requires.image_value.0 in
    let l = s.least in
    (c.requires.image_value.0, omega arith, omega arith)

pub next_in-q-requires : goal.next_in-q-requires
next_in-q-requires c = omega arith

pub loop-i-preserved : goal.loop-i-preserved
loop-i-preserved c =
    let s = skip-here c.args.kept.now c.args.image.now c.args.n
    c.loop-i.i refl c.body.ensures
    (c.next_in-q.ensures c.args.n) in
    let q = s.from in (
      skip-more (flagged c.args.kept.now) c.args.image.now c.args.n
          c.args.k c.loop-i.invariant.0 c.loop-i-test.true s
          (omega (arith, c.min-m.ensures)) (omega (arith, c.min-m.ensures))
          (omega (arith, c.min-m.ensures, q, c.loop-i.invariant.0.from)),
      omega (arith, c.min-m.ensures, c.loop-i.invariant.1),
    )

pub returns : goal.returns
returns c = record {
  skips_all = skip_all (flagged c.args.kept.now) c.args.image.now c.args.n
      c.args.k c.loop-i.invariant.0 c.loop-i-test.false;
  upper_bound = c.loop-i.invariant.1;
}
