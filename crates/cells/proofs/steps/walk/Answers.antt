-- At each turn so many steps have led to p, from where there may be a next.
use mathlib.Core.Path.{◌≡◌, sym, subst}
use Prim.Native.Nat.{ℕ}
use native.Mathlib.Omega.{arith}
use Rattle.std.specs.Prelude.{Option}
use Rattle.cells.specs.Steps.{Reached, Steps}
use Rattle.cells.specs.Steps.Reached.{start, onward}
use Rattle.cells.proofs.steps.walk.Goals as goal

pub loop-i-init : goal.loop-i-init
loop-i-init g c = (start, c.requires.first)

pub loop-i-preserved : goal.loop-i-preserved
loop-i-preserved g c =
    let went = subst (λ (r : Option ℕ). goal.F-post g c.args.step c.loop-i.p r) c.in_ok-p.was
    c.step.ensures in
    (onward c.loop-i.invariant.0 went, c.requires.onward _ _ went)

pub returns-in_err-p : goal.returns-in_err-p
returns-in_err-p g c =
    let none = subst (λ (r : Option ℕ). goal.F-post g c.args.step c.loop-i.p r) c.in_err-p.was
    c.step.ensures in
    subst (Steps (λ p r. goal.F-post g c.args.step p r) c.args.at c.args.n)
    (sym c.from_residual.ensures) (record {
      steps = c.loop-i._i;
      few = c.loop-i-test.true;
      place = c.loop-i.p;
      reached = c.loop-i.invariant.0;
      none = none;
    })

pub returns : goal.returns
returns g c =
    let all : c.loop-i._i ≡ c.args.n = omega arith in
    subst (λ (i : ℕ). Reached (λ p r. goal.F-post g c.args.step p r) c.args.at i c.loop-i.p) all
    c.loop-i.invariant.0
