-- At each turn so many steps have led to p, from where there may be a next.
use Rattle.cells.specs.Steps.{Reached}
use Rattle.cells.proofs.steps.walk.Given as goal

abbrev pub invariant-loop-i : goal.invariant-loop-i
invariant-loop-i g l =
    Reached (λ p r. goal.F-post g l.step p r) l.at l._i l.p × goal.F-pre g l.step l.p
