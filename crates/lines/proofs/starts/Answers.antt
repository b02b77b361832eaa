-- `lines::starts` meets its contract.
use mathlib.Core.Path.{sym, ◌∙◌, refl}
use Rattle.lines.proofs.ReadLaws.{starts-on, starts-short, starts-differ, starts-end}
use Rattle.lines.proofs.starts.Goals as goal

pub loop-i-init : goal.loop-i-init
loop-i-init c = refl

pub returns-then-s-i : goal.returns-then-s-i
returns-then-s-i c =
    sym (starts-short _ _ _ c.loop-i-test.true c.if-s-i.true)
    ∙ c.loop-i.invariant

pub returns-then-w-i : goal.returns-then-w-i
returns-then-w-i c =
    sym (starts-differ _ _ _ c.loop-i-test.true c.if-s-i.false c.if-w-i.true)
    ∙ c.loop-i.invariant

pub loop-i-preserved : goal.loop-i-preserved
loop-i-preserved c =
    sym (starts-on _ _ _ c.loop-i-test.true c.if-s-i.false c.if-w-i.false)
    ∙ c.loop-i.invariant

pub returns : goal.returns
returns c = sym (starts-end _ _ _ c.loop-i-test.false) ∙ c.loop-i.invariant
