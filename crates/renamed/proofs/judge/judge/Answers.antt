-- `renamed::judge::judge` meets its contract.
use mathlib.Core.Path.{refl, sym, ◌∙◌}
use native.Mathlib.Omega.{arith}
use Rattle.renamed.proofs.TraceLaws.{judged-on, judged_uncut, judged-end}
use Rattle.renamed.proofs.judge.judge.Goals as goal

pub loop-i-init : goal.loop-i-init
loop-i-init c = (omega arith, refl)

pub returns-then-n-e : goal.returns-then-n-e
returns-then-n-e c =
    judged_uncut c.args.to c.args.from c.args.s.now c.loop-i.i c.loop-i.so_far
    c.find-e.ensures.place c.loop-i-test.true c.if-n-e.true
    c.judge_line.ensures
    ∙ c.loop-i.invariant.1

pub loop-i-preserved : goal.loop-i-preserved
loop-i-preserved c = (
  omega arith,
  judged-on c.args.to c.args.from c.args.s.now c.loop-i.i c.loop-i.so_far
      c.find-e.ensures.place c.if-n-e.false c.judge_text-so_far.ensures
      ∙ c.loop-i.invariant.1,
)

pub returns : goal.returns
returns c =
    sym (judged-end c.args.to c.args.from c.args.s.now c.loop-i.i c.loop-i.so_far
    c.loop-i-test.false) ∙ c.loop-i.invariant.1
