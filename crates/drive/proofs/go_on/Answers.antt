-- `drive::go-on` meets its contract: at each turn the first i questions are answered.
use mathlib.Core.Path.{◌≡◌, ◌∙◌, subst}
use native.Mathlib.Omega.{arith}
use Rattle.drive.specs.Driven.{Asked}
use Rattle.drive.proofs.DriveLaws.{asked-none, asked-more}
use Rattle.drive.proofs.go_on.Goals as goal

pub loop-i-init : goal.loop-i-init
loop-i-init c =
    λ N J L p.
    asked-none N J L c.args.script.now c.args.answers.now c.args.site.now c.args.links.now p

pub loop-i-preserved : goal.loop-i-preserved
loop-i-preserved c =
    λ N J L p.
    asked-more N J L c.args.script.now c.args.answers.now c.args.site.now c.args.links.now
    c.loop-i.i c.answer.result (c.loop-i.invariant N J L p) (omega arith)
    c.answer.ensures

pub returns : goal.returns
returns c =
    let all : c.loop-i.i ≡ c.questions-n.result = omega arith in
    λ N J L p.
    subst (Asked N J L c.args.script.now c.args.answers.now c.loop-i.answers c.args.site.now
    c.args.links.now c.loop-i.site c.loop-i.links) (all ∙ c.questions-n.ensures)
    (c.loop-i.invariant N J L p)
