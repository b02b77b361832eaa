-- `renamed::text::put_lines` meets its contract.
use Rattle.renamed.proofs.TextLaws.{writing_start, now-good, next-room}
use Rattle.renamed.proofs.TextLaws.{writing_on, writing_end}
use Rattle.renamed.proofs.text.put_lines.Goals as goal

pub loop-i-init : goal.loop-i-init
loop-i-init c =
    writing_start c.args.from c.args.to c.args.s.now c.args.out.now c.requires.0

pub put_line-p-requires : goal.put_line-p-requires
put_line-p-requires c =
    let g = c.loop-i.invariant in
    let found = c.find-e.ensures.place in
    let inside = c.loop-i-test.true in
    let most = c.find-e.ensures.before_end in (
      now-good c.args.from c.args.to g found inside most,
      next-room c.args.from c.args.to g found inside most c.requires.1,
    )

pub loop-i-preserved : goal.loop-i-preserved
loop-i-preserved c =
    writing_on c.args.from c.args.to c.loop-i.invariant c.find-e.ensures.place
    c.loop-i-test.true c.find-e.ensures.before_end c.put_line-p.ensures

pub returns : goal.returns
returns c =
    writing_end c.args.from c.args.to c.loop-i.invariant c.loop-i-test.false
