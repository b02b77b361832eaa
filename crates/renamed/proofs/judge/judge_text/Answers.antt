-- `renamed::judge::judge_text` meets its contract.
use Rattle.renamed.proofs.TraceLaws.{judged-text}
use Rattle.renamed.proofs.judge.judge_text.Goals as goal

pub returns : goal.returns
returns c =
    judged-text c.args.from c.args.to c.args.s.now c.args.j c.find-found.ensures
    c.read_found-l.ensures c.judge_line.ensures

pub read_found-l-requires : goal.read_found-l-requires
read_found-l-requires c = c.find-found.ensures
