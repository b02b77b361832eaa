-- `renamed::judge::judge_line` meets its contract.
use Rattle.renamed.specs.Judge.{judged_by}
use Rattle.renamed.proofs.judge.judge_line.Goals as goal

pub returns : goal.returns
unfolding judged_by
returns c =
    simp (
      c.first_of-2.ensures,
      c.first_of.ensures,
      c.is_readable-readable.ensures,
      c.fits-fit.ensures,
      c.one_more-k.ensures,
    )
