-- `lines::or_word` meets its contract.
use Rattle.rules.specs.Pick.{pick}
use Rattle.lines.proofs.or_word.Goals as goal

pub returns : goal.returns
unfolding pick
returns c =
    simp (
      c.choose.ensures,
      c.starts.ensures,
    )
