use Rattle.wording.specs.Number.{code_of}
use Rattle.wording.proofs.number.code.Goals as goal

pub returns : goal.returns
unfolding code_of
returns c =
    simp (
      c.choose.ensures,
      c.digit.ensures,
      c.digit-ones.ensures,
      c.from_end.ensures,
      c.from_end-tens.ensures,
    )
