use Rattle.own.proofs.is_formed.Goals as goal

pub returns : goal.returns
returns c =
    rw (
      c.is_letter-read.ensures,
      c.is_row-own.ensures,
      c.is_set-present.ensures,
      c.from.ensures,
    )
