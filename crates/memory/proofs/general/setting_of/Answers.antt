use Rattle.memory.proofs.general.setting_of.Goals as goal

pub returns : goal.returns
returns c =
    simp (
      c.number.ensures,
      c.number-2.ensures,
      c.number-3.ensures,
      c.number-4.ensures,
      c.number-5.ensures,
    )
