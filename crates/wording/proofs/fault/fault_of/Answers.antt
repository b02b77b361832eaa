use Rattle.wording.specs.Fault.{fault_of}
use Rattle.wording.proofs.fault.fault_of.Goals as goal

pub returns : goal.returns
unfolding fault_of
returns c =
    simp (
      c.choose.ensures,
      c.choose-f-7.ensures,
      c.choose-f-6.ensures,
      c.starts-2.ensures,
      c.choose-f-5.ensures,
      c.last.ensures,
      c.choose-f-4.ensures,
      c.starts.ensures,
      c.choose-f-3.ensures,
      c.has.ensures,
      c.choose-f-2.ensures,
      c.is_overspaced.ensures,
      c.choose-f.ensures,
    )
