-- `letter::form::head_fault` meets its contract.
use Rattle.values.specs.Faults.{fault_then}
use Rattle.letter.specs.Faults.{head_fault}
use Rattle.letter.proofs.form.head_fault.Goals as goal

pub returns : goal.returns
unfolding head_fault fault_then
returns c =
    rw (
      c.unless.ensures,
      c.unless-f-5.ensures,
      c.unless-f-4.ensures,
      c.unless-f-3.ensures,
      c.unless-f-2.ensures,
      c.unless-f.ensures,
      c.is_count-count.ensures,
      c.is_unagreed-unagreed.ensures,
      c.is_first-first.ensures,
      c.is_last-last.ensures,
      c.is_pn-pn.ensures,
      c.kind_of-k.ensures,
    )
