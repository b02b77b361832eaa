use Rattle.found.specs.Found.{general_found}
use Rattle.found.proofs.general.general_found.Goals as goal

pub returns : goal.returns
unfolding general_found
returns c =
    simp (
      c.unless.ensures,
      c.unless-f-4.ensures,
      c.unless-f-3.ensures,
      c.unless-f-2.ensures,
      c.unless-f.ensures,
      c.ended-f.ensures,
      c.is_set-present.ensures,
      c.number_at.ensures.value,
      c.number_at-epoch.ensures.value,
      c.number_at-mails.ensures.value,
      c.number_at-loads.ensures.value,
      c.number_at-boxes.ensures.value,
    )
