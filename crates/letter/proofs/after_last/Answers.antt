-- `letter::after_last` meets its contract.
use mathlib.Core.Path.{subst, sym}
use Rattle.rules.specs.declared.model.Mail.{Mail}
use Rattle.letter.specs.Lent.{Numbered}
use Rattle.letter.proofs.after_last.Goals as goal

pub agreed-requires : goal.agreed-requires
agreed-requires c =
    subst (λ (m : Mail). Numbered m) (sym c.load-m.ensures)
    c.requires.numbered

pub returns : goal.returns
returns c =
    simp (
      c.held_at.ensures,
      c.agreed.ensures,
      c.records.ensures,
      c.load-m.ensures,
    )
