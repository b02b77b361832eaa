use mathlib.Core.Path.{refl}
use Rattle.site.proofs.presence.raise.Goals as goal

pub returns-then-is_even : goal.returns-then-is_even
returns-then-is_even c = rw (← c.is_even.ensures, c.if-is_even.true) refl

pub returns-else-is_even : goal.returns-else-is_even
returns-else-is_even c = rw (← c.is_even.ensures, c.if-is_even.false) refl
