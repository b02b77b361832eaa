-- Whom what a turn sends is not for.
use Rattle.std.specs.Prelude.{ℕ, ◌≡◌, false}
use Rattle.rules.specs.Sets.{has}
use Rattle.rules.specs.declared.model.Out.{Out}

-- c is none of the boxes that are sent to
abbrev pub NotTo : ℕ → Out → Type 0
NotTo c Out.Nothing = Unit {0}
NotTo c (Out.To set m) = has set c ≡ false
