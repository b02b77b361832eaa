-- The lemmas by which `search tests` closes a return: what `rules` has, the two cases of a `pick`,
-- and the value of each test from the fact that a branch hands over.
use borrow.Author.Rules.{rules}
use borrow.Author.Tests.{lt-ltb, le-ltb, le-leb, lt-leb, eq-eqb, ne_eqb}
use mathlib.Core.Bool.{Bool, true, false, not}
use mathlib.Core.Path.{◌≡◌, ◌∙◌, sym}
use Rattle.rules.specs.Pick.{pick_true, pick-false}

-- a test that a call made: what the call ensures of its flag, and what the branch says of it
pub told-true : (f g : Bool) → f ≡ g → f ≡ true → g ≡ true
told-true f g e t = sym e ∙ t

pub told-false : (f g : Bool) → f ≡ g → f ≡ false → g ≡ false
told-false f g e t = sym e ∙ t

pub not_of_false : (t : Bool) → t ≡ false → not t ≡ true
not_of_false t e = rw e

pub not-of-true : (t : Bool) → t ≡ true → not t ≡ false
not-of-true t e = rw e

pub ruleset told = (told-true, told-false, not-of-true, not_of_false)

pub ruleset values = (lt-ltb, le-ltb, le-leb, lt-leb, eq-eqb, ne_eqb)

pub ruleset tests = (rules, pick_true, pick-false, told, values)
