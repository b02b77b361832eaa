-- `longer::part_of` meets its contract.
use mathlib.Core.Path.{refl}
use Rattle.longer.proofs.part_of.Goals as goal

pub returns-in-First : goal.returns-in-First
returns-in-First c = rw c.in-First.is refl

pub returns-in-Second : goal.returns-in-Second
returns-in-Second c = rw c.in-Second.is refl

pub returns-in-Differs : goal.returns-in-Differs
returns-in-Differs c = rw c.in-Differs.is refl
