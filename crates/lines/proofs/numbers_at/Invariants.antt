-- `lines::numbers_at` meets its contract.
use mathlib.Core.Path.{◌≡◌}
use lib.ListN.{drop}
use Rattle.lines.specs.Read.{bytes_read, no_numbers}
use Rattle.lines.proofs.numbers_at.Given as goal

abbrev pub invariant-loop-i : goal.invariant-loop-i
invariant-loop-i l = bytes_read l.n (drop l.i l.s) ≡ bytes_read no_numbers (drop l.at l.s)
