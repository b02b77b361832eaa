-- `words::copy_within` meets its contract: i of the words are there, and all else is as it was.
use mathlib.Core.Path.{◌≡◌}
use Rattle.words.specs.Rows.{part, splice}
use Rattle.words.proofs.copy_within.Given as goal

abbrev pub invariant-loop-i : goal.invariant-loop-i
invariant-loop-i l =
    l.words ≡ splice l.initial.words l.b l.i (part l.initial.words l.a l.i)
