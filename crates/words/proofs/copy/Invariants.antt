-- `words::copy` meets its contract: what is written, and behind it the rest of src, is src.
use mathlib.Core.Path.{◌≡◌}
use mathlib.Core.List.{◌++◌}
use lib.ListN.{length, take, drop}
use Rattle.words.proofs.copy.Given as goal

abbrev pub invariant-loop-i : goal.invariant-loop-i
invariant-loop-i l =
    (l.src ≡ take l.i l.dst ++ drop l.i l.src) × (length l.dst ≡ length l.initial.dst)
