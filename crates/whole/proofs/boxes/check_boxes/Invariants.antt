-- `whole::boxes::check_boxes` meets its contract: at each turn the first i are found.
use Rattle.whole.proofs.BoxesLaws.{BoxesTo}
use Rattle.whole.proofs.boxes.check_boxes.Given as goal

abbrev pub invariant-loop-i : goal.invariant-loop-i
invariant-loop-i l =
    BoxesTo l.n l.j l.src l.at l.initial.table l.table l.i l.p l.leaders
