-- `cells::has_words` meets its contract: at each turn the first numbers stand there.
use Rattle.cells.proofs.FindLaws.{WordsTo}
use Rattle.cells.proofs.has_words.Given as goal

abbrev pub invariant-loop-x : goal.invariant-loop-x
invariant-loop-x l = WordsTo l.k l.src l.ws l.at l.x-index l.p
