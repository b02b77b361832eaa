use Rattle.found.proofs.StandsLaws.{WordsTo}
use Rattle.found.proofs.stands.read_words.Given as goal

abbrev pub invariant-loop-x : goal.invariant-loop-x
invariant-loop-x l = WordsTo l.k l.src l.at l.initial.dst l.dst l.x-index l.p
