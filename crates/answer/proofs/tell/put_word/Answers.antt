use native.Mathlib.Omega.{arith}
use Rattle.answer.proofs.TellLaws.{word-wrote}
use Rattle.answer.proofs.tell.put_word.Goals as goal

pub returns-in-Done : goal.returns-in-Done
returns-in-Done c = word-wrote c.in-Done.is (omega
    arith) c.put_bytes.ensures

pub returns-in-Taken : goal.returns-in-Taken
returns-in-Taken c = word-wrote c.in-Taken.is (omega
    arith) c.put_bytes-in-Taken.ensures

pub returns-in-Discarded : goal.returns-in-Discarded
returns-in-Discarded c =
    word-wrote c.in-Discarded.is (omega arith)
    c.put_discarded.ensures

pub returns-in-Refused : goal.returns-in-Refused
returns-in-Refused c = word-wrote c.in-Refused.is (omega
    arith) c.put_bytes-in-Refused.ensures
