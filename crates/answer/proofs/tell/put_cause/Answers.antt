use native.Mathlib.Omega.{arith}
use Rattle.answer.proofs.TellLaws.{cause_wrote}
use Rattle.answer.proofs.tell.put_cause.Goals as goal

pub returns-in-Role : goal.returns-in-Role
returns-in-Role c = cause_wrote c.in-Role.is (omega
    arith) c.put_bytes.ensures

pub returns-in-Phase : goal.returns-in-Phase
returns-in-Phase c = cause_wrote c.in-Phase.is (omega
    arith) c.put_bytes-in-Phase.ensures

pub returns-in-Number : goal.returns-in-Number
returns-in-Number c = cause_wrote c.in-Number.is (omega
    arith) c.put_bytes-in-Number.ensures

pub returns-in-Place : goal.returns-in-Place
returns-in-Place c = cause_wrote c.in-Place.is (omega
    arith) c.put_bytes-in-Place.ensures
