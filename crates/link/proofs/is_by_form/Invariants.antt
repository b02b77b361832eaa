-- Each turn of the scan leaves one place less to decide.
use Rattle.link.proofs.ScanLaws.{Scan}
use Rattle.link.proofs.is_by_form.Given as goal

abbrev pub invariant-loop-i : goal.invariant-loop-i
invariant-loop-i l = Scan l.j l.l l.link l.first l.count l.i
