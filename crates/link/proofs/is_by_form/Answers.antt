-- Each turn of the scan leaves one place less to decide.
use Rattle.link.proofs.ScanLaws.{first-no, count_no}
use Rattle.link.proofs.ScanLaws.{scan_begin, scan_go, scan_stop, scan_end}
use Rattle.link.proofs.is_by_form.Goals as goal

pub returns-then-most-first : goal.returns-then-most-first
returns-then-most-first c =
    first-no c.args.j c.args.l c.args.link.now c.size-first.result c.size-first.ensures
    c.if-most-first.true

pub returns-then-most-count : goal.returns-then-most-count
returns-then-most-count c =
    count_no c.args.j c.args.l c.args.link.now c.size-count.result c.size-count.ensures
    c.if-most-count.true

pub loop-i-init : goal.loop-i-init
loop-i-init c =
    scan_begin c.size-first.ensures c.size-count.ensures c.if-most-first.false c.if-most-count.false

pub returns-then-not-is_place_by_form : goal.returns-then-not-is_place_by_form
returns-then-not-is_place_by_form c =
    scan_stop c.loop-i.invariant c.loop-i-test.true
    c.is_place_by_form.ensures c.if-not-is_place_by_form.true

pub loop-i-preserved : goal.loop-i-preserved
loop-i-preserved c =
    scan_go c.loop-i.invariant c.loop-i-test.true
    c.is_place_by_form.ensures c.if-not-is_place_by_form.false

pub returns : goal.returns
returns c = scan_end c.loop-i.invariant c.loop-i-test.false
