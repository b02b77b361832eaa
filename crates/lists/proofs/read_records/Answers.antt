-- `lists::read_records` meets its contract.
use mathlib.Core.Path.{◌≡◌, ap, ◌∙◌}
use native.Mathlib.Omega.{arith}
use lib.ListN.{length, drop}
use Rattle.scan.specs.Bytes.{index_of}
use Rattle.lists.specs.Lists.{up_to, record_in}
use Rattle.lists.proofs.ListLaws.{going_start, going-bad, going-full, going_end}
use Rattle.lists.proofs.ListLaws.{going_more, cut-rest}
use Rattle.lists.proofs.read_records.Goals.{After-record_in-r}
use Rattle.lists.proofs.read_records.Goals as goal

pub loop-n-init : goal.loop-n-init
loop-n-init c = going_start _ _

-- What the code has read is the record of the text's next part.
next-is : (c : After-record_in-r) →
    let l = c.loop-n in
    let a = c.args in
    c.record_in-r.result ≡ record_in (up_to 44 (drop c.loop-n.i c.args.s.now))
next-is c =
    c.record_in-r.ensures ∙ ap record_in c.up_to.ensures
    ∙ ap (λ t. record_in (up_to 44 t)) (cut-rest c.args.s.now c.loop-n.i)

pub returns-then-r-eq0 : goal.returns-then-r-eq0
returns-then-r-eq0 c =
    going-bad c.loop-n.invariant (next-is (goal.at.returns-then-r-eq0 c).After-record_in-r)
    c.if-r-eq0.true

pub returns-then-t-e : goal.returns-then-t-e
returns-then-t-e c =
    let cut = cut-rest c.args.s.now c.loop-n.i in
    let k = c.place_of-e.ensures.value ∙ ap (index_of 44) cut in
    let m = ap length cut in
    going_end c.loop-n.invariant (next-is (goal.at.returns-then-t-e c).After-record_in-r)
    c.if-r-eq0.false (omega arith) (omega arith)

pub loop-n-preserved : goal.loop-n-preserved
loop-n-preserved c =
    let cut = cut-rest c.args.s.now c.loop-n.i in
    let m = ap length cut in
    going_more c.loop-n.invariant (next-is (goal.at.loop-n-preserved c).After-record_in-r)
    c.if-r-eq0.false (omega arith)
    (c.place_of-e.ensures.value ∙ ap (index_of 44) cut) (omega arith)

pub returns : goal.returns
returns c =
    going-full c.loop-n.invariant (omega (arith, c.loop-n.invariant.words, c.loop-n-test.false))
