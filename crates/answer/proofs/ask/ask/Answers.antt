use Rattle.answer.proofs.AskLaws.{found-is, no_space_asks_nothing, not-served-asks-nothing}
use Rattle.answer.proofs.AskLaws.{rest_all, asked_so}
use Prim.Native.Nat.{◌+◌, ◌-◌}
use mathlib.Core.Path.{sym, ◌∙◌}
use native.Mathlib.Omega.{arith}
use lib.ListN.{length}
use borrow.Author.Tests.{not-true, not-false}
use mathlib.Core.Path.{ap}
use mathlib.Core.Bool.{not}
use Rattle.answer.proofs.ask.ask.Goals as goal

pub returns-then-e-n : goal.returns-then-e-n
returns-then-e-n c = no_space_asks_nothing _ _ _ (found-is _ _ c.find-e.ensures.place) c.if-e-n.true

pub returns-then-not-serves : goal.returns-then-not-serves
returns-then-not-serves c =
    let line = c.args.line.now in
    let e = c.find-e.result in
    not-served-asks-nothing _ _ _ _ _ (found-is _ _ c.find-e.ensures.place)
    (rest_all line e (length line - (e + 1)) (omega arith)) c.read_ask-l.ensures
    (sym c.serves.ensures ∙ not-true c.serves.result (ap not c.if-not-serves.true))

pub returns : goal.returns
returns c =
    let line = c.args.line.now in
    let e = c.find-e.result in
    asked_so line e (e - 0) (length line - (e + 1)) (found-is _ _ c.find-e.ensures.place)
    (omega (arith, c.find-e.ensures.before_end, c.if-e-n.false)) (omega arith) (omega arith)
    c.read_ask-l.ensures
    (sym c.serves.ensures ∙ not-false c.serves.result (ap not c.if-not-serves.false))
    c.read_hex.ensures c.found.ensures
