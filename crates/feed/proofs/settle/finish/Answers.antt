use mathlib.Core.Path.{sym, ◌∙◌}
use native.Mathlib.Omega.{arith}
use Rattle.feed.proofs.AnswerLaws.{finish-done, finish-refused}
use Rattle.feed.proofs.settle.finish.Goals as goal

pub returns-then-is_refusal : goal.returns-then-is_refusal
returns-then-is_refusal c = finish-refused _ _ _ _ _ c.emptied.ensures (sym c.is_refusal.ensures
    ∙ c.if-is_refusal.true) c.code.ensures c.put_refused-p.ensures

pub put_done-p-requires : goal.put_done-p-requires
put_done-p-requires c = (
  omega arith,
  c.requires.1 (sym c.is_refusal.ensures ∙ c.if-is_refusal.false),
)

pub returns : goal.returns
returns c = finish-done _ _ _ _ _ c.emptied-2.ensures (sym c.is_refusal.ensures
    ∙ c.if-is_refusal.false)
    (c.next_number.ensures (c.requires.2
    (sym c.is_refusal.ensures ∙ c.if-is_refusal.false))) c.put_done-p.ensures
