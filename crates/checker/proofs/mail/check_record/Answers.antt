use mathlib.Core.Path.{sym, ◌∙◌}
use native.Mathlib.Omega.{arith}
use Rattle.le.proofs.LeLaws.{length-le}
use Rattle.cells.proofs.StandLaws.{too_short}
use Rattle.checker.proofs.MailLaws.{record_found, record_none}
use Rattle.checker.proofs.mail.check_record.Goals as goal

pub returns-then-src-at-lt8 : goal.returns-then-src-at-lt8
returns-then-src-at-lt8 c = λ x r g w. too_short 8 c.requires c.if-src-at-lt8.true
    (omega (arith, length-le 8 x)) w

pub returns-then-is_proper : goal.returns-then-is_proper
returns-then-is_proper c =
    record_found c.args.src.now c.args.at c.get_at-x.result (omega arith)
    c.get_at-x.ensures
    (sym c.is_proper.ensures ∙ c.if-is_proper.true)

pub returns : goal.returns
returns c =
    record_none c.args.src.now c.args.at c.get_at-x.result (omega arith)
    c.get_at-x.ensures
    (sym c.is_proper.ensures ∙ c.if-is_proper.false)
