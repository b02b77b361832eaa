use mathlib.Core.Path.{◌∙◌}
use native.Mathlib.Omega.{arith}
use Rattle.found.specs.Found.{letter_way}
use Rattle.found.specs.Near.{mail_stride}
use Rattle.found.proofs.WalkLaws.{walk_none, walk_more, walk-stop, walk-all}
use Rattle.found.proofs.WalkLaws.{within-next, within-ended, handed-on}
use Rattle.found.proofs.mail.walk_letters.Goals as goal

pub loop-i-init : goal.loop-i-init
loop-i-init c =
    walk_none
    (letter_way c.args.j c.args.a c.args.b
    c.args.src.now) mail_stride c.args.count c.args.at

pub walk_letter-requires : goal.walk_letter-requires
walk_letter-requires c =
    omega arith

pub loop-i-preserved : goal.loop-i-preserved
loop-i-preserved c =
    walk_more (letter_way c.args.j c.args.a c.args.b c.args.src.now)
    mail_stride c.args.count c.args.at c.loop-i.invariant
    c.loop-i-test.true c.walk_letter.ensures.value
    c.in_ok-p.was
    (within-next c.in_ok-p.was c.walk_letter.ensures.within)

pub returns-in_err-p : goal.returns-in_err-p
returns-in_err-p c = record {
  value = handed-on c.from_residual.result c.from_residual.ensures
      ∙ walk-stop
      (letter_way c.args.j c.args.a c.args.b c.args.src.now)
      mail_stride c.args.count c.args.at c.loop-i.invariant
      c.loop-i-test.true c.walk_letter.ensures.value
      c.in_err-p.was;
  within = within-ended _ (handed-on c.from_residual.result c.from_residual.ensures);
}

pub returns : goal.returns
returns c = record {
  value = walk-all
      (letter_way c.args.j c.args.a c.args.b c.args.src.now)
      mail_stride c.args.count c.args.at c.loop-i.invariant
      c.loop-i-test.false;
  within = omega arith;
}
