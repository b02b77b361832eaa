use mathlib.Core.Path.{◌∙◌}
use native.Mathlib.Omega.{arith}
use Rattle.found.specs.Found.{pair_way}
use Rattle.found.specs.Near.{link_stride}
use Rattle.found.proofs.WalkLaws.{walk_none, walk_more, walk-stop, walk-all}
use Rattle.found.proofs.WalkLaws.{within-next, within-ended, handed-on}
use Rattle.found.specs.Found.{sender_way}
use Rattle.found.proofs.mail.walk_sender.Goals as goal

pub loop-i-init : goal.loop-i-init
loop-i-init c =
    walk_none
    (pair_way c.args.j c.args.l c.args.a
    c.args.src.now) link_stride c.args.n c.args.at

pub walk_pair-requires : goal.walk_pair-requires
walk_pair-requires c =
    (c.requires.1, omega arith)

pub loop-i-preserved : goal.loop-i-preserved
loop-i-preserved c =
    walk_more (pair_way c.args.j c.args.l c.args.a c.args.src.now)
    link_stride c.args.n c.args.at c.loop-i.invariant
    c.loop-i-test.true c.walk_pair.ensures.value c.in_ok-p.was
    (within-next c.in_ok-p.was c.walk_pair.ensures.within)

pub returns-in_err-p : goal.returns-in_err-p
unfolding sender_way
returns-in_err-p c = record {
  value = handed-on c.from_residual.result c.from_residual.ensures
      ∙ walk-stop (pair_way c.args.j c.args.l c.args.a c.args.src.now)
      link_stride c.args.n c.args.at c.loop-i.invariant
      c.loop-i-test.true c.walk_pair.ensures.value
      c.in_err-p.was;
  within = within-ended _ (handed-on c.from_residual.result c.from_residual.ensures);
}

pub returns : goal.returns
unfolding sender_way
returns c = record {
  value = walk-all (pair_way c.args.j c.args.l c.args.a c.args.src.now)
      link_stride c.args.n c.args.at c.loop-i.invariant c.loop-i-test.false;
  within = omega arith;
}
