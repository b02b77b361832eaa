use native.Mathlib.Omega.{arith}
use Rattle.found.proofs.WalkLaws.{pair_same, pair-other}
use Rattle.found.proofs.mail.walk_pair.Goals as goal

pub returns-then-a-b : goal.returns-then-a-b
returns-then-a-b c = record {
  value = pair_same c.args.j c.args.l c.args.src.now c.args.at
      c.if-a-b.true;
  within = omega arith;
}

pub returns : goal.returns
returns c = record {
  value = pair-other c.args.j c.args.l c.args.src.now c.args.at
      c.if-a-b.false c.walk_link.ensures.value;
  within = c.walk_link.ensures.within;
}
