use borrow.Author.Tests.{eq-eqb, ne_eqb}
use mathlib.Core.Path.{sym}
use native.Mathlib.Omega.{arith}
use Rattle.salvage.proofs.SaidLaws.{added-skip, added-first, added_more}
use Rattle.salvage.proofs.loads.add.Goals as goal

pub returns-then-r-eq0 : goal.returns-then-r-eq0
returns-then-r-eq0 c = record {
  value = sym
      (added-skip c.args.t c.args.r
      (eq-eqb c.args.r 0 c.if-r-eq0.true));
  many_bound = omega arith;
}

pub returns-then-t-eq0 : goal.returns-then-t-eq0
returns-then-t-eq0 c = record {
  value = sym
      (added-first c.args.t c.args.r
      (ne_eqb c.args.r 0 c.if-r-eq0.false)
      (eq-eqb c.args.t.many 0 c.if-t-eq0.true));
  many_bound = omega arith;
}

pub returns : goal.returns
returns c = record {
  value = sym
      (added_more c.args.t c.args.r
      (ne_eqb c.args.r 0 c.if-r-eq0.false)
      (ne_eqb c.args.t.many 0 c.if-t-eq0.false));
  many_bound = omega arith;
}
