use native.Mathlib.Omega.{arith}
use Rattle.found.proofs.WalkLaws.{within_more, link-told, link-over}
use Rattle.found.proofs.mail.walk_link.Goals as goal

pub walk_letters-requires : goal.walk_letters-requires
walk_letters-requires c = (omega arith, omega arith)

pub returns-then-count-l : goal.returns-then-count-l
returns-then-count-l c = record {
  value = link-told c.args.j c.args.l c.args.a c.args.b
      c.args.src.now c.args.at c.number_at-count.ensures.value
      c.if-count-l.true c.walk_letters.ensures.value;
  within = within_more c.walk_letters.result (omega arith) c.walk_letters.ensures.within;
}

pub returns : goal.returns
returns c = record {
  value = link-over c.args.j c.args.l c.args.a c.args.b
      c.args.src.now c.args.at c.number_at-count.ensures.value
      c.if-count-l.false;
  within = tt;
}
