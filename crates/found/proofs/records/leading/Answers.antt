use mathlib.Core.Path.{◌≡◌, sym, ◌∙◌}
use native.Mathlib.Omega.{arith}
use Rattle.found.proofs.LeadingLaws.{leading-none, leading-more}
use Rattle.found.proofs.LeadingLaws.{leading-stop, leading-all}
use Rattle.found.proofs.records.leading.Goals as goal

pub loop-i-init : goal.loop-i-init
loop-i-init c =
    leading-none c.args.src.now c.args.at c.args.count

pub word_at-x-requires : goal.word_at-x-requires
word_at-x-requires c = omega arith

pub returns-then-not-is_proper : goal.returns-then-not-is_proper
returns-then-not-is_proper c = record {
  value = leading-stop c.args.src.now c.args.at c.args.count
      c.loop-i.invariant c.loop-i-test.true c.word_at-x.ensures.value
      (sym c.is_proper.ensures ∙ c.if-not-is_proper.true);
  upper_bound = c.loop-i.invariant.few;
}

pub overflow_add-p : goal.overflow_add-p
overflow_add-p c =
    omega arith

pub loop-i-preserved : goal.loop-i-preserved
loop-i-preserved c =
    leading-more c.args.src.now c.args.at c.args.count c.loop-i.invariant
    c.loop-i-test.true c.word_at-x.ensures.value
    (sym c.is_proper.ensures ∙ c.if-not-is_proper.false)

pub returns : goal.returns
returns c = record {
  value =
      let end : c.args.count ≡ c.loop-i.i = omega arith in
      end ∙ leading-all c.args.src.now c.args.at c.args.count c.loop-i.invariant
      c.loop-i-test.false;
  upper_bound = omega arith;
}
