use native.Mathlib.Omega.{arith}
use Rattle.found.proofs.StandsLaws.{word_in, word_out, few-bytes}
use Rattle.found.proofs.stands.word_at.Goals as goal

pub returns-then-src-k : goal.returns-then-src-k
returns-then-src-k c = record {
  value = word_out c.args.k c.args.src.now c.args.at (omega arith);
  upper_bound = λ few. omega arith;
}

pub returns-then-src-k-2 : goal.returns-then-src-k-2
returns-then-src-k-2 c = record {
  value = word_out c.args.k c.args.src.now c.args.at (omega arith);
  upper_bound = λ few. omega arith;
}

pub get_at-requires : goal.get_at-requires
get_at-requires c = (omega arith, c.requires)

pub returns : goal.returns
returns c = record {
  value = word_in c.args.k c.args.src.now c.args.at (omega arith) c.get_at.ensures;
  upper_bound = few-bytes c.args.k c.get_at.ensures.below;
}
