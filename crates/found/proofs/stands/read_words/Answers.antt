use native.Mathlib.Omega.{arith}
use Rattle.found.proofs.StandsLaws.{words-none, words_more, words-all, words-near}
use Rattle.found.proofs.stands.read_words.Goals as goal

pub loop-x-init : goal.loop-x-init
loop-x-init c = words-none c.args.k c.args.src.now

pub word_at-requires : goal.word_at-requires
word_at-requires c = c.requires.0

pub overflow_add-p : goal.overflow_add-p
overflow_add-p c =
    let n = words-near c.args.k c.args.src.now c.loop-x.invariant c.requires.0
    c.requires.1 c.requires.2 in
    omega arith

pub loop-x-preserved : goal.loop-x-preserved
loop-x-preserved c =
    words_more c.args.k c.args.src.now c.loop-x.invariant
    (omega (arith, c.loop-x-test.true, c.loop-x.invariant.size)) c.word_at.ensures.value

pub shape_of-dst : goal.shape_of-dst
shape_of-dst c = c.loop-x.invariant.size

pub returns : goal.returns
returns c =
    words-all c.args.k
    c.args.src.now c.loop-x.invariant (omega (arith, c.loop-x-test.false, c.loop-x.invariant.size))
