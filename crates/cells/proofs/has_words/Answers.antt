-- `cells::has_words` meets its contract: at each turn the first stand there.
use native.Mathlib.Omega.{arith}
use Rattle.cells.proofs.FindLaws.{words-none, word_room, words_more, words-other}
use Rattle.cells.proofs.FindLaws.{words-all}
use Rattle.cells.proofs.has_words.Goals as goal

pub get_at-requires : goal.get_at-requires
get_at-requires c =
    (word_room c.loop-x.invariant c.loop-x-test.true, c.requires.1)

pub overflow_add-p : goal.overflow_add-p
overflow_add-p c =
    omega (arith, word_room c.loop-x.invariant c.loop-x-test.true)

pub returns-then-get_at-x : goal.returns-then-get_at-x
returns-then-get_at-x c =
    words-other c.loop-x.invariant c.loop-x-test.true
    c.get_at.ensures c.if-get_at-x.true

pub loop-x-preserved : goal.loop-x-preserved
loop-x-preserved c =
    words_more c.loop-x.invariant c.loop-x-test.true
    c.get_at.ensures c.if-get_at-x.false

pub loop-x-init : goal.loop-x-init
loop-x-init c = words-none c.requires.0

pub returns : goal.returns
returns c = words-all c.loop-x.invariant c.loop-x-test.false
