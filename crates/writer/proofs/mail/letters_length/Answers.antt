-- Each turn adds the next length.
use native.Mathlib.Omega.{arith}
use mathlib.Core.List.{[]}
use Rattle.letter.specs.Place.{letter_at}
use Rattle.cells.proofs.ChainLaws.{length_none, length-next, length-room, length-all}
use Rattle.writer.proofs.mail.letters_length.Goals as goal

pub loop-i-init : goal.loop-i-init
loop-i-init c = length_none _ []

pub letter_length-total-requires : goal.letter_length-total-requires
letter_length-total-requires c =
    (c.requires.readable_link, omega (arith, c.count-count.ensures))

pub overflow_add-total : goal.overflow_add-total
overflow_add-total c =
    let room = length-room _ _ c.loop-i.i (letter_at []) (omega (arith, c.count-count.ensures))
    c.loop-i.invariant
    c.letter_length-total.ensures in
    omega arith

pub loop-i-preserved : goal.loop-i-preserved
loop-i-preserved c =
    length-next _ _ c.loop-i.i (letter_at []) _ _ (omega (arith, c.count-count.ensures))
    c.loop-i.invariant
    c.letter_length-total.ensures

pub returns : goal.returns
returns c =
    length-all _ _ c.loop-i.i _ (omega (arith, c.count-count.ensures)) c.loop-i.invariant
