-- At each turn the first i letters are written.
use native.Mathlib.Omega.{arith}
use mathlib.Core.List.{[]}
use Rattle.letter.specs.Place.{letter_at}
use Rattle.cells.proofs.WriteLaws.{wrote_none, room-next, wrote-next, wrote-all, wrote-length}
use Rattle.writer.proofs.mail.write_letters.Goals as goal

pub loop-i-init : goal.loop-i-init
loop-i-init c = wrote_none _ [] _ _ (omega arith)

pub write_letter-p-requires : goal.write_letter-p-requires
write_letter-p-requires c = record {
  readable_link = (c.requires.readable_link, omega (arith, c.count-count.ensures));
  room = room-next _ _ (letter_at []) c.loop-i.i (omega (arith, c.count-count.ensures))
      c.requires.room
      c.loop-i.invariant;
}

pub loop-i-preserved : goal.loop-i-preserved
loop-i-preserved c =
    wrote-next _ _ (letter_at []) c.loop-i.i (omega (arith, c.count-count.ensures))
    c.loop-i.invariant c.write_letter-p.ensures

pub shape_of-out : goal.shape_of-out
shape_of-out c = wrote-length c.loop-i.invariant

pub returns : goal.returns
returns c =
    wrote-all _ _ c.loop-i.i (omega (arith, c.count-count.ensures)) c.loop-i.invariant
