use native.Mathlib.Omega.{arith}
use Rattle.print.proofs.WriteLaws.{then}
use Rattle.feed.proofs.TellLaws.{rows_fit, done-is}
use Rattle.feed.proofs.tell.put_done.Goals as goal

pub overflow_add-w : goal.overflow_add-w
overflow_add-w c =
    omega (arith, c.size-j.ensures, c.requires.1.loads)

pub overflow_add-w-2 : goal.overflow_add-w-2
overflow_add-w-2 c =
    omega (arith, c.size-j.ensures, c.requires.1.loads)

pub overflow_add-w-3 : goal.overflow_add-w-3
overflow_add-w-3 c =
    omega (arith, c.size-j.ensures, c.requires.1.loads)

pub put_lasts-p-requires : goal.put_lasts-p-requires
put_lasts-p-requires c = (
  omega (arith, c.size-n.ensures, c.requires.1.boxes),
  rows_fit _ _ _ c.size-n.ensures c.size-j.ensures c.requires.1,
  omega arith,
)

pub returns : goal.returns
returns c =
    done-is _ _ _ _ c.size-n.ensures c.size-j.ensures
    (omega (arith, c.size-n.ensures, c.requires.1.boxes))
    (then c.put_decimal-p.ensures (then c.put_next-p.ensures
    (then c.put_lasts-p.ensures c.put_byte.ensures)))
