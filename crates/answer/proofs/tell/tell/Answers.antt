use Prim.Native.Nat.{◌-◌}
use native.Mathlib.Omega.{arith}
use Rattle.answer.proofs.TellLaws.{came-within, part_length, told-came, told_none}
use Rattle.answer.proofs.tell.tell.Goals as goal

pub slice_bounds-put_reply-end : goal.slice_bounds-put_reply-end
slice_bounds-put_reply-end c =
    came-within c.requires.within
    c.in-Some.is

pub put_reply-requires : goal.put_reply-requires
put_reply-requires c =
    let n = c.in-Some.n in
    let h = came-within c.requires.within c.in-Some.is in
    omega (arith, part_length c.args.image.now n (n - 0) (omega arith) h)

pub returns-in-Some : goal.returns-in-Some
returns-in-Some c =
    let n = c.in-Some.n in
    told-came _ (n - 0) c.in-Some.is (omega arith)
    (came-within c.requires.within c.in-Some.is) c.requires.image_in_bounds
    c.put_reply.ensures

pub returns-in-None : goal.returns-in-None
returns-in-None c = told_none _ c.in-None.is
