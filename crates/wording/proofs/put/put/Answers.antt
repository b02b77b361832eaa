use mathlib.Core.Path.{sym}
use native.Mathlib.Omega.{arith}
use lib.Seq.{length-take-le}
use Rattle.wording.proofs.PutLaws.{put_is}
use Rattle.wording.proofs.put.put.Goals as goal

pub slice_bounds-put_bytes-end : goal.slice_bounds-put_bytes-end
slice_bounds-put_bytes-end c =
    sym (length-take-le _ _ (omega (arith, c.min-n.ensures)))

pub put_bytes-requires : goal.put_bytes-requires
put_bytes-requires c =
    let src = c.args.src.now in
    omega (
      arith,
      c.min-a.ensures,
      c.min-n.ensures,
      length-take-le c.min-n.result src (omega (arith, c.min-n.ensures)),
    )

pub returns : goal.returns
returns c =
    put_is c.args.out.now _ c.args.src.now c.args.at _ _ _
    c.min-a.ensures c.min-n.ensures c.put_bytes.ensures
