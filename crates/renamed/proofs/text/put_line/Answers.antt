-- `renamed::text::put_line` meets its contract.
use mathlib.Core.Path.{refl}
use native.Mathlib.Omega.{arith}
use lib.ListN.{length}
use Rattle.renamed.proofs.TextLaws.{cut_inside, line-is, name-room, rest-room}
use Rattle.renamed.proofs.text.put_line.Goals as goal

pub put_name-p-requires : goal.put_name-p-requires
put_name-p-requires c =
    name-room c.args.from c.args.to c.args.s.now c.requires.0 c.args.at (length c.args.out.now)
    c.find-found.ensures c.requires.1

pub slice_bounds-put_bytes-count : goal.slice_bounds-put_bytes-count
slice_bounds-put_bytes-count c =
    cut_inside c.args.from c.args.to c.args.s.now c.requires.0 c.find-found.ensures

pub slice_bounds-put_bytes-start : goal.slice_bounds-put_bytes-start
slice_bounds-put_bytes-start c =
    cut_inside c.args.from c.args.to c.args.s.now c.requires.0 c.find-found.ensures

pub put_bytes-p-requires : goal.put_bytes-p-requires
put_bytes-p-requires c =
    omega (
      arith,
      rest-room c.args.from c.args.to c.args.s.now c.requires.0 c.find-found.ensures
          c.requires.1 refl c.put_name-p.ensures,
    )

pub put_byte-requires : goal.put_byte-requires
put_byte-requires c =
    omega (
      arith,
      rest-room c.args.from c.args.to c.args.s.now c.requires.0 c.find-found.ensures
          c.requires.1 refl c.put_name-p.ensures,
      c.put_bytes-p.ensures.end,
      c.put_bytes-p.ensures.room,
    )

pub returns : goal.returns
returns c =
    line-is c.args.from c.args.to c.args.s.now c.requires.0 c.find-found.ensures
    c.put_name-p.ensures c.put_bytes-p.ensures
    c.put_byte.ensures
