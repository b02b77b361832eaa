-- `renamed::line::read_as_ours` meets its contract.
use mathlib.Core.Path.{refl, sym}
use native.Mathlib.Omega.{arith}
use lib.Seq.{length-take-le}
use Rattle.renamed.proofs.NameLaws.{word-short}
use Rattle.renamed.proofs.LineLaws.{no_name, cut_fits, read_copy, copy_room, copy_fits}
use Rattle.renamed.proofs.line.read_as_ours.Goals as goal

pub returns-then-found-eq0 : goal.returns-then-found-eq0
returns-then-found-eq0 c =
    no_name c.args.from c.args.to c.args.s.now c.requires.1 c.requires.0 c.if-found-eq0.true

pub put_name-p-requires : goal.put_name-p-requires
put_name-p-requires c =
    omega (arith, word-short c.args.found.word)

pub slice_bounds-put_bytes-count : goal.slice_bounds-put_bytes-count
slice_bounds-put_bytes-count c =
    cut_fits c.args.from c.args.to c.args.s.now c.requires.1 c.requires.0 c.if-found-eq0.false

pub slice_bounds-put_bytes-start : goal.slice_bounds-put_bytes-start
slice_bounds-put_bytes-start c =
    cut_fits c.args.from c.args.to c.args.s.now c.requires.1 c.requires.0 c.if-found-eq0.false

pub put_bytes-p-requires : goal.put_bytes-p-requires
put_bytes-p-requires c =
    copy_room c.args.s.now c.args.found.cut c.requires.0 c.args.found.word
    c.put_name-p.ensures refl

pub slice_bounds-t-end : goal.slice_bounds-t-end
slice_bounds-t-end c =
    copy_fits c.args.s.now c.args.found.cut c.requires.0 c.args.found.word
    c.put_name-p.ensures refl
    c.put_bytes-p.ensures

pub slice_bounds-read_line-end : goal.slice_bounds-read_line-end
slice_bounds-read_line-end c =
    sym
    (length-take-le _ _
    (copy_fits c.args.s.now c.args.found.cut c.requires.0 c.args.found.word
    c.put_name-p.ensures refl c.put_bytes-p.ensures))

pub returns : goal.returns
returns c =
    read_copy c.args.from c.args.to c.args.s.now c.requires.1 c.requires.0 c.if-found-eq0.false
    c.put_name-p.ensures c.put_bytes-p.ensures refl c.read_line.ensures
