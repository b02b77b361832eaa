-- `bodies::contents::named` meets its contract.
use native.Mathlib.Omega.{arith}
use mathlib.Core.Path.{sym}
use lib.Dec.{leb}
use borrow.Author.Tests.{leb-true}
use Rattle.laws.proofs.Logic.{and_yes}
use Rattle.bodies.proofs.ContentsLaws.{named_other, named-short}
use Rattle.bodies.proofs.contents.named.Goals as goal

pub returns-else-table_bytes-image : goal.returns-else-table_bytes-image
returns-else-table_bytes-image c =
    sym (named-short c.args.image.now c.args.k (omega arith))

pub returns-else-k : goal.returns-else-k
returns-else-k c =
    sym (named_other c.args.image.now c.args.k c.if-k.false)

pub table_bytes-requires : goal.table_bytes-requires
table_bytes-requires c =
    let k = c.args.k in
    leb-true k 7 (and_yes (leb 1 k) (leb k 7) c.if-k.true).1

pub entry-requires : goal.entry-requires
entry-requires c =
    (c.if-k.true, omega arith)
