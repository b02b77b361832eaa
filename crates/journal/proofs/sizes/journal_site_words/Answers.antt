-- `journal::sizes::journal_site_words` meets its contract.
use mathlib.Core.Path.{ap}
use Prim.Native.Nat.{◌+◌, ◌*◌}
use native.Mathlib.Omega.{arith}
use Rattle.memory.proofs.SizeLaws.{rows-most}
use Rattle.journal.proofs.SizeLaws.{none, formed, some}
use mathlib.Core.Bool.{not}
use Rattle.journal.proofs.sizes.journal_site_words.Goals as goal

pub returns-then-not-are_sizes : goal.returns-then-not-are_sizes
returns-then-not-are_sizes c = none _ c.are_sizes.ensures (ap not c.if-not-are_sizes.true)

pub overflow_mul-result : goal.overflow_mul-result
overflow_mul-result c =
    let sizes = formed c.are_sizes.ensures (ap not c.if-not-are_sizes.false) in
    rw c.row_width.ensures (omega (arith, rows-most sizes))

pub overflow_add-result : goal.overflow_add-result
overflow_add-result c =
    let sizes = formed c.are_sizes.ensures (ap not c.if-not-are_sizes.false) in
    rw c.row_width.ensures (omega (arith, rows-most sizes))

pub returns : goal.returns
returns c =
    let n = c.args.n in
    some c.are_sizes.ensures (ap not c.if-not-are_sizes.false)
    (ap (λ w. 5 + n * w) c.row_width.ensures)
