-- `journal::sizes::journal_links_words` meets its contract.
use mathlib.Core.Path.{ap}
use Prim.Native.Nat.{◌-◌, ◌*◌}
use native.Mathlib.Omega.{arith}
use Rattle.memory.proofs.SizeLaws.{link-sizes, pairs-most, links-most}
use Rattle.journal.proofs.SizeLaws.{none, formed, some}
use mathlib.Core.Bool.{not}
use Rattle.journal.proofs.sizes.journal_links_words.Goals as goal

pub returns-then-not-are_sizes : goal.returns-then-not-are_sizes
returns-then-not-are_sizes c = none _ c.are_sizes.ensures (ap not c.if-not-are_sizes.true)

pub link_width-width-requires : goal.link_width-width-requires
link_width-width-requires c =
    link-sizes (formed c.are_sizes.ensures (ap not c.if-not-are_sizes.false))

pub overflow_sub-result : goal.overflow_sub-result
overflow_sub-result c =
    let sizes = formed c.are_sizes.ensures (ap not c.if-not-are_sizes.false) in
    omega (arith, sizes.some-boxes)

pub overflow_mul-result : goal.overflow_mul-result
overflow_mul-result c =
    let sizes = formed c.are_sizes.ensures (ap not c.if-not-are_sizes.false) in
    omega (arith, pairs-most sizes)

pub overflow_mul-result-2 : goal.overflow_mul-result-2
overflow_mul-result-2 c =
    let sizes = formed c.are_sizes.ensures (ap not c.if-not-are_sizes.false) in
    rw c.link_width-width.ensures (omega (arith, links-most sizes))

pub returns : goal.returns
returns c =
    let n = c.args.n in
    some c.are_sizes.ensures (ap not c.if-not-are_sizes.false)
    (ap (λ w. n * (n - 1) * w) c.link_width-width.ensures)
