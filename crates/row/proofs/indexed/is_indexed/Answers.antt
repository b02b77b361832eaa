-- `row::indexed::is_indexed` meets its contract.
use mathlib.Core.Path.{◌∙◌}
use native.Mathlib.Omega.{arith}
use Rattle.index.specs.Index.{index_form}
use Rattle.row.proofs.indexed.is_indexed.Goals as goal

pub number-first-requires : goal.number-first-requires
number-first-requires c =
    omega (arith, c.requires.numbers.order, c.requires.numbers.most)

pub returns : goal.returns
returns c =
    c.is_index.ensures
    ∙ (λ k. index_form (c.number-first.ensures k) (c.agreed_records.ensures k)
    (c.index_words.ensures k))
