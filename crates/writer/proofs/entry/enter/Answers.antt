use native.Mathlib.Omega.{arith}
use mathlib.Core.List.{[], ◌∷◌}
use Rattle.cells.specs.Cells.{cells}
use Rattle.cells.proofs.ChainLaws.{length-cells}
use Rattle.cells.proofs.WriteLaws.{wrote_as}
use Rattle.writer.proofs.entry.enter.Goals as goal

pub put_words-requires : goal.put_words-requires
put_words-requires c =
    let long = length-cells 4 (c.word.result ∷ c.word-2.result ∷ []) in
    record { fits = omega (arith, c.requires.1) }

pub returns : goal.returns
returns c =
    let long = length-cells 4 (c.word.result ∷ c.word-2.result ∷ []) in
    wrote_as (λ i. cells 4 (c.word.ensures i ∷ c.word-2.ensures i ∷ [])) (omega arith)
    c.put_words.ensures
