-- `row::indexed::agreed_records` meets its contract.
use mathlib.Core.Path.{refl, ◌∙◌}
use native.Mathlib.Omega.{arith}
use Rattle.words.proofs.PartLaws.{cut_at}
use Rattle.row.specs.Row.{head_words}
use Rattle.row.proofs.IndexLaws.{agreed-part}
use Rattle.row.proofs.indexed.agreed_records.Goals as goal

pub slice_bounds-result-end : goal.slice_bounds-result-end
slice_bounds-result-end c =
    omega (
      arith,
      c.agreed_count-a.ensures,
      c.requires.numbers.held,
      c.requires.count,
      c.requires.words,
    )

pub returns : goal.returns
returns c =
    let a = c.args in
    cut_at {a = head_words} {k = c.agreed_count-a.result} c.args.row.now refl
    c.agreed_count-a.ensures
    ∙ agreed-part c.args.j c.args.row.now c.requires
