-- `row::fresh` meets its contract.
use mathlib.Core.Path.{◌∙◌}
use borrow.Author.Rules.{rules}
use mathlib.Core.Path.{ap}
use mathlib.Core.List.{◌++◌}
use lib.ListN.{drop}
use Rattle.rules.specs.declared.model.BoxState.{BoxState}
use Rattle.row.specs.Row.{words_of, head_words}
use Rattle.row.proofs.HeadLaws.{fresh_law}
use Rattle.row.proofs.fresh.Goals as goal

pub returns : goal.returns
returns c =
    let r = c.args.row.now in
    λ n few.
    fresh_law n c.args.j r c.requires.0 few _ _
    (c.store.ensures
    ∙ ap (λ (h : BoxState). words_of h 0 ++ drop head_words r) c.fresh_head.ensures)
    c.clear.ensures

pub clear-requires : goal.clear-requires
clear-requires c = search rules
