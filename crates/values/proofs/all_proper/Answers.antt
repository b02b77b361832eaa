-- `values::all_proper` meets its contract: the library's word for all of a list says the same.
use borrow.Author.Rules.{rules}
use borrow.Author.Tests.{tests}
use mathlib.Core.Path.{◌∙◌}
use Rattle.std.proofs.lemmas.Iterator.{YieldsList-from_slice}
use Rattle.std.proofs.lemmas.Iterator.Search.{all_from_yields_List}
use Rattle.rules.specs.Sizes.{proper}
use Rattle.values.proofs.AllLaws.{each_all}
use Rattle.values.proofs.all_proper.Goals as goal

pub returns : goal.returns
returns c =
    all_from_yields_List proper _ _ c.all.result c.all.ensures.ran
    (YieldsList-from_slice c.args.records.now cc) (λ x b q k. search (rules, tests))
    ∙ each_all proper c.args.records.now
