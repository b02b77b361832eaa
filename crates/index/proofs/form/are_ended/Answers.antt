-- `index::form::are_ended` meets its contract: each slot's words were asked.
use borrow.Author.Rules.{rules}
use borrow.Author.Tests.{tests}
use mathlib.Core.Path.{refl}
use native.Mathlib.Omega.{arith}
use Rattle.std.proofs.lemmas.Iterator.{YieldsList-from_range}
use Rattle.std.proofs.lemmas.Iterator.Search.{all_from_yields_List}
use Rattle.index.specs.Index.{slots}
use Rattle.index.proofs.SweepLaws.{slot-agrees, ended_all}
use Rattle.index.proofs.form.are_ended.Goals as goal

pub returns : goal.returns
returns c =
    let hs = c.args.heads.now in
    let ix = c.args.ix.now in
    ended_all hs ix c.all.result
    (all_from_yields_List (slot-agrees hs ix) _ _ c.all.result c.all.ensures.ran
    (YieldsList-from_range 0 slots slots refl (omega arith)) (λ x b q k. search (rules, tests)))
