-- `renamed::judge::fits` meets its contract.
use mathlib.Core.Path.{sym, ap, ◌∙◌}
use mathlib.Core.Bool.{Bool, ◌&&◌}
use lib.Dec.{ltb}
use borrow.Author.Tests.{eq-eqb, ne_eqb}
use Rattle.rules.specs.Pick.{pick_true, pick-false}
use Rattle.renamed.proofs.judge.fits.Goals as goal

pub returns-then-k-eq0 : goal.returns-then-k-eq0
returns-then-k-eq0 c =
    let k = c.args.k in
    ap (λ (b : Bool). b && ltb k 4294967295)
    (c.opens-first.ensures ∙ sym (pick_true _ _ _ (eq-eqb k 0 c.if-k-eq0.true)))

pub returns : goal.returns
returns c =
    let k = c.args.k in
    ap (λ (b : Bool). b && ltb k 4294967295)
    (c.plays-later.ensures ∙ sym (pick-false _ _ _ (ne_eqb k 0 c.if-k-eq0.false)))
