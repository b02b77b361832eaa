-- `bodies::contents::asked` meets its contract.
use borrow.Author.Tests.{eq-eqb, ne_eqb}
use Rattle.bodies.proofs.ContentsLaws.{asked-form, asked-named}
use Rattle.bodies.proofs.contents.asked.Goals as goal

pub returns-then-k-eq0 : goal.returns-then-k-eq0
returns-then-k-eq0 c =
    asked-form c.args.image.now c.args.k (eq-eqb c.args.k 0 c.if-k-eq0.true)

pub returns : goal.returns
returns c =
    asked-named c.args.image.now c.args.k (ne_eqb c.args.k 0 c.if-k-eq0.false)
    c.named.ensures
