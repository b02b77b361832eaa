-- `lists::front` meets its contract.
use Rattle.lists.proofs.LineLaws.{front-some, front-all}
use Rattle.lists.proofs.front.Goals as goal

pub returns-then-n-words : goal.returns-then-n-words
returns-then-n-words c =
    front-some c.args.n c.args.words.now

pub returns : goal.returns
returns c =
    front-all c.args.n c.args.words.now c.if-n-words.false
