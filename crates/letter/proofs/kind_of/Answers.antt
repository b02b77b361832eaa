-- `letter::kind_of` meets its contract.
use Rattle.letter.proofs.KindLaws.{kind-rest}
use Rattle.letter.proofs.kind_of.Goals as goal

pub returns-in_default : goal.returns-in_default
returns-in_default c = kind-rest c.args.x c.in_default.in_default-own.rest
