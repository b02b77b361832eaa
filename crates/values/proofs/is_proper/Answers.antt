-- `values::is_proper` meets its contract.
use borrow.Author.Rules.{rules}
use mathlib.Core.Path.{sym}
use Rattle.values.proofs.RecordLaws.{proper-word}
use Rattle.values.proofs.is_proper.Goals as goal

pub returns : goal.returns
returns c = sym (proper-word c.args.x (search rules))
