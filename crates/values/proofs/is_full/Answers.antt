use borrow.Author.Rules.{rules}
use Rattle.values.proofs.is_full.Goals as goal

pub is_many-many-requires : goal.is_many-many-requires
is_many-many-requires c = search rules

pub returns : goal.returns
returns c =
    simp
    c.is_many-many.ensures
