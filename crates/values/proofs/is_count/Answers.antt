use borrow.Author.Rules.{rules}
use Rattle.values.proofs.is_count.Goals as goal

pub is_agreed-agreed-requires : goal.is_agreed-agreed-requires
is_agreed-agreed-requires c = search rules

pub is_full-full-requires : goal.is_full-full-requires
is_full-full-requires c = search rules

pub returns : goal.returns
returns c =
    simp (
      c.is_full-full.ensures,
      c.is_agreed-agreed.ensures,
    )
