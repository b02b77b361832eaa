-- Text put at a place of a lent buffer, as much as there is room for.
use Rattle.std.specs.Prelude.{ℕ, ◌-◌, min, List, length, take}
use Rattle.io.specs.Counts.{IsPrefixLen}
use Rattle.print.specs.Text.{Wrote}

pub record Put (before after : List ℕ) (at next : ℕ) (text : List ℕ) : Type 0 where
  pub wrote : Wrote (length text) before after (min at (length before)) next
      (take (length before - at) text)
  pub counts : IsPrefixLen next after
