-- The sizes of a trace's site, as the lent words have them: "J at most 32, L at most 8".
use Rattle.std.specs.Prelude.{ℕ, ◌≤◌, List, get_or}
use Rattle.rules.specs.Sizes.{most_boxes}
use Rattle.feed.specs.declared.state.Stage.{Stage}

pub record FewWords (xs : List ℕ) : Type 0 where
  pub boxes : get_or xs 0 0 ≤ most_boxes
  pub loads : get_or xs 1 0 ≤ 32
  pub mails : get_or xs 2 0 ≤ 8

-- a run that goes has a site of such sizes
abbrev pub Sized : Stage → List ℕ → Type 0
Sized Stage.First xs = Unit
Sized Stage.Going xs = FewWords xs
Sized Stage.Ended xs = Unit
