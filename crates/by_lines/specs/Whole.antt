-- Whether an input is text, and no raw image.
use Rattle.std.specs.Prelude.{ℕ, Bool, false, leb, List, [], ◌∷◌}

abbrev pub begins_with_text : List ℕ → Bool
begins_with_text [] = false
begins_with_text (b ∷ bs) = leb 8 b
