-- What the functions on boxes in bytes answer: all boxes, with their entries in the table of
-- contents.
use Rattle.std.specs.Prelude.{◌≡◌, ℕ, ◌+◌, ◌*◌, ◌≤◌, List, ◌++◌, map, take}
use Rattle.rules.specs.Box.{Box}
use Rattle.std.specs.Prelude.{Option, Some, None}
use Rattle.cells.specs.Cells.{chain, Found, NoneAt}
use Rattle.image.specs.Image.{box_body, contents}
use Rattle.image.specs.Parts.{GoodBoxes, leaders}

-- ---- the words of a table of contents: the count of bodies, and for each body two, its entry

abbrev pub count_entry : ℕ
count_entry = 0

abbrev pub general_entry : ℕ
general_entry = 1

-- box i's, counted from 0
abbrev pub box_entry : ℕ → ℕ
box_entry i = 3 + 2 * i

-- the mail's, behind those of n boxes
abbrev pub mail_entry : ℕ → ℕ
mail_entry n = box_entry n

-- all of them
abbrev pub table_words : ℕ → ℕ
table_words n = 5 + 2 * n

-- the same by the count of bodies
abbrev pub list_words : ℕ → ℕ
list_words count = 1 + 2 * count

-- ---- the boxes

-- "at most one leader"
pub record LedBoxes (n J : ℕ) (xs : List Box) : Type 0 where
  pub boxes : GoodBoxes n J xs
  pub one-leader : leaders xs ≤ 1

-- boxes 1 to n stand at `at`, p is the place behind them, and the words ws of a table of contents,
-- behind those of the count and the general body, are their entries
pub record BoxesFound (n J : ℕ) (src : List ℕ) (at : ℕ) (front ws : List ℕ) (p : ℕ) : Type 0 where
  pub found : Found (chain (box_body n)) (LedBoxes n J) src at p
  pub entries : take (mail_entry n) ws ≡ front ++ contents at (map (box_body n) found.thing)

abbrev pub BoxesAre : ℕ → ℕ → List ℕ → ℕ → List ℕ → List ℕ → Option ℕ → Type 0
BoxesAre n J src at front ws (Some p) = BoxesFound n J src at front ws p
BoxesAre n J src at front ws None = NoneAt (chain (box_body n)) (LedBoxes n J) src at
