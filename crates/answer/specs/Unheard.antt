-- Which present boxes have not answered the lease of a box, by an image; and their numbers as text.
use Rattle.std.specs.Prelude.{Result, Err}
use Rattle.std.specs.Prelude.{ℕ, ◌≡◌, true, false, cond, List, [], ◌∷◌, ◌++◌}
use Rattle.rules.specs.Sets.{bit, includes}
use Rattle.rules.specs.Site.{Site}
use Rattle.rules.specs.Form.{form}
use Rattle.rules.specs.Unheard.{unheard}
use Rattle.rules.specs.declared.model.Refusal.{Refusal}
use Rattle.image.specs.Image.{image_of}
use Rattle.reader.specs.Reader.{enough_for}
use Rattle.print.specs.Decimal.{decimal}
use Rattle.std.specs.Prelude.{Option, Some, None}
use Rattle.answer.specs.Calls.{Holds, HoldsNone}

-- it is asked of box c and the image im, with the words xs and ls: 1, then what the rules say;
-- None where the words are too few
pub data UnheardIs (c : ℕ) (im xs ls : List ℕ) : Option (Result ℕ Refusal) → Type 0 where
  none : HoldsNone im → UnheardIs c im xs ls (Some (Err Refusal.Form))
  few_words : (s : Site) → form s ≡ true → image_of s ≡ im → enough_for s xs ls ≡ false
      → UnheardIs c im xs ls None
  some : (s : Site) → Holds im s → enough_for s xs ls ≡ true
      → UnheardIs c im xs ls (Some (unheard s c))

-- the number of box k, with a newline, where it is in the set
abbrev pub box_line : ℕ → ℕ → List ℕ
box_line set k = cond (includes set (bit k)) (decimal k ++ (10 ∷ [])) []

unfoldable pub boxes_text : ℕ → List ℕ
boxes_text set =
    box_line set 1 ++ (box_line set 2 ++ (box_line set 3 ++ (box_line set 4 ++ box_line set 5)))
