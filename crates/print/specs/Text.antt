-- The text of an answer, and what a function that writes text at a place of a buffer says.
use Rattle.std.specs.Prelude.{ℕ, ◌+◌, ◌≤◌, ◌≡◌, List, [], ◌∷◌, ◌++◌, length}
use Rattle.std.proofs.lemmas.List.Edits.{sets}
use Rattle.print.specs.Bytes.{bytes}
use Rattle.print.specs.Decimal.{decimal, spaced}

-- "After each line it prints line number, epoch, and last of boxes 1 to n."
unfoldable pub done_text : ℕ → ℕ → List ℕ → List ℕ
done_text k epoch lasts = decimal k ++ ((32 ∷ decimal epoch) ++ (spaced lasts ++ (10 ∷ [])))

-- "A refused line prints `k refused code`"
unfoldable pub refused_text : ℕ → ℕ → List ℕ
refused_text k code = decimal k ++ (bytes " refused " ++ (decimal code ++ (10 ∷ [])))

-- text, of at most most bytes, was written at a place of a buffer; next is the place past it; all
-- other bytes are as before
pub record Wrote (most : ℕ) (before after : List ℕ) (at next : ℕ) (text : List ℕ) : Type 0 where
  pub bytes : after ≡ sets before at text
  pub end : next ≡ at + length text
  pub few : next ≤ at + most
  pub room : length after ≡ length before
