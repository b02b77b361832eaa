-- The lines of an input, and answers one after another, for any kind of run.
use Rattle.std.specs.Prelude.{ℕ, List, [], ◌∷◌, ◌++◌, eqb, length}
use Rattle.rules.specs.Pick.{pick}
use Rattle.lines.specs.Read.{read_line}
use Rattle.lines.specs.declared.Line.{Line}

-- the lines of s, the bytes l of the first already seen: a newline, 10, ends each; what none ends
-- is unreadable
unfoldable pub lines_from : List ℕ → List ℕ → List Line
lines_from l [] = pick (eqb (length l) 0) [] (Line.Unreadable ∷ [])
lines_from l (b ∷ s) =
    pick (eqb b 10) (read_line l ∷ lines_from [] s) (lines_from (l ++ (b ∷ [])) s)

abbrev pub lines_of : List ℕ → List Line
lines_of s = lines_from [] s

-- each line's text in its turn; next is the run after a line
unfoldable pub texts : {R : Type 0} → (R → Line → R) → (R → Line → List ℕ) → R → List Line → List ℕ
texts next text r [] = []
texts next text r (l ∷ ls) = text r l ++ texts next text (next r l) ls
